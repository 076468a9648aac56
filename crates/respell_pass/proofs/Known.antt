-- What is known of a pass of the rewriter where a turn begins, and that a turn keeps it.
use Prim.Native.Nat.{ℕ, zero, suc, ◌<◌, ◌≤◌}
use native.Mathlib.Omega.{arith}
use mathlib.Core.List.{List}
use mathlib.Core.Path.{◌≡◌, refl, sym, ap, ◌∙◌}
use lib.ListN.{length, drop}
use borrow.Author.Tests.{ne_eqb}
use Rattle.read_model.specs.declared.State.{State}
use Rattle.read_model.specs.Turns.{turn_of, scratch_of}
use Rattle.read_turn.specs.Ready.{find_in, Scratch, Ready}
use Rattle.read_turn.proofs.Kept.{Well, turn_well, Remounted, turn_scratch}
use Rattle.read_pass.specs.Ready.{PassReady}
use Rattle.read_pass.proofs.Known.{find_same}
use Rattle.respell_model.specs.declared.Mark.{Mark}
use Rattle.respell_model.specs.Passes.{RespellPass, respell_step_of, respell_pass_for, respell_pass_of}
use Rattle.respell_model.proofs.Passes.{stays}

abbrev pub standing : State → Mark → List ℕ → List ℕ → RespellPass
standing st m ws o = record { state = st; mark = m; scratch = ws; bytes = o }

-- how the fonts of the width list are found
abbrev finding : List ℕ → State → List ℕ → List ℕ → ℕ
finding list st ws = find_in list st.fonts ws

-- the pass that began with st₀, m₀, ws₀ and o₀
pub record Known (list s : List ℕ) (st₀ : State) (m₀ : Mark) (ws₀ o₀ : List ℕ) (st : State) (m : Mark) (ws o : List ℕ) : Type 0 where
  -- at most so many turns are left
  pub turns : ℕ
  pub few : st.left ≤ turns
  pub runs : respell_pass_for turns (finding list st₀ ws₀) s (standing st m ws o) ≡ respell_pass_of (finding list st₀ ws₀) s (standing st₀ m₀ ws₀ o₀)
  pub scratch : Scratch ws
  pub kept : drop 256 ws ≡ drop 256 ws₀
  pub fonts : st.fonts ≡ st₀.fonts
  pub ready : 0 < st.left → Ready (length s) st

pub known_first : (list s : List ℕ) (st : State) (m : Mark) (ws o : List ℕ) → PassReady (length s) ws 0 0 st → Known list s st m ws o st m ws o
known_first list s st m ws o h = record { turns = st.left; few = omega arith; runs = refl; scratch = h.scratch; kept = refl; fonts = refl; ready = h.ready }

-- a turn takes at least one byte
pub turn_less : (find : List ℕ → ℕ) (s : List ℕ) (st : State) (m : Mark) (ws o : List ℕ) (x : State) (n : Mark) (t q : List ℕ) → Scratch ws → Ready (length s) st
    → standing x n t q ≡ respell_step_of find s (standing st m ws o) → x.left < st.left
turn_less find s st m ws o x n t q g r e = rw (ap (λ (p : RespellPass). p.state) e) (turn_well s ws st r g.small).less

module _ (list s : List ℕ) (st₀ : State) (m₀ : Mark) (ws₀ o₀ : List ℕ) (st : State) (m : Mark) (ws o : List ℕ) (v : Known list s st₀ m₀ ws₀ o₀ st m ws o) where
  pub known_over : st.left ≤ 0 → standing st m ws o ≡ respell_pass_of (find_in list st₀.fonts ws₀) s (standing st₀ m₀ ws₀ o₀)
  known_over h = sym (stays (finding list st₀ ws₀) s v.turns (standing st m ws o) (omega arith)) ∙ v.runs

  module _ (h : 0 < st.left) (x : State) (n : Mark) (t q : List ℕ) (e : standing x n t q ≡ respell_step_of (find_in list st.fonts ws) s (standing st m ws o)) where
    well : Well s ws st (turn_of s ws st)
    well = turn_well s ws st (v.ready h) v.scratch.small

    remounted : Remounted ws (scratch_of (find_in list st.fonts ws) s ws st)
    remounted = turn_scratch list s st.fonts (v.ready h).few ws v.scratch st (v.ready h)

    -- the turn as the whole pass has it
    steps : standing x n t q ≡ respell_step_of (finding list st₀ ws₀) s (standing st m ws o)
    steps = e ∙ rw (find_same list st.fonts ws₀ ws v.kept, v.fonts)

    one_more : (k : ℕ) → respell_pass_for (suc k) (finding list st₀ ws₀) s (standing st m ws o) ≡ respell_pass_for k (finding list st₀ ws₀) s (standing x n t q)
    unfolding respell_pass_for
    one_more k = rw (steps, ne_eqb st.left 0 (λ z. omega arith))

    goes_on : (k : ℕ) → st.left ≤ k → respell_pass_for k (finding list st₀ ws₀) s (standing st m ws o) ≡ respell_pass_of (finding list st₀ ws₀) s (standing st₀ m₀ ws₀ o₀) → Known list s st₀ m₀ ws₀ o₀ x n t q
    goes_on zero f r = absurd (omega arith)
    goes_on (suc k) f r =
        let state : x ≡ (turn_of s ws st).state = ap (λ (p : RespellPass). p.state) e in
        let row : t ≡ scratch_of (find_in list st.fonts ws) s ws st = ap (λ (p : RespellPass). p.scratch) e in
        record {
          turns = k;
          few = rw state (omega (arith, well.less));
          runs = sym (one_more k) ∙ r;
          scratch = rw row remounted.scratch;
          kept = rw row (remounted.kept ∙ v.kept);
          fonts = rw state (well.fonts ∙ v.fonts);
          ready = rw state well.ready;
        }

    pub known_next : Known list s st₀ m₀ ws₀ o₀ x n t q
    known_next = goes_on v.turns v.few v.runs
