-- The loop over the lines of a width list.
use Prim.Native.Nat.{ℕ, ◌+◌, ◌-◌, ◌≤◌, ◌<◌}
use mathlib.Core.Path.{◌≡◌, refl, sym, ap, ◌∙◌, subst}
use mathlib.Core.List.{List, [], ◌∷◌}
use native.Mathlib.Omega.{arith}
use borrow.Author.Tests.{ltb-true}
use lib.Dec.{ltb}
use lib.ListN.{length, drop, length-drop, drop_of_length-le}
use lib.Seq.{drop-drop}
use Rattle.std.specs.Prelude.{Result, Ok, Err}
use Rattle.rules.specs.declared.Refusal.{Refusal}
use Rattle.rules.specs.Answers.{refusal}
use Rattle.rules.specs.Widths.{Line, Widths, Due, unit_due, block_due, width_due, LineRead, wrong_line, right_line, lines_from, line_on, list_ends, lines_say, unsound, sound, width_list}
use Rattle.laws.proofs.Cases.{on}
use Rattle.scan_lex.proofs.Lines.{line_first}
use Rattle.widths_table.specs.declared.Block.{Block}
use Rattle.widths_line.specs.declared.Due.TheVariants as D
use Rattle.widths_line.specs.declared.State.{State}
use Rattle.widths_line.specs.Reading.{state_of, Stands, Holds, After}
use Rattle.widths_font.specs.Fonts.{Told, Good}
use Rattle.widths.specs.declared.Sound.{Sound}
use Rattle.widths.specs.Table.{list_of, Loaded}
use Rattle.widths.specs.Lines.{turn_says, length_at, line_at}

abbrev lines_at : List ℕ → ℕ → List Line
lines_at list at = lines_from at (drop at list)

lines_at_lem : (list : List ℕ) (at : ℕ) → at < length list → lines_at list at ≡ line_at list at ∷ lines_at list (at + length_at list at + 1)
lines_at_lem list at h =
    let e : at + (length_at list at + 1) ≡ at + length_at list at + 1 = omega arith in
    line_first at (drop at list) (omega (arith, length-drop at list)) ∙ rw (drop-drop (length_at list at + 1) at list, e)

-- ---- the loop: the lines still to come, from what has been reached, say what the whole list says
pub record Going (list : List ℕ) (T : List Block) (st : State) : Type 0 where
  pub w : Widths
  pub d : Due
  pub holds : Holds list T w d st
  pub rest : lines_say (length list) w d (lines_at list st.at) ≡ width_list list
  pub good : Good list st

pub going_start : (list : List ℕ) (T : List Block) → length list ≤ 65536 → Going list T (record { due = D.Unitwidth; unitwidth = 0; fonts = 0; low = 0; at = 0 })
unfolding width_list
going_start list T h = record {
  w = record { unitwidth = 0; fonts = [] };
  d = unit_due;
  holds = (refl, record { few = omega arith; ready = tt; blocks = λ i q. absurd (omega arith) });
  rest = refl;
  good = omega arith;
}

pub going_good : (list : List ℕ) (T : List Block) (st : State) → Going list T st → Good list st
going_good list T st g = g.good

-- ---- what the loop answers
abbrev pub Judged : List ℕ → List Block → Result Sound Refusal → Type 0
Judged list T x = (x ≡ list_of (width_list list)) × Loaded list T (width_list list)

-- the end of the list
module _ (list : List ℕ) (T : List Block) (st : State) (g : Going list T st) (h : length list ≤ st.at) where
  at_end : width_list list ≡ list_ends (length list) g.w g.d
  unfolding lines_from lines_say
  at_end = sym g.rest ∙ rw (drop_of_length-le list h)

  module _ (e : st.due ≡ D.Block) where
    is_sound : width_list list ≡ sound g.w
    is_sound = at_end ∙ by g.d (ap (λ (x : State). x.due) g.holds.0)
      where
        by : (d : Due) → st.due ≡ (state_of g.w d st.at).due → list_ends (length list) g.w d ≡ sound g.w
        by unit_due v = absurd (let z : ◌≡◌ {A = ℕ} 0 1 = cc in omega arith)
        by block_due v = refl
        by (width_due b) v = absurd (let z : ◌≡◌ {A = ℕ} 0 1 = cc in omega arith)

    pub ends_sound : Judged list T (Ok (record { unitwidth = st.unitwidth; fonts = st.fonts }))
    ends_sound = rw is_sound (rw (ap (λ (x : State). x.unitwidth) g.holds.0, ap (λ (x : State). x.fonts) g.holds.0), g.holds.1.blocks)

  module _ (e : st.due ≡ D.Block → ⊥) where
    is_short : width_list list ≡ unsound (length list)
    is_short = at_end ∙ by g.d (ap (λ (x : State). x.due) g.holds.0)
      where
        by : (d : Due) → st.due ≡ (state_of g.w d st.at).due → list_ends (length list) g.w d ≡ unsound (length list)
        by unit_due v = refl
        by block_due v = absurd (e v)
        by (width_due b) v = refl

    pub ends_short : Judged list T (Err (refusal 2 (length list)))
    ends_short = rw is_short (refl, tt)

-- one line further
module _ (list : List ℕ) (T T' : List Block) (st : State) (r : Result State Refusal) (g : Going list T st) (h : st.at < length list)
    (t : Told list T T' st (st.at + length_at list st.at + 1) r (turn_says list st.at)) where
  abbrev next : ℕ
  next = st.at + length_at list st.at + 1

  line_on_lem : (x : LineRead) → turn_says list st.at g.w g.d ≡ x → width_list list ≡ line_on st.at (λ d w. lines_say (length list) w d (lines_at list next)) x
  unfolding lines_say
  line_on_lem x e = sym g.rest ∙ rw (lines_at_lem list st.at h, e)

  -- a right line is ended
  line_ended : (d : Due) (w : Widths) → turn_says list st.at g.w g.d ≡ right_line d w → next ≤ length list
  line_ended d w e =
      on (ltb (length_at list st.at) (length (drop st.at list)))
      (λ q. omega (arith, ltb-true (length_at list st.at) (length (drop st.at list)) q, length-drop st.at list))
      (λ q. absurd (let z : ◌≡◌ {A = ℕ} 0 1 = cc (rw q at e) in omega arith))

  module _ (f : Refusal) (e : r ≡ Err f) where
    is_wrong : (f ≡ refusal 2 st.at) × (width_list list ≡ unsound st.at)
    is_wrong = by (turn_says list st.at g.w g.d) refl (t.told g.w g.d g.holds)
      where
        by : (x : LineRead) → turn_says list st.at g.w g.d ≡ x → After list T' st.at next r x → (f ≡ refusal 2 st.at) × (width_list list ≡ unsound st.at)
        by wrong_line q a = (cc (e, a.0), line_on_lem wrong_line q)
        by (right_line d w) q a = absurd (let z : ◌≡◌ {A = ℕ} 0 1 = cc (e, a.0) in omega arith)

    pub ends_wrong : Judged list T' (Err f)
    ends_wrong = rw (is_wrong.0, is_wrong.1) (refl, tt)

  module _ (st' : State) (e : r ≡ Ok st') where
    reached_good : (d : Due) (w : Widths) → turn_says list st.at g.w g.d ≡ right_line d w → Stands list T' w d → Going list T' (state_of w d next)
    reached_good d w q s = record {
      w = w;
      d = d;
      holds = (refl, s);
      rest = sym (line_on_lem (right_line d w) q);
      good = record { short = g.good.short; within = line_ended d w q; few = s.few };
    }

    going_on : Going list T' st' × (st.at < st'.at)
    going_on = by (turn_says list st.at g.w g.d) refl (t.told g.w g.d g.holds)
      where
        by : (x : LineRead) → turn_says list st.at g.w g.d ≡ x → After list T' st.at next r x → Going list T' st' × (st.at < st'.at)
        by wrong_line q a = absurd (let z : ◌≡◌ {A = ℕ} 0 1 = cc (e, a.0) in omega arith)
        by (right_line d w) q a =
            let s : state_of w d next ≡ st' = cc (e, a.0) in
            (subst (Going list T') s (reached_good d w q a.1), omega (arith, ap (λ (x : State). x.at) s))

    pub going_more : Going list T' st'
    going_more = going_on.0

    pub going_less : length list - st'.at < length list - st.at
    going_less = omega (arith, going_on.1)

pub ruleset loading = (going_start, going_good, going_more)
