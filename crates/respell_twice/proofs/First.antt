-- The first pass ends as the rules say: with their refusal, or with their counts and the length of what they spell.
use Prim.Native.Nat.{ℕ, ◌+◌, min}
use native.Mathlib.Omega.{arith}
use mathlib.Core.Bool.{true}
use mathlib.Core.List.{List, []}
use mathlib.Core.Logic.{◌⊎◌, inl, inr}
use mathlib.Core.Path.{◌≡◌, refl, sym, ap, subst, ◌∙◌}
use lib.Dec.{eqb}
use lib.ListN.{length, drop}
use Rattle.rules.specs.Scan.{commands, bare}
use Rattle.rules.specs.State.{Env, start}
use Rattle.rules.specs.Widths.{Widths, sound, width_list}
use Rattle.rules.specs.Record.{GlyphRow, ItemRow, Answer, refuse, answer, follow}
use Rattle.rules.specs.House.{spelling, spell_all}
use Rattle.rules.specs.Answers.{read}
use Rattle.read_model.specs.declared.State.{State}
use Rattle.read_model.specs.Passes as R
use Rattle.read_model.proofs.Passes.{Room, Refused, Accepted, Ended}
use Rattle.read_turn.specs.Ready.{find_in, Scratch}
use Rattle.read_pass.proofs.Known.{Known, pass_known}
use Rattle.read_setup.specs.Setup.{ScratchOf, begin_of, refused_at, Started, AreBytes}
use Rattle.read_twice.proofs.Scratched.{no_mounts, start_live}
use Rattle.read_twice.proofs.Twice as T
use Rattle.respell_model.specs.declared.Writing.{Writing}
use Rattle.respell_model.specs.Sheet.{Sheet, put_all}
use Rattle.respell_model.specs.Passes.{RespellPass, respell_pass_of, sheet_at}
use Rattle.respell_model.proofs.Sheets.{put_at}
use Rattle.respell_model.proofs.Passes.{pass_same, stays, pass_spells}
use Rattle.respell_twice.specs.Respell.{first_mark, begin_at, pass_at}

-- a pass that begins at a state and at the start of a buffer
abbrev pub pass_from : State → List ℕ → List ℕ → RespellPass
pass_from st ws o = pass_at (begin_at st) ws o

abbrev pub end_of : RespellPass → Writing
end_of p = record { state = p.state; mark = p.mark }

-- a pass from x to w
abbrev pub Runs : List ℕ → List ℕ → Writing → List ℕ → List ℕ → Writing → List ℕ → List ℕ → Type 0
Runs s list x ws o w ws' o' = pass_at w ws' o' ≡ respell_pass_of (find_in list x.state.fonts ws) s (pass_at x ws o)

-- one that begins at a state
pub begun : (s list : List ℕ) (a : State) (x : Writing) (ws o : List ℕ) (w : Writing) (ws' o' : List ℕ) → x ≡ begin_at a → Runs s list x ws o w ws' o' → Runs s list (begin_at a) ws o w ws' o'
begun s list a x ws o w ws' o' e r = r ∙ ap (λ (i : Writing). respell_pass_of (find_in list i.state.fonts ws) s (pass_at i ws o)) e

-- what the rules say of a stream with these widths, and what they spell
abbrev pub said_of : List ℕ → Widths → Answer
said_of s w = follow w start (commands 0 0 s)

abbrev pub text_of : List ℕ → Widths → List ℕ
text_of s w = spell_all (spelling w (bare (commands 0 0 s)))

-- a pass that begins with the scratch row of a sound list, with room for r records and e entries, writes what the rules spell
pub run_spells : (s list : List ℕ) (w : Widths) → width_list list ≡ sound w → (ws : List ℕ) → ScratchOf list w.fonts ws → AreBytes s → (r e : ℕ)
    → Room (length s) (said_of s w) (begin_of (length s) r e (length w.fonts) w.unitwidth 0) → (rs : List GlyphRow) (xs : List ItemRow) (d : Env) → said_of s w ≡ answer rs xs d → (o : List ℕ) (p : RespellPass)
    → p ≡ respell_pass_of (find_in list (length w.fonts) ws) s (pass_from (begin_of (length s) r e (length w.fonts) w.unitwidth 0) ws o) → sheet_at p.bytes p.mark ≡ put_all (text_of s w) (sheet_at o first_mark)
run_spells s list w q ws k y r e room rs xs d said o p is =
    ap (λ (i : RespellPass). sheet_at i.bytes i.mark) is
    ∙ pass_spells w (find_in list (length w.fonts) ws) s y.each (length s) no_mounts (pass_from (begin_of (length s) r e (length w.fonts) w.unitwidth 0) ws o)
    (record { within = omega arith; left = omega arith; clear = refl }) (start_live list w q ws k) (omega arith) room rs xs d said

-- ---- what the pass says where it ended at p

pub record Refuses (s list : List ℕ) (p : RespellPass) : Type 0 where
  pub number : ℕ
  pub offset : ℕ
  pub refused : Refused number offset p.state
  pub answered : read s list ≡ refuse number offset

pub record Accepts (s list : List ℕ) (a : State) (ws : List ℕ) (p : RespellPass) : Type 0 where
  pub on : T.On s list a ws
  pub rows : List GlyphRow
  pub items : List ItemRow
  pub end : Env
  pub said : said_of s on.widths ≡ answer rows items end
  pub clear : p.state.refusal ≡ 0
  pub stopped : eqb p.state.env.phase 4 ≡ true
  pub count : p.state.records ≡ length rows
  pub number : p.state.entries ≡ length items
  pub pages : p.state.env.ordinal ≡ end.ordinal
  pub measured : p.mark.at ≡ min (length (text_of s on.widths)) 16777217
  -- what it leaves for another one
  pub fonts : p.state.fonts ≡ length on.widths.fonts
  pub unit : p.state.unitwidth ≡ on.widths.unitwidth
  pub kept : drop 256 p.scratch ≡ drop 256 ws

module _ (s list : List ℕ) (a : State) (ws : List ℕ) (h : Started s list a ws) (o : List ℕ) (p : RespellPass) (is : p ≡ respell_pass_of (find_in list a.fonts ws) s (pass_from a ws o)) where
  -- the reader's pass from there
  abbrev judge : R.ReadPass
  judge = R.read_pass_of (find_in list a.fonts ws) s (T.pass_from a ws [] [])

  same : (p.state ≡ judge.state) × (p.scratch ≡ judge.scratch)
  same = subst (λ (i : RespellPass). (i.state ≡ judge.state) × (i.scratch ≡ judge.scratch)) (sym is) (pass_same (find_in list a.fonts ws) s a.left (pass_from a ws o) [] [])

  known : Known list s (T.pass_from a ws [] []) 0 judge
  known = pass_known list s (T.pass_from a ws [] []) (T.first-sound s list a ws 0 0 h)

  -- what it leaves
  pub first_scratch : Scratch p.scratch
  first_scratch = subst Scratch (sym same.1) known.scratch

  -- refused before: it leaves all as it was
  off_says : T.Off s list a → Refuses s list p
  off_says f =
      let z : p.state ≡ refused_at f.number f.offset = ap (λ (i : RespellPass). i.state) (is ∙ stays (find_in list a.fonts ws) s a.left (pass_from a ws o) (rw f.state)) ∙ f.state in
      record { number = f.number; offset = f.offset; refused = inl (ap (λ (i : State). i.refusal) z, f.some, ap (λ (i : State). i.at) z); answered = f.answered }

  module _ (y : AreBytes s) (n : T.On s list a ws) where
    abbrev w : Widths
    w = n.widths

    abbrev most : State
    most = begin_of (length s) (length s) (length s) (length w.fonts) w.unitwidth 0

    wide : Room (length s) (said_of s w) most
    wide = inl (omega arith, omega arith, omega arith, omega arith)

    judged : Ended (said_of s w) (T.pass_from most ws [] []) judge
    judged =
        subst (λ (i : State). Ended (said_of s w) (T.pass_from most ws [] []) (R.read_pass_of (find_in list i.fonts ws) s (T.pass_from i ws [] []))) (sym n.state)
        (T.run_ends s list w n.list_is ws n.scratch y (length s) (length s) 0 [] [] wide)

    accepts : (rs : List GlyphRow) (xs : List ItemRow) (d : Env) → said_of s w ≡ answer rs xs d → Accepted rs xs d (T.pass_from most ws [] []) judge → Accepts s list a ws p
    accepts rs xs d said g = record {
      on = n;
      rows = rs;
      items = xs;
      end = d;
      said = said;
      clear = ap (λ (i : State). i.refusal) same.0 ∙ g.clear;
      stopped = ap (λ (i : State). eqb i.env.phase 4) same.0 ∙ g.stopped;
      count = ap (λ (i : State). i.records) same.0 ∙ g.count ∙ (let z : 0 + length rs ≡ length rs = omega arith in z);
      number = ap (λ (i : State). i.entries) same.0 ∙ g.number ∙ (let z : 0 + length xs ≡ length xs = omega arith in z);
      pages = ap (λ (i : State). i.env.ordinal) same.0 ∙ ap (λ (i : Env). i.ordinal) g.environment;
      measured =
          ap (λ (i : Sheet). i.at)
          (run_spells s list w n.list_is ws n.scratch y (length s) (length s) wide rs xs d said o p
          (is ∙ ap (λ (i : State). respell_pass_of (find_in list i.fonts ws) s (pass_from i ws o)) n.state))
          ∙ put_at (text_of s w) (sheet_at o first_mark) (omega arith)
          ∙ ap (λ (i : ℕ). min i 16777217) (let z : 0 + length (text_of s w) ≡ length (text_of s w) = omega arith in z);
      fonts = ap (λ (i : State). i.fonts) same.0 ∙ known.fonts ∙ ap (λ (i : State). i.fonts) n.state;
      unit = ap (λ (i : State). i.unitwidth) same.0 ∙ known.unit ∙ ap (λ (i : State). i.unitwidth) n.state;
      kept = ap (drop 256) same.1 ∙ known.kept;
    }

    ended_says : (x : Answer) → said_of s w ≡ x → Ended x (T.pass_from most ws [] []) judge → Refuses s list p ⊎ Accepts s list a ws p
    ended_says (refuse k j) e g = inl (record { number = k; offset = j; refused = subst (Refused k j) (sym same.0) g; answered = n.answered ∙ e })
    ended_says (answer rs xs d) e g = inr (accepts rs xs d e g)

  case_says : AreBytes s → T.Off s list a ⊎ T.On s list a ws → Refuses s list p ⊎ Accepts s list a ws p
  case_says y (inl f) = inl (off_says f)
  case_says y (inr n) = ended_says y n (said_of s n.widths) refl (judged y n)

  pub first_says : AreBytes s → Refuses s list p ⊎ Accepts s list a ws p
  first_says y = case_says y (T.started_case s list a ws h)
