-- A line of any kind.
use Prim.Native.Nat.{ℕ, ◌+◌, ◌-◌, ◌≤◌}
use mathlib.Core.Path.{◌≡◌, refl, ap, ◌∙◌}
use mathlib.Core.Bool.{true, false}
use mathlib.Core.List.{List}
use mathlib.Core.Option.{some}
use native.Mathlib.Omega.{arith}
use borrow.Author.Tests.{lt-ltb, le-ltb}
use lib.Dec.{ltb, eqb}
use lib.ListN.{length, take, drop, length-take, length-drop}
use lib.Pointwise.{pointwise}
use lib.Seq.{drop-drop}
use Rattle.std.specs.Prelude.{Result, Err}
use Rattle.rules.specs.declared.Refusal.{Refusal}
use Rattle.rules.specs.Answers.{refusal}
use Rattle.rules.specs.Bytes.{bytes, is_not_newline}
use Rattle.rules.specs.Widths.{Widths, Due, unit_due, block_due, width_due, behind, numbered, block_line, line_says}
use Rattle.name.specs.Part.{part_of}
use Rattle.widths_table.specs.declared.Block.{Block}
use Rattle.widths_line.specs.declared.Due.TheVariants as D
use Rattle.widths_line.specs.declared.State.{State}
use Rattle.widths_line.specs.Reading.{reached, Holds, After, unit_says, ByteJudged, Stored}
use Rattle.widths_line.proofs.Lines.{unit_stands, byte_stands}
use Rattle.widths_line.proofs.Texts.{stripped, unstripped}
use Rattle.widths_font.specs.Fonts.{Told, font_says}
use Rattle.widths.specs.Lines.{turn_says, length_at}
use Rattle.scan_lex.specs.At.{run_end}
use Rattle.scan_lex.proofs.Runs.{run_from, run-within}
use Rattle.scan_lex.proofs.Lines.{drop-take}

abbrev font_key : List ℕ
font_key = bytes "font="

-- the rest of a line behind a key
rest_part : (list : List ℕ) (at len k : ℕ) → drop k (part_of list at len) ≡ part_of list (at + k) (len - k)
rest_part list at len k = drop-take k len (drop at list) ∙ rw (drop-drop k at list)

module _ (list : List ℕ) (table : List Block) (st : State) (e : ℕ) (p : e ≡ run_end is_not_newline list st.at) where
  abbrev line : List ℕ
  line = take (e - st.at) (drop st.at list)

  abbrev ToldTurn : List Block → Result State Refusal → Type 0
  ToldTurn table' r = Told list table table' st (st.at + length_at list st.at + 1) r (turn_says list st.at)

  pub line_is : e - st.at ≡ length_at list st.at
  unfolding run_end
  line_is = omega (arith, p)

  pub end_from : st.at ≤ e
  end_from = omega (arith, p, run_from is_not_newline list st.at)

  pub end_within : st.at ≤ length list → e ≤ length list
  end_within h = omega (arith, p, run-within is_not_newline list st.at h)

  pub turn_open : e ≡ length list → ToldTurn table (Err (refusal 2 st.at))
  turn_open h = record {
    told = λ w d v. rw (le-ltb (length_at list st.at) (length (drop st.at list)) (omega (arith, line_is, length-drop st.at list))) (refl, tt);
  }

  module _ (ne : e ≡ length list → ⊥) (l : st.at ≤ length list) where
    says_is : (w : Widths) (d : Due) → turn_says list st.at w d ≡ line_says w line d
    says_is w d =
        let t : ltb (length_at list st.at) (length (drop st.at list)) ≡ true =
        lt-ltb (length_at list st.at) (length (drop st.at list)) (omega (arith, line_is, end_from, end_within l, length-drop st.at list))
        in
        rw (t, line_is)

    -- what is told of the line is told of the turn
    turned : (table' : List Block) (r : Result State Refusal) → ((w : Widths) (d : Due) → Holds list table w d st → After list table' st.at (e + 1) r (line_says w line d)) → ToldTurn table' r
    turned table' r f =
        let q : st.at + length_at list st.at + 1 ≡ e + 1 = omega (arith, line_is, end_from) in
        record { told = λ w d v. rw (says_is w d, q) (f w d v) }

    pub turn_unit : (r : Result State Refusal) → st.due ≡ D.Unitwidth → r ≡ reached st.at (e + 1) (unit_says line) → ToldTurn table r
    turn_unit r u q = turned table r by
      where
        by : (w : Widths) (d : Due) → Holds list table w d st → After list table st.at (e + 1) r (line_says w line d)
        by w unit_due v = (q, unit_stands list table (numbered (behind (bytes "unitwidth=") line)))
        by w block_due v = absurd (let z : ◌≡◌ {A = ℕ} 0 1 = cc (u, ap (λ (x : State). x.due) v.0) in omega arith)
        by w (width_due b) v = absurd (let z : ◌≡◌ {A = ℕ} 0 1 = cc (u, ap (λ (x : State). x.due) v.0) in omega arith)

    -- what is told of a font or byte line
    block_turned : (table' : List Block) (r : Result State Refusal) → st.due ≡ D.Block
        → ((w : Widths) → Holds list table w block_due st → After list table' st.at (e + 1) r (block_line w line (behind font_key line))) → ToldTurn table' r
    block_turned table' r u f = turned table' r by
      where
        by : (w : Widths) (d : Due) → Holds list table w d st → After list table' st.at (e + 1) r (line_says w line d)
        by w unit_due v = absurd (let z : ◌≡◌ {A = ℕ} 0 1 = cc (u, ap (λ (x : State). x.due) v.0) in omega arith)
        by w block_due v = f w v
        by w (width_due b) v = absurd (let z : ◌≡◌ {A = ℕ} 0 1 = cc (u, ap (λ (x : State). x.due) v.0) in omega arith)

    pub turn_byte : (r : Result State Refusal) → st.due ≡ D.Block → pointwise eqb (take 5 line) font_key ≡ false → ByteJudged line st (e + 1) r → ToldTurn table r
    turn_byte r u k j = block_turned table r u (λ w v. rw (unstripped font_key line k) (j.told w block_due v.0, byte_stands list table w block_due _ v.1))

    pub turn_font : (table' : List Block) (r : Result State Refusal) (n : List ℕ) → st.due ≡ D.Block → pointwise eqb (take 5 line) font_key ≡ true → length n + 5 ≡ length line
        → Told list table table' st (e + 1) r (font_says (part_of list (st.at + 5) (length n))) → ToldTurn table' r
    turn_font table' r n u k h f =
        let m : e - st.at - 5 ≡ length n = omega (arith, h, length-take (e - st.at) (drop st.at list), length-drop st.at list, end_from, end_within l) in
        let q : behind font_key line ≡ some (part_of list (st.at + 5) (length n)) =
        stripped font_key line k ∙ ap some (rest_part list st.at (e - st.at) 5 ∙ ap (part_of list (st.at + 5)) m)
        in
        block_turned table' r u (λ w v. rw q (f.told w block_due v))

    pub turn_width : (table' : List Block) (r : Result State Refusal) (b : ℕ) → st.due ≡ D.Width b → Stored line table table' st b (e + 1) r → ToldTurn table' r
    turn_width table' r b u j = turned table' r by
      where
        by : (w : Widths) (d : Due) → Holds list table w d st → After list table' st.at (e + 1) r (line_says w line d)
        by w unit_due v = absurd (let z : ◌≡◌ {A = ℕ} 0 1 = cc (u, ap (λ (x : State). x.due) v.0) in omega arith)
        by w block_due v = absurd (let z : ◌≡◌ {A = ℕ} 0 1 = cc (u, ap (λ (x : State). x.due) v.0) in omega arith)
        by w (width_due c) v =
            let q : b ≡ c = cc (u, ap (λ (x : State). x.due) v.0) in
            rw (← q) (j.told list w (rw (← q) at v))

pub ruleset turning = (end_from, end_within, turn_open, turn_unit, turn_byte, turn_font, turn_width)
