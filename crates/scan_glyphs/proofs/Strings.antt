-- A number, a glyph of one byte, a name, and two digits, by what stands at places of the stream.
use Rattle.std.specs.Prelude.{if◌then◌else◌, Result, Ok, Err}
use Prim.Native.Nat.{ℕ, ◌+◌, ◌*◌, ◌-◌, ◌≤◌, ◌<◌}
use native.Mathlib.Omega.{arith}
use native.Mathlib.Nat.{add-zero}
use mathlib.Core.Bool.{Bool, true, false}
use mathlib.Core.List.{List, [], ◌∷◌, ◌++◌}
use mathlib.Core.Option.{none}
use mathlib.Core.Path.{◌≡◌, refl, sym, ◌∙◌}
use lib.Dec.{leb, ltb, eqb}
use lib.ListN.{length, take, drop, get_or, drop_of_length-le}
use lib.Seq.{drop-drop, get_or-drop}
use borrow.Author.Tests.{leb-true, leb-false, ne_eqb, ltb-true, ltb-false, not-false}
use Rattle.rules.specs.Bytes.{is_space, is_white, is_not_white, is_digit, is_barred, spacer, unspaced, string}
use Rattle.rules.specs.Act.{glyph, index, Cmd, just, pair}
use Rattle.rules.specs.Letters.{one_byte, white_next, second_digit}
use Rattle.rules.specs.Scan.{letter, cmd_limits, name_in, outside}
use Rattle.rules.specs.declared.Refusal.{Refusal}
use Rattle.rules.specs.Answers.{refusal, and_then}
use Rattle.laws.proofs.Cases.{on, no, and_left, and_right, drop-span, Stops}
use Rattle.laws_scan.proofs.Walk.{cons_at}
use Rattle.scan_command.specs.View.{cmd_of, draft_of, letter_at}
use Rattle.scan_command.specs.declared.Command.{Command}
use Rattle.scan_command.specs.declared.Command.TheVariants.{Glyph, Index, Pair}
use Rattle.scan_lex.specs.At.{run_end, is_name_byte}
use Rattle.scan_lex.proofs.Names.{string_ends, string_clear}
use Rattle.scan_lex.proofs.Runs.{unspaced_at, past_end}
use Rattle.scan_close.specs.Closed.{within_or, clear_or, argument_at}
use Rattle.scan_close.proofs.Places.{cleared_at}
use Rattle.scan_close.proofs.Names.{take_is, named_none, named_some}
use Rattle.scan_close.proofs.Arguments.{one_is}
use Rattle.scan_glyphs.specs.Parts.{glyph_at}

-- ---- `N`

pub index_is : (s : List ℕ) (at : ℕ) → letter_at 78 s at ≡ and_then (argument_at 1 199999999 s at) (λ a. Ok (Index a.number a.next))
unfolding letter
index_is s at = one_is s at 78 index 1 199999999 (record { reads = λ r. refl; limit = λ n. refl; nameless = λ n. refl; below = omega arith })

-- ---- whitespace or the end

pub white_is : (s : List ℕ) (at : ℕ) → white_next (drop at s) ≡ (if ltb at (length s) then is_white (get_or s at 0) else true)
white_is s at =
    on (ltb at (length s))
    (λ e. rw (e, cons_at s at (ltb-true at (length s) e)))
    (λ e. rw (e, drop_of_length-le s (ltb-false at (length s) e)))

-- ---- a glyph of one byte

-- a byte that passes a test, which 0 does not pass, stands within the stream
passed_inside : (q : ℕ → Bool) (s : List ℕ) (p : ℕ) → q 0 ≡ false → q (get_or s p 0) ≡ true → p < length s
passed_inside q s p z e = on (ltb p (length s)) (λ l. ltb-true p (length s) l) (λ l. no (sym z ∙ rw (past_end s p (ltb-false p (length s) l)) e))

pub glyph_inside : (s : List ℕ) (p : ℕ) → is_name_byte (get_or s p 0) ≡ true → p < length s
glyph_inside s p e = passed_inside is_name_byte s p refl e

-- a digit stands within the stream
pub digit_inside : (s : List ℕ) (p : ℕ) → is_digit (get_or s p 0) ≡ true → p < length s
digit_inside s p e = passed_inside is_digit s p refl e

-- f is the command of a byte, which is its name, and has no limit that a byte could be outside
module _ (f : ℕ → Cmd) (at : ℕ) (limit : (b k : ℕ) → outside (cmd_limits (f b) ++ []) (k ∷ []) ≡ none) (name : (b : ℕ) → name_in (f b) ≡ b ∷ []) where
  byte_front : (k : ℕ) (r : List ℕ)
      → draft_of at (one_byte f k r) ≡ (if is_name_byte (get_or r 0 0) then Ok (cmd_of (at + k) (at + (k + 1)) (f (get_or r 0 0))) else Err (if white_next r then refusal 4 at else refusal 16 at))
  byte_front k [] = rw add-zero
  byte_front k (b ∷ r) =
      on (is_white b) (λ w. rw (w, add-zero)) (λ w. rw (w, limit b k, name b) (on (is_barred b) (λ c. rw (c, add-zero)) (λ c. rw c)))

  -- behind a spacer from i on, which stands k bytes behind the command's first
  byte_behind : (s : List ℕ) (k i : ℕ) → at + k ≡ i
      → draft_of at (one_byte f (k + spacer (drop i s)) (unspaced (drop i s))) ≡ and_then (glyph_at at s i) (λ p. Ok (cmd_of p (p + 1) (f (get_or s p 0))))
  unfolding run_end
  byte_behind s k i g =
      let p : ℕ = run_end is_space s i in
      let z : at + (k + spacer (drop i s)) ≡ p = omega (arith, g) in
      let y : at + (k + spacer (drop i s) + 1) ≡ p + 1 = omega (arith, z) in
      rw (unspaced_at s i) (byte_front (k + spacer (drop i s)) (drop p s) ∙ rw (get_or-drop, add-zero, z, y)
      (on (is_name_byte (get_or s p 0)) (λ e. rw e) (λ e. rw e)))

pub byte_is : (s : List ℕ) (at : ℕ) → letter_at 99 s at ≡ and_then (glyph_at at s (at + 1)) (λ p. Ok (Glyph p 1 (p + 1)))
unfolding letter_at letter
byte_is s at = byte_behind (λ x. just (glyph (x ∷ []))) at (λ b k. refl) (λ b. refl) s 1 (at + 1) refl

-- ---- a string

module _ (s : List ℕ) (p e : ℕ) (h : e ≡ run_end is_not_white s p) where
  pub string-white : white_next (drop e s) ≡ true
  unfolding run_end
  string-white = rw (h, ← (drop-drop (string (drop p s)) p s)) (stops (drop (string (drop p s)) (drop p s)) (drop-span is_not_white (drop p s)))
    where
      stops : (r : List ℕ) → Stops is_not_white r → white_next r ≡ true
      stops [] q = refl
      stops (b ∷ r) q = not-false (is_white b) q

-- the name from p to e, whose bytes up to q are those of a name
abbrev pub name_to : ℕ → ℕ → ℕ → ℕ → Result Command Refusal
name_to at p q e =
    if leb e p then Err (refusal 4 at) else and_then (within_or (leb (e - p) 64) p) (λ y. and_then (clear_or (leb e q) at) (λ z. Ok (Glyph p (e - p) e)))

abbrev pub name_from : List ℕ → ℕ → ℕ → ℕ → Result Command Refusal
name_from s at p q = name_to at p q (run_end is_not_white s q)

abbrev pub name_behind : List ℕ → ℕ → ℕ → Result Command Refusal
name_behind s at p = name_from s at p (run_end is_name_byte s p)

module _ (s : List ℕ) (at : ℕ) where
  abbrev p : ℕ
  p = run_end is_space s (at + 1)

  abbrev q : ℕ
  q = run_end is_name_byte s p

  abbrev e : ℕ
  e = run_end is_not_white s q

  ends : e ≡ run_end is_not_white s p
  ends = string_ends s p q e refl refl

  start : at + (1 + spacer (drop (at + 1) s)) ≡ p
  unfolding run_end
  start = omega arith

  pub name_is : letter_at 67 s at ≡ name_behind s at p
  unfolding letter_at letter
  name_is =
      let z : at + (1 + spacer (drop (at + 1) s) + (e - p)) ≡ p + (e - p) = omega (arith, start) in
      on (leb e p)
      (λ k. rw (k, named_none s p e ends (λ n. just (glyph n)) [] 1 (at + 1) refl (leb-true e p k), add-zero))
      (λ k.
      let y : p + (e - p) ≡ e = omega (arith, leb-false e p k) in
      rw (k, named_some s p e ends (λ n. just (glyph n)) [] 1 (at + 1) refl (leb-false e p k), take_is s p e ends)
      (on (leb (e - p) 64)
      (λ t. rw t
      (cleared_at at (just (glyph (take (e - p) (drop p s)))) (1 + spacer (drop (at + 1) s)) (1 + spacer (drop (at + 1) s) + (e - p)) (leb e q) (string_clear s p q e refl refl)
      ∙ rw (start, z, y, take_is s p e ends)))
      (λ t. rw (t, start))))

-- ---- two digits

digit_in : (b : ℕ) → is_digit b ≡ true → (48 ≤ b) × (b ≤ 57)
digit_in b d = (leb-true 48 b (and_left (leb 48 b) (leb b 57) d), leb-true b 57 (and_right (leb 48 b) (leb b 57) d))

-- the second digit stands at p
abbrev pub pair_at : ℕ → ℕ → List ℕ → ℕ → Result Command Refusal
pair_at at b s p =
    if is_digit (get_or s p 0) then and_then (glyph_at at s (p + 1)) (λ j. Ok (Pair (100000000 + ((b - 48) * 10 + (get_or s p 0 - 48))) j (j + 1))) else Err (refusal 4 at)

module _ (b : ℕ) (d : is_digit b ≡ true) where
  no_letter : (k : ℕ) → 57 < k → eqb b k ≡ false
  no_letter k h = ne_eqb b k (λ e. omega (arith, digit_in b d))

  letter_digit : (r : List ℕ) → letter b r ≡ second_digit b (1 + spacer r) (unspaced r)
  unfolding letter
  letter_digit r =
      rw (no_letter 99 (omega arith), no_letter 67 (omega arith), no_letter 78 (omega arith), no_letter 116 (omega arith), no_letter 117 (omega arith), no_letter 72 (omega arith), no_letter 104 (omega arith), no_letter 86 (omega arith), no_letter 118 (omega arith), no_letter 112 (omega arith), no_letter 102 (omega arith), no_letter 115 (omega arith), no_letter 109 (omega arith), no_letter 110 (omega arith), no_letter 119 (omega arith), no_letter 68 (omega arith), no_letter 120 (omega arith), d)

pub pair_is : (s : List ℕ) (at b : ℕ) → is_digit b ≡ true → letter_at b s at ≡ pair_at at b s (run_end is_space s (at + 1))
unfolding letter_at
pair_is s at b d =
    rw (letter_digit b d (drop (at + 1) s), unspaced_at s (at + 1))
    (on (ltb (p s at) (length s))
    (λ l. rw (cons_at s (p s at) (ltb-true (p s at) (length s) l))
    (on (is_digit (get_or s (p s at) 0))
    (λ y. rw y (byte_behind (pair (100000000 + ((b - 48) * 10 + (get_or s (p s at) 0 - 48)))) at (λ x k. refl) (λ x. refl) s (1 + spacer (drop (at + 1) s) + 1) (p s at + 1) (omega (arith, start s at))))
    (λ y. rw (y, add-zero))))
    (λ l. rw (drop_of_length-le s (ltb-false (p s at) (length s) l), ← (past_end s (p s at) (ltb-false (p s at) (length s) l)), add-zero)))
