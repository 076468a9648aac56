-- A word with its number and its dummy, by what stands at places of the stream.
use Rattle.std.specs.Prelude.{Option, Some, None, Result, Ok}
use Prim.Native.Nat.{ℕ, ◌+◌, ◌-◌, ◌<◌}
use native.Mathlib.Omega.{arith}
use native.Mathlib.Nat.{add-zero}
use mathlib.Core.Bool.{true}
use mathlib.Core.List.{List, [], ◌∷◌, map}
use mathlib.Core.Path.{◌≡◌, refl, ap, subst, ◌∙◌}
use lib.Dec.{leb}
use lib.ListN.{length, take, drop, get_or}
use borrow.Author.Tests.{le-leb, lt-leb, leb-true, leb-false}
use Rattle.rules.specs.Bytes.{span, is_space, is_not_white, is_clear, Num, moved, near, spacer, Nums, perhaps_integer}
use Rattle.rules.specs.Act.{word}
use Rattle.rules.specs.Letters.{draft, ignoring, named, number_named, white_next, followed_by_white, with_dummy}
use Rattle.rules.specs.Scan.{letter, is_small}
use Rattle.rules.specs.declared.Refusal.{Refusal}
use Rattle.rules.specs.Answers.{and_then}
use Rattle.laws.proofs.Cases.{on}
use Rattle.laws_scan.proofs.Walk.{cons_at}
use Rattle.scan_command.specs.View.{draft_of, letter_at}
use Rattle.scan_command.specs.declared.Command.{Command}
use Rattle.scan_command.specs.declared.Command.TheVariants.{Word}
use Rattle.scan_lex.specs.At.{run_end, is_name_byte}
use Rattle.scan_lex.proofs.Names.{string_ends, string_clear}
use Rattle.scan_lex.proofs.Runs.{run_off, inside}
use Rattle.scan_integer.specs.At.{cut}
use Rattle.scan_arguments.specs.At.{due_at, perhaps_at}
use Rattle.scan_arguments.specs.declared.Argument.{Argument}
use Rattle.scan_close.proofs.Places.{Back, one_due, dummy_due, judged_at, cleared_at, within-cut, within_uncut, cut_small}
use Rattle.scan_close.proofs.Names.{take_is, named_none, named_some}
use Rattle.scan_glyphs.specs.Parts.{followed, dummy_at, word_with, word_from}
use Rattle.scan_glyphs.proofs.Strings.{string-white}

-- ---- a word that ends at e, with a number before it and perhaps a dummy behind it; w are its bytes

module _ (s : List ℕ) (at m k a q b e : ℕ) (w : List ℕ) (track : Argument) (g : track.number ≡ cut m) (h : track.place ≡ at + k) where
  abbrev word_draft : Nums → Result Command Refusal
  word_draft x = draft_of at (ignoring (draft (word m w) [] (k ∷ a ∷ []) a b (drop e s)) (followed_by_white x))

  abbrev word_says : Result (Option Argument) Refusal → Result Command Refusal
  word_says r = and_then (and_then r (followed at s)) (word_with at (at + a) q e track)

  module _ (f : is_clear w ≡ leb e q) (l : at + a + length w ≡ e) where
    no_dummy : (y : Nums) → Back at y [] [] e (drop e s) → white_next (drop e s) ≡ true → word_draft y ≡ word_says (Ok None)
    no_dummy y d v =
        rw (d.are, v)
        (judged_at at (word m w) a d.end (near m ∷ true ∷ []) (k ∷ a ∷ d.places) ((at + k) ∷ (at + a) ∷ []) (ap (λ (ps : List ℕ). (at + k) ∷ (at + a) ∷ ps) d.from) (omega arith)
        ∙ rw (cleared_at at (word m w) a d.end (leb e q) f, d.to, l, g, h, within-cut 1 199999999 m (omega arith))
        (on (near m) (λ y. rw (y, within_uncut 1 199999999 m (omega arith) y)) (λ y. rw y)))

    one_dummy : (c : Argument) (n : Num) (y : Nums) → c.number ≡ cut (moved n) → Back at y (n ∷ []) (c.place ∷ []) c.next (drop c.next s)
        → word_draft y ≡ word_says (Ok (Some c))
    one_dummy c n y i d =
        rw d.are
        (on (white_next (drop c.next s))
        (λ z. rw z
        (judged_at at (word m w) a d.end (near m ∷ true ∷ is_small n ∷ []) (k ∷ a ∷ d.places) ((at + k) ∷ (at + a) ∷ c.place ∷ []) (ap (λ (ps : List ℕ). (at + k) ∷ (at + a) ∷ ps) d.from) (omega arith)
        ∙ rw (cleared_at at (word m w) a d.end (leb e q) f, d.to, l, g, h, i, cut_small n, within-cut 1 199999999 m (omega arith))
        (on (near m)
        (λ y. rw (y, within_uncut 1 199999999 m (omega arith) y) (on (is_small n) (λ u. rw u) (λ u. rw u)))
        (λ y. rw y))))
        (λ z. rw (z, add-zero)))

    dummy_draft : at + b ≡ e → white_next (drop e s) ≡ true → word_draft (perhaps_integer b (drop e s)) ≡ word_says (perhaps_at at s e)
    dummy_draft z v =
        subst (λ (n : ℕ). word_draft (perhaps_integer b (drop n s)) ≡ word_says (perhaps_at at s n)) z
        (dummy_due at s b (λ x r. word_draft x ≡ word_says r) (rw add-zero) (λ y d. no_dummy y (rw z at d) v) one_dummy)

-- ---- a word behind a spacer from i on, which stands l bytes behind the command's first

abbrev pub word_behind : ℕ → List ℕ → ℕ → Argument → Result Command Refusal
word_behind at s i track = word_from at s (run_end is_space s i) (run_end is_name_byte s (run_end is_space s i)) track

module _ (s : List ℕ) (at m k l i : ℕ) (track : Argument) (g : track.number ≡ cut m) (h : track.place ≡ at + k) (z : at + l ≡ i) where
  abbrev p : ℕ
  p = run_end is_space s i

  abbrev q : ℕ
  q = run_end is_name_byte s p

  abbrev e : ℕ
  e = run_end is_not_white s q

  ends : e ≡ run_end is_not_white s p
  ends = string_ends s p q e refl refl

  abbrev start : ℕ
  start = l + spacer (drop i s)

  start_is : at + start ≡ p
  unfolding run_end
  start_is = omega (arith, z)

  word_draft_is : draft_of at (with_dummy (named (word m) (k ∷ []) l (drop i s))) ≡ word_behind at s i track
  word_draft_is =
      on (leb e p)
      (λ f. rw (f, named_none s p e ends (word m) (k ∷ []) l i refl (leb-true e p f), add-zero))
      (λ f.
      let w : List ℕ = take (e - p) (drop p s) in
      let y : at + (start + (e - p)) ≡ e = omega (arith, start_is, leb-false e p f) in
      let x : at + start + length w ≡ e = omega (arith, y, take_is s p e ends) in
      rw (f, named_some s p e ends (word m) (k ∷ []) l i refl (leb-false e p f))
      (dummy_draft s at m k start q (start + (e - p)) e w track g h (string_clear s p q e refl refl) x y (string-white s p e ends) ∙ rw start_is))

-- ---- `t`

module _ (s : List ℕ) (at : ℕ) where
  pub word_is : letter_at 116 s at ≡ word_behind at s (at + 1) (record { number = 100000000; place = at + 1; next = at + 1 })
  unfolding letter_at letter
  word_is = word_draft_is s at 100000000 1 1 (at + 1) (record { number = 100000000; place = at + 1; next = at + 1 }) refl refl refl

  -- ---- `u`

  tracked_by : (a : Argument) (m : Num) (ks : List ℕ) (l : ℕ) → a.number ≡ cut (moved m) → map (λ (k : ℕ). at + k) ks ≡ a.place ∷ [] → at + l ≡ a.next
      → draft_of at (with_dummy (named (word (moved m)) ks l (drop a.next s))) ≡ word_behind at s a.next a
  tracked_by a m [] l g h z = let y : ◌≡◌ {A = ℕ} 0 1 = cc in absurd (omega arith)
  tracked_by a m (k ∷ []) l g h z = word_draft_is s at (moved m) k l a.next a g (cc) z
  tracked_by a m (k ∷ j ∷ ks) l g h z = let y : ◌≡◌ {A = ℕ} 0 1 = cc in absurd (omega arith)

  pub tracked_is : letter_at 117 s at ≡ and_then (due_at at s (at + 1)) (λ a. word_behind at s a.next a)
  unfolding letter_at letter
  tracked_is =
      one_due at s 1 (λ x r. draft_of at (with_dummy (number_named word x)) ≡ r) (rw add-zero) (λ a. word_behind at s a.next a)
      (λ a m y g d. rw d.are (tracked_by a m d.places d.end g d.from d.to))

  -- ---- a word that ends its line

  no_dummy_at : (e : ℕ) → get_or s e 0 ≡ 10 → dummy_at at s e ≡ Ok None
  unfolding perhaps_at perhaps_integer span
  no_dummy_at e h = rw (cons_at s e (inside s e 9 h), h)

  module _ (u v : ℕ) (l : u < v) (h : get_or s v 0 ≡ 10) where
    line_ends : run_end is_not_white s v ≡ v
    line_ends = run_off is_not_white s v (inside s v 9 h) (rw h)

    ended_word : word_from at s u v (record { number = 100000000; place = at + 1; next = at + 1 }) ≡ Ok (Word 100000000 u v v)
    ended_word = rw (line_ends, lt-leb v u l, no_dummy_at v h, le-leb v v (omega arith))

  pub word_line : run_end is_space s (at + 1) < run_end is_name_byte s (run_end is_space s (at + 1))
      → get_or s (run_end is_name_byte s (run_end is_space s (at + 1))) 0 ≡ 10
      → letter_at 116 s at ≡ Ok (Word 100000000 (run_end is_space s (at + 1)) (run_end is_name_byte s (run_end is_space s (at + 1))) (run_end is_name_byte s (run_end is_space s (at + 1))))
  word_line l h = word_is ∙ ended_word (run_end is_space s (at + 1)) (run_end is_name_byte s (run_end is_space s (at + 1))) l h
