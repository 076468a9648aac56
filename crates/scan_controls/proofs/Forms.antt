-- Each form of a control: what is answered at places of the stream is the definitions' draft, closed and judged. Then the control by its
-- letter.
use Rattle.std.specs.Prelude.{if◌then◌else◌, Result, Ok, Err}
use Prim.Native.Nat.{ℕ, ◌+◌, ◌-◌, ◌≤◌, ◌<◌}
use native.Mathlib.Omega.{arith}
use native.Mathlib.Nat.{add-zero}
use mathlib.Core.Bool.{true}
use mathlib.Core.List.{List, [], ◌∷◌, ◌++◌, map, map-append}
use mathlib.Core.Path.{◌≡◌, refl, sym, ◌∙◌}
use lib.Dec.{leb, eqb, ltb}
use lib.ListN.{length, take, drop, get_or, drop_of_length-le}
use lib.Seq.{drop-drop}
use borrow.Author.Tests.{leb-true, leb-false, eqb-true, ltb-true, ltb-false}
use Rattle.rules.specs.declared.Refusal.{Refusal}
use Rattle.rules.specs.Answers.{refusal, asked, and_then}
use Rattle.rules.specs.Bytes.{is, is_space, is_white, is_not_white, spacer, unspaced, string, name_most, origin, most, moved, within, is_clear, integers}
use Rattle.rules.specs.Act.{Plain, pause, trailer, height, slant, underline, Act, device, resolution, init, file, mount, plain, raw, stop, just}
use Rattle.rules.specs.Letters.{Draft, draft, with_all, named, number_named}
use Rattle.rules.specs.Drawing.{closed}
use Rattle.rules.specs.Controls.{resolution_of, raw_text, raw_length, rawly, control}
use Rattle.rules.specs.Record.{plain_letter}
use Rattle.rules.specs.Scan.{limits, plain_limits, outside, is_positive, name_of, letter}
use Rattle.laws.proofs.Cases.{on, no}
use Rattle.laws_scan.proofs.Walk.{cons_at}
use Rattle.scan_command.specs.View.{act_of, draft_of, letter_at}
use Rattle.scan_command.specs.declared.Command.{Command}
use Rattle.scan_command.specs.declared.Command.TheVariants as K
use Rattle.scan_letters.specs.Selected.{control_of}
use Rattle.scan_letters.specs.declared.Control.{Control}
use Rattle.scan_letters.specs.declared.Control.TheVariants as L
use Rattle.scan_letters.proofs.Letters.{if_alike}
use Rattle.scan_lex.specs.At.{run_end}
use Rattle.scan_lex.proofs.Runs.{unspaced_at}
use Rattle.scan_lex.proofs.Names.{string_ends, string_clear}
use Rattle.scan_arguments.specs.At.{within_of}
use Rattle.scan_close.specs.Closed.{clear_or, ended_at}
use Rattle.scan_close.proofs.Places.{answered, answered_more, one_due, three_due}
use Rattle.scan_close.proofs.Names.{take_is, named_none, named_some}
use Rattle.scan_colours.proofs.Drafts.{then_then, draft_is, closed_is, judged}
use Rattle.scan_raw.specs.Parts.{text_at, raw_at}
use Rattle.scan_controls.specs.Parts.{name_from, clear_to, name_to, name_of as name_at, name_due, name_fits, named_at, mount_at, bare_at, plain_at, resolution_at, control_by, control_at}
use Rattle.scan_controls.specs.declared.Name.{Name}

-- ---- a string

-- a string behind arguments that begin at ks, and at ps in the stream; it is due from i on
module _ (s : List ℕ) (at k i : ℕ) (g : at + k ≡ i) (ks ps : List ℕ) (m : map (λ (k : ℕ). at + k) ks ≡ ps) (f : List ℕ → Act) where
  abbrev from : ℕ
  from = name_from s i

  abbrev clear : ℕ
  clear = clear_to s i

  abbrev till : ℕ
  till = name_to s i

  abbrev name : List ℕ
  name = take (till - from) (drop from s)

  start_is : at + (k + spacer (drop i s)) ≡ from
  unfolding run_end
  start_is = omega (arith, g)

  places_are : map (λ (k : ℕ). at + k) (ks ++ (k + spacer (drop i s)) ∷ []) ≡ ps ++ from ∷ []
  places_are = rw (map-append, m, start_is)

  -- r is what is answered of the string
  named_is : ((n : List ℕ) → name_of (f n) ≡ n) → length (limits (f name)) ≤ length (ps ++ from ∷ []) → (r : Name → Result Command Refusal)
      → answered (and_then (clear_or (leb till clear) at) (λ z. Ok (act_of from till (f name)))) (outside (limits (f name)) (ps ++ from ∷ [])) ≡ r (name_at from clear till)
      → draft_of at (closed (named (λ n. just (f n)) ks k (drop i s))) ≡ and_then (name_due at s i) r
  unfolding name_due
  named_is own l r x =
      let h : till ≡ run_end is_not_white s from = string_ends s from clear till refl refl in
      let b : is_clear (name_of (f name)) ≡ leb till clear = rw (own name) (string_clear s from clear till refl refl) in
      on (leb till from)
      (λ e. rw (e, named_none s from till h (λ n. just (f n)) ks k i refl (leb-true till from e), add-zero))
      (λ e.
      let z : at + (k + spacer (drop i s) + (till - from)) ≡ till = omega (arith, start_is, leb-false till from e) in
      rw (e, named_some s from till h (λ n. just (f n)) ks k i refl (leb-false till from e))
      (closed_is at (f name) (leb till clear) b (ks ++ (k + spacer (drop i s)) ∷ []) (ps ++ from ∷ []) (k + spacer (drop i s)) (k + spacer (drop i s) + (till - from)) till places_are l z
      (r (name_at from clear till)) (rw start_is x) s
      ∙ sym (then_then (ended_at s at till) (λ z. Ok (name_at from clear till)) r)))

-- a string's length and bytes are judged last
fits_is : (at p q e : ℕ) (c : Command)
    → answered (and_then (clear_or (leb e q) at) (λ z. Ok c)) (outside (leb (e - p) name_most ∷ []) (p ∷ [])) ≡ and_then (name_fits at (name_at p q e)) (λ z. Ok c)
fits_is at p q e c =
    answered_more (and_then (clear_or (leb e q) at) (λ z. Ok c)) (leb (e - p) name_most) [] p []
    ∙ sym (then_then (asked (leb (e - p) name_most) 6 p) (λ z. clear_or (leb e q) at) (λ z. Ok c))

-- a name alone: `T`, `F`
name_is : (f : List ℕ → Act) (v : ℕ → ℕ → ℕ → Command) (s : List ℕ) (at k i : ℕ) → at + k ≡ i
    → ((n : List ℕ) → name_of (f n) ≡ n) → ((n : List ℕ) → limits (f n) ≡ leb (length n) name_most ∷ [])
    → ((p e : ℕ) (n : List ℕ) → act_of p e (f n) ≡ v p (length n) e)
    → draft_of at (closed (named (λ n. just (f n)) [] k (drop i s))) ≡ and_then (named_at at s i) (λ n. Ok (v n.place n.len n.next))
name_is f v s at k i g own l a =
    let p : ℕ = name_from s i in
    let q : ℕ = clear_to s i in
    let e : ℕ = name_to s i in
    let n : List ℕ = take (e - p) (drop p s) in
    let v' : Name → Result Command Refusal = λ (n : Name). Ok (v n.place n.len n.next) in
    named_is s at k i g [] [] refl f own (rw (l n) (omega arith)) (λ n. and_then (and_then (name_fits at n) (λ z. Ok n)) v')
    (rw (l n, a p e n, take_is s p e (string_ends s p q e refl refl)) (fits_is at p q e (v p (e - p) e) ∙ sym (then_then (name_fits at (name_at p q e)) (λ z. Ok (name_at p q e)) v')))
    ∙ sym (then_then (name_due at s i) (λ n. and_then (name_fits at n) (λ z. Ok n)) v')

-- ---- integers

module _ (s : List ℕ) (at k : ℕ) where
  -- one integer from lo to hi, which the answer has not: `H`, `S`, `u`
  plain_is : (c : Plain) (lo hi : ℕ) → hi < 200000000 → ((n : ℕ) → plain_limits c (n ∷ []) ≡ within lo hi n ∷ [])
      → draft_of at (closed (with_all (plain c) (integers 1 k (drop (at + k) s)))) ≡ plain_at (plain_letter c) lo hi s at (at + k)
  unfolding plain_at
  plain_is c lo hi u l =
      one_due at s k (λ y r. draft_of at (closed (with_all (plain c) y)) ≡ r) (rw add-zero)
      (λ a. and_then (ended_at s at a.next) (λ z. and_then (within_of lo hi a) (λ z. Ok (K.Plain (plain_letter c) a.next))))
      (λ a m y g b.
      let n : ℕ = moved m in
      let r : Result Command Refusal = Ok (K.Plain (plain_letter c) a.next) in
      rw b.are
      (closed_is at (plain c (n ∷ [])) true refl b.places (a.place ∷ []) 0 b.end a.next b.from (rw (l n) (omega arith)) b.to (and_then (within_of lo hi a) (λ z. r))
      (rw (l n) (judged lo hi u a n g r [] [] (λ x. r) refl)) s))

  -- `r`
  resolution_is : draft_of at (closed (resolution_of (integers 3 k (drop (at + k) s)))) ≡ resolution_at s at (at + k)
  unfolding resolution_at
  resolution_is =
      let lo : ℕ = origin + 1 in
      let hi : ℕ = origin + most in
      three_due at s k (λ y r. draft_of at (closed (resolution_of y)) ≡ r) (rw add-zero)
      (λ a b c.
      and_then (ended_at s at c.next) (λ z.
      and_then (within_of lo hi a) (λ z.
      and_then (within_of lo hi b) (λ z. and_then (within_of lo hi c) (λ z. Ok (K.Resolution (b.number - origin) c.next))))))
      (λ a b c m n o y f g h d.
      let i : ℕ = moved m in
      let j : ℕ = moved n in
      let l : ℕ = moved o in
      let r : Result Command Refusal = Ok (K.Resolution (j - origin) c.next) in
      rw d.are
      (closed_is at (resolution i j l) true refl d.places (a.place ∷ b.place ∷ c.place ∷ []) 0 d.end c.next d.from (omega arith) d.to
      (and_then (within_of lo hi a) (λ z. and_then (within_of lo hi b) (λ z. and_then (within_of lo hi c) (λ z. Ok (K.Resolution (b.number - origin) c.next)))))
      (judged lo hi (omega arith) a i f r (is_positive j ∷ is_positive l ∷ []) (b.place ∷ c.place ∷ [])
      (λ x. and_then (within_of lo hi b) (λ z. and_then (within_of lo hi c) (λ z. Ok (K.Resolution (b.number - origin) c.next))))
      (judged lo hi (omega arith) b j g r (is_positive l ∷ []) (c.place ∷ []) (λ x. and_then (within_of lo hi c) (λ z. Ok (K.Resolution (x - origin) c.next)))
      (judged lo hi (omega arith) c l h r [] [] (λ x. r) refl))) s))

  -- `f`
  mount_is : draft_of at (closed (number_named (λ n m. just (mount n m)) (integers 1 k (drop (at + k) s)))) ≡ mount_at s at (at + k)
  unfolding mount_at
  mount_is =
      one_due at s k (λ y r. draft_of at (closed (number_named (λ n m. just (mount n m)) y)) ≡ r) (rw add-zero)
      (λ a.
      and_then (name_due at s a.next) (λ n.
      and_then (within_of origin (origin + 255) a) (λ z. and_then (name_fits at n) (λ z. Ok (K.Mount (a.number - origin) n.place n.len n.next)))))
      (λ a m y g b.
      let i : ℕ = a.next in
      let j : ℕ = moved m in
      let p : ℕ = name_from s i in
      let q : ℕ = clear_to s i in
      let e : ℕ = name_to s i in
      let c : Command = K.Mount (j - origin) p (e - p) e in
      rw b.are
      (named_is s at b.end i b.to b.places (a.place ∷ []) b.from (mount j) (λ n. refl) (omega arith)
      (λ n. and_then (within_of origin (origin + 255) a) (λ z. and_then (name_fits at n) (λ z. Ok (K.Mount (a.number - origin) n.place n.len n.next))))
      (rw (take_is s p e (string_ends s p q e refl refl))
      (judged origin (origin + 255) (omega arith) a j g (and_then (clear_or (leb e q) at) (λ z. Ok c)) (leb (e - p) name_most ∷ []) (p ∷ [])
      (λ x. and_then (name_fits at (name_at p q e)) (λ z. Ok (K.Mount (x - origin) p (e - p) e)))
      (fits_is at p q e c)))))

  -- ---- no argument, and a text

  alone_is : (a : Act) → is_clear (name_of a) ≡ true → limits a ≡ []
      → draft_of at (closed (draft (just a) [] [] 0 k (drop (at + k) s))) ≡ and_then (ended_at s at (at + k)) (λ z. Ok (act_of (at + 0) (at + k) a))
  alone_is a c l = closed_is at a true c [] [] 0 k (at + k) refl (rw l (omega arith)) refl (Ok (act_of (at + 0) (at + k) a)) (rw l) s

  raw_is : draft_of at (rawly (k + spacer (drop (at + k) s)) (unspaced (drop (at + k) s))) ≡ raw_at s (at + k)
  unfolding text_at
  raw_is =
      let p : ℕ = run_end is_space s (at + k) in
      let j : ℕ = k + spacer (drop (at + k) s) in
      let z : at + j ≡ p = start_is s at k (at + k) refl [] [] refl device in
      let r : List ℕ = drop p s in
      let y : at + (j + raw_length r) ≡ p + raw_length r = omega (arith, z) in
      rw (unspaced_at s (at + k))
      (draft_is at (raw (raw_text r)) true refl (j ∷ []) (p ∷ []) 0 (j + raw_length r) (p + raw_length r) (rw z) (omega arith) y (raw_at s (at + k))
      (answered_more (Ok (K.Raw (p + raw_length r))) (leb (length (raw_text r)) 4096) [] p []) (drop (raw_length r) r))

-- ---- by the letter, the word ending k bytes behind the command's first

module _ (b : ℕ) (s : List ℕ) (at k : ℕ) where
  -- the controls that change nothing
  number_is : (c : Plain) (lo hi : ℕ) → hi < 200000000 → ((n : ℕ) → plain_limits c (n ∷ []) ≡ within lo hi n ∷ []) → eqb b (plain_letter c) ≡ true
      → control_by b s at (at + k) (L.Number lo hi) ≡ draft_of at (closed (with_all (plain c) (integers 1 k (drop (at + k) s))))
  number_is c lo hi u l e = rw (eqb-true b (plain_letter c) e) (sym (plain_is s at k c lo hi u l))

  bare_is : (c : Plain) → limits (plain c []) ≡ [] → eqb b (plain_letter c) ≡ true
      → control_by b s at (at + k) L.Bare ≡ draft_of at (closed (draft (just (plain c [])) [] [] 0 k (drop (at + k) s)))
  unfolding bare_at
  bare_is c l e = rw (eqb-true b (plain_letter c) e) (sym (alone_is s at k (plain c []) refl l))

  control_is : control_at b s at (at + k) ≡ draft_of at (control b k (drop (at + k) s))
  unfolding control integers control_at
  control_is =
      let f : Control → Result Command Refusal = λ c. control_by b s at (at + k) c in
      let g : Draft → Result Command Refusal = λ d. draft_of at d in
      if_alike f g (is "T" b) _ _ _ _ (λ e. sym (name_is device K.Device s at k (at + k) refl (λ n. refl) (λ n. refl) (λ p e n. refl))) (λ e.
      if_alike f g (is "r" b) _ _ _ _ (λ e. sym (resolution_is s at k)) (λ e.
      if_alike f g (is "i" b) _ _ _ _ (λ e. sym (alone_is s at k init refl refl)) (λ e.
      if_alike f g (is "F" b) _ _ _ _ (λ e. sym (name_is file K.File s at k (at + k) refl (λ n. refl) (λ n. refl) (λ p e n. refl))) (λ e.
      if_alike f g (is "f" b) _ _ _ _ (λ e. sym (mount_is s at k)) (λ e.
      if_alike f g (is "H" b) _ _ _ _ (number_is height 1 199999999 (omega arith) (λ n. refl)) (λ e.
      if_alike f g (is "S" b) _ _ _ _ (number_is slant 1 199999999 (omega arith) (λ n. refl)) (λ e.
      if_alike f g (is "p" b) _ _ _ _ (bare_is pause refl) (λ e.
      if_alike f g (is "t" b) _ _ _ _ (bare_is trailer refl) (λ e.
      if_alike f g (is "u" b) _ _ _ _ (number_is underline 100000000 100000001 (omega arith) (λ n. refl)) (λ e.
      if_alike f g (is "s" b) _ _ _ _ (λ e. sym (alone_is s at k stop refl refl)) (λ e.
      if_alike f g (is "X" b) _ _ _ _ (λ e. sym (raw_is s at k)) (λ e. rw add-zero))))))))))))

-- ---- by the word at i, which ends at j

white_is : (b : ℕ) → is_white b ≡ true → control_of b ≡ L.Unknown
white_is b h = on (is " " b) (λ e. rw (eqb-true b 32 e)) (λ e. on (is "\t" b) (λ f. rw (eqb-true b 9 f)) (λ f. on (is "\n" b) (λ g. rw (eqb-true b 10 g)) (λ g. no (rw (e, f, g) at h))))

module _ (s : List ℕ) (at i : ℕ) (p : i ≡ run_end is_space s (at + 1)) where
  word_none : length s ≤ i → letter_at 120 s at ≡ Err (refusal 3 at)
  unfolding letter_at letter
  word_none h = rw (unspaced_at s (at + 1), ← p, drop_of_length-le s h, add-zero)

  word_is : i < length s → (j : ℕ) → j ≡ run_end is_not_white s (i + 1) → letter_at 120 s at ≡ control_at (get_or s i 0) s at j
  unfolding letter_at letter run_end control_at
  word_is h j q =
      let b : ℕ = get_or s i 0 in
      let n : ℕ = string (drop (i + 1) s) in
      let k : ℕ = 1 + spacer (drop (at + 1) s) + 1 + n in
      let z : at + k ≡ j = omega (arith, p, q) in
      let y : i + 1 + n ≡ at + k = omega (arith, p) in
      let d : drop n (drop (i + 1) s) ≡ drop (at + k) s = drop-drop n (i + 1) s ∙ rw y in
      rw (unspaced_at s (at + 1), ← p, cons_at s i h, d, ← z)
      (on (is_white b)
      (λ w. rw (w, white_is b w, add-zero))
      (λ w. rw w (sym (control_is b s at k))))

  by_word : letter_at 120 s at ≡ (if ltb i (length s) then control_at (get_or s i 0) s at (run_end is_not_white s (i + 1)) else Err (refusal 3 at))
  by_word =
      on (ltb i (length s))
      (λ e. rw e (word_is (ltb-true i (length s) e) (run_end is_not_white s (i + 1)) refl))
      (λ e. rw e (word_none (ltb-false i (length s) e)))

pub letter_is : (s : List ℕ) (at : ℕ)
    → letter_at 120 s at ≡ (if ltb (run_end is_space s (at + 1)) (length s) then control_at (get_or s (run_end is_space s (at + 1)) 0) s at (run_end is_not_white s (run_end is_space s (at + 1) + 1)) else Err (refusal 3 at))
letter_is s at = by_word s at (run_end is_space s (at + 1)) refl
