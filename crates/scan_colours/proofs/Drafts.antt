-- A draft of the command at a place, closed and judged: what is answered of it at places of the stream.
use Rattle.std.specs.Prelude.{Result, Ok, Err}
use Prim.Native.Nat.{ℕ, ◌+◌, ◌≤◌, ◌<◌}
use native.Mathlib.Nat.{add-zero}
use mathlib.Core.Bool.{Bool}
use mathlib.Core.List.{List, [], ◌∷◌, ◌++◌, map, append-nil}
use mathlib.Core.Path.{◌≡◌, refl, ◌∙◌}
use lib.ListN.{length, drop}
use Rattle.rules.specs.declared.Refusal.{Refusal}
use Rattle.rules.specs.Answers.{and_then}
use Rattle.rules.specs.Bytes.{within, is_clear, Num}
use Rattle.rules.specs.Act.{Act, just}
use Rattle.rules.specs.Letters.{draft}
use Rattle.rules.specs.Drawing.{line_ends, closed}
use Rattle.rules.specs.Scan.{limits, name_of, is_small, outside}
use Rattle.laws.proofs.Cases.{on}
use Rattle.scan_command.specs.View.{act_of, draft_of}
use Rattle.scan_command.specs.declared.Command.{Command}
use Rattle.scan_lex.specs.At.{breaks_at}
use Rattle.scan_integer.specs.At.{cut}
use Rattle.scan_arguments.specs.At.{within_of}
use Rattle.scan_arguments.specs.declared.Argument.{Argument}
use Rattle.scan_close.specs.Closed.{clear_or, ended_at}
use Rattle.scan_close.proofs.Places.{answered, judged_at, cleared_at, within-cut, within_uncut}

-- one step behind the other
pub then_then : {A B C : Type 0} (r : Result A Refusal) (f : A → Result B Refusal) (g : B → Result C Refusal) → and_then (and_then r f) g ≡ and_then r (λ x. and_then (f x) g)
then_then (Ok x) f g = refl
then_then (Err e) f g = refl

module _ (at : ℕ) where
  -- an act, and numbers js that are ignored; its arguments and they begin at ks, counted from the command, and at ps in the stream; its name,
  -- which is b: clear or not, begins at a, it ends at l and e; r is what is answered
  module _ (f : Act) (b : Bool) (c : is_clear (name_of f) ≡ b) (js : List Num) (ks ps : List ℕ) (a l e : ℕ) (p : map (λ (k : ℕ). at + k) ks ≡ ps) (h : length (limits f ++ map is_small js) ≤ length ps) (z : at + l ≡ e) (r : Result Command Refusal) (x : answered (and_then (clear_or b at) (λ z. Ok (act_of (at + a) e f))) (outside (limits f ++ map is_small js) ps) ≡ r) where
    pub draft_by : (t : List ℕ) → draft_of at (draft (just f) js ks a l t) ≡ r
    draft_by t = judged_at at (just f) a l (limits f ++ map is_small js) ks ps p h ∙ rw (cleared_at at (just f) a l b c, z) x

    -- the same, closed
    pub closed_by : (s : List ℕ) → draft_of at (closed (draft (just f) js ks a l (drop e s))) ≡ and_then (ended_at s at e) (λ z. r)
    unfolding breaks_at
    closed_by s = on (line_ends (drop e s)) (λ t. rw t (draft_by (drop e s))) (λ t. rw (t, add-zero))

  -- where no number is ignored
  module _ (f : Act) (b : Bool) (c : is_clear (name_of f) ≡ b) (ks ps : List ℕ) (a l e : ℕ) (p : map (λ (k : ℕ). at + k) ks ≡ ps) (h : length (limits f) ≤ length ps) (z : at + l ≡ e) (r : Result Command Refusal) (x : answered (and_then (clear_or b at) (λ z. Ok (act_of (at + a) e f))) (outside (limits f) ps) ≡ r) where
    pub draft_is : (t : List ℕ) → draft_of at (draft (just f) [] ks a l t) ≡ r
    draft_is = draft_by f b c [] ks ps a l e p (rw (append-nil (limits f)) h) z r (rw (append-nil (limits f)) x)

    pub closed_is : (s : List ℕ) → draft_of at (closed (draft (just f) [] ks a l (drop e s))) ≡ and_then (ended_at s at e) (λ z. r)
    closed_is = closed_by f b c [] ks ps a l e p (rw (append-nil (limits f)) h) z r (rw (append-nil (limits f)) x)

-- an argument is judged before those behind it: what is answered where it is within its limit, by its number
pub judged : (lo hi : ℕ) → hi < 200000000 → (a : Argument) (m : ℕ) → a.number ≡ cut m → (c : Result Command Refusal) (bs : List Bool) (ps : List ℕ) (f : ℕ → Result Command Refusal)
    → answered c (outside bs ps) ≡ f m → answered c (outside (within lo hi m ∷ bs) (a.place ∷ ps)) ≡ and_then (within_of lo hi a) (λ z. f a.number)
judged lo hi h a m g c bs ps f e = rw (g, within-cut lo hi m h) (on (within lo hi m) (λ w. rw (w, within_uncut lo hi m h w) e) (λ w. rw w))
