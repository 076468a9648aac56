-- Commands of one integer, of two that are ignored, and of none, by what their arguments are.
use Rattle.std.specs.Prelude.{Ok}
use Prim.Native.Nat.{ℕ, ◌+◌, ◌-◌}
use native.Mathlib.Omega.{arith}
use native.Mathlib.Nat.{add-zero}
use mathlib.Core.List.{List, [], ◌∷◌}
use mathlib.Core.Path.{◌≡◌, refl, ◌∙◌}
use lib.ListN.{drop}
use Rattle.rules.specs.Bytes.{origin}
use Rattle.rules.specs.Act.{Act, across, down, break, just}
use Rattle.rules.specs.Letters.{draft, ignoring}
use Rattle.rules.specs.Scan.{letter, is_small}
use Rattle.rules.specs.Answers.{and_then}
use Rattle.laws.proofs.Cases.{on}
use Rattle.scan_command.specs.View.{draft_of, letter_at}
use Rattle.scan_command.specs.declared.Axis.{Axis}
use Rattle.scan_command.specs.declared.Axis.TheVariants.{Across, Down}
use Rattle.scan_command.specs.declared.Command.TheVariants.{To, By, Page, Font, Size, Break, Space}
use Rattle.scan_arguments.specs.At.{due_at, near_of}
use Rattle.scan_close.specs.Closed.{argument_at}
use Rattle.scan_close.proofs.Places.{two_due, judged_at, cut_small}
use Rattle.scan_close.proofs.Arguments.{one_is}
use Rattle.scan_motions.specs.Letters.{to_letter, by_letter}

module _ (s : List ℕ) (at : ℕ) where
  -- ---- one integer: `H` `V` `h` `v` `p` `f` `s`

  pub to_is : (x : Axis) → letter_at (to_letter x) s at ≡ and_then (argument_at 1 199999999 s at) (λ a. Ok (To x a.number a.next))
  unfolding letter
  to_is Across = one_is s at 72 (Act.to across) 1 199999999 (record { reads = λ r. refl; limit = λ n. refl; nameless = λ n. refl; below = omega arith })
  to_is Down = one_is s at 86 (Act.to down) 1 199999999 (record { reads = λ r. refl; limit = λ n. refl; nameless = λ n. refl; below = omega arith })

  pub by_is : (x : Axis) → letter_at (by_letter x) s at ≡ and_then (argument_at 1 199999999 s at) (λ a. Ok (By x a.number a.next))
  unfolding letter
  by_is Across = one_is s at 104 (Act.by across) 1 199999999 (record { reads = λ r. refl; limit = λ n. refl; nameless = λ n. refl; below = omega arith })
  by_is Down = one_is s at 118 (Act.by down) 1 199999999 (record { reads = λ r. refl; limit = λ n. refl; nameless = λ n. refl; below = omega arith })

  pub page_is : letter_at 112 s at ≡ and_then (argument_at 1 199999999 s at) (λ a. Ok (Page a.number a.next))
  unfolding letter
  page_is = one_is s at 112 Act.page 1 199999999 (record { reads = λ r. refl; limit = λ n. refl; nameless = λ n. refl; below = omega arith })

  pub font_is : letter_at 102 s at ≡ and_then (argument_at 100000000 100000255 s at) (λ a. Ok (Font (a.number - origin) a.next))
  unfolding letter
  font_is = one_is s at 102 Act.font 100000000 100000255 (record { reads = λ r. refl; limit = λ n. refl; nameless = λ n. refl; below = omega arith })

  pub size_is : letter_at 115 s at ≡ and_then (argument_at 100000001 199999999 s at) (λ a. Ok (Size (a.number - origin) a.next))
  unfolding letter
  size_is = one_is s at 115 Act.size 100000001 199999999 (record { reads = λ r. refl; limit = λ n. refl; nameless = λ n. refl; below = omega arith })

  -- ---- two integers that are ignored: `n`

  pub break_is : letter_at 110 s at ≡ and_then (due_at at s (at + 1)) (λ a. and_then (due_at at s a.next) (λ b. and_then (near_of a) (λ y. and_then (near_of b) (λ z. Ok (Break b.next)))))
  unfolding letter_at letter
  break_is =
      two_due at s 1 (λ x r. draft_of at (ignoring (draft (just break) [] [] 0 1 (drop (at + 1) s)) x) ≡ r) (rw add-zero) (λ a b. and_then (near_of a) (λ y. and_then (near_of b) (λ z. Ok (Break b.next))))
      (λ a b m n x g h d.
      rw (d.are, g, h, cut_small m, cut_small n)
      (judged_at at (just break) 0 d.end (is_small m ∷ is_small n ∷ []) d.places (a.place ∷ b.place ∷ []) d.from (omega arith)
      ∙ rw d.to (on (is_small m) (λ v. rw v (on (is_small n) (λ w. rw w) (λ w. rw w))) (λ v. rw v))))

  -- ---- `w`

  pub space_is : letter_at 119 s at ≡ Ok (Space (at + 1))
  unfolding letter_at letter
  space_is = refl
