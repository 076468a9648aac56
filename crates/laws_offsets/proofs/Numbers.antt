-- The numbers with which a command is refused: 3 to 6 and 16 as it is written, 7 behind `x s`.
use Prim.Native.Nat.{ℕ}
use native.Mathlib.Omega.{arith}
use mathlib.Core.Bool.{true, false}
use mathlib.Core.List.{List, [], ◌∷◌, ◌++◌, map}
use mathlib.Core.Option.{Option, none, some}
use mathlib.Core.Logic.{◌⊎◌, inl, inr}
use mathlib.Core.Path.{◌≡◌, refl}
use borrow.Author.Tests.{eqb-true}
use Rattle.rules.specs.Act.{across, Act, glyph, index, to, by, page, font, size, colour, break, space, draw, device, resolution, init, file, mount, plain, raw, stop, Cmd, just, word, pair}
use Rattle.rules.specs.Letters.{Draft, fault, draft}
use Rattle.rules.specs.Scan.{letter, cmd_limits, is_small, outside, judged_by, judged, command, Scan, got, bad}
use Rattle.rules.specs.Widths.{Widths}
use Rattle.rules.specs.State.{Env, refused, on_page, due, act, run, Acts, no_acts, these, ready, word_in, acts, perform, in_body, stopped}
use Rattle.laws.proofs.Clear.{cleared_both}
use Rattle.laws_read.proofs.Numbers.{FromTo}
use Rattle.laws_scan.proofs.Faults.{FaultIn, letter-fault}

-- ---- one command: 3, 4 or 5 by its letter, 6, and 16

abbrev pub ScanIn : Scan → Type 0
ScanIn (bad n k) = FromTo 3 6 n ⊎ (n ≡ 16)
ScanIn (got c a l) = Unit {0}

judged_in : (x : Draft) → FaultIn x → ScanIn (judged x)
judged_in (fault n) h = inl (omega (arith, h))
judged_in (draft c ds ks a l t) h = go (outside (cmd_limits c ++ map is_small ds) ks)
  where
    go : (o : Option ℕ) → ScanIn (judged_by c a l o)
    go none = cleared_both ScanIn c a l tt (inr refl)
    go (some k) = inl (omega arith)

pub command_in : (b : ℕ) (r : List ℕ) → ScanIn (command b r)
command_in b r = judged_in (letter b r) (letter-fault b r)

-- ---- behind `x s`: 7, whatever stands there

module _ (e : Env) (h : stopped e ≡ true) where
  phase_4 : e.phase ≡ 4
  phase_4 = eqb-true e.phase 4 h

  no_body : in_body e ≡ false
  no_body = rw phase_4

  no_page : on_page e ≡ false
  no_page = rw no_body

  never_due : (a : Act) → due e a ≡ false
  never_due (glyph n) = no_page
  never_due (index n) = no_page
  never_due (to x n) = no_page
  never_due (by x n) = no_page
  never_due (page n) = no_body
  never_due (font n) = no_body
  never_due (size n) = no_body
  never_due (colour c ns) = no_body
  never_due break = no_body
  never_due space = no_body
  never_due (draw s ns) = no_page
  never_due (device n) = rw phase_4
  never_due (resolution n k v) = rw phase_4
  never_due init = rw phase_4
  never_due (file n) = no_body
  never_due (mount n m) = no_body
  never_due (plain c ns) = no_body
  never_due (raw t) = no_body
  never_due stop = no_body

  not-ready : (go : ℕ → Acts) (o : Option ℕ) → ready e go o ≡ no_acts 7
  not-ready go none = rw no_page
  not-ready go (some f) = rw no_page

  pub stopped_7 : (w : Widths) (c : Cmd) → perform e (acts w e c) ≡ refused 7
  unfolding run act
  stopped_7 w (just a) = rw (never_due a)
  stopped_7 w (word n bs) = rw (not-ready (word_in w e n bs) e.font)
  stopped_7 w (pair n b) = rw (not-ready (λ f. these (by across n ∷ glyph (b ∷ []) ∷ [])) e.font)
