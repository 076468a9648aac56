-- One command, written: what is known where it begins, and what a word asks.
use Rattle.std.specs.Prelude.{Result, IsOk, IsSome}
use Prim.Native.Nat.{ℕ, ◌-◌, ◌<◌}
use native.Mathlib.Omega.{arith}
use mathlib.Core.List.{List}
use mathlib.Core.Path.{◌≡◌, sym, subst, ◌∙◌}
use Rattle.rules.specs.declared.Refusal.{Refusal}
use Rattle.laws.proofs.Cases.{on, no}
use Rattle.scan_command.specs.declared.Command.{Command}
use Rattle.scan_command.specs.declared.Command.TheVariants as C
use Rattle.read_model.specs.declared.Environment.{Environment}
use Rattle.read_model.specs.declared.Did.{Did}
use Rattle.read_model.specs.declared.State.{State}
use Rattle.read_model.specs.Environment.{on_page, on_page_or}
use Rattle.read_model.specs.Words.{word_end, word_on}
use Rattle.read_model.specs.Turns.{block_now, did_at}
use Rattle.read_model.specs.Fits.{CommandIn}
use Rattle.read_environment.specs.Bounds.{Fits}
use Rattle.read_word.specs.Bounds.{Tracked}
use Rattle.read_environment.proofs.Answers.{fits_here}
use Rattle.read_word.proofs.Spelling.{word_place, done_ends}
use Rattle.read_turn.specs.Ready.{Ready}
use Rattle.respell_model.specs.declared.Manner.{Manner}
use Rattle.respell_model.specs.declared.Manner.TheVariants as M
use Rattle.respell_model.specs.Command.{manner_of, word_for}

-- ---- a word's command

record IsWord (c : Command) (t p q : ℕ) : Type 0 where
  next : ℕ
  is : c ≡ C.Word t p q next

is_word : (t p q : ℕ) (c : Command) → manner_of c ≡ M.Lettered t p q → IsWord c t p q
is_word t p q (C.Glyph a b n) e = cc
is_word t p q (C.Index a n) e = cc
is_word t p q (C.Word a b d n) e = record { next = n; is = cc }
is_word t p q (C.Pair a b n) e = cc
is_word t p q (C.To a b n) e = cc
is_word t p q (C.By a b n) e = cc
is_word t p q (C.Page a n) e = cc
is_word t p q (C.Font a n) e = cc
is_word t p q (C.Size a n) e = cc
is_word t p q (C.Colour k a b d x n) e = cc
is_word t p q (C.Break n) e = cc
is_word t p q (C.Space n) e = cc
is_word t p q (C.Draw b x y k n) e = cc
is_word t p q (C.Gray a n) e = cc
is_word t p q (C.Fill k a b d x n) e = cc
is_word t p q (C.Device a b n) e = cc
is_word t p q (C.Resolution a n) e = cc
is_word t p q (C.Init n) e = cc
is_word t p q (C.File a b n) e = cc
is_word t p q (C.Mount a b d n) e = cc
is_word t p q (C.Plain a n) e = cc
is_word t p q (C.Raw n) e = cc
is_word t p q (C.Stop n) e = cc

page_done : (e : Environment) (at : ℕ) (x : Result Did Refusal) → IsOk (on_page_or e at x) → IsOk x
page_done e at x r = on (on_page e) (λ a. rw a at r) (λ a. no (rw a at r))

module _ (n : ℕ) (st : State) (y : Ready n st) where
  pub ready_here : st.at < n
  ready_here = omega (arith, y.some, y.ends)

  pub ready_fits : Fits st.env
  ready_fits = fits_here st.at n st.env y.fits ready_here y.most

  module _ (c : Command) (i : CommandIn st.at n c) (k : Manner) (t p q : ℕ) (e : k ≡ manner_of c) (f : k ≡ M.Lettered t p q) where
    pub word_tracked : Tracked t p q
    word_tracked =
        let w : IsWord c t p q = is_word t p q c (sym e ∙ f) in
        word_place st.at n c i y.most t p q w.next w.is

module _ (s ws : List ℕ) (st : State) (c : Command) (k : Manner) (t p q : ℕ) (e : k ≡ manner_of c) (f : k ≡ M.Lettered t p q) where
  pub word_ends : IsOk (did_at s ws st.unitwidth st.env st.at c) → IsSome (word_end (q - p) s ws (word_for ws st.unitwidth st.env t p q))
  word_ends r =
      let x : IsWord c t p q = is_word t p q c (sym e ∙ f) in
      let d : IsOk (did_at s ws st.unitwidth st.env st.at (C.Word t p q x.next)) = subst (λ (j : Command). IsOk (did_at s ws st.unitwidth st.env st.at j)) x.is r in
      done_ends s ws st.env st.at st.unitwidth t (q - p) p (block_now ws st.env)
      (page_done st.env st.at (word_on s ws st.env st.at st.unitwidth t (q - p) p (block_now ws st.env)) d)

pub ruleset spelling = (ready_here, ready_fits, word_tracked, word_ends)
