-- Integers that stand in the stream, written one by one.
use Rattle.std.specs.Prelude.{Some, None}
use Prim.Native.Nat.{ℕ, suc, ◌+◌, ◌-◌, ◌≤◌, ◌<◌}
use native.Mathlib.Omega.{arith}
use mathlib.Core.List.{List}
use mathlib.Core.Path.{◌≡◌, refl, sym, ap, ◌∙◌}
use Rattle.scan_arguments.specs.declared.Argument.{Argument}
use Rattle.scan_arguments.specs.At.{one_at}
use Rattle.respell_model.specs.Sheet.{Sheet, put_all}
use Rattle.respell_model.specs.Lines.{signed_arg, args_from}
use Rattle.respell_model.proofs.Sheets.{put_all-append}
use Rattle.respell_bytes.proofs.Putting.{sheet}

-- c of n integers from a place on are written, and the next begins at i

pub record Args (s : List ℕ) (from n : ℕ) (o₀ : List ℕ) (at : ℕ) (o : List ℕ) (x i c : ℕ) : Type 0 where
  pub whole : put_all (args_from n s from) (sheet o₀ at) ≡ put_all (args_from (n - c) s i) (sheet o x)

pub args-start : (s : List ℕ) (from n : ℕ) (o : List ℕ) (at : ℕ) → Args s from n o at o at from 0
args-start s from n o at = record { whole = ap (λ (k : ℕ). put_all (args_from k s from) (sheet o at)) (omega arith) }

args_none : (s : List ℕ) (i : ℕ) (x : Sheet) → put_all (args_from 0 s i) x ≡ x
unfolding put_all args_from
args_none s i x = refl

args_absent : (s : List ℕ) (i k : ℕ) (x : Sheet) → one_at s i ≡ None → put_all (args_from (suc k) s i) x ≡ x
unfolding put_all args_from
args_absent s i k x e = rw e

args_read : (s : List ℕ) (i k : ℕ) (a : Argument) (x : Sheet) → one_at s i ≡ Some a → put_all (args_from (suc k) s i) x ≡ put_all (args_from k s a.next) (put_all (signed_arg a.number) x)
unfolding args_from
args_read s i k a x e = rw e (put_all-append (signed_arg a.number) (args_from k s a.next) x)

module _ (s : List ℕ) (from n : ℕ) (o₀ : List ℕ) (at : ℕ) (o : List ℕ) (x i c : ℕ) (v : Args s from n o₀ at o x i c) where
  one_more : c < n → put_all (args_from (n - c) s i) (sheet o x) ≡ put_all (args_from (suc (n - (c + 1))) s i) (sheet o x)
  one_more h = ap (λ (k : ℕ). put_all (args_from k s i) (sheet o x)) (omega arith)

  pub args_stop : c < n → one_at s i ≡ None → sheet o x ≡ put_all (args_from n s from) (sheet o₀ at)
  args_stop h e = sym (v.whole ∙ one_more h ∙ args_absent s i (n - (c + 1)) (sheet o x) e)

  pub args_more : (a : Argument) (p : List ℕ) (r : ℕ) → c < n → one_at s i ≡ Some a → sheet p r ≡ put_all (signed_arg a.number) (sheet o x) → Args s from n o₀ at p r a.next (c + 1)
  args_more a p r h e g = record {
    whole = v.whole ∙ one_more h ∙ args_read s i (n - (c + 1)) a (sheet o x) e ∙ ap (put_all (args_from (n - (c + 1)) s a.next)) (sym g);
  }

  pub args_over : n ≤ c → sheet o x ≡ put_all (args_from n s from) (sheet o₀ at)
  args_over h =
      let e : n - c ≡ 0 = omega arith in
      sym (v.whole ∙ ap (λ (k : ℕ). put_all (args_from k s i) (sheet o x)) e ∙ args_none s i (sheet o x))

pub ruleset arguments = (args-start, args_stop, args_more, args_over)
