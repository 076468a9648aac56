-- What the scanner of the text of `x X` answers, at places of the whole list.
use Rattle.std.specs.Prelude.{ℕ, ◌+◌, List, [], ◌∷◌, leb, length, drop, Option, Some, None, Result, Ok, if◌then◌else◌}
use Rattle.rules.specs.declared.Refusal.{Refusal}
use Rattle.rules.specs.Answers.{and_then}
use Rattle.rules.specs.Bytes.{is, is_space}
use Rattle.rules.specs.Controls.{raw_text, raw_length}
use Rattle.scan_command.specs.declared.Command.{Command}
use Rattle.scan_command.specs.declared.Command.TheVariants as K
use Rattle.scan_lex.specs.At.{run_end}
use Rattle.scan_close.specs.Closed.{within_or}
use Rattle.scan_raw.specs.declared.Text.{Text}

-- how many bytes the next byte of the text takes, where it does not end
abbrev pub text_step_of : List ℕ → Option ℕ
text_step_of [] = None
text_step_of (b ∷ []) = if is "\n" b then None else Some 1
text_step_of (b ∷ c ∷ r) = if is "\n" b then (if is "+" c then Some 2 else None) else Some 1

unfoldable pub step_at : List ℕ → ℕ → Option ℕ
step_at s i = text_step_of (drop i s)

unfoldable pub text_at : List ℕ → ℕ → Text
text_at s at = record { len = length (raw_text (drop at s)); next = at + raw_length (drop at s) }

abbrev pub raw_by : ℕ → Text → Result Command Refusal
raw_by p t = and_then (within_or (leb t.len 4096) p) (λ z. Ok (K.Raw t.next))

abbrev pub raw_at : List ℕ → ℕ → Result Command Refusal
raw_at s i = raw_by (run_end is_space s i) (text_at s (run_end is_space s i))
