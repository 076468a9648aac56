-- What the parts of the commands that draw glyphs answer, at places of the whole stream.
use Rattle.std.specs.Prelude.{ℕ, List, leb, drop, get_or, Option, Some, None, Result, Ok, Err, if◌then◌else◌}
use Rattle.rules.specs.Bytes.{is_space, is_not_white}
use Rattle.rules.specs.Letters.{white_next}
use Rattle.rules.specs.declared.Refusal.{Refusal}
use Rattle.rules.specs.Answers.{refusal, and_then}
use Rattle.scan_command.specs.declared.Command.{Command}
use Rattle.scan_command.specs.declared.Command.TheVariants.{Word}
use Rattle.scan_lex.specs.At.{run_end, is_name_byte}
use Rattle.scan_arguments.specs.At.{near_of, perhaps_at}
use Rattle.scan_arguments.specs.declared.Argument.{Argument}
use Rattle.scan_close.specs.Closed.{clear_or}

-- no glyph's byte stands at p: whitespace or the end, or a barred byte
abbrev pub no_glyph : ℕ → List ℕ → ℕ → Refusal
no_glyph at s p = if white_next (drop p s) then refusal 4 at else refusal 16 at

-- where a glyph's byte stands, perhaps behind a spacer
abbrev pub glyph_of : ℕ → List ℕ → ℕ → Result ℕ Refusal
glyph_of at s p = if is_name_byte (get_or s p 0) then Ok p else Err (no_glyph at s p)

abbrev pub glyph_at : ℕ → List ℕ → ℕ → Result ℕ Refusal
glyph_at at s i = glyph_of at s (run_end is_space s i)

-- the dummy behind a word, which is followed by whitespace or the end
abbrev pub followed : ℕ → List ℕ → Option Argument → Result (Option Argument) Refusal
followed at s None = Ok None
followed at s (Some d) = if white_next (drop d.next s) then Ok (Some d) else Err (refusal 4 at)

abbrev pub dummy_at : ℕ → List ℕ → ℕ → Result (Option Argument) Refusal
dummy_at at s e = and_then (perhaps_at at s e) (followed at s)

-- its limit, and where it ends: at e where there is none
abbrev pub dummy_near : Option Argument → Result Unit Refusal
dummy_near None = Ok tt
dummy_near (Some d) = near_of d

abbrev pub dummy_end : ℕ → Option Argument → ℕ
dummy_end e None = e
dummy_end e (Some d) = d.next

-- the word from p to e, whose bytes up to q are those of a name, with its number
abbrev pub word_with : ℕ → ℕ → ℕ → ℕ → Argument → Option Argument → Result Command Refusal
word_with at p q e track d =
    and_then (near_of track) (λ x. and_then (dummy_near d) (λ y. and_then (clear_or (leb e q) at) (λ z. Ok (Word track.number p e (dummy_end e d)))))

abbrev pub word_to : ℕ → List ℕ → ℕ → ℕ → ℕ → Argument → Result Command Refusal
word_to at s p q e track = if leb e p then Err (refusal 4 at) else and_then (dummy_at at s e) (word_with at p q e track)

-- the word from p on, whose bytes up to q are those of a name
abbrev pub word_from : ℕ → List ℕ → ℕ → ℕ → Argument → Result Command Refusal
word_from at s p q track = word_to at s p q (run_end is_not_white s q) track
