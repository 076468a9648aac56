-- The records of a stream as finding sees them, read off its commands with no environment, in the code's own steps: one move.
use Rattle.std.specs.Prelude.{ℕ, ◌+◌, List, ltb, length, drop, get_or, Option, Some, None, Result, Ok, Err, if◌then◌else◌}
use Rattle.rules.specs.declared.Refusal.{Refusal}
use Rattle.rules.specs.Bytes.{origin, is, is_white, one_line}
use Rattle.scan_command.specs.declared.Command.{Command}
use Rattle.scan_command.specs.declared.Command.TheVariants as C
use Rattle.scan_command.specs.View.{command_at}
use Rattle.find_outline.specs.declared.Word.{Word}
use Rattle.find_outline.specs.declared.Outline.{Outline}
use Rattle.find_outline.specs.declared.Moved.{Moved}

-- no record stands there
abbrev pub passing : Outline → Moved
passing o = record { key = None; on = o }

-- between commands
abbrev pub standing : ℕ → ℕ → ℕ → Outline
standing at gap ordinal = record { at = at; word = None; gap = gap; ordinal = ordinal }

-- a record whose name stands at a place
abbrev pub naming : Outline → ℕ → ℕ → Outline → Moved
naming o place len on = record { key = Some (record { ordinal = o.ordinal; gap = o.gap; place = place; len = len }); on = on }

-- a word begins
abbrev pub in_word : Outline → ℕ → Word → Outline
in_word o at w = record { at = at; word = Some w; gap = o.gap; ordinal = o.ordinal }

-- one byte of a word
abbrev pub word_move : Outline → Word → Moved
word_move o w =
    naming o o.at 1 (if ltb (o.at + 1) w.end
    then record { at = o.at + 1; word = Some w; gap = 0; ordinal = o.ordinal }
    else standing w.next 0 o.ordinal)

-- `N`: a gap where its number is negative
abbrev pub index_move : Outline → ℕ → ℕ → Moved
index_move o k q = if ltb k origin then passing (standing q 1 o.ordinal) else naming o 0 0 (standing q 0 o.ordinal)

-- a command
abbrev pub command_move : Outline → Command → Moved
command_move o (C.Glyph p l q) = naming o p l (standing q 0 o.ordinal)
command_move o (C.Index k q) = index_move o k q
command_move o (C.Word t p r q) = passing (in_word o p (record { end = r; next = q }))
command_move o (C.Pair k p q) = naming o p 1 (standing q 0 o.ordinal)
command_move o (C.To x k q) = passing (standing q o.gap o.ordinal)
command_move o (C.By x k q) = passing (standing q o.gap o.ordinal)
command_move o (C.Page k q) = passing (standing q 1 (o.ordinal + 1))
command_move o (C.Font k q) = passing (standing q o.gap o.ordinal)
command_move o (C.Size k q) = passing (standing q o.gap o.ordinal)
command_move o (C.Colour x a b k d q) = passing (standing q o.gap o.ordinal)
command_move o (C.Break q) = passing (standing q 1 o.ordinal)
command_move o (C.Space q) = passing (standing q 1 o.ordinal)
command_move o (C.Draw b x y k q) = passing (standing q o.gap o.ordinal)
command_move o (C.Gray k q) = passing (standing q o.gap o.ordinal)
command_move o (C.Fill x a b k d q) = passing (standing q o.gap o.ordinal)
command_move o (C.Device p l q) = passing (standing q o.gap o.ordinal)
command_move o (C.Resolution k q) = passing (standing q o.gap o.ordinal)
command_move o (C.Init q) = passing (standing q o.gap o.ordinal)
command_move o (C.File p l q) = passing (standing q o.gap o.ordinal)
command_move o (C.Mount k p l q) = passing (standing q o.gap o.ordinal)
command_move o (C.Plain b q) = passing (standing q o.gap o.ordinal)
command_move o (C.Raw q) = passing (standing q o.gap o.ordinal)
command_move o (C.Stop q) = passing (standing q o.gap o.ordinal)

-- what was scanned in a stream of n bytes: behind a refusal nothing stands
abbrev pub scanned_move : ℕ → Outline → Result Command Refusal → Moved
scanned_move n o (Ok c) = command_move o c
scanned_move n o (Err r) = passing (standing n o.gap o.ordinal)

-- one byte of a word, whitespace, a comment or a command
abbrev pub move_in : List ℕ → Outline → Option Word → Moved
move_in s o (Some w) = word_move o w
move_in s o None =
    if is_white (get_or s o.at 0) then passing (standing (o.at + 1) o.gap o.ordinal) else
    if is "#" (get_or s o.at 0) then passing (standing (o.at + 1 + one_line (drop (o.at + 1) s)) o.gap o.ordinal) else
    scanned_move (length s) o (command_at s o.at)

unfoldable pub move_of : List ℕ → Outline → Moved
move_of s o = move_in s o o.word
