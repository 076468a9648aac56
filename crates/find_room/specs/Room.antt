-- Whether the hits have room, in the code's own steps.
use Rattle.std.specs.Prelude.{ℕ, Bool, ◌&&◌, List, map, ltb, eqb, length, Result, Ok, Err, if◌then◌else◌}
use Rattle.rules.specs.declared.Refusal.{Refusal}
use Rattle.rules.specs.Find.{hits_from}
use Rattle.rules.specs.Answers.{refusal}
use Rattle.read_model.specs.declared.State.{State}
use Rattle.find_match.specs.declared.Question.{Question}
use Rattle.find_match.specs.Match.{key_in, glyphs_of}
use Rattle.find_outline.specs.Move.{standing}
use Rattle.find_keys.specs.Keys.{keys_at}

-- how many hits there are, as the outline tells
abbrev pub hits_counted : List ℕ → Question → ℕ
hits_counted s w = length (hits_from (glyphs_of w) 0 (map (key_in s) (keys_at s (standing 0 0 0))))

-- more hits than room, where the judging pass ended well at b and the room is smaller than the number of records
abbrev pub too_many : List ℕ → Question → State → ℕ → Bool
too_many s w b hmax = eqb b.refusal 0 && (eqb b.env.phase 4 && (ltb hmax b.records && ltb hmax (hits_counted s w)))

abbrev pub room_of : List ℕ → Question → State → ℕ → Result Unit Refusal
room_of s w b hmax = if too_many s w b hmax then Err (refusal 13 0) else Ok tt
