-- The answers as flat numbers, for C.
use Rattle.std.specs.Prelude.{ℕ, [], ◌∷◌, pos, Result, Ok, Err}
use Rattle.rules.specs.declared.Colour.{Colour}
use Rattle.rules.specs.declared.Refusal.{Refusal}
use Rattle.rules.specs.declared.Reading.{Reading}
use Rattle.rules.specs.declared.Finding.{Finding}
use Rattle.rules.specs.declared.Judging.{Judging}
use Rattle.rules.specs.declared.NamePart.{NamePart}
use Rattle.rules.specs.declared.NamePart.TheVariants as N
use Rattle.capi_answers.specs.declared.ReadResult.{ReadResult}
use Rattle.capi_answers.specs.declared.FindResult.{FindResult}
use Rattle.capi_answers.specs.declared.RespellResult.{RespellResult}
use Rattle.capi_answers.specs.declared.JudgeResult.{JudgeResult}
use Rattle.capi_answers.specs.declared.FirstNameResult.{FirstNameResult}

-- the default scheme, `d`, with four zeros
abbrev pub default_colour : Colour
default_colour = record { scheme = 100; parts = 0 ∷ 0 ∷ 0 ∷ 0 ∷ [] }

-- refusal is 0 where nothing is refused; all else is 0 where it has no meaning, and a colour the default scheme (house)
abbrev pub flat_reading : Result Reading Refusal → ReadResult
flat_reading (Ok r) = record { offset = 0; records = r.records; entries = r.entries; refusal = 0; pages = r.pages; h = r.h; v = r.v; glyph = r.glyph; fill = r.fill }
flat_reading (Err r) = record { offset = r.offset; records = 0; entries = 0; refusal = r.number; pages = 0; h = pos 0; v = pos 0; glyph = default_colour; fill = default_colour }

abbrev pub flat_finding : Result Finding Refusal → FindResult
flat_finding (Ok f) = record { offset = 0; records = f.records; hits = f.hits; refusal = 0 }
flat_finding (Err r) = record { offset = r.offset; records = 0; hits = 0; refusal = r.number }

abbrev pub flat_respelling : Result ℕ Refusal → RespellResult
flat_respelling (Ok len) = record { offset = 0; len = len; refusal = 0 }
flat_respelling (Err r) = record { offset = r.offset; len = 0; refusal = r.number }

abbrev pub flat_judging : Result Judging Refusal → JudgeResult
flat_judging (Ok j) = record { offset = 0; records = j.records; entries = j.entries; spelling = j.spelling; refusal = 0; pages = j.pages }
flat_judging (Err r) = record { offset = r.offset; records = 0; entries = 0; spelling = 0; refusal = r.number; pages = 0 }

-- source is 0 for the empty part, 1 for a part of the stream, 2 for one of the family list
abbrev pub flat_part : NamePart → FirstNameResult
flat_part N.Nowhere = record { place = 0; len = 0; source = 0 }
flat_part (N.InStream place len) = record { place = place; len = len; source = 1 }
flat_part (N.InFamilies place len) = record { place = place; len = len; source = 2 }
