-- What is answered of the family list and the query, and what their table and the row of glyphs then hold.
use Rattle.std.specs.Prelude.{ℕ, ◌≤◌, Bool, true, false, ◌||◌, List, map, take, ◌≡◌, length, Result, Ok, Err, if◌then◌else◌}
use Rattle.rules.specs.declared.Refusal.{Refusal}
use Rattle.rules.specs.Families.{Family, FamilyList, ill_grouped, grouped, family_list}
use Rattle.rules.specs.Find.{Wanted as RulesWanted, sought, Query, ill_formed, well_formed, query}
use Rattle.rules.specs.Answers.{is_over, refusal}
use Rattle.name.specs.Part.{part_of}
use Rattle.query_line.specs.Kinds.{gap_asked}
use Rattle.query.specs.declared.Wanted.{Wanted}
use Rattle.families_table.specs.declared.Table.{Table}
use Rattle.find_match.specs.declared.Sought.{Sought}
use Rattle.find_match.specs.Match.{sought_by}

-- a glyph line, as the rules read it
abbrev pub wanted_by : List ℕ → Wanted → RulesWanted
wanted_by q w = record { gap = gap_asked w.gap; name = part_of q w.place w.len }

-- the row begins with the glyphs of the query, with the families of their names: "1 to 64 glyph lines"
pub record Holds (fs : List Family) (q : List ℕ) (qs : List RulesWanted) (fl : List ℕ) (tab : Table) (gl : List Sought) : Type 0 where
  pub all : map (sought_by q fl tab) (take (length qs) gl) ≡ map (sought fs) qs
  pub some : 1 ≤ length qs
  pub few : length qs ≤ 64

-- refusal 12, or how many glyphs there are
abbrev pub AsksWith : List Family → List ℕ → List ℕ → Table → Result ℕ Refusal → List Sought → Query → Type 0
AsksWith fs q fl tab x gl (ill_formed at) = x ≡ Err (refusal 12 at)
AsksWith fs q fl tab x gl (well_formed qs) = (x ≡ Ok (length qs)) × Holds fs q qs fl tab gl

-- refusal 14
abbrev pub AsksIn : List ℕ → List ℕ → Result ℕ Refusal → Table → List Sought → FamilyList → Type 0
AsksIn q fl x tab gl (ill_grouped at) = x ≡ Err (refusal 14 at)
AsksIn q fl x tab gl (grouped fs) = AsksWith fs q fl tab x gl (query q)

-- "query over 8,192" is 1; so is a family list "over 65,536 bytes"
abbrev pub sizes_of : List ℕ → List ℕ → Result Unit Refusal
sizes_of fl q = if is_over 65_536 fl || is_over 8_192 q then Err (refusal 1 0) else Ok tt

abbrev pub AsksOr : Bool → List ℕ → List ℕ → Result ℕ Refusal → Table → List Sought → Type 0
AsksOr true fl q x tab gl = x ≡ Err (refusal 1 0)
AsksOr false fl q x tab gl = AsksIn q fl x tab gl (family_list fl)

abbrev pub AsksFor : List ℕ → List ℕ → Result ℕ Refusal → Table → List Sought → Type 0
AsksFor fl q x tab gl = AsksOr (is_over 65_536 fl || is_over 8_192 q) fl q x tab gl
