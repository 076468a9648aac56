-- Places of a width list and of a query, said of their bytes (document 01, "Refusal numbers and their order", 2 and 12): the "start of
-- its first wrong line"; of a family list (2026-01, 14). And which `font` lines a sound list may go on with.
use Rattle.std.specs.Prelude.{ℕ, ◌+◌, ◌<◌, List, [], ◌∷◌, ◌++◌, ◌⊎◌, ◌≡◌, length, take, drop}
use Rattle.rules.specs.Bytes.{bytes, one_line}
use Rattle.rules.specs.Widths.{Font, Widths, unsound, sound, width_list}
use Rattle.rules.specs.Families.{Family, ill_grouped, grouped, family_list}
use Rattle.rules.specs.Find.{Wanted, ill_formed, well_formed, query}
use Rattle.laws_find.specs.Written.{gap_line, GoodName}
use Rattle.laws_offsets.specs.Stream.{byte_at}
use Rattle.laws_offsets.specs.Groups.{NoNewline, same_text}

-- where a line starts: at the first byte, or behind a newline
pub data LineStart (t : List ℕ) : ℕ → Type 0 where
  first_line : LineStart t 0
  behind_newline : (at : ℕ) → at < length t → byte_at t at ≡ 10 → LineStart t (at + 1)

-- the place of the newline of the line that starts at a place, or the length where it has none
abbrev pub line_end : List ℕ → ℕ → ℕ
line_end t at = at + one_line (drop at t)

-- ---- 2: "width list; start of its first wrong line (one without a newline is wrong), or its length where a line is missing at the end"

-- Nothing before the place is wrong: what stands there is sound, or it lacks a line at its own end.
abbrev pub RightTo : List ℕ → ℕ → Type 0
RightTo list at = ((w : Widths) × (width_list (take at list) ≡ sound w)) ⊎ (width_list (take at list) ≡ unsound at)

-- What is wrong at the place: a line without a newline; a line that is wrong whatever stands behind it; or it is the end, and the list is
-- not sound, but would be with one line more.
pub data WrongAt (list : List ℕ) (at : ℕ) : Type 0 where
  unended : at < length list → line_end list at ≡ length list → WrongAt list at
  wrong_line_lem : line_end list at < length list → ((m : List ℕ) → width_list (take (line_end list at + 1) list ++ m) ≡ unsound at) → WrongAt list at
  missing : at ≡ length list → ((v : Widths) → width_list list ≡ sound v → ⊥) → (t : List ℕ) (w : Widths) → one_line t ≡ length t → width_list (list ++ (t ++ 10 ∷ [])) ≡ sound w → WrongAt list at

pub record ListOffset (list : List ℕ) (at : ℕ) : Type 0 where
  pub line : LineStart list at
  pub before : RightTo list at
  -- "its first wrong line": an empty line in its place would be the first wrong one too
  pub first : (m : List ℕ) → width_list (take at list ++ 10 ∷ m) ≡ unsound at
  pub here : WrongAt list at

-- ---- `font=NAME`: "Font names are strings of 1 to 64 bytes and differ", "up to 32 blocks"; by 2026-06 none has a barred byte

abbrev pub font_text : List ℕ → List ℕ
font_text name = bytes "font=" ++ (name ++ bytes "\n")

abbrev pub NewName : List ℕ → List Font → Type 0
NewName n [] = Unit {0}
NewName n (f ∷ fs) = (f.name ≡ n → ⊥) × NewName n fs

-- what a further block asks of its name
pub record MayOpen (n : List ℕ) (fs : List Font) : Type 0 where
  pub good : GoodName n
  pub few : length fs < 32
  pub new : NewName n fs

abbrev pub with_block : List ℕ → Widths → Widths
with_block n w = record { unitwidth = w.unitwidth; fonts = record { name = n; widths = [] } ∷ w.fonts }

-- Behind a sound list the line of such a name is right, and opens a block; that of any other name is the first wrong line, whatever
-- stands behind it.
pub record FontLines : Type 0 where
  pub given : (list : List ℕ) (w : Widths) (n : List ℕ) → width_list list ≡ sound w → MayOpen n w.fonts → width_list (list ++ font_text n) ≡ sound (with_block n w)
  pub only : (list : List ℕ) (w : Widths) (n m : List ℕ) → width_list list ≡ sound w → NoNewline n → (MayOpen n w.fonts → ⊥) → width_list (list ++ (font_text n ++ m)) ≡ unsound (length list)

-- ---- 14, 2026-01: "a wrong list is refused as 14, offset of its first wrong line or its length where a line is missing at the end"
-- (which lists are sound, and which lines a sound list may go on with: `Groups.antt`)

-- Nothing before the place is wrong: what stands there is sound, or it lacks a line at its own end.
abbrev pub GroupedTo : List ℕ → ℕ → Type 0
GroupedTo fl at = ((fs : List Family) × (family_list (take at fl) ≡ grouped fs)) ⊎ (family_list (take at fl) ≡ ill_grouped at)

-- What is wrong at the place: a line without a newline; a line that is wrong whatever stands behind it; or it is the end, and the list is
-- not sound, but would be with one `same` line more.
pub data GroupedWrongAt (fl : List ℕ) (at : ℕ) : Type 0 where
  unended_family : at < length fl → line_end fl at ≡ length fl → GroupedWrongAt fl at
  wrong_family : line_end fl at < length fl → ((m : List ℕ) → family_list (take (line_end fl at + 1) fl ++ m) ≡ ill_grouped at) → GroupedWrongAt fl at
  missing_same : at ≡ length fl → ((gs : List Family) → family_list fl ≡ grouped gs → ⊥) → (n : List ℕ) (fs : List Family) → GoodName n → family_list (fl ++ same_text n) ≡ grouped fs
      → GroupedWrongAt fl at

pub record FamilyOffset (fl : List ℕ) (at : ℕ) : Type 0 where
  pub line : LineStart fl at
  pub before : GroupedTo fl at
  -- "its first wrong line": an empty line in its place would be the first wrong one too
  pub first : (m : List ℕ) → family_list (take at fl ++ 10 ∷ m) ≡ ill_grouped at
  pub here : GroupedWrongAt fl at

-- ---- 12: "query; start of its first wrong line (a last gap line is that line), 0 if empty"

-- Nothing before the place is wrong: there is nothing; or what stands there is well formed, with perhaps a gap line behind it.
pub data AskedTo (q : List ℕ) (at : ℕ) : Type 0 where
  nothing : at ≡ 0 → AskedTo q at
  glyphs : (qs : List Wanted) → query (take at q) ≡ well_formed qs → AskedTo q at
  gap_behind : (p : ℕ) (qs : List Wanted) → query (take p q) ≡ well_formed qs → take at q ≡ take p q ++ gap_line → AskedTo q at

-- What is wrong at the place: the query is empty; a line without a newline; a line that is wrong whatever stands behind it; or a gap
-- line that is the last line, behind what is well formed.
pub data AskedWrongAt (q : List ℕ) (at : ℕ) : Type 0 where
  empty : q ≡ [] → at ≡ 0 → AskedWrongAt q at
  unended_line : at < length q → line_end q at ≡ length q → AskedWrongAt q at
  wrong_asked : line_end q at < length q → ((m : List ℕ) → query (take (line_end q at + 1) q ++ m) ≡ ill_formed at) → AskedWrongAt q at
  last_gap : drop at q ≡ gap_line → (qs : List Wanted) → query (take at q) ≡ well_formed qs → AskedWrongAt q at

pub record QueryOffset (q : List ℕ) (at : ℕ) : Type 0 where
  pub line : LineStart q at
  pub before : AskedTo q at
  -- an empty line in its place would be the first wrong one too
  pub first : (m : List ℕ) → query (take at q ++ 10 ∷ m) ≡ ill_formed at
  pub here : AskedWrongAt q at
