-- The department's demands, each sentence over the statement that says it. They are about calls: `ReadCall`, `RespellCall` and `FindCall`
-- (`rules`, Calls.antt) are the contracts of the reader, the rewriter and the finder, `NamePartCall` and `FirstNameCall` those of the first
-- name for a record (2026-01). All is proved (proofs/).
--
-- s is a stream, list a width list, fl a family list (2026-01), q a query; rs, es and hs are the lent rows of records, entries and record
-- numbers, o is the lent buffer; r is the answer, and what the rows and the buffer hold afterwards has a prime.
use Rattle.std.specs.Prelude.{ℕ, ◌+◌, ◌*◌, ◌-◌, ◌<◌, ◌≤◌, Bool, true, false, List, [], ◌∷◌, ◌++◌, map, ◌⊎◌, ◌≡◌, ℤ, length, take, drop, Result, Ok, Err, IsOk, if◌then◌else◌}
use Rattle.rules.specs.declared.Record.{Record}
use Rattle.rules.specs.declared.Entry.{Entry}
use Rattle.rules.specs.declared.Refusal.{Refusal}
use Rattle.rules.specs.declared.Reading.{Reading}
use Rattle.rules.specs.declared.Finding.{Finding}
use Rattle.rules.specs.declared.Judging.{Judging}
use Rattle.rules.specs.declared.NamePart.{NamePart}
use Rattle.rules.specs.declared.NamePart.TheVariants as N
use Rattle.rules.specs.Bytes.{bytes, origin}
use Rattle.rules.specs.Act.{Axis, across, down, Act, glyph, index, to, by, page, font, size, device, resolution, init, stop, Cmd, just, word, pair}
use Rattle.rules.specs.Scan.{got, bad, command}
use Rattle.rules.specs.Widths.{Widths, sound, width_list}
use Rattle.rules.specs.State.{Env, Glyph, Item, went, start, steps, stopped}
use Rattle.rules.specs.Record.{shown, letters_of, colour_of}
use Rattle.rules.specs.House.{signed_decimal, spelling, spell_all}
use Rattle.rules.specs.Families.{Family, grouped, family_list}
use Rattle.rules.specs.Find.{Wanted, Key}
use Rattle.rules.specs.Answers.{refusal, found_in, finding_of, records_found, hits_over}
use Rattle.rules.specs.Calls.{ReadCall, RespellCall, FindCall, JudgeCall, NamePartCall, FirstNameCall}
use Rattle.laws.specs.Barred.{Barred, NoBarred, SomeBarred}
use Rattle.laws_arguments.specs.Names.{named_bytes, RefusesBarred}
use Rattle.laws_read.specs.Outline.{signs_of, outline, keys_from}
use Rattle.laws_read.specs.Kept.{all_kept}
use Rattle.laws_read.specs.Spots.{spots_of}
use Rattle.laws_scan.specs.Texts.{Spacer, NoDigit, IntegersAsWritten, LineBreaks, IgnoredInLimit}
use Rattle.laws_find.specs.Occurs.{Has, Match, OccursAt, Elem, Rising}
use Rattle.laws_find.specs.Written.{White, NoWhite, GoodName, written, GoodQuery}
use Rattle.laws_motion.specs.Motions.{InLimit, NumberTexts, Motions, Refusal10, Advances, Words}
use Rattle.laws_motion.specs.Records.{Recorded, letters, is_some, Entered, Settings, AnswerHolds}
use Rattle.laws_motion.specs.Runs.{InEveryRun, InEveryList}
use Rattle.laws_motion.specs.Needs.{Phases, Reasons}
use Rattle.laws_offsets.specs.Frame.{NoFraming}
use Rattle.laws_offsets.specs.Groups.{NoNewline, FamilyTexts, FamilyLines}
use Rattle.laws_offsets.specs.Lists.{FontLines, FamilyOffset}
use Rattle.laws_offsets.specs.Offsets.{ReadOffset, FindOffset, OrRoom, Said}
use Rattle.laws_answers.specs.Old.{old_find, OldOccursAt}
use Rattle.laws_house.specs.Lines.{HouseText}
use Rattle.laws_needed.specs.Statement.{OnlyWhereItDiffers}

-- ---- the words

-- "a sound width list": at most 65,536 bytes, every line right; w is what it says
pub record SoundList (list : List ℕ) (w : Widths) : Type 0 where
  pub short : length list ≤ 65_536
  pub says : width_list list ≡ sound w

-- 2026-01, "a sound family list": at most 65,536 bytes, every line right; fs are its families (which lists are so, and how they are written:
-- `FamilyLists`)
pub record SoundFamilies (fl : List ℕ) (fs : List Family) : Type 0 where
  pub short : length fl ≤ 65_536
  pub says : family_list fl ≡ grouped fs

-- "a wrong or too long family list": wrong at a place (`FamilyOffset`: `laws_offsets`, Lists.antt)
abbrev pub UnsoundFamilies : List ℕ → Type 0
UnsoundFamilies fl = (65_536 < length fl) ⊎ ((at : ℕ) × FamilyOffset fl at)

-- f is one of these families
abbrev pub FamilyIn : Family → List Family → Type 0
FamilyIn f [] = ⊥
FamilyIn f (g ∷ fs) = (f ≡ g) ⊎ FamilyIn f fs

-- "Space, tab and newline are whitespace" (`White`: `laws_find`, Written.antt). "A spacer is any run, perhaps empty, of spaces and tabs."
-- (`Spacer`: `laws_scan`, Texts.antt). "End of input counts as a line break."
abbrev pub LineBreak : List ℕ → Type 0
LineBreak [] = Unit {0}
LineBreak (b ∷ t) = b ≡ 10

-- the bytes are these commands, each written as 01 has it, within its limits and (2026-06) with no barred byte in a name, with whitespace
-- and comments before, between and behind them: "`#`, where a command or a line break could stand, starts a comment up to the newline"
pub data ConsistsOf : List ℕ → List Cmd → Type 0 where
  ended : ConsistsOf [] []
  white : (b : ℕ) (r : List ℕ) (cs : List Cmd) → White b → ConsistsOf r cs → ConsistsOf (b ∷ r) cs
  comment : (k r : List ℕ) (cs : List Cmd) → NoNewline k → LineBreak r → ConsistsOf r cs → ConsistsOf (35 ∷ (k ++ r)) cs
  one : (b : ℕ) (r : List ℕ) (c : Cmd) (name len : ℕ) (cs : List Cmd) → (White b → ⊥) → (b ≡ 35 → ⊥)
      → command b r ≡ got c name len → ConsistsOf (drop (len - 1) r) cs → ConsistsOf (b ∷ r) (c ∷ cs)

-- "groff_out(5), as 01 fixes it, allows it": at most 16,777,216 bytes of commands, each of which may be performed where it stands, the
-- last of them `x s` (`Framed`); they come to these glyphs, drawings and controls, and end in this environment
pub record Allowed (s : List ℕ) (w : Widths) (end : Env) (gs : List Glyph) (xs : List Item) : Type 0 where
  pub short : length s ≤ 16_777_216
  pub commands : List Cmd
  pub consists : ConsistsOf s commands
  pub performed : steps w start commands ≡ went end gs xs
  pub ended : stopped end ≡ true

-- "a stream accepted with its width list", and its glyphs
pub record Accepted (s list : List ℕ) (gs : List Glyph) : Type 0 where
  pub widths : Widths
  pub list_sound : SoundList list widths
  pub end : Env
  pub items : List Item
  pub allowed : Allowed s widths end gs items

-- what a record says, its name by the bytes that stand in the stream at its place, and their number; and what a glyph has of it
pub record SeenGlyph : Type 0 where
  pub ordinal : ℕ
  pub page : ℤ
  pub h : ℤ
  pub v : ℤ
  pub font : ℕ
  pub size : ℕ
  pub name : List ℕ
  pub len : ℕ
  pub index : ℕ
  pub gap : ℕ

abbrev pub recorded : List ℕ → Record → SeenGlyph
recorded s r = record { ordinal = r.ordinal; page = r.page; h = r.h; v = r.v; font = r.font; size = r.size; name = take r.len (drop r.place s); len = r.len; index = r.index; gap = r.gap }

abbrev pub set : Glyph → SeenGlyph
set g = record { ordinal = g.ordinal; page = shown g.number; h = shown g.spot.h; v = shown g.spot.v; font = g.font; size = g.size; name = g.name; len = length g.name; index = g.index; gap = g.gap }

-- what an entry says, its place and length in the stream aside (`EntriesInPlace`); and what a drawing or control has of it
pub record SeenEntry : Type 0 where
  pub command : ℕ
  pub letter : ℕ
  pub scheme : ℕ
  pub ordinal : ℕ
  pub h : ℤ
  pub v : ℤ

abbrev pub entered : Entry → SeenEntry
entered e = record { command = e.command; letter = e.letter; scheme = e.scheme; ordinal = e.ordinal; h = e.h; v = e.v }

abbrev pub drawn : Item → SeenEntry
drawn x = record {
  command = (letters_of x.act).command;
  letter = (letters_of x.act).letter;
  scheme = (letters_of x.act).scheme;
  ordinal = x.ordinal;
  h = shown x.spot.h;
  v = shown x.spot.v;
}

-- ==== 1

-- "Any bytes, lists and lent rows get an answer." One answer each, and one content of each row and buffer; their lengths stay.
pub record Answer : Type 0 where
  pub reader : (s list : List ℕ) (rs : List Record) (es : List Entry) → (r : Result Reading Refusal) × (rs' : List Record) × (es' : List Entry) × ReadCall s list rs es r rs' es'
  pub reader_one : (s list : List ℕ) (rs : List Record) (es : List Entry) (r r₂ : Result Reading Refusal) (rs' rs₂' : List Record) (es' es₂' : List Entry)
      → ReadCall s list rs es r rs' es' → ReadCall s list rs es r₂ rs₂' es₂' → (r ≡ r₂) × (rs' ≡ rs₂') × (es' ≡ es₂')
  pub reader_lengths : (s list : List ℕ) (rs : List Record) (es : List Entry) (r : Result Reading Refusal) (rs' : List Record) (es' : List Entry)
      → ReadCall s list rs es r rs' es' → (length rs' ≡ length rs) × (length es' ≡ length es)
  pub rewriter : (s list o : List ℕ) → (r : Result ℕ Refusal) × (o' : List ℕ) × RespellCall s list o r o'
  pub rewriter_one : (s list o : List ℕ) (r r₂ : Result ℕ Refusal) (o' o₂' : List ℕ) → RespellCall s list o r o' → RespellCall s list o r₂ o₂' → (r ≡ r₂) × (o' ≡ o₂')
  pub rewriter_length : (s list o : List ℕ) (r : Result ℕ Refusal) (o' : List ℕ) → RespellCall s list o r o' → length o' ≡ length o
  pub finder : (s list fl q : List ℕ) (rs : List Record) (hs : List ℕ) → (r : Result Finding Refusal) × (rs' : List Record) × (hs' : List ℕ) × FindCall s list fl q rs hs r rs' hs'
  pub finder_one : (s list fl q : List ℕ) (rs : List Record) (hs : List ℕ) (r r₂ : Result Finding Refusal) (rs' rs₂' : List Record) (hs' hs₂' : List ℕ)
      → FindCall s list fl q rs hs r rs' hs' → FindCall s list fl q rs hs r₂ rs₂' hs₂' → (r ≡ r₂) × (rs' ≡ rs₂') × (hs' ≡ hs₂')
  pub finder_lengths : (s list fl q : List ℕ) (rs : List Record) (hs : List ℕ) (r : Result Finding Refusal) (rs' : List Record) (hs' : List ℕ)
      → FindCall s list fl q rs hs r rs' hs' → (length rs' ≡ length rs) × (length hs' ≡ length hs)

-- "The reader, rewriter and finder each accept, or refuse with a number and an offset from the table in 01." (An answer is the one or the
-- other by its type.) `ReadOffset` and `FindOffset` are the table's rows: each number with its reason (of 3 to 10, that the command at fault
-- is refused so: see `OutsideAt`, `laws_arguments`, for 6 and `As01Gives` for 7 to 10; of 16, `BarredIn`, `laws_arguments`) and what stands at
-- its offset, where no earlier reason is there; 13 at 0 for want of room; `Said` has the offsets by numbers (`laws_offsets`). 12 and 14
-- (2026-01: "a wrong list is refused as 14, offset of its first wrong line or its length where a line is missing at the end") are the
-- finder's alone: the reader and the rewriter have no query and no family list, so empty ones stand in their `Said`.
pub record Refuse : Type 0 where
  pub reader : (s list : List ℕ) (rs : List Record) (es : List Entry) (rs' : List Record) (es' : List Entry) (number at : ℕ)
      → ReadCall s list rs es (Err (refusal number at)) rs' es' → OrRoom (ReadOffset s list) number at × Said s list [] [] number at × (number ≡ 12 → ⊥) × (number ≡ 14 → ⊥)
  pub rewriter : (s list o : List ℕ) (o' : List ℕ) (number at : ℕ) → RespellCall s list o (Err (refusal number at)) o'
      → OrRoom (ReadOffset s list) number at × Said s list [] [] number at × (number ≡ 12 → ⊥) × (number ≡ 14 → ⊥)
  pub finder : (s list fl q : List ℕ) (rs : List Record) (hs : List ℕ) (rs' : List Record) (hs' : List ℕ) (number at : ℕ)
      → FindCall s list fl q rs hs (Err (refusal number at)) rs' hs' → OrRoom (FindOffset s list fl q) number at × Said s list fl q number at

-- 01: "Each is given exactly for its reason." "Order: 1, 2, 12, then the stream from its start; at one command the smallest number. 13
-- comes last, when all else passed." 2026-01: 14 is "checked after 2 and before 12; over 65,536 bytes it is 1". The other way: where a row
-- of the table is there, that number and offset are answered, whatever is lent. At one command (`Fault`, `laws_offsets`) that is one of 3
-- to 5 as it is scanned, which of them the rules say (`Scan.command`); 6 where it is complete and an argument is outside its limit
-- (`OutsideAt`, `laws_arguments`); 16 where all are in their limits and a byte of a name is barred (2026-06: "tested after 6 and before
-- 7"; `BarredIn`, `laws_arguments`); else one of 7 to 10 as it is performed, the smallest that has its reason (`As01Gives`); and 7 behind
-- `x s`. For 13 see `NoRoom`.
pub record RefuseExactly : Type 0 where
  pub reader : (s list : List ℕ) (rs : List Record) (es : List Entry) (r : Result Reading Refusal) (rs' : List Record) (es' : List Entry) (number at : ℕ)
      → ReadCall s list rs es r rs' es' → ReadOffset s list number at → r ≡ Err (refusal number at)
  pub rewriter : (s list o : List ℕ) (r : Result ℕ Refusal) (o' : List ℕ) (number at : ℕ)
      → RespellCall s list o r o' → ReadOffset s list number at → r ≡ Err (refusal number at)
  pub finder : (s list fl q : List ℕ) (rs : List Record) (hs : List ℕ) (r : Result Finding Refusal) (rs' : List Record) (hs' : List ℕ) (number at : ℕ)
      → FindCall s list fl q rs hs r rs' hs' → FindOffset s list fl q number at → r ≡ Err (refusal number at)

-- "A refusal leaves every row and buffer holding what it held before."
pub record LeaveAlone : Type 0 where
  pub reader : (s list : List ℕ) (rs : List Record) (es : List Entry) (rs' : List Record) (es' : List Entry) (number at : ℕ)
      → ReadCall s list rs es (Err (refusal number at)) rs' es' → (rs' ≡ rs) × (es' ≡ es)
  pub rewriter : (s list o : List ℕ) (o' : List ℕ) (number at : ℕ) → RespellCall s list o (Err (refusal number at)) o' → o' ≡ o
  pub finder : (s list fl q : List ℕ) (rs : List Record) (hs : List ℕ) (rs' : List Record) (hs' : List ℕ) (number at : ℕ)
      → FindCall s list fl q rs hs (Err (refusal number at)) rs' hs' → (rs' ≡ rs) × (hs' ≡ hs)

-- ==== 2

-- "With a sound width list and rows large enough, a stream is accepted exactly when groff_out(5), as 01 fixes it, allows it." Large enough
-- are "rows with a place for each record and .. entry".
pub record AcceptExactly : Type 0 where
  pub where_allowed : (s list : List ℕ) (rs : List Record) (es : List Entry) (r : Result Reading Refusal) (rs' : List Record) (es' : List Entry) (w : Widths) (end : Env) (gs : List Glyph) (xs : List Item)
      → ReadCall s list rs es r rs' es' → SoundList list w → length gs ≤ length rs → length xs ≤ length es
      → Allowed s w end gs xs → IsOk r
  pub only_where_allowed : (s list : List ℕ) (rs : List Record) (es : List Entry) (r : Result Reading Refusal) (rs' : List Record) (es' : List Entry)
      → ReadCall s list rs es r rs' es' → IsOk r
      → (w : Widths) × (end : Env) × (gs : List Glyph) × (xs : List Item) × SoundList list w × Allowed s w end gs xs × (length gs ≤ length rs) × (length xs ≤ length es)

-- 2026-06: "Refuse any byte 0 to 8, 11 to 31 or 127 in a name or a glyph, also in a `t` or `u` word, as 16. .. Demand 2 reads "exactly when"
-- with this rule added." `Allowed` goes by commands that were scanned; one that is complete and in its limits is scanned where no byte of
-- its names is barred, and is else refused as 16 (`RefusesBarred`, `named_bytes`: `laws_arguments`, Names.antt). So no name, glyph or word of an
-- allowed stream has such a byte, and no record's name.
abbrev pub EachClear : List Cmd → Type 0
EachClear [] = Unit {0}
EachClear (c ∷ cs) = NoBarred (named_bytes c []) × EachClear cs

abbrev pub EachNameClear : List Glyph → Type 0
EachNameClear [] = Unit {0}
EachNameClear (g ∷ gs) = NoBarred g.name × EachNameClear gs

-- Glyphs and words with a barred byte, by their bytes, each form as in `FiveForms` (below): all are 16, at the command.
pub record BarredForms : Type 0 where
  pub by_c : (k : List ℕ) (b : ℕ) (t : List ℕ) → Spacer k → Barred b → command 99 (k ++ b ∷ t) ≡ bad 16 0
  pub by_C : (k n t : List ℕ) → Spacer k → NoWhite n → length n ≤ 64 → SomeBarred n → LineBreak t → command 67 (k ++ (n ++ t)) ≡ bad 16 0
  pub by_t : (k bs t : List ℕ) → Spacer k → NoWhite bs → SomeBarred bs → LineBreak t → command 116 (k ++ (bs ++ t)) ≡ bad 16 0
  pub by_u : (k : List ℕ) (n c : ℕ) (l bs t : List ℕ) → Spacer k → InLimit (shown n) → Spacer (c ∷ l) → NoWhite bs → SomeBarred bs → LineBreak t
      → command 117 (k ++ (signed_decimal n ++ (c ∷ l ++ (bs ++ t)))) ≡ bad 16 0
  pub by_digits : (d e : ℕ) (k l : List ℕ) (b : ℕ) (t : List ℕ) → d ≤ 9 → e ≤ 9 → Spacer k → Spacer l → Barred b → command (48 + d) (k ++ (48 + e) ∷ (l ++ b ∷ t)) ≡ bad 16 0

pub record NamesClear : Type 0 where
  pub rule : RefusesBarred
  pub forms : BarredForms
  pub allowed : (s : List ℕ) (w : Widths) (end : Env) (gs : List Glyph) (xs : List Item) (a : Allowed s w end gs xs) → EachClear a.commands
  pub records : (s : List ℕ) (w : Widths) (end : Env) (gs : List Glyph) (xs : List Item) → Allowed s w end gs xs → EachNameClear gs
  -- "In the three lists the old numbers 2, 12 and 14 are given for such a byte in a name": in a width list (`laws_offsets`, Lists.antt; the fonts
  -- of a sound list: `InEveryList`); the query's are in `WellFormed`, those of a family list in `FamilyLists` (`lines`)
  pub lists : FontLines

-- 01: "Prologue: `x T`, `x r`, `x i`, in that order, nothing before or between but whitespace and comments. `x s` ends the stream; behind it
-- only whitespace and comments." The commands of every allowed stream are these, and none of the four is among cs (`NoFraming`:
-- `laws_offsets`, Frame.antt).
abbrev pub Framed : Type 0
Framed = (s : List ℕ) (w : Widths) (end : Env) (gs : List Glyph) (xs : List Item) (a : Allowed s w end gs xs)
    → (n : List ℕ) × (i h v : ℕ) × (cs : List Cmd) × (a.commands ≡ just (device n) ∷ just (resolution i h v) ∷ just init ∷ (cs ++ just stop ∷ [])) × NoFraming cs

-- "Each glyph is then recorded once, in order, with the name, page, place, font and size 01 gives it." Each drawing and control is entered
-- once, in order. Where names stand in the stream is said in `NamesInPlace`; where entries do, and their lengths, in `EntriesInPlace`. The
-- answer tells how many of each, the pages, the end position and both colours; and what lies behind them is kept.
pub record RecordedAll (s : List ℕ) (end : Env) (gs : List Glyph) (xs : List Item) (rs : List Record) (es : List Entry) (r : Result Reading Refusal) (rs' : List Record) (es' : List Entry) : Type 0 where
  pub glyphs : map (recorded s) (take (length gs) rs') ≡ map set gs
  pub drawings_and_controls : map entered (take (length xs) es') ≡ map drawn xs
  pub answer : r ≡ Ok (record {
    records = length gs;
    entries = length xs;
    pages = end.ordinal;
    h = shown end.spot.h;
    v = shown end.spot.v;
    glyph = colour_of end.glyph_paint;
    fill = colour_of end.fill_paint;
  })
  pub records_behind : drop (length gs) rs' ≡ drop (length gs) rs
  pub entries_behind : drop (length xs) es' ≡ drop (length xs) es

abbrev pub RecordEach : Type 0
RecordEach = (s list : List ℕ) (rs : List Record) (es : List Entry) (r : Result Reading Refusal) (rs' : List Record) (es' : List Entry) (w : Widths) (end : Env) (gs : List Glyph) (xs : List Item)
    → ReadCall s list rs es r rs' es' → SoundList list w → length gs ≤ length rs → length xs ≤ length es → Allowed s w end gs xs → RecordedAll s end gs xs rs es r rs' es'

-- "name (its place and length in the stream)": the place is in the very command that set the glyph. These names stand one behind the other
-- from a on; "an `N` name has place 0".
abbrev pub stand_from : ℕ → List (List ℕ) → List ℕ
stand_from a [] = []
stand_from a ([] ∷ ns) = 0 ∷ stand_from a ns
stand_from a ((b ∷ n) ∷ ns) = a ∷ stand_from (a + length (b ∷ n)) ns

-- the names of the glyphs of a command
abbrev pub names_of : Cmd → List (List ℕ)
names_of c = map (λ (k : Key). k.name) (keys_from 0 0 (signs_of c))

-- where the names of a stream stand, its first byte being at a place
unfoldable pub name_places : (s : List ℕ) (cs : List Cmd) → ConsistsOf s cs → ℕ → List ℕ
name_places s cs ended at = []
name_places s cs (white b r cs' h c) at = name_places r cs' c (at + 1)
name_places s cs (comment k r cs' n h c) at = name_places r cs' c (at + 1 + length k)
name_places s cs (one b r d name len cs' w h e c) at = stand_from (at + name) (names_of d) ++ name_places (drop (len - 1) r) cs' c (at + len)

abbrev pub NamesInPlace : Type 0
NamesInPlace = (s list : List ℕ) (rs : List Record) (es : List Entry) (r : Result Reading Refusal) (rs' : List Record) (es' : List Entry) (w : Widths) (end : Env) (gs : List Glyph) (xs : List Item)
    → ReadCall s list rs es r rs' es' → SoundList list w → length gs ≤ length rs → length xs ≤ length es → (a : Allowed s w end gs xs)
    → map (λ (k : Record). k.place) (take (length gs) rs') ≡ name_places s a.commands a.consists 0

-- "one entry for each `D` or `x` command: .. place and length in the stream from first byte to last argument byte (no argument: to the end
-- of its letters or word; `x X`: to its last line's end, newline aside)": that many bytes from a place on are the command.
pub record Stretch : Type 0 where
  pub place : ℕ
  pub len : ℕ

abbrev pub stretch : Entry → Stretch
stretch e = record { place = e.place; len = e.len }

-- whether a command is entered: `letters` has the letters of every `D` and `x`, and none for any other (`laws_motion`, Records.antt)
abbrev pub is_entered : Cmd → Bool
is_entered (just a) = is_some (bytes (letters a))
is_entered (word n ps) = false
is_entered (pair n b) = false

-- where the `D` and `x` commands of a stream stand, its first byte being at a place
unfoldable pub entry_places : (s : List ℕ) (cs : List Cmd) → ConsistsOf s cs → ℕ → List Stretch
entry_places s cs ended at = []
entry_places s cs (white b r cs' h c) at = entry_places r cs' c (at + 1)
entry_places s cs (comment k r cs' n h c) at = entry_places r cs' c (at + 1 + length k)
entry_places s cs (one b r d name len cs' w h e c) at = (if is_entered d then record { place = at; len = len } ∷ [] else []) ++ entry_places (drop (len - 1) r) cs' c (at + len)

abbrev pub EntriesInPlace : Type 0
EntriesInPlace = (s list : List ℕ) (rs : List Record) (es : List Entry) (r : Result Reading Refusal) (rs' : List Record) (es' : List Entry) (w : Widths) (end : Env) (gs : List Glyph) (xs : List Item)
    → ReadCall s list rs es r rs' es' → SoundList list w → length gs ≤ length rs → length xs ≤ length es → (a : Allowed s w end gs xs)
    → map stretch (take (length xs) es') ≡ entry_places s a.commands a.consists 0

-- "the name, page, place, font and size 01 gives it": what each command does is what 01 says, in integers (`laws_motion`: Motions.antt,
-- Records.antt and Needs.antt have 01's tables once more, as 02 has changed them, apart from the rules that `Allowed` goes by)
pub record As01Gives : Type 0 where
  -- numbers; motions and where they are refused; the advance; words and two digits; and that all this holds in every run
  pub numbers : NumberTexts
  pub motions : Motions
  pub refusal_10 : Refusal10
  pub advances : Advances
  pub words : Words
  pub in_every_run : InEveryRun
  pub in_every_list : InEveryList
  -- "Each is given exactly for its reason", "at one command the smallest number": refusals 7 to 10 of every command; and how far the
  -- prologue has come
  pub reasons : Reasons
  pub phases : Phases
  -- which commands make a record or an entry, and what these hold; page, font and size; the answer
  pub records : Recorded
  pub entries : Entered
  pub settings : Settings
  pub answer : AnswerHolds

-- 01, texts by their bytes, apart from the rules that scan them (`laws_scan`, Texts.antt)
pub record AsWritten01 : Type 0 where
  -- "An integer is an optional `-` and at least one digit, leading zeros allowed; it ends at the next non-digit. .. A `+` is no sign." Both
  -- ways: what is read is so written, and what is so written is read. (`-0`: `NumberTexts`)
  pub integers : IntegersAsWritten
  -- "`D` and its letter need a line break, perhaps after a comment, behind the last argument." "The line-break rule of `D` holds, except
  -- for `X`."
  pub line_breaks : LineBreaks
  -- "Its magnitude is at most 99,999,999" binds the numbers of `n` and every dummy too
  pub ignored : IgnoredInLimit

-- How commands of one number are written: "`H` `h` `V` `v` n: h = n, h + n, v = n, v + n", `N` n, `p` n, `f` n and `s` n. Behind the letter
-- stand a spacer k and the number n (moved up, as all are in the rules) as the house writes it; "it ends at the next non-digit". The
-- command has no name and is so many bytes long.
abbrev pub OneNumber : ℕ → (ℕ → Act) → (ℕ → Type 0) → Type 0
OneNumber letter a Limit = (k : List ℕ) (n : ℕ) (t : List ℕ) → Spacer k → Limit n → NoDigit t
    → command letter (k ++ (signed_decimal n ++ t)) ≡ got (just (a n)) 0 (1 + length k + length (signed_decimal n))

pub record NumberForms : Type 0 where
  pub by_H : OneNumber 72 (to across) (λ n. InLimit (shown n))
  pub by_h : OneNumber 104 (by across) (λ n. InLimit (shown n))
  pub by_V : OneNumber 86 (to down) (λ n. InLimit (shown n))
  pub by_v : OneNumber 118 (by down) (λ n. InLimit (shown n))
  pub by_N : OneNumber 78 index (λ n. InLimit (shown n))
  pub by_p : OneNumber 112 page (λ n. InLimit (shown n))
  pub by_f : OneNumber 102 font (λ n. (origin ≤ n) × (n ≤ origin + 255))
  pub by_s : OneNumber 115 size (λ n. (origin + 1 ≤ n) × (n ≤ origin + 99_999_999))

-- Something is allowed: 01's sample stream with its list, three glyphs and five controls.
abbrev pub sample_list : List ℕ
sample_list = bytes "unitwidth=1000\nfont=TR\nbyte=97\nwidth=44\nbyte=98\nwidth=50\n"

abbrev pub sample : List ℕ
sample = bytes "x T ps\nx res 72000 1 1\nx init\np1\nx font 1 TR\nf1\ns10000\nV12000\nH72000\ntab\nwh2500\nC'e\nx stop\n"

abbrev pub SampleAllowed : Type 0
SampleAllowed = (w : Widths) × (end : Env) × (gs : List Glyph) × (xs : List Item) × SoundList sample_list w × Allowed sample w end gs xs × (length gs ≡ 3) × (length xs ≡ 5)

-- "The rewriter gives the one house spelling.": of the commands that the stream consists of, so that streams of the same commands have one;
-- unless it is longer than 16,777,216 bytes, or than the buffer. What lies behind it is kept. It keeps every command but motions and
-- every place, is written in house lines, and has `H` and `V` only where the place differs.
abbrev pub house_spelling : Widths → List Cmd → List ℕ
house_spelling w cs = spell_all (spelling w cs)

pub record GiveHouseSpelling : Type 0 where
  pub where_allowed : (s list o : List ℕ) (r : Result ℕ Refusal) (o' : List ℕ) (w : Widths) (end : Env) (gs : List Glyph) (xs : List Item)
      → RespellCall s list o r o' → SoundList list w → (a : Allowed s w end gs xs)
      → length (house_spelling w a.commands) ≤ 16_777_216 → length (house_spelling w a.commands) ≤ length o
      → (r ≡ Ok (length (house_spelling w a.commands))) × (o' ≡ house_spelling w a.commands ++ drop (length (house_spelling w a.commands)) o)
  pub only_where_allowed : (s list o : List ℕ) (n : ℕ) (o' : List ℕ) → RespellCall s list o (Ok n) o'
      → (w : Widths) × (end : Env) × (gs : List Glyph) × (xs : List Item) × SoundList list w × (a : Allowed s w end gs xs) × (take n o' ≡ house_spelling w a.commands) × (length (take n o') ≡ n)
  -- "Every command but motions is kept in order, repeats too. `t`, `u` and two-digit commands become single glyphs": `all_kept` leaves motions
  -- out, and has single glyphs for these
  pub keeps : (s list o : List ℕ) (n : ℕ) (o' : List ℕ) → RespellCall s list o (Ok n) o'
      → (w : Widths) (end : Env) (gs : List Glyph) (xs : List Item) → SoundList list w → (a : Allowed s w end gs xs) (b : Allowed (take n o') w end gs xs)
      → all_kept b.commands ≡ all_kept a.commands
  -- "Before a glyph, `N`, any `D`, `x X` or `x s`, `H` and then `V` are written": before each of these a reader of the spelling has the
  -- place of a reader of the stream
  pub places : (s list o : List ℕ) (n : ℕ) (o' : List ℕ) → RespellCall s list o (Ok n) o'
      → (w : Widths) (end : Env) (gs : List Glyph) (xs : List Item) → SoundList list w → (a : Allowed s w end gs xs) (b : Allowed (take n o') w end gs xs)
      → spots_of w start b.commands ≡ spots_of w start a.commands
  pub in_house_lines : (s list o : List ℕ) (n : ℕ) (o' : List ℕ) → RespellCall s list o (Ok n) o' → HouseText (take n o')
  pub no_motion_in_vain : (s list o : List ℕ) (n : ℕ) (o' : List ℕ) → RespellCall s list o (Ok n) o'
      → (xs : List Act) (x : Axis) (k : ℕ) (ys : List Act) → ConsistsOf (take n o') (map just (xs ++ to x k ∷ ys)) → OnlyWhereItDiffers list (take n o') xs x k ys

-- "Whenever it gives one, reading that spelling yields the same glyphs, drawings, controls, pages and end position": the very same, names
-- and arguments included, ending in the same environment; and a reader of the spelling, lent a place for each record and entry, answers
-- the same, with the same rows but for places in the stream and the lengths of entries
pub record ReadTheSame (s list t : List ℕ) : Type 0 where
  pub allowed : (w : Widths) (end : Env) (gs : List Glyph) (xs : List Item) → SoundList list w → Allowed s w end gs xs → Allowed t w end gs xs
  pub rows : (rs : List Record) (es : List Entry) (a : Reading) (rs' : List Record) (es' : List Entry) → ReadCall s list rs es (Ok a) rs' es'
      → (rs₂ : List Record) (es₂ : List Entry) (r₂ : Result Reading Refusal) (rs₂' : List Record) (es₂' : List Entry)
      → ReadCall t list rs₂ es₂ r₂ rs₂' es₂' → a.records ≤ length rs₂ → a.entries ≤ length es₂
      → (r₂ ≡ Ok a) × (map (recorded t) (take a.records rs₂') ≡ map (recorded s) (take a.records rs')) × (map entered (take a.entries es₂') ≡ map entered (take a.entries es'))

abbrev pub SpellingReadsTheSame : Type 0
SpellingReadsTheSame = (s list o : List ℕ) (n : ℕ) (o' : List ℕ) → RespellCall s list o (Ok n) o' → ReadTheSame s list (take n o')

-- "and rewriting it changes nothing."
abbrev pub RewritingChangesNothing : Type 0
RewritingChangesNothing = (s list o : List ℕ) (n : ℕ) (o' : List ℕ) → RespellCall s list o (Ok n) o'
    → (o₂ : List ℕ) (r₂ : Result ℕ Refusal) (o₂' : List ℕ) → RespellCall (take n o') list o₂ r₂ o₂' → n ≤ length o₂ → (r₂ ≡ Ok n) × (take n o₂' ≡ take n o')

-- ==== 3

-- "any well-formed query": lines `glyph=NAME` and `gap=any` for these glyphs
pub record WellFormed (q : List ℕ) (qs : List Wanted) : Type 0 where
  pub text : q ≡ written qs
  pub good : GoodQuery qs

-- 2026-01, which family lists are sound: "lines, each ended by a newline: `name=N` (N a string of 1 to 64 bytes) each followed by one or
-- more `same=N`, at most 256 families of at most 8 names, no name in two families or twice in one"
pub record FamilyLists : Type 0 where
  -- the text of such families (`GoodFamilies`: `laws_offsets`, Groups.antt) says these families, and no other text says any
  pub texts : FamilyTexts
  -- line by line: behind a sound list a `name` or `same` line is right exactly for a good new name that there is room for (by 2026-06 one
  -- with a barred byte is not good), a `name` line wants its `same` line, and every other line is the first wrong one
  pub lines : FamilyLines
  -- every list is sound, too long, or wrong at a place; never sound and one of the others; and it has one row of families alone
  pub each : (fl : List ℕ) → ((fs : List Family) × SoundFamilies fl fs) ⊎ UnsoundFamilies fl
  pub not_both : (fl : List ℕ) (fs : List Family) → SoundFamilies fl fs → UnsoundFamilies fl → ⊥
  pub one : (fl : List ℕ) (fs fs₂ : List Family) → SoundFamilies fl fs → SoundFamilies fl fs₂ → fs ≡ fs₂
  -- "no name in two families"
  pub one_family : (fl : List ℕ) (fs : List Family) (f g : Family) (n : List ℕ) → SoundFamilies fl fs → FamilyIn f fs → FamilyIn g fs → Has f n → Has g n → f ≡ g

-- what "01's rule" looks at in a glyph: "name bytes, gap mark and page ordinal"
abbrev pub looked : Glyph → Key
looked g = record { name = g.name; gap = g.gap; ordinal = g.ordinal }

-- "the number of every glyph record of the stream at which the query occurs by 01's rule, each once, earliest first, and no other". 2026-01:
-- "Two names match if they are equal or in one family. The rule for finding in 01, and demand 3, read so from now on": `OccursAt` asks that
-- names match (`Match`: `laws_find`, Occurs.antt), fs being the families.
pub record ListOf (fs : List Family) (qs : List Wanted) (gs : List Glyph) (is : List ℕ) : Type 0 where
  pub every : (i : ℕ) → OccursAt fs qs (map looked gs) i → Elem i is
  pub no_other : (i : ℕ) → Elem i is → OccursAt fs qs (map looked gs) i
  pub each_once_earliest_first : Rising is

-- the finder's answer of so many records and so many hits
abbrev pub counted : ℕ → ℕ → Result Finding Refusal
counted records hits = Ok (record { records = records; hits = hits })

-- "For any stream accepted with its width list, any well-formed query and rows large enough, whatever they held before, the finder's list
-- is exactly this: .. The number of records it answers is the stream's, and the number of hits is that list's length." 2026-01: "demand 3
-- with a sound family list". The records are in the row, and what lies behind records and list is kept.
pub record FoundAll (s : List ℕ) (rs : List Record) (hs : List ℕ) (gs : List Glyph) (is : List ℕ) (r : Result Finding Refusal) (rs' : List Record) (hs' : List ℕ) : Type 0 where
  pub list : take (length is) hs' ≡ is
  pub numbers : r ≡ counted (length gs) (length is)
  pub records : map (recorded s) (take (length gs) rs') ≡ map set gs
  pub list_behind : drop (length is) hs' ≡ drop (length is) hs
  pub records_behind : drop (length gs) rs' ≡ drop (length gs) rs

pub record FindExactly : Type 0 where
  pub answered : (s list fl q : List ℕ) (rs : List Record) (hs : List ℕ) (r : Result Finding Refusal) (rs' : List Record) (hs' : List ℕ) (fs : List Family) (gs : List Glyph) (qs : List Wanted) (is : List ℕ)
      → FindCall s list fl q rs hs r rs' hs' → SoundFamilies fl fs → Accepted s list gs → WellFormed q qs → ListOf fs qs gs is → length gs ≤ length rs → length is ≤ length hs
      → FoundAll s rs hs gs is r rs' hs'
  -- What is looked at goes by the commands alone: names, gap marks and page ordinals are those of the outline (`laws_read`, Outline.antt),
  -- in which a glyph has its name, `w`, `n` and a negative `N` are gaps, and `p` begins a page.
  pub by_commands : (s list : List ℕ) (gs : List Glyph) (a : Accepted s list gs) → map looked gs ≡ keys_from 0 0 (outline a.allowed.commands)
  -- there is such a list for every sound family list, query and stream, and one alone
  pub some : (fl : List ℕ) (fs : List Family) (qs : List Wanted) (gs : List Glyph) → SoundFamilies fl fs → GoodQuery qs → (is : List ℕ) × ListOf fs qs gs is
  pub one : (fs : List Family) (qs : List Wanted) (gs : List Glyph) (is is₂ : List ℕ) → ListOf fs qs gs is → ListOf fs qs gs is₂ → is ≡ is₂
  -- "the record row, which it fills as the reader does": the very same row, place by place
  pub as_the_reader : (s list fl q : List ℕ) (rs : List Record) (hs : List ℕ) (f : Finding) (rs' : List Record) (hs' : List ℕ) (es : List Entry) (a : Reading) (rs₂' : List Record) (es' : List Entry)
      → FindCall s list fl q rs hs (Ok f) rs' hs' → ReadCall s list rs es (Ok a) rs₂' es' → rs' ≡ rs₂'
  -- and nothing else is ever accepted
  pub only : (s list fl q : List ℕ) (rs : List Record) (hs : List ℕ) (f : Finding) (rs' : List Record) (hs' : List ℕ) → FindCall s list fl q rs hs (Ok f) rs' hs'
      → (fs : List Family) × (gs : List Glyph) × (qs : List Wanted) × (is : List ℕ) × SoundFamilies fl fs × Accepted s list gs × WellFormed q qs × ListOf fs qs gs is
      × FoundAll s rs hs gs is (Ok f) rs' hs'

-- 2026-01: "an empty list gives the old answers". The finder's call as it was before the request: without a family list, and with the rule
-- that asks for equal name bytes (`old_find`: `laws_answers`, Old.antt).
pub record OldFindCall (s list q : List ℕ) (rs : List Record) (hs : List ℕ) (r : Result Finding Refusal) (rs' : List Record) (hs' : List ℕ) : Type 0 where
  pub answer : r ≡ finding_of (found_in (length rs) (length hs) (old_find s list q))
  pub records : rs' ≡ records_found rs (found_in (length rs) (length hs) (old_find s list q))
  pub hits : hs' ≡ hits_over hs (found_in (length rs) (length hs) (old_find s list q))

pub record EmptyIsOld : Type 0 where
  -- it is sound, and has no family
  pub empty_sound : SoundFamilies [] []
  -- the same answer and the same content of the rows, refusals included; both ways
  pub is_old : (s list q : List ℕ) (rs : List Record) (hs : List ℕ) (r : Result Finding Refusal) (rs' : List Record) (hs' : List ℕ) → FindCall s list [] q rs hs r rs' hs' → OldFindCall s list q rs hs r rs' hs'
  pub was_so : (s list q : List ℕ) (rs : List Record) (hs : List ℕ) (r : Result Finding Refusal) (rs' : List Record) (hs' : List ℕ) → OldFindCall s list q rs hs r rs' hs' → FindCall s list [] q rs hs r rs' hs'
  -- so it is never refused as 14
  pub never_14 : (s list q : List ℕ) (rs : List Record) (hs : List ℕ) (rs' : List Record) (hs' : List ℕ) (number at : ℕ) → FindCall s list [] q rs hs (Err (refusal number at)) rs' hs' → number ≡ 14 → ⊥
  -- names match where their bytes are equal, and only there; a query occurs where it did
  pub match : (n m : List ℕ) → Match [] n m → n ≡ m
  pub matches : (n m : List ℕ) → n ≡ m → Match [] n m
  pub occurs : (qs : List Wanted) (gs : List Glyph) (i : ℕ) → OccursAt [] qs (map looked gs) i → OldOccursAt qs (map looked gs) i
  pub occurred : (qs : List Wanted) (gs : List Glyph) (i : ℕ) → OldOccursAt qs (map looked gs) i → OccursAt [] qs (map looked gs) i

-- "In accepted streams it makes no difference to list or numbers by which of t, u, c, C or the old two-digit form a one-byte name was set."
-- The bytes bs are set as names of one byte each, in order, by `c` or `C`, `t` or `u` words, or two digits, with any motions between them.
pub data Motion : Cmd → Type 0 where
  to_place : (x : Axis) (n : ℕ) → Motion (just (to x n))
  by_way : (x : Axis) (n : ℕ) → Motion (just (by x n))

pub data SetBy : List Cmd → List ℕ → Type 0 where
  none : SetBy [] []
  c_or_C : (b : ℕ) (cs : List Cmd) (bs : List ℕ) → SetBy cs bs → SetBy (just (glyph (b ∷ [])) ∷ cs) (b ∷ bs)
  t_or_u : (n : ℕ) (ps : List ℕ) (cs : List Cmd) (bs : List ℕ) → SetBy cs bs → SetBy (word n ps ∷ cs) (ps ++ bs)
  two_digits : (n b : ℕ) (cs : List Cmd) (bs : List ℕ) → SetBy cs bs → SetBy (pair n b ∷ cs) (b ∷ bs)
  motion : (c : Cmd) (cs : List Cmd) (bs : List ℕ) → Motion c → SetBy cs bs → SetBy (c ∷ cs) bs

-- two streams' commands are the same, but for that, and for motions
pub data SetOtherwise : List Cmd → List Cmd → Type 0 where
  ended : SetOtherwise [] []
  same : (c : Cmd) (cs cs₂ : List Cmd) → SetOtherwise cs cs₂ → SetOtherwise (c ∷ cs) (c ∷ cs₂)
  otherwise : (ps ps₂ : List Cmd) (bs : List ℕ) (cs cs₂ : List Cmd) → SetBy ps bs → SetBy ps₂ bs → SetOtherwise cs cs₂ → SetOtherwise (ps ++ cs) (ps₂ ++ cs₂)
  moved : (c : Cmd) (cs cs₂ : List Cmd) → Motion c → SetOtherwise cs cs₂ → SetOtherwise (c ∷ cs) cs₂
  moved₂ : (c : Cmd) (cs cs₂ : List Cmd) → Motion c → SetOtherwise cs cs₂ → SetOtherwise cs (c ∷ cs₂)

-- The five are written so: "`c` g", "`C` name", "`t` word", "`u` n word" and "two digits, glyph byte: .. spacers may stand within". A glyph
-- byte, and each byte of a name or word, is any but whitespace, `#` too, and (2026-06) but the barred ones, which are 16 (`BarredForms`); k
-- and l are spacers; t is anything behind one glyph byte, and a line break and what follows it behind a name or word; the number of `u` is
-- one as the house writes it, and a spacer parts it from the word. Each equation has the command, where its name begins, and its length.
pub record FiveForms : Type 0 where
  pub by_c : (k : List ℕ) (b : ℕ) (t : List ℕ) → Spacer k → (White b → ⊥) → (Barred b → ⊥)
      → command 99 (k ++ b ∷ t) ≡ got (just (glyph (b ∷ []))) (1 + length k) (2 + length k)
  pub by_C : (k n t : List ℕ) → Spacer k → GoodName n → LineBreak t → command 67 (k ++ (n ++ t)) ≡ got (just (glyph n)) (1 + length k) (1 + length k + length n)
  pub by_t : (k : List ℕ) (b : ℕ) (bs t : List ℕ) → Spacer k → NoWhite (b ∷ bs) → NoBarred (b ∷ bs) → LineBreak t
      → command 116 (k ++ (b ∷ bs ++ t)) ≡ got (word origin (b ∷ bs)) (1 + length k) (1 + length k + length (b ∷ bs))
  pub by_u : (k : List ℕ) (n c : ℕ) (l : List ℕ) (b : ℕ) (bs t : List ℕ) → Spacer k → InLimit (shown n) → Spacer (c ∷ l) → NoWhite (b ∷ bs) → NoBarred (b ∷ bs) → LineBreak t
      → command 117 (k ++ (signed_decimal n ++ (c ∷ l ++ (b ∷ bs ++ t))))
      ≡ got (word n (b ∷ bs)) (1 + length k + length (signed_decimal n) + length (c ∷ l)) (1 + length k + length (signed_decimal n) + length (c ∷ l) + length (b ∷ bs))
  pub by_digits : (d e : ℕ) (k l : List ℕ) (b : ℕ) (t : List ℕ) → d ≤ 9 → e ≤ 9 → Spacer k → Spacer l → (White b → ⊥) → (Barred b → ⊥)
      → command (48 + d) (k ++ (48 + e) ∷ (l ++ b ∷ t)) ≡ got (pair (origin + (10 * d + e)) b) (2 + length k + length l) (3 + length k + length l)

-- the same answer, and the same list where one is given
pub record SameList (r r₂ : Result Finding Refusal) (hs' hs₂' : List ℕ) : Type 0 where
  pub numbers : r ≡ r₂
  pub list : (f : Finding) → r ≡ Ok f → take f.hits hs' ≡ take f.hits hs₂'

-- 2026-01: "demand 3 with a sound family list, the same one for both streams it compares"
pub record ByAnyCommand : Type 0 where
  pub forms : FiveForms
  pub no_difference : (s list s₂ list₂ fl q : List ℕ) (rs rs₂ : List Record) (hs hs₂ : List ℕ) (r r₂ : Result Finding Refusal) (rs' rs₂' : List Record) (hs' hs₂' : List ℕ) (fs : List Family) (gs gs₂ : List Glyph) (qs : List Wanted) (is : List ℕ)
      → (a : Accepted s list gs) → (a₂ : Accepted s₂ list₂ gs₂) → SetOtherwise a.allowed.commands a₂.allowed.commands
      → FindCall s list fl q rs hs r rs' hs' → FindCall s₂ list₂ fl q rs₂ hs₂ r₂ rs₂' hs₂' → SoundFamilies fl fs → WellFormed q qs → ListOf fs qs gs is
      → length gs ≤ length rs → length gs₂ ≤ length rs₂ → length is ≤ length hs → length is ≤ length hs₂
      → SameList r r₂ hs' hs₂' × (r ≡ counted (length gs) (length is))

-- "Take any two accepted streams, each with its own width list, that have equally many records, record by record alike in name bytes, gap
-- mark and page ordinal. On both, with rows large enough, every well-formed query gives the same list and the same numbers." 2026-01: "with a
-- sound family list, the same one for both streams it compares".
abbrev pub Alike : List Glyph → List Glyph → Type 0
Alike [] [] = Unit {0}
Alike [] (g₂ ∷ gs₂) = ⊥
Alike (g ∷ gs) [] = ⊥
Alike (g ∷ gs) (g₂ ∷ gs₂) = (g.name ≡ g₂.name) × (g.gap ≡ g₂.gap) × (g.ordinal ≡ g₂.ordinal) × Alike gs gs₂

abbrev pub AlikeAnswerAlike : Type 0
AlikeAnswerAlike = (s list s₂ list₂ fl q : List ℕ) (rs rs₂ : List Record) (hs hs₂ : List ℕ) (r r₂ : Result Finding Refusal) (rs' rs₂' : List Record) (hs' hs₂' : List ℕ) (fs : List Family) (gs gs₂ : List Glyph) (qs : List Wanted) (is : List ℕ)
    → Accepted s list gs → Accepted s₂ list₂ gs₂ → Alike gs gs₂
    → FindCall s list fl q rs hs r rs' hs' → FindCall s₂ list₂ fl q rs₂ hs₂ r₂ rs₂' hs₂' → SoundFamilies fl fs → WellFormed q qs → ListOf fs qs gs is
    → length gs ≤ length rs → length gs₂ ≤ length rs₂ → length is ≤ length hs → length is ≤ length hs₂
    → SameList r r₂ hs' hs₂' × (r ≡ counted (length gs) (length is))

-- "Two names match if they are equal or in one family. .. demand 3, read so from now on": the same of streams that are record by record alike
-- but for names of one family
abbrev pub AlikeByFamilies : List Family → List Glyph → List Glyph → Type 0
AlikeByFamilies fs [] [] = Unit {0}
AlikeByFamilies fs [] (g₂ ∷ gs₂) = ⊥
AlikeByFamilies fs (g ∷ gs) [] = ⊥
AlikeByFamilies fs (g ∷ gs) (g₂ ∷ gs₂) = Match fs g.name g₂.name × (g.gap ≡ g₂.gap) × (g.ordinal ≡ g₂.ordinal) × AlikeByFamilies fs gs gs₂

abbrev pub FamiliesAnswerAlike : Type 0
FamiliesAnswerAlike = (s list s₂ list₂ fl q : List ℕ) (rs rs₂ : List Record) (hs hs₂ : List ℕ) (r r₂ : Result Finding Refusal) (rs' rs₂' : List Record) (hs' hs₂' : List ℕ) (fs : List Family) (gs gs₂ : List Glyph) (qs : List Wanted) (is : List ℕ)
    → Accepted s list gs → Accepted s₂ list₂ gs₂ → AlikeByFamilies fs gs gs₂
    → FindCall s list fl q rs hs r rs' hs' → FindCall s₂ list₂ fl q rs₂ hs₂ r₂ rs₂' hs₂' → SoundFamilies fl fs → WellFormed q qs → ListOf fs qs gs is
    → length gs ≤ length rs → length gs₂ ≤ length rs₂ → length is ≤ length hs → length is ≤ length hs₂
    → SameList r r₂ hs' hs₂' × (r ≡ counted (length gs) (length is))

-- ==== 2026-01: the first name for a record

-- "For the screen we also want the family's first name for a record": the first name of the family that a name is in; "A record in no family
-- gives its own name"
pub data FirstNameOf (fs : List Family) (name : List ℕ) : List ℕ → Type 0 where
  in_family : (f : Family) → FamilyIn f fs → Has f name → FirstNameOf fs name f.first
  in_none : ((f : Family) → FamilyIn f fs → Has f name → ⊥) → FirstNameOf fs name name

-- "the name handed back is a part of the stream or of the family list, and nothing is copied": so many bytes from a place on, which lie in
-- the one or the other; or the empty part
pub data PartOf (s fl : List ℕ) : NamePart → List ℕ → Type 0 where
  nowhere : PartOf s fl N.Nowhere []
  of_stream : (place len : ℕ) → 1 ≤ len → place + len ≤ length s → PartOf s fl (N.InStream place len) (take len (drop place s))
  of_families : (place len : ℕ) → 1 ≤ len → place + len ≤ length fl → PartOf s fl (N.InFamilies place len) (take len (drop place fl))

-- what is called for a name at a place with a length comes to this part, and to these bytes
pub record HandsBack (s fl : List ℕ) (place len : ℕ) (part : NamePart) (name : List ℕ) : Type 0 where
  pub the_part : (r : NamePart) → NamePartCall s fl place len r → r ≡ part
  pub the_bytes : (n : List ℕ) → FirstNameCall s fl place len n → n ≡ name

-- of these records, in order, each gives the first name of its glyph's name
abbrev pub EachFirstName : List ℕ → List ℕ → List Family → List Record → List Glyph → Type 0
EachFirstName s fl fs [] [] = Unit {0}
EachFirstName s fl fs [] (g ∷ gs) = ⊥
EachFirstName s fl fs (k ∷ ks) [] = ⊥
EachFirstName s fl fs (k ∷ ks) (g ∷ gs) = ((n : List ℕ) → FirstNameCall s fl k.place k.len n → FirstNameOf fs g.name n) × EachFirstName s fl fs ks gs

-- s need not be accepted, and place and len are any numbers
pub record FirstNames : Type 0 where
  -- both calls have an answer, one each, and the bytes are those of the part
  pub part : (s fl : List ℕ) (place len : ℕ) → (r : NamePart) × NamePartCall s fl place len r
  pub part_one : (s fl : List ℕ) (place len : ℕ) (r r₂ : NamePart) → NamePartCall s fl place len r → NamePartCall s fl place len r₂ → r ≡ r₂
  pub name : (s fl : List ℕ) (place len : ℕ) → (n : List ℕ) × FirstNameCall s fl place len n
  pub name_one : (s fl : List ℕ) (place len : ℕ) (n n₂ : List ℕ) → FirstNameCall s fl place len n → FirstNameCall s fl place len n₂ → n ≡ n₂
  pub a_part : (s fl : List ℕ) (place len : ℕ) (r : NamePart) (n : List ℕ) → NamePartCall s fl place len r → FirstNameCall s fl place len n → PartOf s fl r n
  -- in a family: its first name, which stands in the list at the family's place
  pub of_family : (s fl : List ℕ) (place len : ℕ) (fs : List Family) (f : Family) → SoundFamilies fl fs → 1 ≤ len → place + len ≤ length s → FamilyIn f fs → Has f (take len (drop place s))
      → HandsBack s fl place len (N.InFamilies f.place (length f.first)) f.first
  pub stands : (fl : List ℕ) (fs : List Family) (f : Family) → SoundFamilies fl fs → FamilyIn f fs → take (length f.first) (drop f.place fl) ≡ f.first
  -- "A record in no family gives its own name"
  pub of_none : (s fl : List ℕ) (place len : ℕ) (fs : List Family) → SoundFamilies fl fs → 1 ≤ len → place + len ≤ length s → ((f : Family) → FamilyIn f fs → Has f (take len (drop place s)) → ⊥)
      → HandsBack s fl place len (N.InStream place len) (take len (drop place s))
  -- "an `N` record, or a place that doesn't lie in the stream, gives the empty part"; with any family list
  pub empty : (s fl : List ℕ) (place len : ℕ) → (len ≡ 0) ⊎ (length s < place + len) → HandsBack s fl place len N.Nowhere []
  -- "a wrong or too long family list counts here as an empty one": the same is handed back as with an empty one, so a name that lies in the
  -- stream is its own
  pub as_empty : (s fl : List ℕ) (place len : ℕ) (r : NamePart) (n : List ℕ) → UnsoundFamilies fl → NamePartCall s fl place len r → FirstNameCall s fl place len n
      → NamePartCall s [] place len r × FirstNameCall s [] place len n
  pub of_unsound : (s fl : List ℕ) (place len : ℕ) → UnsoundFamilies fl → 1 ≤ len → place + len ≤ length s → HandsBack s fl place len (N.InStream place len) (take len (drop place s))
  -- all names of one family give one first name, in whatever streams they stand
  pub one_for_all : (s s₂ fl : List ℕ) (place len place₂ len₂ : ℕ) (fs : List Family) (f : Family) (n n₂ : List ℕ) → SoundFamilies fl fs → FamilyIn f fs
      → 1 ≤ len → place + len ≤ length s → Has f (take len (drop place s)) → 1 ≤ len₂ → place₂ + len₂ ≤ length s₂ → Has f (take len₂ (drop place₂ s₂))
      → FirstNameCall s fl place len n → FirstNameCall s₂ fl place₂ len₂ n₂ → n ≡ n₂
  -- "the family's first name for a record": of records that show these glyphs (as in `RecordedAll` and `FoundAll`), each gives the first name of
  -- its glyph's name, which for `N` is empty and in no family
  pub for_records : (s fl : List ℕ) (fs : List Family) (ks : List Record) (gs : List Glyph) → SoundFamilies fl fs → map (recorded s) ks ≡ map set gs → EachFirstName s fl fs ks gs

-- ==== beside the demands: too little room, and judging

-- refusal 13: "records, entries, hits or spelling need more room than lent, or the spelling is over 16,777,216 bytes; offset 0". "13 comes
-- last, when all else passed", and "is given exactly for its reason".
pub record NoRoom : Type 0 where
  pub reader : (s list : List ℕ) (rs : List Record) (es : List Entry) (r : Result Reading Refusal) (rs' : List Record) (es' : List Entry) (w : Widths) (end : Env) (gs : List Glyph) (xs : List Item)
      → ReadCall s list rs es r rs' es' → SoundList list w → Allowed s w end gs xs → (length rs < length gs) ⊎ (length es < length xs) → r ≡ Err (refusal 13 0)
  pub reader_only : (s list : List ℕ) (rs : List Record) (es : List Entry) (rs' : List Record) (es' : List Entry) (at : ℕ) → ReadCall s list rs es (Err (refusal 13 at)) rs' es'
      → (w : Widths) × (end : Env) × (gs : List Glyph) × (xs : List Item) × SoundList list w × Allowed s w end gs xs × ((length rs < length gs) ⊎ (length es < length xs))
  pub rewriter : (s list o : List ℕ) (r : Result ℕ Refusal) (o' : List ℕ) (w : Widths) (end : Env) (gs : List Glyph) (xs : List Item)
      → RespellCall s list o r o' → SoundList list w → (a : Allowed s w end gs xs)
      → (length o < length (house_spelling w a.commands)) ⊎ (16_777_216 < length (house_spelling w a.commands)) → r ≡ Err (refusal 13 0)
  pub rewriter_only : (s list o o' : List ℕ) (at : ℕ) → RespellCall s list o (Err (refusal 13 at)) o'
      → (w : Widths) × (end : Env) × (gs : List Glyph) × (xs : List Item) × SoundList list w × (a : Allowed s w end gs xs) × ((length o < length (house_spelling w a.commands)) ⊎ (16_777_216 < length (house_spelling w a.commands)))
  pub finder : (s list fl q : List ℕ) (rs : List Record) (hs : List ℕ) (r : Result Finding Refusal) (rs' : List Record) (hs' : List ℕ) (fs : List Family) (gs : List Glyph) (qs : List Wanted) (is : List ℕ)
      → FindCall s list fl q rs hs r rs' hs' → SoundFamilies fl fs → Accepted s list gs → WellFormed q qs → ListOf fs qs gs is → (length rs < length gs) ⊎ (length hs < length is) → r ≡ Err (refusal 13 0)
  pub finder_only : (s list fl q : List ℕ) (rs : List Record) (hs : List ℕ) (at : ℕ) (rs' : List Record) (hs' : List ℕ) → FindCall s list fl q rs hs (Err (refusal 13 at)) rs' hs'
      → (fs : List Family) × (gs : List Glyph) × (qs : List Wanted) × (is : List ℕ) × SoundFamilies fl fs × Accepted s list gs × WellFormed q qs × ListOf fs qs gs is × ((length rs < length gs) ⊎ (length hs < length is))

-- judging (house) tells the room: how many records and entries, how many pages, and how many bytes the spelling has, one more than the limit
-- where it is over it; or it refuses as the reader does where there is room
pub record Judge : Type 0 where
  pub accepted : (s list : List ℕ) (j : Judging) → JudgeCall s list (Ok j)
      → (w : Widths) × (end : Env) × (gs : List Glyph) × (xs : List Item) × SoundList list w × (a : Allowed s w end gs xs) × (j.records ≡ length gs) × (j.entries ≡ length xs) × (j.pages ≡ end.ordinal)
      × (((j.spelling ≡ length (house_spelling w a.commands)) × (j.spelling ≤ 16_777_216)) ⊎ ((j.spelling ≡ 16_777_217) × (16_777_216 < length (house_spelling w a.commands))))
  pub refused : (s list : List ℕ) (number at : ℕ) → JudgeCall s list (Err (refusal number at))
      → (rs : List Record) (es : List Entry) (r : Result Reading Refusal) (rs' : List Record) (es' : List Entry) → ReadCall s list rs es r rs' es' → r ≡ Err (refusal number at)
