-- Document 01, "What a record holds": the places of records, and the places and lengths of entries, over the whole reading of a stream.
-- Each is where its command is, and is what this command gave where all before it had been read; no command is left out. Proofs:
-- `proofs/Places.antt`.
use Rattle.std.specs.Prelude.{ℕ, ◌+◌, ◌≤◌, List, [], ◌∷◌, ◌++◌, map, ◌≡◌, length}
use Rattle.rules.specs.Act.{index, Cmd, just}
use Rattle.rules.specs.Scan.{got}
use Rattle.rules.specs.Widths.{Widths, sound, width_list}
use Rattle.rules.specs.State.{Env, Glyph, Item, went, acts, perform}
use Rattle.rules.specs.Record.{GlyphRow, ItemRow, answer, record_of, entry_of}
use Rattle.rules.specs.Answers.{read}
use Rattle.laws_offsets.specs.Stream.{command_at, FirstByte, ReadTo}

-- The command c stands at a place; its name begins so many bytes behind its first, and it has this length. Where all before it had been
-- read, it gave these glyphs and these drawings and controls.
pub record Performed (w : Widths) (s : List ℕ) (at : ℕ) (c : Cmd) (name len : ℕ) (gs : List Glyph) (xs : List Item) : Type 0 where
  pub first : FirstByte s at
  pub scanned : command_at s at ≡ got c name len
  pub env : Env
  pub read_to : ReadTo w s at env
  pub behind : Env
  pub made : perform env (acts w env c) ≡ went behind gs xs

-- ---- entries: "place and length in the stream from first byte to last argument byte (no argument: to the end of its letters or word;
-- `x X`: to its last line's end, newline aside)"

pub record EntryAt (w : Widths) (s : List ℕ) (x : ItemRow) : Type 0 where
  pub name : ℕ
  pub glyphs : List Glyph
  pub here : Performed w s (entry_of x).place (just x.item.act) name (entry_of x).len glyphs (x.item ∷ [])

-- in the order of the stream: each behind the command of the one before it
abbrev pub EntriesFrom : Widths → List ℕ → ℕ → List ItemRow → Type 0
EntriesFrom w s at [] = Unit {0}
EntriesFrom w s at (x ∷ xs) = (at ≤ (entry_of x).place) × EntryAt w s x × EntriesFrom w s ((entry_of x).place + (entry_of x).len) xs

-- ---- records: "name (its place and length in the stream)", "an `N` name has place 0"

-- how many bytes the names have
abbrev pub name_bytes : List Glyph → ℕ
name_bytes [] = 0
name_bytes (g ∷ gs) = length g.name + name_bytes gs

pub record RecordAt (w : Widths) (s : List ℕ) (r : GlyphRow) : Type 0 where
  pub at : ℕ
  pub cmd : Cmd
  pub name : ℕ
  pub len : ℕ
  pub front : List Glyph
  pub rest : List Glyph
  pub items : List Item
  pub here : Performed w s at cmd name len (front ++ r.glyph ∷ rest) items
  -- where the command's name begins, behind the glyphs that it gave before
  pub place : 1 ≤ length r.glyph.name → (record_of r).place ≡ at + name + name_bytes front
  pub no_name : length r.glyph.name ≡ 0 → (record_of r).place ≡ 0
  pub of_N : (n : ℕ) → cmd ≡ just (index n) → ((record_of r).place ≡ 0) × ((record_of r).len ≡ 0)

abbrev pub EachRecord : Widths → List ℕ → List GlyphRow → Type 0
EachRecord w s [] = Unit {0}
EachRecord w s (r ∷ rs) = RecordAt w s r × EachRecord w s rs

-- ---- the whole reading

pub record Placed (w : Widths) (s : List ℕ) (rs : List GlyphRow) (xs : List ItemRow) : Type 0 where
  pub records : EachRecord w s rs
  pub entries : EntriesFrom w s 0 xs
  -- "one for each glyph", "one entry for each `D` or `x` command": what any command gave is there
  pub every_record : (at : ℕ) (c : Cmd) (name len : ℕ) (gs : List Glyph) (is : List Item) → Performed w s at c name len gs is
      → (front here rest : List GlyphRow) × (rs ≡ front ++ (here ++ rest)) × (map (λ r. r.glyph) here ≡ gs)
  pub every_entry : (at : ℕ) (c : Cmd) (name len : ℕ) (gs : List Glyph) (i : Item) → Performed w s at c name len gs (i ∷ [])
      → (front rest : List ItemRow) × (xs ≡ front ++ record { item = i; place = at; len = len } ∷ rest)

abbrev pub Places : Type 0
Places = (s list : List ℕ) (rs : List GlyphRow) (xs : List ItemRow) (e : Env) → read s list ≡ answer rs xs e
    → (w : Widths) × (width_list list ≡ sound w) × Placed w s rs xs
