-- What the scratch row holds.
use Rattle.std.specs.Prelude.{ℕ, ◌+◌, ◌*◌, ◌<◌, ◌≤◌, List, ◌≡◌, length, take, drop, get_or}
use Rattle.rules.specs.Widths.{Font, WidthList, unsound, sound}
use Rattle.widths_table.specs.declared.Block.{Block}
use Rattle.widths_table.specs.Blocks.{no_block}
use Rattle.widths_table.specs.Table.{TableOf, NamesOf}
use Rattle.read_turn.specs.Ready.{Scratch}

-- a part of the row in which nothing stands yet
abbrev pub IsEmpty : List ℕ → Type 0
IsEmpty part = (i : ℕ) → get_or part i 0 ≡ 0

-- the row of so many fonts: the mounts, the fonts' widths, an empty block, the names' places, their lengths
pub record Gathered (table : List Block) (fonts : ℕ) (ws : List ℕ) : Type 0 where
  pub size : length ws ≡ 8768
  pub none : (i : ℕ) → i < 256 → get_or ws i 0 ≡ 0
  pub widths : (i b : ℕ) → i < fonts → b < 256 → get_or ws (256 + (i * 256 + b)) 0 ≡ get_or (get_or table i no_block).widths b 0
  pub empty : (i : ℕ) → 256 + fonts * 256 ≤ i → i < 8704 → get_or ws i 0 ≡ 0
  pub places : (i : ℕ) → i < fonts → get_or ws (8704 + i) 0 ≡ (get_or table i no_block).name.place
  pub no_places : (i : ℕ) → 8704 + fonts ≤ i → i < 8736 → get_or ws i 0 ≡ 0
  pub lens : (i : ℕ) → i < fonts → get_or ws (8736 + i) 0 ≡ (get_or table i no_block).name.len
  pub no_lens : (i : ℕ) → 8736 + fonts ≤ i → get_or ws i 0 ≡ 0

-- the scratch row of a list's fonts, with nothing mounted
pub record ScratchOf (list : List ℕ) (fs : List Font) (ws : List ℕ) : Type 0 where
  pub scratch : Scratch ws
  pub none : (i : ℕ) → i < 256 → get_or ws i 0 ≡ 0
  pub table : TableOf fs (take 8192 (drop 256 ws))
  pub empty : (b : ℕ) → b < 256 → get_or ws (8448 + b) 0 ≡ 0
  pub names : NamesOf list fs (take 32 (drop 8704 ws)) (take 32 (drop 8736 ws))

abbrev pub Holding : List ℕ → List ℕ → WidthList → Type 0
Holding list ws (unsound at) = Scratch ws
Holding list ws (sound w) = ScratchOf list w.fonts ws

-- nothing is mounted any more; the rest is as it was
pub record Unmounted (ws ws' : List ℕ) : Type 0 where
  pub scratch : Scratch ws'
  pub none : (i : ℕ) → i < 256 → get_or ws' i 0 ≡ 0
  pub kept : (i : ℕ) → 256 ≤ i → get_or ws' i 0 ≡ get_or ws i 0
