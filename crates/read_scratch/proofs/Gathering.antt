-- The scratch row: made from what the width list left, and cleared.
use Prim.Native.Nat.{ℕ, ◌+◌, ◌*◌, ◌-◌, ◌/◌, ◌%◌, ◌<◌, ◌≤◌}
use native.Mathlib.Nat.{div-add-mod'}
use native.Mathlib.Omega.{arith}
use mathlib.Core.List.{List, ◌++◌}
use mathlib.Core.Path.{◌≡◌, refl, sym, ap, subst, ◌∙◌}
use lib.Dec.{ltb}
use lib.ListN.{length, take, drop, get_or, set, length-set, length-take, length-drop, length-append, get_or-append}
use Rattle.std.proofs.lemmas.List.{get_or-append_right, ext_get_or}
use lib.Seq.{get_or-set_same, get_or-set_other, get_or-take, get_or-drop}
use borrow.Author.Tests.{ltb-true, ltb-false}
use borrow.Rule.Slice.PartMut.{put_mid, same_len_mid}
use Rattle.std.proofs.Common.{below_more}
use Rattle.std.proofs.lemmas.Slice.{take-put_mid_below, drop-put_mid, between-put_mid}
use Rattle.std.specs.Prelude.{Ok}
use Rattle.rules.specs.Widths.{Font, Widths, WidthList, unsound, sound, width_list}
use Rattle.laws.proofs.Cases.{on}
use Rattle.widths.specs.declared.Sound.{Sound}
use Rattle.widths.specs.Table.{list_of, Loaded}
use Rattle.widths_table.specs.declared.Block.{Block}
use Rattle.widths_table.specs.Blocks.{no_block, BlocksOf}
use Rattle.widths_table.specs.Table.{TableOf}
use Rattle.widths_table.proofs.Bounds.{sound_entry, sound_few}
use Rattle.read_turn.specs.Ready.{Scratch}
use Rattle.read_scratch.specs.Scratch.{IsEmpty, Gathered, ScratchOf, Holding, Unmounted}

-- ---- a part of a row, written
module _ (xs ys : List ℕ) (a m : ℕ) (h : a + m ≤ length xs) (l : length ys ≡ m) where
  part_below : (i : ℕ) → i < a → get_or (put_mid a m xs ys) i 0 ≡ get_or xs i 0
  part_below i q =
      sym (get_or-take a (put_mid a m xs ys) i 0 q) ∙ ap (λ (z : List ℕ). get_or z i 0) (take-put_mid_below a m xs ys a (omega arith) (omega arith)) ∙ get_or-take a xs i 0 q

  part_above : (i : ℕ) → a + m ≤ i → get_or (put_mid a m xs ys) i 0 ≡ get_or xs i 0
  part_above i q =
      let e : i ≡ a + m + (i - (a + m)) = omega arith in
      rw e (
      sym (get_or-drop (a + m) (put_mid a m xs ys) (i - (a + m)) 0)
      ∙ ap (λ (z : List ℕ). get_or z (i - (a + m)) 0) (drop-put_mid a m xs ys (a + m) (omega arith) (omega arith) l)
      ∙ get_or-drop (a + m) xs (i - (a + m)) 0
      )

  part_within : (i : ℕ) → i < m → get_or (put_mid a m xs ys) (a + i) 0 ≡ get_or ys i 0
  part_within i q =
      let e : a + m - a ≡ m = omega arith in
      sym (get_or-drop a (put_mid a m xs ys) i 0)
      ∙ sym (get_or-take m (drop a (put_mid a m xs ys)) i 0 q)
      ∙ ap (λ (z : List ℕ). get_or z i 0) (rw e at (between-put_mid a m xs ys (a + m) (omega arith) (omega arith)))

-- ---- a font's widths
-- the part of the row where the first b of them stand
pub record Copied (widths : List ℕ) (b : ℕ) (part : List ℕ) : Type 0 where
  pub size : length part ≡ 256
  pub there : (i : ℕ) → i < b → get_or part i 0 ≡ get_or widths i 0
  pub empty : (i : ℕ) → b ≤ i → get_or part i 0 ≡ 0

module _ (widths part : List ℕ) where
  pub copied_start : length part ≡ 256 → IsEmpty part → Copied widths 0 part
  copied_start n e = record { size = n; there = λ i h. absurd (omega arith); empty = λ i h. e i }

  pub copied_end : length widths ≡ 256 → (b : ℕ) → 256 ≤ b → Copied widths b part → part ≡ widths
  copied_end n b h v = ext_get_or 0 part widths (v.size ∙ sym n) (λ i l. v.there i (omega (arith, v.size)))

  module _ (b : ℕ) (v : Copied widths b part) where
    there_then : (q : List ℕ) → ((i : ℕ) → i < b → get_or q i 0 ≡ get_or widths i 0) → get_or q b 0 ≡ get_or widths b 0 → (i : ℕ) → i < b + 1 → get_or q i 0 ≡ get_or widths i 0
    there_then q f e i h = below_more (λ (i : ℕ). get_or q i 0 ≡ get_or widths i 0) b f e i h

    pub copied_none : get_or widths b 0 ≡ 0 → Copied widths (b + 1) part
    copied_none e = record {
      size = v.size;
      there = there_then part v.there (v.empty b (omega arith) ∙ sym e);
      empty = λ i h. v.empty i (omega arith);
    }

    pub copied_one : (x : ℕ) → b < 256 → x ≡ get_or widths b 0 → Copied widths (b + 1) (set part b x)
    copied_one x l e = record {
      size = length-set part b x ∙ v.size;
      there = there_then (set part b x) (λ i h. get_or-set_other part b i x 0 (λ (z : i ≡ b). omega arith) ∙ v.there i h) (get_or-set_same part b x 0 (omega (arith, v.size)) ∙ e);
      empty = λ i h. get_or-set_other part b i x 0 (λ (z : i ≡ b). omega arith) ∙ v.empty i (omega arith);
    }

pub ruleset copying = (copied_start, copied_end, copied_none, copied_one)

-- ---- font by font
module _ (table : List Block) (k : ℕ) (ws ys : List ℕ) (m p l : ℕ) (g : Gathered table k ws) (few : k < 32) (em : m ≡ 256) (long : length ys ≡ 256) where
  abbrev written : List ℕ
  written = put_mid (256 + k * 256) m ws ys

  abbrev row : List ℕ
  row = set (set written (8704 + k) p) (8736 + k) l

  fits : 256 + k * 256 + m ≤ length ws
  fits = omega (arith, g.size)

  written_long : length written ≡ 8768
  written_long = same_len_mid (256 + k * 256) m ws ys (omega (arith, fits, length-take m (drop (256 + k * 256) ws), length-drop (256 + k * 256) ws)) ∙ g.size

  low : (i : ℕ) → i < 8704 → get_or row i 0 ≡ get_or written i 0
  low i h =
      get_or-set_other (set written (8704 + k) p) (8736 + k) i l 0 (λ (e : i ≡ 8736 + k). omega arith) ∙ get_or-set_other written (8704 + k) i p 0 (λ (e : i ≡ 8704 + k). omega arith)

  high : (i : ℕ) → 8704 ≤ i → (i ≡ 8704 + k → ⊥) → (i ≡ 8736 + k → ⊥) → get_or row i 0 ≡ get_or ws i 0
  high i h a b =
      get_or-set_other (set written (8704 + k) p) (8736 + k) i l 0 b ∙ get_or-set_other written (8704 + k) i p 0 a ∙ part_above ws ys (256 + k * 256) m fits (omega arith) i (omega arith)

  widths_more : (ys ≡ (get_or table k no_block).widths) → (i b : ℕ) → i < k + 1 → b < 256 → get_or row (256 + (i * 256 + b)) 0 ≡ get_or (get_or table i no_block).widths b 0
  widths_more e i b h q =
      below_more (λ (i : ℕ). get_or row (256 + (i * 256 + b)) 0 ≡ get_or (get_or table i no_block).widths b 0) k
      (λ i c. low (256 + (i * 256 + b)) (omega arith) ∙ part_below ws ys (256 + k * 256) m fits (omega arith) (256 + (i * 256 + b)) (omega arith) ∙ g.widths i b c q)
      (let z : 256 + (k * 256 + b) ≡ 256 + k * 256 + b = omega arith in
      low (256 + (k * 256 + b)) (omega arith) ∙ rw z (part_within ws ys (256 + k * 256) m fits (omega arith) b (omega arith)) ∙ ap (λ (z : List ℕ). get_or z b 0) e)
      i h

  pub gathered_more : ys ≡ (get_or table k no_block).widths → p ≡ (get_or table k no_block).name.place → l ≡ (get_or table k no_block).name.len → Gathered table (k + 1) row
  gathered_more e ep el = record {
    size = length-set (set written (8704 + k) p) (8736 + k) l ∙ length-set written (8704 + k) p ∙ written_long;
    none = λ i h. low i (omega arith) ∙ part_below ws ys (256 + k * 256) m fits (omega arith) i (omega arith) ∙ g.none i h;
    widths = widths_more e;
    empty = λ i h q. low i q ∙ part_above ws ys (256 + k * 256) m fits (omega arith) i (omega arith) ∙ g.empty i (omega arith) q;
    places =
        below_more (λ (i : ℕ). get_or row (8704 + i) 0 ≡ (get_or table i no_block).name.place) k
        (λ i c. high (8704 + i) (omega arith) (λ (z : 8704 + i ≡ 8704 + k). omega arith) (λ (z : 8704 + i ≡ 8736 + k). omega arith) ∙ g.places i c)
        (get_or-set_other (set written (8704 + k) p) (8736 + k) (8704 + k) l 0 (λ (z : 8704 + k ≡ 8736 + k). omega arith)
        ∙ get_or-set_same written (8704 + k) p 0 (omega (arith, written_long))
        ∙ ep);
    no_places = λ i h q. high i (omega arith) (λ (z : i ≡ 8704 + k). omega arith) (λ (z : i ≡ 8736 + k). omega arith) ∙ g.no_places i (omega arith) q;
    lens =
        below_more (λ (i : ℕ). get_or row (8736 + i) 0 ≡ (get_or table i no_block).name.len) k
        (λ i c. high (8736 + i) (omega arith) (λ (z : 8736 + i ≡ 8704 + k). omega arith) (λ (z : 8736 + i ≡ 8736 + k). omega arith) ∙ g.lens i c)
        (get_or-set_same (set written (8704 + k) p) (8736 + k) l 0 (omega (arith, written_long, length-set written (8704 + k) p)) ∙ el);
    no_lens = λ i h. high i (omega arith) (λ (z : i ≡ 8704 + k). omega arith) (λ (z : i ≡ 8736 + k). omega arith) ∙ g.no_lens i (omega arith);
  }

-- ---- what it holds then
module _ (list : List ℕ) (table : List Block) (ws : List ℕ) (w : Widths) (g : Gathered table (length w.fonts) ws) (short : length list ≤ 65536) (q : width_list list ≡ sound w)
    (t : BlocksOf list w.fonts table) where
  abbrev fs : List Font
  fs = w.fonts

  few : length fs ≤ 32
  few = sound_few list w q

  width_small : (i : ℕ) → i < length fs * 256 → get_or ws (256 + i) 0 ≤ 100001
  width_small i h =
      let e : i ≡ i / 256 * 256 + i % 256 = sym (div-add-mod' i 256) in
      let l : i / 256 < length fs = omega arith in
      let r : i % 256 < 256 = omega arith in
      subst (λ (j : ℕ). get_or ws (256 + j) 0 ≤ 100001) (sym e) (rw (g.widths (i / 256) (i % 256) l r, (t (i / 256) l).widths (i % 256) r) (sound_entry list w q (i / 256) (i % 256)))

  place_small : (i : ℕ) → i < length fs → get_or ws (8704 + i) 0 ≤ 100001
  place_small i h = omega (arith, g.places i h, (t i h).within)

  len_small : (i : ℕ) → i < length fs → get_or ws (8736 + i) 0 ≤ 100001
  len_small i h = omega (arith, g.lens i h, (t i h).within)

  at_most : (i : ℕ) → get_or ws i 0 ≤ 100001
  at_most i =
      let n : ℕ = length fs in
      let back : (a : ℕ) → a ≤ i → get_or ws (a + (i - a)) 0 ≤ 100001 → get_or ws i 0 ≤ 100001 = λ a h. subst (λ (j : ℕ). get_or ws j 0 ≤ 100001) (let e : a + (i - a) ≡ i = omega arith in e) in
      on (ltb i 256) (λ a. omega (arith, g.none i (ltb-true i 256 a)))
      (λ a. on (ltb i (256 + n * 256)) (λ b. back 256 (ltb-false i 256 a) (width_small (i - 256) (omega (arith, ltb-true i (256 + n * 256) b, ltb-false i 256 a))))
      (λ b. on (ltb i 8704) (λ c. omega (arith, g.empty i (ltb-false i (256 + n * 256) b) (ltb-true i 8704 c)))
      (λ c. on (ltb i (8704 + n)) (λ d. back 8704 (ltb-false i 8704 c) (place_small (i - 8704) (omega (arith, ltb-true i (8704 + n) d, ltb-false i 8704 c))))
      (λ d. on (ltb i 8736) (λ k. omega (arith, g.no_places i (ltb-false i (8704 + n) d) (ltb-true i 8736 k)))
      (λ k. on (ltb i (8736 + n)) (λ l. back 8736 (ltb-false i 8736 k) (len_small (i - 8736) (omega (arith, ltb-true i (8736 + n) l, ltb-false i 8736 k))))
      (λ l. omega (arith, g.no_lens i (ltb-false i (8736 + n) l))))))))

  table_kept : TableOf fs (take 8192 (drop 256 ws))
  table_kept i b h k =
      get_or-take 8192 (drop 256 ws) (i * 256 + b) 0 (omega (arith, few)) ∙ get_or-drop 256 ws (i * 256 + b) 0 ∙ g.widths i b h k ∙ (t i h).widths b k

  place_kept : (i : ℕ) → i < length fs → get_or (take 32 (drop 8704 ws)) i 0 ≡ (get_or table i no_block).name.place
  place_kept i h = get_or-take 32 (drop 8704 ws) i 0 (omega (arith, few)) ∙ get_or-drop 8704 ws i 0 ∙ g.places i h

  len_kept : (i : ℕ) → i < length fs → get_or (take 32 (drop 8736 ws)) i 0 ≡ (get_or table i no_block).name.len
  len_kept i h = get_or-take 32 (drop 8736 ws) i 0 (omega (arith, few)) ∙ get_or-drop 8736 ws i 0 ∙ g.lens i h

  gathered_of : ScratchOf list fs ws
  gathered_of = record {
    scratch = record { size = g.size; small = record { each = at_most } };
    none = g.none;
    table = table_kept;
    empty = λ b h. g.empty (8448 + b) (omega (arith, few)) (omega arith);
    names = λ i h. rw (place_kept i h, len_kept i h) ((t i h).within, (t i h).name);
  }

-- ---- what the answer tells of the list
pub sound_holds : (list : List ℕ) (x : Sound) → Ok x ≡ list_of (width_list list) → (table : List Block) (ws : List ℕ) → length list ≤ 65536 → Loaded list table (width_list list)
    → Gathered table x.fonts ws → Holding list ws (width_list list)
sound_holds list x e table ws short l g = by (width_list list) refl e l
  where
    by : (y : WidthList) → width_list list ≡ y → Ok x ≡ list_of y → Loaded list table y → Holding list ws y
    by (unsound at) p h v = absurd (let z : ◌≡◌ {A = ℕ} 0 1 = cc in omega arith)
    by (sound w) p h v =
        let f : x ≡ record { unitwidth = w.unitwidth; fonts = length w.fonts } = cc in
        gathered_of list table ws w (subst (λ (s : Sound). Gathered table s.fonts ws) f g) short p v

-- ---- cleared
pub cleared : (ws xs : List ℕ) → Scratch ws → length xs ≡ 256 → ((i : ℕ) → i < 256 → get_or xs i 0 ≡ 0) → Unmounted ws (xs ++ drop 256 ws)
cleared ws xs s l h = record {
  scratch = record { size = length-append xs (drop 256 ws) ∙ omega (arith, length-drop 256 ws, s.size); small = record { each = small } };
  none = λ i q. front i q ∙ h i q;
  kept = kept;
}
  where
    front : (i : ℕ) → i < 256 → get_or (xs ++ drop 256 ws) i 0 ≡ get_or xs i 0
    front i q = get_or-append xs (drop 256 ws) 0 i (omega arith)

    kept : (i : ℕ) → 256 ≤ i → get_or (xs ++ drop 256 ws) i 0 ≡ get_or ws i 0
    kept i q =
        let e : 256 + (i - 256) ≡ i = omega arith in
        get_or-append_right xs (drop 256 ws) 256 i 0 l q ∙ rw e at (get_or-drop 256 ws (i - 256) 0)

    small : (i : ℕ) → get_or (xs ++ drop 256 ws) i 0 ≤ 100001
    small i = on (ltb i 256) (λ a. omega (arith, front i (ltb-true i 256 a), h i (ltb-true i 256 a))) (λ a. omega (arith, kept i (ltb-false i 256 a), s.small.each i))
