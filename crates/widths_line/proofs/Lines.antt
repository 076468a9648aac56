-- A line `byte=N` or `width=N`: what the code does is what the rules say.
use Prim.Native.Nat.{ℕ, ◌+◌, ◌-◌, ◌≤◌, ◌<◌}
use mathlib.Core.Path.{◌≡◌, sym, ap, ◌∙◌, subst}
use mathlib.Core.Bool.{true, ◌&&◌}
use mathlib.Core.List.{List, [], ◌∷◌}
use mathlib.Core.Option.{Option, none, some}
use native.Mathlib.Omega.{arith}
use borrow.Author.Tests.{eqb-true, eqb-false, leb-true, le-leb}
use mathlib.Core.Bool.{◌&&◌}
use lib.Dec.{leb, eqb}
use lib.ListN.{length, get_or, set, length-set}
use lib.Seq.{get_or-set_same, get_or-set_other}
use Rattle.std.specs.Prelude.{Some, Ok}
use Rattle.rules.specs.Widths.{unit_line, Font, Widths, Due, width_due, behind, numbered, is_byte, may_follow, byte_line, width_in}
use Rattle.rules.specs.Bytes.{bytes}
use Rattle.laws.proofs.Cases.{on, if_on, and_left}
use Rattle.widths_table.specs.Table.{entry_for}
use Rattle.widths_table.specs.declared.Block.{Block}
use Rattle.widths_table.specs.Blocks.{BlockOf, no_block}
use Rattle.widths_table.proofs.Lookups.{block_front, blocks_behind, blocks_set}
use Rattle.widths_line.specs.declared.Due.TheVariants as D
use Rattle.widths_line.specs.declared.State.{State}
use Rattle.widths_line.specs.Reading.{listed, Stands, StandsBehind, Holds, After, Stored, width_says}

listed_some : (o : Option ℕ) (n : ℕ) → Some n ≡ listed o → (o ≡ some n) × (n ≤ 100000)
listed_some none n e = absurd (let z : ◌≡◌ {A = ℕ} 0 1 = cc in omega arith)
listed_some (some m) n e =
    on (leb m 100000)
    (λ f.
    let g : n ≡ m = cc (rw f at e) in
    (ap some (sym g), omega (arith, leb-true m 100000 f)))
    (λ f. absurd (let h = rw f at e in let z : ◌≡◌ {A = ℕ} 0 1 = cc h in omega arith))

-- ---- `unitwidth=N`: there are no fonts yet
pub unit_stands : (list : List ℕ) (table : List Block) (o : Option ℕ) → StandsBehind list table (unit_line o)
unit_stands list table none = tt
unit_stands list table (some n) =
    if_on (StandsBehind list table) (leb 1 n && leb n 100000) _ _ (λ e. record { few = omega arith; ready = tt; blocks = λ i h. absurd (omega arith) }) (λ e. tt)

-- ---- `byte=N`: a byte that may stand next is one, and stands in a block
abbrev ready_for : ℕ → List Font → Type 0
ready_for b fs = (b < 256) × (0 < length fs)

followed : (b : ℕ) (fs : List Font) → may_follow b fs ≡ true → ready_for b fs
followed b [] e = absurd (let z : ◌≡◌ {A = ℕ} 0 1 = cc in omega arith)
followed b (f ∷ fs) e = (omega (arith, leb-true b 255 (and_left (leb b 255) _ (and_left (is_byte b) _ e))), omega arith)

pub byte_stands : (list : List ℕ) (table : List Block) (w : Widths) (d : Due) (o : Option ℕ) → Stands list table w d → StandsBehind list table (byte_line w o)
byte_stands list table w d none s = tt
byte_stands list table w d (some b) s =
    if_on (StandsBehind list table) (may_follow b w.fonts) _ _ (λ e. record { few = s.few; ready = followed b w.fonts e; blocks = s.blocks }) (λ e. tt)

-- ---- `width=N`
abbrev with_width : Block → ℕ → ℕ → Block
with_width k b n = record { name = k.name; widths = set k.widths b (n + 1) }

module _ (list : List ℕ) (f : Font) (k : Block) (b n : ℕ) (h : BlockOf list f k) (l : b < 256) where
  width_in_block : (c : ℕ) → c < 256 → get_or (set k.widths b (n + 1)) c 0 ≡ entry_for (width_in c (record { byte = b; width = n } ∷ f.widths))
  unfolding width_in
  width_in_block c m =
      on (eqb b c)
      (λ e. rw e (subst (λ (j : ℕ). get_or (set k.widths b (n + 1)) j 0 ≡ n + 1) (eqb-true b c e) (get_or-set_same k.widths b (n + 1) 0 (omega (arith, h.long)))))
      (λ e.
      let ne : b ≡ c → ⊥ = eqb-false b c e in
      rw e (get_or-set_other k.widths b c (n + 1) 0 (λ (q : c ≡ b). ne (sym q)) ∙ h.widths c m))

  block_width : BlockOf list (record { name = f.name; widths = record { byte = b; width = n } ∷ f.widths }) (with_width k b n)
  block_width = record { within = h.within; name = h.name; long = length-set k.widths b (n + 1) ∙ h.long; widths = width_in_block }

abbrev width_done : State → ℕ → ℕ → State
width_done st b next = record { due = D.Block; unitwidth = st.unitwidth; fonts = st.fonts; low = b + 1; at = next }

module _ (t : List ℕ) (table : List Block) (st : State) (b next n k : ℕ) (l : length table ≡ 32) (e : Some n ≡ listed (numbered (behind (bytes "width=") t))) (q : k ≡ st.fonts - 1) where
  abbrev stored : List Block
  stored = set table k (with_width (get_or table k no_block) b n)

  behind_width : (list : List ℕ) (u : ℕ) (fs : List Font) → Holds list table (record { unitwidth = u; fonts = fs }) (width_due b) st
      → After list stored st.at next (Ok (width_done st b next)) (width_says t (record { unitwidth = u; fonts = fs }) b)
  behind_width list u [] h = absurd (omega (arith, h.1.ready))
  behind_width list u (f ∷ fs) h =
      let o = listed_some (numbered (behind (bytes "width=") t)) n e in
      let i : k ≡ length fs = omega (arith, ap (λ (x : State). x.fonts) h.0) in
      rw (o.0, le-leb n 100000 o.1, i) (
        ap (λ (x : State). Ok (width_done x b next)) h.0,
        record {
          few = h.1.few;
          ready = tt;
          blocks = blocks_set list _ fs table _ (omega (arith, h.1.few)) (blocks_behind list f fs table h.1.blocks)
              (block_width list f (get_or table (length fs) no_block) b n (block_front list f fs table h.1.blocks) h.1.ready.0);
        },
      )

  pub width-stored : Stored t table stored st b next (Ok (width_done st b next))
  width-stored = record { told = λ list w h. behind_width list w.unitwidth w.fonts h }

pub ruleset lines = (width-stored)
