-- With the scratch row of a sound list a pass begins as the rules do.
use Prim.Native.Nat.{ℕ, zero, suc, ◌+◌, ◌*◌, ◌-◌, ◌<◌, ◌≤◌}
use native.Mathlib.Omega.{arith}
use mathlib.Core.List.{List, []}
use mathlib.Core.Option.{Option, none, some}
use mathlib.Core.Path.{◌≡◌, refl, sym, ap, subst, ◌∙◌}
use lib.ListN.{length, take, drop, get_or, replicate, length-replicate, length-take, length-drop, get_or-replicate, get_or-eq_default}
use lib.Seq.{get_or-take, get_or-drop}
use Rattle.rules.specs.Widths.{Font, Widths, sound, width_list, width_of}
use Rattle.rules.specs.State.{mounted_at}
use Rattle.widths_table.specs.Table.{slot_of, entry_for}
use Rattle.widths_table.proofs.Lookups.{slot_names, slot_le, width_table}
use Rattle.widths_table.proofs.Bounds.{sound_few}
use Rattle.read_model.specs.Words.{entry_at}
use Rattle.read_model.proofs.Words.{entry_for as entry_of_width}
use Rattle.read_model.proofs.Live.{Live, Mounted}
use Rattle.read_turn.specs.Ready.{find_in}
use Rattle.read_setup.specs.Setup.{ScratchOf, Unmounted, start_env}

-- no position holds a name
abbrev pub no_mounts : List (List ℕ)
no_mounts = replicate 256 []

none_mounted : (n : ℕ) → n < 256 → mounted_at n no_mounts ≡ []
none_mounted n h = get_or-replicate 256 n [] [] h

same_entry : (o : Option ℕ) → entry_for o ≡ entry_of_width o
same_entry none = refl
same_entry (some w) = refl

abbrev IsNone : Option ℕ → Type 0
IsNone none = Unit {0}
IsNone (some k) = ⊥

no_font : (f : ℕ) → none ≡ some f → ⊥
no_font f e = subst IsNone e tt

module _ (list : List ℕ) (w : Widths) (q : width_list list ≡ sound w) (ws : List ℕ) (g : ScratchOf list w.fonts ws) where
  abbrev find : List ℕ → ℕ
  find = find_in list (length w.fonts) ws

  found_is : (n : List ℕ) → find n ≡ slot_of n w.fonts
  found_is n = slot_names list (take 32 (drop 8704 ws)) (take 32 (drop 8736 ws)) n w.fonts g.names

  table_size : length (take 8192 (drop 256 ws)) ≡ 8192
  table_size = length-take 8192 (drop 256 ws) ∙ rw (length-drop 256 ws, g.scratch.size)

  -- what a block holds is what the table holds, and the last block is empty
  block_at : (k b : ℕ) → k ≤ 32 → b < 256 → entry_at ws (k + 1) b ≡ get_or (take 8192 (drop 256 ws)) (k * 256 + b) 0
  block_at k b h l = go (32 - k) refl
    where
      go : (m : ℕ) → 32 - k ≡ m → entry_at ws (k + 1) b ≡ get_or (take 8192 (drop 256 ws)) (k * 256 + b) 0
      go zero e =
          let z : length (take 8192 (drop 256 ws)) ≤ k * 256 + b = omega (arith, table_size) in
          ap (λ (i : ℕ). get_or ws i 0) (let y : (k + 1) * 256 + b ≡ 8448 + b = omega arith in y) ∙ g.empty b l ∙ sym (get_or-eq_default (take 8192 (drop 256 ws)) 0 z)
      go (suc m) e =
          ap (λ (i : ℕ). get_or ws i 0) (let y : (k + 1) * 256 + b ≡ 256 + (k * 256 + b) = omega arith in y)
          ∙ sym (get_or-drop 256 ws (k * 256 + b) 0) ∙ sym (get_or-take 8192 (drop 256 ws) (k * 256 + b) 0 (omega arith))

  pub none_live : Mounted w find no_mounts ws
  none_live = record {
    size = length-replicate {A = List ℕ} 256 [];
    long = omega (arith, g.scratch.size);
    mount = λ n h. rw (none_mounted n h) (g.none n h);
    table = λ n b h.
        let l : find n ≤ 32 = rw (found_is n) (slot_le n w.fonts (sound_few list w q)) in
        block_at (find n) b l h
        ∙ ap (λ (k : ℕ). get_or (take 8192 (drop 256 ws)) (k * 256 + b) 0) (found_is n)
        ∙ width_table n b w.fonts (take 8192 (drop 256 ws)) g.table table_size h
        ∙ same_entry (width_of n b w.fonts);
  }

  pub start_live : Live w find no_mounts ws w.unitwidth start_env
  start_live = record { mounted = none_live; unit = refl; near_h = refl; near_v = refl; held = record { size = length-replicate {A = List ℕ} 256 []; font = λ f e. absurd (no_font f e) } }

-- ---- the scratch row before the second pass

module _ (list : List ℕ) (fs : List Font) (ws ws₁ ws₂ : List ℕ) (g : ScratchOf list fs ws) (kept : drop 256 ws₁ ≡ drop 256 ws) (u : Unmounted ws₁ ws₂) where
  same_at : (i : ℕ) → get_or ws₂ (256 + i) 0 ≡ get_or ws (256 + i) 0
  same_at i = u.kept (256 + i) (omega arith) ∙ sym (get_or-drop 256 ws₁ i 0) ∙ ap (λ (l : List ℕ). get_or l i 0) kept ∙ get_or-drop 256 ws i 0

  same_part : (from n i : ℕ) → 256 ≤ from → i < n → get_or (take n (drop from ws₂)) i 0 ≡ get_or (take n (drop from ws)) i 0
  same_part from n i h l =
      get_or-take n (drop from ws₂) i 0 l ∙ get_or-drop from ws₂ i 0
      ∙ subst (λ (k : ℕ). get_or ws₂ k 0 ≡ get_or ws k 0) (let y : 256 + (from - 256 + i) ≡ from + i = omega arith in y) (same_at (from - 256 + i))
      ∙ sym (get_or-drop from ws i 0) ∙ sym (get_or-take n (drop from ws) i 0 l)

  pub scratch_again : length fs ≤ 32 → ScratchOf list fs ws₂
  scratch_again few = record {
    scratch = u.scratch;
    none = u.none;
    table = λ i b h k. same_part 256 8192 (i * 256 + b) (omega arith) (omega arith) ∙ g.table i b h k;
    empty = λ b h. subst (λ (k : ℕ). get_or ws₂ k 0 ≡ get_or ws k 0) (let y : 256 + (8192 + b) ≡ 8448 + b = omega arith in y) (same_at (8192 + b)) ∙ g.empty b h;
    names = λ i h. rw (same_part 8704 32 i (omega arith) (omega arith), same_part 8736 32 i (omega arith) (omega arith)) (g.names i h);
  }
