-- The first name: the answer of each return, in the form in which the check applies it.
use Rattle.std.specs.Prelude.{Some, None, option_map, Result, unwrap_or}
use Rattle.std.specs.Result.{result_ok}
use Rattle.std.specs.Prelude as P
use Prim.Native.Nat.{ℕ, zero, suc, ◌+◌, ◌*◌, ◌≤◌, ◌<◌}
use native.Mathlib.Omega.{arith}
use mathlib.Core.Bool.{Bool, true, false, false≢true}
use mathlib.Core.List.{List, []}
use mathlib.Core.Option.{Option, none, some}
use mathlib.Core.Path.{◌≡◌, refl, sym, ap, ◌∙◌}
use lib.Dec.{leb}
use lib.ListN.{length}
use borrow.Author.Tests.{lt-ltb, le-ltb}
use Rattle.rules.specs.declared.NamePart.{NamePart}
use Rattle.rules.specs.declared.NamePart.TheVariants as N
use Rattle.rules.specs.declared.Refusal.{Refusal}
use Rattle.rules.specs.Families.{Family, FamilyList, ill_grouped, grouped, family_of, family_list}
use Rattle.rules.specs.Answers.{families_in, listed, own_or, part_for, first_name}
use Rattle.rules.specs.Calls.{NamePartCall}
use Rattle.name.specs.Part.{part_of}
use Rattle.families_table.specs.Table.{entry_at, name_at, families_at, owner_of}
use Rattle.families_table.specs.declared.Table.{Table}
use Rattle.families_table.proofs.Owners.{owner_first, owner_none}
use Rattle.families.specs.Loading.{answer_of, Loaded}
use Rattle.first_name.specs.First.{first_of, lies_in}

-- ---- in the table

pub in_table : (fl : List ℕ) (tab : Table) (own : List ℕ) (n : ℕ)
    → first_of (family_of own (families_at fl tab n))
    ≡ option_map (λ j. N.InFamilies (entry_at tab (j * 8)).place (length (name_at fl tab (j * 8)))) (owner_of own (families_at fl tab n))
in_table fl tab own n = go (owner_of own (families_at fl tab n)) refl
  where
    go : (o : P.Option ℕ) → owner_of own (families_at fl tab n) ≡ o
        → first_of (family_of own (families_at fl tab n)) ≡ option_map (λ j. N.InFamilies (entry_at tab (j * 8)).place (length (name_at fl tab (j * 8)))) o
    go None e = rw (owner_none fl tab own n e)
    go (Some j) e = rw (owner_first fl tab own n j e)

-- ---- in the list

module _ (fl own : List ℕ) where
  -- by families that are those of the list, as it counts here
  by_list : (fs : List Family) (x : P.Option NamePart) → listed fl ≡ fs → x ≡ first_of (family_of own fs) → x ≡ first_of (family_of own (listed fl))
  by_list fs x e h = h ∙ ap (λ (gs : List Family). first_of (family_of own gs)) (sym e)

  pub of_long : 65536 < length fl → None ≡ first_of (family_of own (listed fl))
  unfolding listed family_of
  of_long h = by_list [] None (rw (lt-ltb 65_536 (length fl) h)) refl

  module _ (b : length fl ≤ 65536) (y : Result ℕ Refusal) (e : y ≡ answer_of (family_list fl)) (o : P.Option ℕ) (p : o ≡ result_ok y) where
    listed_is : listed fl ≡ families_in (family_list fl)
    unfolding listed
    listed_is = rw (le-ltb 65_536 (length fl) b)

    pub of_wrong : (x : P.Option NamePart) → o ≡ None → x ≡ None → x ≡ first_of (family_of own (listed fl))
    unfolding family_of
    of_wrong x n h = go (family_list fl) refl (sym n ∙ p ∙ ap result_ok e)
      where
        go : (z : FamilyList) → family_list fl ≡ z → None ≡ result_ok (answer_of z) → x ≡ first_of (family_of own (listed fl))
        go (ill_grouped at) q t = by_list [] x (listed_is ∙ ap families_in q) h
        go (grouped fs) q t = cc

    pub of_found : (n : ℕ) (tab : Table) (x : P.Option NamePart) → o ≡ Some n → Loaded fl tab (family_list fl) → x ≡ first_of (family_of own (families_at fl tab n))
        → x ≡ first_of (family_of own (listed fl))
    of_found n tab x q l h = go (family_list fl) refl (sym q ∙ p ∙ ap result_ok e) l
      where
        go : (z : FamilyList) → family_list fl ≡ z → Some n ≡ result_ok (answer_of z) → Loaded fl tab z → x ≡ first_of (family_of own (listed fl))
        go (ill_grouped at) q t l = cc
        go (grouped fs) q t l =
            let m : n ≡ length fs = cc in
            by_list (families_at fl tab n) x (listed_is ∙ ap families_in q ∙ sym (rw m l.families)) h

pub ruleset in_list = (of_long, of_wrong, of_found)

-- ---- the part

own_is : (place len : ℕ) (y : Option Family) → unwrap_or (first_of y) (N.InStream place len) ≡ own_or place len y
own_is place len none = refl
own_is place len (some f) = refl

lies_in_lem : (n place k : ℕ) → lies_in n place (suc k) ≡ leb (place + suc k) n
lies_in_lem n place k = rw (lt-ltb 0 (suc k) (omega arith))

module _ (s fl : List ℕ) (place len : ℕ) (t : Bool) (e : t ≡ lies_in (length s) place len) where
  pub part-nowhere : t ≡ false → NamePartCall s fl place len N.Nowhere
  unfolding first_name
  part-nowhere f = record { answer = go len (sym e ∙ f) }
    where
      go : (l : ℕ) → lies_in (length s) place l ≡ false → N.Nowhere ≡ part_for s (listed fl) place l
      go zero h = refl
      go (suc k) h = let z : leb (place + suc k) (length s) ≡ false = sym (lies_in_lem (length s) place k) ∙ h in rw z

  pub part-found : t ≡ true → (own : List ℕ) → own ≡ part_of s place len → (x : P.Option NamePart) → x ≡ first_of (family_of own (listed fl))
      → (r : NamePart) → r ≡ unwrap_or x (N.InStream place len) → NamePartCall s fl place len r
  unfolding first_name
  part-found f own o x h r q = record { answer = q ∙ rw (h, o, own_is place len (family_of (part_of s place len) (listed fl))) (go len (sym e ∙ f)) }
    where
      go : (l : ℕ) → lies_in (length s) place l ≡ true → own_or place l (family_of (part_of s place l) (listed fl)) ≡ part_for s (listed fl) place l
      go zero g = absurd (false≢true g)
      go (suc k) g = let z : leb (place + suc k) (length s) ≡ true = sym (lies_in_lem (length s) place k) ∙ g in rw z

pub ruleset parts = (part-nowhere, part-found)
