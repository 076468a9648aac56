-- The key of a line and whether a name is new: the answer of each return, in the form in which the check applies it.
use Rattle.std.specs.Prelude.{Some, None}
use Rattle.std.specs.Prelude as P
use Prim.Native.Nat.{ℕ, ◌+◌, ◌-◌, ◌≤◌}
use native.Mathlib.Omega.{arith}
use mathlib.Core.Bool.{Bool, true, false}
use mathlib.Core.List.{List, [], ◌∷◌}
use mathlib.Core.Option.{Option, none, some}
use mathlib.Core.Path.{◌≡◌, refl, sym, ap, ◌∙◌}
use lib.ListN.{length, take, drop, get_or, length-take, length-drop}
use Rattle.std.specs.Option.{is_none as is_no}
use Rattle.rules.specs.Bytes.{bytes}
use Rattle.rules.specs.Widths.{behind, is_list_name}
use Rattle.rules.specs.Families.{Family, names_in, is_in, family_of, is_none, is_new_name}
use Rattle.laws.proofs.Cases.{on, no}
use Rattle.scan_lex.proofs.Lines.{behind_some}
use Rattle.families_line.specs.Line.{key_by, key_of, may_stand, mark_of}
use Rattle.families_line.specs.declared.Key.{Key}
use Rattle.families_table.specs.Table.{families_at, owner_of}
use Rattle.families_table.specs.declared.Table.{Table}
use Rattle.families.specs.Loading.{Marked, line_key}
use Rattle.families.specs.declared.FamilyState.{FamilyState}

-- ---- a name that is not among the families

owner_new : (n : List ℕ) (fs : List Family) → is_none (family_of n fs) ≡ is_no (owner_of n fs)
unfolding family_of owner_of
owner_new n [] = refl
owner_new n (f ∷ fs) = on (is_in n (names_in f)) (λ e. rw e) (λ e. rw e (owner_new n fs))

module _ (name : List ℕ) (fs : List Family) (b : Bool) (e : b ≡ is_list_name name) where
  pub new_not : b ≡ false → b ≡ is_new_name name fs
  new_not f = f ∙ rw (sym e ∙ f)

  module _ (f : b ≡ true) where
    pub new_marked : (seen : List Bool) (m : ℕ) → Marked seen fs → m ≡ mark_of name → get_or seen m false ≡ false → true ≡ is_new_name name fs
    new_marked seen m k g h = rw (sym e ∙ f, k.each name (ap (λ (x : ℕ). get_or seen x false) (sym g) ∙ h))

    pub new_owner : (o : P.Option ℕ) (r : Bool) → o ≡ owner_of name fs → r ≡ is_no o → r ≡ is_new_name name fs
    new_owner o r g h = rw (sym e ∙ f, owner_new name fs, ← g) h

-- ---- the key of a line

-- a line with a key is as long as the key
keyed_long : (t : List ℕ) (k : Key) → Some k ≡ key_of t → 5 ≤ length t
keyed_long t k = go (behind (bytes "name=") t) (behind (bytes "same=") t) refl refl
  where
    go : (o p : Option (List ℕ)) → behind (bytes "name=") t ≡ o → behind (bytes "same=") t ≡ p → Some k ≡ key_by o p → 5 ≤ length t
    go (some n) p e f h = (behind_some (bytes "name=") t n e).1
    go none (some n) e f h = (behind_some (bytes "same=") t n f).1
    go none none e f h = cc

pub key_place : (fl : List ℕ) (at e : ℕ) (k : Key) → at ≤ e → e ≤ length fl → Some k ≡ key_of (take (e - at) (drop at fl)) → at + 5 ≤ e
key_place fl at e k h i n = omega (arith, keyed_long (take (e - at) (drop at fl)) k n, length-take (e - at) (drop at fl), length-drop at fl)

module _ (fl : List ℕ) (tab : Table) (st : FamilyState) (e : ℕ) (o : P.Option Key) (k : o ≡ key_of (take (e - st.at) (drop st.at fl))) where
  module _ (r : Bool) (m : r ≡ may_stand o st.families st.size) where
    pub key-behind : r ≡ true → st.at ≤ e → e ≤ length fl → st.at + 5 ≤ e
    key-behind y h i = go o k (sym m ∙ y)
      where
        go : (p : P.Option Key) → p ≡ key_of (take (e - st.at) (drop st.at fl)) → may_stand p st.families st.size ≡ true → st.at + 5 ≤ e
        go (Some key) x z = key_place fl st.at e key h i x
        go None x z = no z

    pub key-wrong : r ≡ false → None ≡ line_key fl tab st e
    unfolding line_key
    key-wrong y = rw (← k, sym m ∙ y)

    module _ (y : r ≡ true) (b : Bool) (n : b ≡ is_new_name (take (e - (st.at + 5)) (drop (st.at + 5) fl)) (families_at fl tab st.families)) where
      pub key_new : b ≡ true → o ≡ line_key fl tab st e
      unfolding line_key
      key_new z = rw (← k, sym m ∙ y, sym n ∙ z)

      pub key_known : b ≡ false → None ≡ line_key fl tab st e
      unfolding line_key
      key_known z = rw (← k, sym m ∙ y, sym n ∙ z)

pub ruleset steps = (new_not, new_marked, new_owner, key-behind, key-wrong, key_new, key_known)
