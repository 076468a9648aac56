-- The first name for a record (2026-01), proved of both calls.
use Prim.Native.Nat.{ℕ, zero, suc, ◌+◌, ◌-◌, ◌<◌, ◌≤◌, min}
use native.Mathlib.Omega.{arith}
use mathlib.Core.List.{List, [], ◌∷◌, map}
use mathlib.Core.Logic.{◌⊎◌, inl, inr}
use mathlib.Core.Option.{Option, none, some}
use mathlib.Core.Path.{◌≡◌, refl, sym, ap, subst, ◌∙◌}
use lib.Dec.{leb}
use lib.ListN.{length, take, drop, length-take, length-drop}
use borrow.Author.Tests.{le-ltb, lt-ltb, le-leb, lt-leb, leb-true, leb-false}
use Rattle.rules.specs.declared.Record.{Record}
use Rattle.rules.specs.declared.NamePart.{NamePart}
use Rattle.rules.specs.declared.NamePart.TheVariants as N
use Rattle.rules.specs.State.{Glyph}
use Rattle.rules.specs.Families.{Family, family_of}
use Rattle.rules.specs.Answers.{is_over, listed, own_or, part_for, first_name, bytes_of}
use Rattle.rules.specs.Rules.{rules}
use Rattle.rules.specs.Calls.{NamePartCall, FirstNameCall}
use Rattle.laws.proofs.Cases.{on}
use Rattle.laws_find.specs.Occurs.{Has}
use Rattle.laws_find.specs.Written.{GoodName}
use Rattle.laws_offsets.proofs.Exactly.{exactly}
use Rattle.demands.specs.Demands.{SoundFamilies, UnsoundFamilies, FamilyIn, SeenGlyph, recorded, set, FirstNameOf, in_family, in_none, PartOf, nowhere, of_stream, of_families, HandsBack, EachFirstName, FirstNames}
use Rattle.demands.proofs.Families.{sound_parted, each_list, family_is, family_none, InOrNot, in_or_not, stands, stands_inside, name_good}

-- ---- the families that are looked at

listed-sound : (fl : List ℕ) (fs : List Family) → SoundFamilies fl fs → listed fl ≡ fs
unfolding listed
listed-sound fl fs h = rw (le-ltb 65_536 (length fl) h.short, h.says)

listed-unsound : (fl : List ℕ) → UnsoundFamilies fl → listed fl ≡ []
unfolding listed
listed-unsound fl (inl l) = rw (lt-ltb 65_536 (length fl) l)
listed-unsound fl (inr (at, o)) = on (is_over 65_536 fl) (λ e. rw e) (λ e. rw (e, exactly.families fl at o))

listed_none : listed [] ≡ []
unfolding rules
listed_none = refl

-- ---- the part

part_in : (s : List ℕ) (fs : List Family) (place len : ℕ) → 1 ≤ len → place + len ≤ length s → part_for s fs place len ≡ own_or place len (family_of (take len (drop place s)) fs)
part_in s fs place zero h k = absurd (omega (arith, h))
part_in s fs place (suc n) h k = rw (le-leb (place + suc n) (length s) k)

part_out : (s : List ℕ) (fs : List Family) (place len : ℕ) → (len ≡ 0) ⊎ (length s < place + len) → part_for s fs place len ≡ N.Nowhere
part_out s fs place zero h = refl
part_out s fs place (suc n) (inl e) = absurd (omega (arith, e))
part_out s fs place (suc n) (inr h) = rw (lt-leb (place + suc n) (length s) h)

-- a name lies in the stream, or it does not
in_stream : (s : List ℕ) (place len : ℕ) → ((1 ≤ len) × (place + len ≤ length s)) ⊎ ((len ≡ 0) ⊎ (length s < place + len))
in_stream s place zero = inr (inl refl)
in_stream s place (suc n) = on (leb (place + suc n) (length s)) (λ e. inl (omega arith, leb-true (place + suc n) (length s) e)) (λ e. inr (inr (leb-false (place + suc n) (length s) e)))

-- both calls, by the part
hands : (s fl : List ℕ) (place len : ℕ) (part : NamePart) (name : List ℕ) → first_name s fl place len ≡ part → bytes_of s fl part ≡ name → HandsBack s fl place len part name
hands s fl place len part name e b = record { the_part = λ r c. c.answer ∙ e; the_bytes = λ n c. c.part ∙ ap (bytes_of s fl) e ∙ b }

module _ (s fl : List ℕ) (place len : ℕ) where
  first-listed : (fs : List Family) → listed fl ≡ fs → first_name s fl place len ≡ part_for s fs place len
  unfolding first_name
  first-listed fs e = ap (λ (gs : List Family). part_for s gs place len) e

  module _ (h : 1 ≤ len) (k : place + len ≤ length s) where
    own_of : (fs : List Family) (o : Option Family) → listed fl ≡ fs → family_of (take len (drop place s)) fs ≡ o → first_name s fl place len ≡ own_or place len o
    own_of fs o e f = first-listed fs e ∙ part_in s fs place len h k ∙ ap (own_or place len) f

    of_family : (fs : List Family) (f : Family) → SoundFamilies fl fs → FamilyIn f fs → Has f (take len (drop place s)) → HandsBack s fl place len (N.InFamilies f.place (length f.first)) f.first
    of_family fs f z i a =
        hands s fl place len (N.InFamilies f.place (length f.first)) f.first
        (own_of fs (some f) (listed-sound fl fs z) (family_is fs f (take len (drop place s)) (sound_parted fl fs z) i a)) (stands fl fs f z i)

    own : (fs : List Family) → listed fl ≡ fs → family_of (take len (drop place s)) fs ≡ none → HandsBack s fl place len (N.InStream place len) (take len (drop place s))
    own fs e f = hands s fl place len (N.InStream place len) (take len (drop place s)) (own_of fs none e f) refl

    of_none : (fs : List Family) → SoundFamilies fl fs → ((f : Family) → FamilyIn f fs → Has f (take len (drop place s)) → ⊥) → HandsBack s fl place len (N.InStream place len) (take len (drop place s))
    of_none fs z a = own fs (listed-sound fl fs z) (family_none fs (take len (drop place s)) a)

    of_unsound : UnsoundFamilies fl → HandsBack s fl place len (N.InStream place len) (take len (drop place s))
    of_unsound u = own [] (listed-unsound fl u) (family_none [] (take len (drop place s)) (λ f i a. i))

  empty : (len ≡ 0) ⊎ (length s < place + len) → HandsBack s fl place len N.Nowhere []
  empty h = hands s fl place len N.Nowhere [] (first-listed (listed fl) refl ∙ part_out s (listed fl) place len h) refl

  -- ---- it is a part of the one or the other

  part_of : (r : NamePart) (n : List ℕ) → NamePartCall s fl place len r → FirstNameCall s fl place len n → PartOf s fl r n
  part_of r n c d = split (in_stream s place len)
    where
      by_hand : (part : NamePart) (name : List ℕ) → HandsBack s fl place len part name → PartOf s fl part name → PartOf s fl r n
      by_hand part name x p = subst (λ (y : NamePart). PartOf s fl y n) (sym (x.the_part r c)) (subst (PartOf s fl part) (sym (x.the_bytes n d)) p)

      sound_one : 1 ≤ len → place + len ≤ length s → (fs : List Family) → SoundFamilies fl fs → (o : Option Family) → InOrNot fs (take len (drop place s)) o → PartOf s fl r n
      sound_one h k fs z none a = by_hand (N.InStream place len) (take len (drop place s)) (of_none h k fs z a) (of_stream place len h k)
      sound_one h k fs z (some f) a =
          let g : GoodName f.first = name_good fs f f.first (sound_parted fl fs z) a.0 (inl refl) in
          by_hand (N.InFamilies f.place (length f.first)) f.first (of_family h k fs f z a.0 a.1)
          (subst (PartOf s fl (N.InFamilies f.place (length f.first))) (stands fl fs f z a.0) (of_families f.place (length f.first) g.some (stands_inside fl fs f z a.0)))

      either : 1 ≤ len → place + len ≤ length s → ((fs : List Family) × SoundFamilies fl fs) ⊎ UnsoundFamilies fl → PartOf s fl r n
      either h k (inl (fs, z)) = sound_one h k fs z (family_of (take len (drop place s)) fs) (in_or_not fs (take len (drop place s)))
      either h k (inr u) = by_hand (N.InStream place len) (take len (drop place s)) (of_unsound h k u) (of_stream place len h k)

      split : ((1 ≤ len) × (place + len ≤ length s)) ⊎ ((len ≡ 0) ⊎ (length s < place + len)) → PartOf s fl r n
      split (inl (h, k)) = either h k (each_list fl)
      split (inr h) = by_hand N.Nowhere [] (empty h) nowhere

-- ---- an unsound list counts as an empty one

no_part : (s fl gl : List ℕ) (place len : ℕ) → bytes_of s fl (part_for s [] place len) ≡ bytes_of s gl (part_for s [] place len)
unfolding family_of
no_part s fl gl place zero = refl
no_part s fl gl place (suc n) = on (leb (place + suc n) (length s)) (λ e. rw e) (λ e. rw e)

as_empty : (s fl : List ℕ) (place len : ℕ) (r : NamePart) (n : List ℕ) → UnsoundFamilies fl → NamePartCall s fl place len r → FirstNameCall s fl place len n
    → NamePartCall s [] place len r × FirstNameCall s [] place len n
as_empty s fl place len r n u c d =
    let e : first_name s fl place len ≡ part_for s [] place len = first-listed s fl place len [] (listed-unsound fl u) in
    let f : first_name s [] place len ≡ part_for s [] place len = first-listed s [] place len [] listed_none in
    (record { answer = c.answer ∙ e ∙ sym f }, record { part = d.part ∙ ap (bytes_of s fl) e ∙ no_part s fl [] place len ∙ ap (bytes_of s []) (sym f) })

-- ---- records that show glyphs

-- so many bytes stand there only where the place lies in the stream
long_inside : (s : List ℕ) (place len : ℕ) → length (take len (drop place s)) ≡ len → 1 ≤ len → place + len ≤ length s
long_inside s place len e h =
    let a : min len (length (drop place s)) ≡ len = sym (length-take len (drop place s)) ∙ e in
    let b : length (drop place s) ≡ length s - place = length-drop place s in
    omega (arith, a, b, h)

module _ (s fl : List ℕ) (fs : List Family) (z : SoundFamilies fl fs) where
  one_record : (k : Record) (g : Glyph) → recorded s k ≡ set g → (n : List ℕ) → FirstNameCall s fl k.place k.len n → FirstNameOf fs g.name n
  one_record k g e n c = split (in_stream s k.place k.len)
    where
      name_is : take k.len (drop k.place s) ≡ g.name
      name_is = ap (λ (x : SeenGlyph). x.name) e

      len_is : k.len ≡ length g.name
      len_is = ap (λ (x : SeenGlyph). x.len) e

      by_hand : (part : NamePart) (name : List ℕ) → HandsBack s fl k.place k.len part name → FirstNameOf fs g.name name → FirstNameOf fs g.name n
      by_hand part name x p = subst (FirstNameOf fs g.name) (sym (x.the_bytes n c)) p

      named : 1 ≤ k.len → k.place + k.len ≤ length s → (o : Option Family) → InOrNot fs (take k.len (drop k.place s)) o → FirstNameOf fs g.name n
      named h l none a =
          by_hand (N.InStream k.place k.len) g.name (subst (HandsBack s fl k.place k.len (N.InStream k.place k.len)) name_is (of_none s fl k.place k.len h l fs z a))
          (in_none (λ f i b. a f i (subst (Has f) (sym name_is) b)))
      named h l (some f) a =
          by_hand (N.InFamilies f.place (length f.first)) f.first (of_family s fl k.place k.len h l fs f z a.0 a.1)
          (in_family f a.0 (subst (Has f) name_is a.1))

      no_name : (m : List ℕ) → length m ≡ 0 → m ≡ []
      no_name [] q = refl
      no_name (b ∷ m) q = absurd (omega (arith, q))

      unnamed : k.len ≡ 0 → FirstNameOf fs g.name n
      unnamed q =
          let m : g.name ≡ [] = no_name g.name (sym len_is ∙ q) in
          by_hand N.Nowhere g.name (subst (HandsBack s fl k.place k.len N.Nowhere) (sym m) (empty s fl k.place k.len (inl q)))
          (in_none (λ f i b. (let y : GoodName g.name = name_good fs f g.name (sound_parted fl fs z) i b in let w : 1 ≤ length g.name = y.some in omega (arith, w, len_is, q))))

      -- a name that is shown does not reach behind the stream
      outside : length s < k.place + k.len → FirstNameOf fs g.name n
      outside l = on (leb 1 k.len) (λ b. absurd (let w : k.place + k.len ≤ length s = long_inside s k.place k.len (ap length name_is ∙ sym len_is) (leb-true 1 k.len b) in omega (arith, w, l)))
          (λ b. unnamed (let w : k.len < 1 = leb-false 1 k.len b in omega (arith, w)))

      split : ((1 ≤ k.len) × (k.place + k.len ≤ length s)) ⊎ ((k.len ≡ 0) ⊎ (length s < k.place + k.len)) → FirstNameOf fs g.name n
      split (inl (h, l)) = named h l (family_of (take k.len (drop k.place s)) fs) (in_or_not fs (take k.len (drop k.place s)))
      split (inr (inl q)) = unnamed q
      split (inr (inr l)) = outside l

  for_records : (ks : List Record) (gs : List Glyph) → map (recorded s) ks ≡ map set gs → EachFirstName s fl fs ks gs
  for_records [] [] e = tt
  for_records [] (g ∷ gs) e = absurd (omega (arith, ap length e))
  for_records (k ∷ ks) [] e = absurd (omega (arith, ap length e))
  for_records (k ∷ ks) (g ∷ gs) e = (one_record k g (ap (λ (l : List SeenGlyph). head (set g) l) e), for_records ks gs (ap tail e))
    where
      head : SeenGlyph → List SeenGlyph → SeenGlyph
      head d [] = d
      head d (x ∷ xs) = x

      tail : List SeenGlyph → List SeenGlyph
      tail [] = []
      tail (x ∷ xs) = xs

pub first_names : FirstNames
first_names = record {
  part = λ s fl place len. (first_name s fl place len, record { answer = refl });
  part_one = λ s fl place len r r₂ c c₂. c.answer ∙ sym c₂.answer;
  name = λ s fl place len. (bytes_of s fl (first_name s fl place len), record { part = refl });
  name_one = λ s fl place len n n₂ c c₂. c.part ∙ sym c₂.part;
  a_part = part_of;
  of_family = λ s fl place len fs f z h k i a. of_family s fl place len h k fs f z i a;
  stands = stands;
  of_none = λ s fl place len fs z h k a. of_none s fl place len h k fs z a;
  empty = empty;
  as_empty = as_empty;
  of_unsound = λ s fl place len u h k. of_unsound s fl place len h k u;
  one_for_all = λ s s₂ fl place len place₂ len₂ fs f n n₂ z i h k a h₂ k₂ a₂ c c₂.
      (of_family s fl place len h k fs f z i a).the_bytes n c ∙ sym ((of_family s₂ fl place₂ len₂ h₂ k₂ fs f z i a₂).the_bytes n₂ c₂);
  for_records = λ s fl fs ks gs z e. for_records s fl fs z ks gs e;
}
