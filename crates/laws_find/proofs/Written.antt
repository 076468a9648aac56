-- A query's text has one meaning: what is written for good glyphs is read as these, and nothing else is well formed.
use Prim.Native.Nat.{ℕ, zero, suc, ◌+◌, ◌*◌, ◌<◌, ◌≤◌}
use native.Mathlib.Omega.{arith}
use native.Mathlib.Nat.{add-zero, le_of_suc-le-suc}
use mathlib.Core.Bool.{Bool, true, false, ◌&&◌}
use mathlib.Core.List.{List, [], ◌∷◌, ◌++◌, append_assoc}
use mathlib.Core.Logic.{inl, inr}
use mathlib.Core.Option.{Option, none, some}
use mathlib.Core.Path.{◌≡◌, refl, sym, ap, ◌∙◌}
use lib.Dec.{ltb, leb, eqb}
use lib.ListN.{length, length-append}
use borrow.Author.Tests.{eqb-true, eq-eqb, ltb-true, lt-ltb, leb-true, le-leb}
use Rattle.std.proofs.Math.Option.{none-ne-some}
use Rattle.std.proofs.lemmas.Bool.{or_parts}
use Rattle.rules.specs.Bytes.{bytes, is, is_space, is_white, is_not_white, is_clear, span, same}
use Rattle.rules.specs.Widths.{Line, with_byte, lines_from, behind, is_list_name}
use Rattle.rules.specs.Find.{Gap, any_gap, no_gap, some_gap, Wanted, Expected, first_glyph, gap_glyph, either, Query, ill_formed, well_formed, query_ends, with_wanted, gap_of, may_ask, query_line, query_lines, query}
use Rattle.laws.proofs.Cases.{on, no, and_left, and_right}
use Rattle.laws.proofs.Same.{same_eq}
use Rattle.laws.proofs.Clear.{clear_none, none_clear}
use Rattle.laws_find.specs.Occurs.{AllAsked, IsAsked, wanted_at}
use Rattle.laws_find.specs.Written.{glyph_line, gap_line, gap_before, written, White, NoWhite, GoodName, GoodNames, GoodQuery}
use Rattle.laws_find.proofs.Asked.{query-shape, shape_some}

-- ---- whitespace: the rules' test

pub white_true : (b : ℕ) → White b → is_white b ≡ true
white_true b (inl h) = rw h
white_true b (inr (inl h)) = rw h
white_true b (inr (inr h)) = rw h

pub true_white : (b : ℕ) → is_white b ≡ true → White b
true_white b h =
    on (is " " b) (λ k. inl (eqb-true b 32 k))
    (λ k. on (is "\t" b) (λ j. inr (inl (eqb-true b 9 j))) (λ j. inr (inr (eqb-true b 10 (rw (k, j) at h)))))

pub false_not-white : (b : ℕ) → is_white b ≡ false → White b → ⊥
false_not-white b h w = no (sym h ∙ white_true b w)

pub not-white_false : (b : ℕ) → (White b → ⊥) → is_white b ≡ false
not-white_false b h = on (is_white b) (λ k. absurd (h (true_white b k))) (λ k. k)

-- ---- names

span_no_white : (n : List ℕ) → span is_not_white n ≡ length n → NoWhite n
unfolding span
span_no_white [] h = tt
span_no_white (b ∷ n) h = on (is_white b) (λ e. absurd (let z : 0 ≡ suc (length n) = rw e at h in omega arith))
    (λ e. (false_not-white b e, span_no_white n (let z : suc (span is_not_white n) ≡ suc (length n) = rw e at h in omega arith)))

no_white-span : (n : List ℕ) → NoWhite n → span is_not_white n ≡ length n
unfolding span
no_white-span [] h = refl
no_white-span (b ∷ n) h = rw (not-white_false b h.0) (ap suc (no_white-span n h.1))

pub listed_good : (n : List ℕ) → is_list_name n ≡ true → GoodName n
listed_good n h =
    let whole : Bool = eqb (span is_not_white n) (length n) in
    let k : (leb (length n) 64 && (whole && is_clear n)) ≡ true = and_right (ltb 0 (length n)) (leb (length n) 64 && (whole && is_clear n)) h in
    let j : (whole && is_clear n) ≡ true = and_right (leb (length n) 64) (whole && is_clear n) k in
    record {
      some = omega (arith, ltb-true 0 (length n) (and_left (ltb 0 (length n)) (leb (length n) 64 && (whole && is_clear n)) h));
      few = leb-true (length n) 64 (and_left (leb (length n) 64) (whole && is_clear n) k);
      no_white = span_no_white n (eqb-true (span is_not_white n) (length n) (and_left whole (is_clear n) j));
      no_barred = clear_none n (and_right whole (is_clear n) j);
    }

pub good_listed : (n : List ℕ) → GoodName n → is_list_name n ≡ true
good_listed n h =
    let k : 1 ≤ length n = h.some in
    rw (lt-ltb 0 (length n) (omega arith), le-leb (length n) 64 h.few, eq-eqb (span is_not_white n) (length n) (no_white-span n h.no_white), none_clear n h.no_barred)

-- ---- lines

-- a text of one line
abbrev pub OneLine : List ℕ → Type 0
OneLine [] = Unit {0}
OneLine (b ∷ t) = (is "\n" b ≡ false) × OneLine t

pub no_white_line : (n : List ℕ) → NoWhite n → OneLine n
no_white_line [] h = tt
no_white_line (b ∷ n) h = ((or_parts (is_space b) (is "\n" b) (not-white_false b h.0)).1, no_white_line n h.1)

pub line_front : (t : List ℕ) (at : ℕ) (r : List ℕ) → OneLine t → lines_from at (t ++ 10 ∷ r) ≡ record { place = at; text = t; ended = true } ∷ lines_from (at + length t + 1) r
unfolding lines_from
line_front [] at r h = rw add-zero
line_front (b ∷ t) at r h =
    let z : at + 1 + length t ≡ at + suc (length t) = omega arith in
    rw (h.0, line_front t (at + 1) r h.1, z)

-- the text of all the lines
abbrev ending : Bool → List ℕ
ending true = 10 ∷ []
ending false = []

abbrev joined : List Line → List ℕ
joined [] = []
joined (l ∷ ls) = l.text ++ (ending l.ended ++ joined ls)

byte_joined : (at b : ℕ) (ls : List Line) → joined (with_byte at b ls) ≡ b ∷ joined ls
byte_joined at b [] = refl
byte_joined at b (l ∷ ls) = refl

lines_joined : (t : List ℕ) (at : ℕ) → joined (lines_from at t) ≡ t
unfolding lines_from
lines_joined [] at = refl
lines_joined (b ∷ t) at =
    on (is "\n" b)
    (λ e. rw (e, eqb-true b 10 e, lines_joined t (at + 1)))
    (λ e. rw (e, byte_joined at b (lines_from (at + 1) t), lines_joined t (at + 1)))

-- ---- what is written is read

glyph-text : (name r : List ℕ) → glyph_line name ++ r ≡ (bytes "glyph=" ++ name) ++ 10 ∷ r
glyph-text name r = ap (λ (l : List ℕ). bytes "glyph=" ++ l) (append_assoc name (10 ∷ []) r)

module _ (n at : ℕ) (r : List ℕ) where
  glyph-read : (x : Expected) (name : List ℕ) → n < 64 → GoodName name
      → query_lines n x (lines_from at (glyph_line name ++ r)) ≡ with_wanted (gap_of x) name (query_lines (n + 1) either (lines_from (at + length (bytes "glyph=" ++ name) + 1) r))
  unfolding query_lines behind
  glyph-read x name k h =
      rw (
        glyph-text name r,
        line_front (bytes "glyph=" ++ name) at r (refl, (refl, (refl, (refl, (refl, (refl, no_white_line name h.no_white)))))),
        lt-ltb n 64 k,
        good_listed name h,
      )

  gap_read : query_lines n either (lines_from at (gap_line ++ r)) ≡ query_lines n (gap_glyph at) (lines_from (at + length (bytes "gap=any") + 1) r)
  unfolding query_lines behind same
  gap_read = rw (line_front (bytes "gap=any") at r (refl, (refl, (refl, (refl, (refl, (refl, (refl, tt))))))))

wanted_read : (n at : ℕ) (r : List ℕ) (g : Gap) (name : List ℕ) (qs : List Wanted) → IsAsked g → n < 64 → GoodName name → ((p : ℕ) → query_lines (n + 1) either (lines_from p r) ≡ well_formed qs)
    → query_lines n either (lines_from at (gap_before g ++ (glyph_line name ++ r))) ≡ well_formed (record { gap = g; name = name } ∷ qs)
wanted_read n at r any_gap name qs a k h more = absurd a
wanted_read n at r no_gap name qs a k h more = glyph-read n at r either name k h ∙ ap (with_wanted no_gap name) (more (at + length (bytes "glyph=" ++ name) + 1))
wanted_read n at r some_gap name qs a k h more =
    let p : ℕ = at + length (bytes "gap=any") + 1 in
    gap_read n at (glyph_line name ++ r) ∙ glyph-read n p r (gap_glyph at) name k h ∙ ap (with_wanted some_gap name) (more (p + length (bytes "glyph=" ++ name) + 1))

written_on : (qs : List Wanted) (n at : ℕ) → n + length qs ≤ 64 → GoodNames qs → AllAsked qs → query_lines n either (lines_from at (written qs)) ≡ well_formed qs
unfolding written lines_from query_lines
written_on [] n at l g a = refl
written_on (q ∷ qs) n at l g a = wanted_read n at (written qs) q.gap q.name qs a.0 (omega arith) g.0 (λ p. written_on qs (n + 1) p (omega arith) g.1 a.1)

pub written_read : (qs : List Wanted) → GoodQuery qs → query (written qs) ≡ well_formed qs
unfolding query written
written_read [] g = absurd g.gaps
written_read (q ∷ qs) g =
    let k : suc (length qs) ≤ 64 = g.few in
    rw g.gaps.0 (glyph-read 0 0 (written qs) first_glyph q.name (omega arith) g.names.0
    ∙ ap (with_wanted any_gap q.name) (written_on qs (0 + 1) (0 + length (bytes "glyph=" ++ q.name) + 1) (omega arith) g.names.1 g.gaps.1))

-- ---- nothing else is well formed

abbrev behind_or : List ℕ → Option (List ℕ) → List ℕ
behind_or t none = t
behind_or t (some n) = n

pub behind_front : (key t n : List ℕ) → behind key t ≡ some n → t ≡ key ++ n
unfolding behind
behind_front [] t n h = ap (behind_or []) h
behind_front (x ∷ xs) [] n h = absurd (none-ne-some n h)
behind_front (x ∷ xs) (b ∷ t) n h =
    on (eqb x b)
    (λ e. rw (eqb-true x b e) (ap (λ (l : List ℕ). b ∷ l) (behind_front xs t n (rw e at h))))
    (λ e. absurd (none-ne-some n (rw e at h)))

-- what the lines still to come say: with the gap line that came before them they are what is written for the glyphs
pub record Says (n : ℕ) (x : Expected) (t : List ℕ) (qs : List Wanted) : Type 0 where
  pub text : gap_before (gap_of x) ++ t ≡ written qs
  pub few : n + length qs ≤ 64
  pub names : GoodNames qs

abbrev Claim : ℕ → Expected → List ℕ → Query → Type 0
Claim n x t (ill_formed at) = Unit {0}
Claim n x t (well_formed qs) = Says n x t qs

claim_ends : (n : ℕ) (x : Expected) → n ≤ 64 → Claim n x [] (query_ends x)
unfolding written
claim_ends n first_glyph l = tt
claim_ends n (gap_glyph at) l = tt
claim_ends n either l = record { text = refl; few = omega arith; names = tt }

-- a glyph line
claim-glyph : (n : ℕ) (x : Expected) (name rest : List ℕ) (q : Query) → GoodName name → Claim (n + 1) either rest q → Claim n x ((bytes "glyph=" ++ name) ++ 10 ∷ rest) (with_wanted (gap_of x) name q)
unfolding written
claim-glyph n x name rest (ill_formed at) g h = tt
claim-glyph n x name rest (well_formed qs) g h = record {
  text = ap (λ (l : List ℕ). gap_before (gap_of x) ++ l) (ap (λ (l : List ℕ). (bytes "glyph=" ++ name) ++ 10 ∷ l) h.text ∙ sym (glyph-text name (written qs)));
  few = let k : n + 1 + length qs ≤ 64 = h.few in omega arith;
  names = (g, h.names);
}

-- a gap line
claim_gap : (n at : ℕ) (rest : List ℕ) (q : Query) → Claim n (gap_glyph at) rest q → Claim n either (gap_line ++ rest) q
claim_gap n at rest (ill_formed p) h = tt
claim_gap n at rest (well_formed qs) h = record { text = h.text; few = h.few; names = h.names }

claim_line : (n : ℕ) (x : Expected) (at : ℕ) (t rest : List ℕ) (go : ℕ → Expected → Query) (o : Option (List ℕ)) → behind (bytes "glyph=") t ≡ o → n ≤ 64
    → ((m : ℕ) (y : Expected) → m ≤ 64 → Claim m y rest (go m y)) → Claim n x (t ++ 10 ∷ rest) (query_line n x at t go o)
claim_line n x at t rest go (some name) e l more =
    on (may_ask n name)
    (λ h. rw (h, behind_front (bytes "glyph=") t name e)
    (claim-glyph n x name rest (go (n + 1) either) (listed_good name (and_right (ltb n 64) (is_list_name name) h))
    (more (n + 1) either (omega (arith, ltb-true n 64 (and_left (ltb n 64) (is_list_name name) h))))))
    (λ h. rw h tt)
claim_line n first_glyph at t rest go none e l more = tt
claim_line n (gap_glyph p) at t rest go none e l more = tt
claim_line n either at t rest go none e l more =
    on (same t (bytes "gap=any"))
    (λ h. rw (h, same_eq t (bytes "gap=any") h) (claim_gap n at rest (go n (gap_glyph at)) (more n (gap_glyph at) l)))
    (λ h. rw h tt)

claim_lines : (ls : List Line) (n : ℕ) (x : Expected) → n ≤ 64 → Claim n x (joined ls) (query_lines n x ls)
unfolding query_lines
claim_lines [] n x l = claim_ends n x l
claim_lines (k ∷ ls) n x l =
    on k.ended
    (λ e. rw e (claim_line n x k.place k.text (joined ls) (λ m y. query_lines m y ls) (behind (bytes "glyph=") k.text) refl l (λ m y z. claim_lines ls m y z)))
    (λ e. rw e tt)

pub read-written : (q : List ℕ) (qs : List Wanted) → query q ≡ well_formed qs → (q ≡ written qs) × GoodQuery qs
unfolding query
read-written q qs h =
    let x : Says 0 first_glyph (joined (lines_from 0 q)) qs = rw h at (claim_lines (lines_from 0 q) 0 first_glyph (omega arith)) in
    let k : 0 + length qs ≤ 64 = x.few in (
      sym (lines_joined q 0) ∙ x.text,
      record { some = omega (arith, shape_some qs (query-shape q qs h)); few = omega arith; names = x.names; gaps = query-shape q qs h },
    )

-- ---- and what follows

-- it is not too long
gap_length : (g : Gap) → length (gap_before g) ≤ 8
gap_length any_gap = omega arith
gap_length no_gap = omega arith
gap_length some_gap = omega arith

glyph-length : (name r : List ℕ) → length (glyph_line name ++ r) ≡ 7 + length name + length r
glyph-length name r = ap length (glyph-text name r) ∙ (let k : length (name ++ 10 ∷ r) ≡ length name + suc (length r) = length-append name (10 ∷ r) in omega arith)

written-length : (qs : List Wanted) → GoodNames qs → length (written qs) ≤ 79 * length qs
unfolding written
written-length [] g = omega arith
written-length (q ∷ qs) g =
    let a : length (gap_before q.gap ++ (glyph_line q.name ++ written qs)) ≡ length (gap_before q.gap) + length (glyph_line q.name ++ written qs) = length-append (gap_before q.gap) (glyph_line q.name ++ written qs) in
    omega (arith, a, gap_length q.gap, glyph-length q.name (written qs), g.0.few, written-length qs g.1)

pub query_short : (q : List ℕ) (qs : List Wanted) → query q ≡ well_formed qs → length q ≤ 8_192
query_short q qs h =
    let x : (q ≡ written qs) × GoodQuery qs = read-written q qs h in
    rw x.0 (omega (arith, written-length qs x.1.names, x.1.few))

-- each glyph of it has a good name
name_good : (qs : List Wanted) (j : ℕ) → GoodNames qs → j < length qs → GoodName (wanted_at qs j).name
name_good [] j g l = absurd (omega arith)
name_good (q ∷ qs) zero g l = g.0
name_good (q ∷ qs) (suc j) g l = name_good qs j g.1 (le_of_suc-le-suc l)

pub names_some : (q : List ℕ) (qs : List Wanted) (j : ℕ) → query q ≡ well_formed qs → j < length qs → GoodName (wanted_at qs j).name
names_some q qs j h l = name_good qs j (read-written q qs h).1.names l
