-- What is known of a search where a turn begins, and that a turn keeps it.
use Prim.Native.Nat.{ℕ, zero, suc, ◌+◌, ◌-◌, ◌<◌, ◌≤◌}
use native.Mathlib.Omega.{arith}
use Rattle.std.specs.Prelude.{Option, Some, None}
use mathlib.Core.Bool.{true, false}
use mathlib.Core.List.{List}
use mathlib.Core.Path.{◌≡◌, refl, sym, ap, ◌∙◌}
use lib.Dec.{ltb, eqb}
use lib.ListN.{length, get_or, length-set}
use borrow.Author.Tests.{eq-eqb, eqb-false, ne_eqb, ltb-true}
use Rattle.rules.specs.declared.Record.{Record}
use Rattle.laws.proofs.Cases.{if_on, if_both, on, no as impossible}
use Rattle.find_compare.specs.declared.Progress.{Progress}
use Rattle.find_compare.specs.declared.Fed.{Fed}
use Rattle.find_match.specs.declared.Question.{Question}
use Rattle.find_compare.specs.Compare.{next_record, next_glyph, page_of, fits_at, passed, hit_at, fitted, feed_of, SearchGood}
use Rattle.find_search.specs.Search.{blank, hits_after, Looked, search_step_of, search_for, search_of, SearchReady, SearchReadyOrDone}

-- what a turn gives to the row lies within the room
abbrev pub InRow : Progress → Option ℕ → Type 0
InRow st (Some i) = st.hits < st.hmax
InRow st None = Unit {0}

pub record Well (st : Progress) (x : Fed) : Type 0 where
  pub less : x.state.left < st.left
  pub good : 0 < x.state.left → SearchGood x.state
  pub records : x.state.records ≡ st.records
  pub hmax : x.state.hmax ≡ st.hmax
  pub glyphs : x.state.glyphs ≡ st.glyphs
  pub row : InRow st x.hit

module _ (st : Progress) (g : SearchGood st) where
  next_well : (a : Option ℕ) (hits : ℕ) → InRow st a → Well st (record { hit = a; state = next_record st hits })
  next_well a hits r = record {
    less = omega (arith, g.inside, g.glyph, g.most, g.left);
    good = λ z.
        record { few = g.few; glyph = omega (arith, g.glyph); most = g.most; inside = omega arith; left = refl };
    records = refl;
    hmax = refl;
    glyphs = refl;
    row = r;
  }

  passed_well : Well st (passed st)
  passed_well = next_well None st.hits tt

  hit_well : Well st (hit_at st)
  hit_well = if_on (Well st) (ltb st.hits st.hmax) _ (passed st) (λ z. next_well (Some st.at) (st.hits + 1) (ltb-true st.hits st.hmax z)) (λ z. passed_well)

  glyph_well : (page : ℕ) → eqb (st.glyph + 1) st.glyphs ≡ false → st.at + st.glyph + 1 < st.records → Well st (record { hit = None; state = next_glyph st page })
  glyph_well page e h = record {
    less = omega (arith, g.inside, g.glyph, g.most, g.left);
    good = λ z. record { few = g.few; glyph = next; most = g.most; inside = omega arith; left = refl };
    records = refl;
    hmax = refl;
    glyphs = refl;
    row = tt;
  }
    where
      next : st.glyph + 1 < st.glyphs
      next = on (eqb (st.glyph + 1) st.glyphs) (λ z. absurd (differ (sym e ∙ z))) (λ z. omega (arith, g.glyph, apart z))
        where
          differ : false ≡ true → ⊥
          differ z = impossible z

          apart : eqb (st.glyph + 1) st.glyphs ≡ false → (st.glyph + 1 ≡ st.glyphs → ⊥)
          apart z y = differ (sym z ∙ eq-eqb (st.glyph + 1) st.glyphs y)

  fitted_well : (page : ℕ) → Well st (fitted st page)
  fitted_well page =
      if_on (Well st) (eqb (st.glyph + 1) st.glyphs) (hit_at st) _ (λ z. hit_well)
      (λ z. if_on (Well st) (ltb (st.at + st.glyph + 1) st.records) _ (passed st) (λ y. glyph_well page z (ltb-true (st.at + st.glyph + 1) st.records y)) (λ y. passed_well))

  pub feed_well : (s : List ℕ) (w : Question) (r : Record) → Well st (feed_of s w st r)
  unfolding feed_of
  feed_well s w r = if_both (Well st) (fits_at s w st r) (fitted st (page_of st r)) (passed st) (fitted_well (page_of st r)) passed_well

hits_length : (hits : List ℕ) (k : ℕ) (a : Option ℕ) → length (hits_after hits k a) ≡ length hits
hits_length hits k (Some i) = length-set hits k i
hits_length hits k None = refl

-- `records` by arithmetic, so that a search over one record too many is refused where a search begins, and not here
pub ready_or_done : (n h : ℕ) (w : Question) (st : Progress) → SearchReady n h w st → SearchReadyOrDone n h w st
ready_or_done n h w st r = record { glyphs = λ z. r.glyphs; good = r.good; records = omega (arith, r.records); hits = r.hits }

-- a search keeps the number of glyphs
pub search_glyphs : (k : ℕ) (s : List ℕ) (w : Question) (recs : List Record) (p : Looked) → (0 < p.state.left → SearchGood p.state) → (search_for k s w recs p).state.glyphs ≡ p.state.glyphs
unfolding search_for
search_glyphs zero s w recs p g = refl
search_glyphs (suc k) s w recs p g =
    if_on (λ (q : Looked). q.state.glyphs ≡ p.state.glyphs) (eqb p.state.left 0) p (search_for k s w recs (search_step_of s w recs p)) (λ z. refl)
    (λ z.
    let d = eqb-false p.state.left 0 z in
    let v = feed_well p.state (g (omega (arith, d))) s w (get_or recs (p.state.at + p.state.glyph) blank) in
    search_glyphs k s w recs (search_step_of s w recs p) v.good ∙ v.glyphs)

module _ (s : List ℕ) (w : Question) (recs : List Record) (p₀ : Looked) where
  pub record Known (k : ℕ) (p : Looked) : Type 0 where
    pub runs : search_for k s w recs p ≡ search_of s w recs p₀
    pub few : p.state.left ≤ k
    pub good : 0 < p.state.left → SearchGood p.state
    pub records : p.state.records ≤ length recs
    pub hmax : p.state.hmax ≡ length p₀.hits
    pub glyphs : 0 < p.state.left → p.state.glyphs ≤ length w.glyphs.now
    pub same : length p.hits ≡ length p₀.hits

  pub first_known : SearchReadyOrDone (length recs) (length p₀.hits) w p₀.state → Known p₀.state.left p₀
  first_known h = record { runs = refl; few = omega arith; good = h.good; records = h.records; hmax = h.hits; glyphs = h.glyphs; same = refl }

  -- a search that began ready has all of its glyphs, wherever it stands
  pub known_glyphs : SearchReady (length recs) (length p₀.hits) w p₀.state → (k : ℕ) (p : Looked) → Known k p → p.state.glyphs ≤ length w.glyphs.now
  known_glyphs h k p kn =
      let e : p.state.glyphs ≡ p₀.state.glyphs = sym (search_glyphs k s w recs p kn.good) ∙ ap (λ (q : Looked). q.state.glyphs) kn.runs ∙ search_glyphs p₀.state.left s w recs p₀ h.good in
      omega (arith, e, h.glyphs)

  module _ (k : ℕ) (p : Looked) (kn : Known k p) (going : 0 < p.state.left) where
    -- the record that is asked for is there
    pub at_in : p.state.at + p.state.glyph < length recs
    at_in = omega (arith, (kn.good going).inside, kn.records)

    module _ (x : Fed) (e : x ≡ feed_of s w p.state (get_or recs (p.state.at + p.state.glyph) blank)) where
      well : Well p.state x
      well = rw e (feed_well p.state (kn.good going) s w (get_or recs (p.state.at + p.state.glyph) blank))

      pub in_row : InRow p.state x.hit
      in_row = well.row

      pub less : x.state.left < p.state.left
      less = well.less

      one_more : (n : ℕ) → k ≡ suc n → search_for k s w recs p ≡ search_for n s w recs (search_step_of s w recs p)
      unfolding search_for
      one_more n h = rw (h, ne_eqb p.state.left 0 (λ z. omega arith))

      -- the search behind a turn, with what the turn left in the row
      pub next_known : (hs : List ℕ) → hs ≡ hits_after p.hits p.state.hits x.hit → (n : ℕ) × Known n (record { state = x.state; hits = hs })
      next_known hs a = (
        k - 1,
        rw a (record {
          runs = ap (λ (z : Fed). search_for (k - 1) s w recs (record { state = z.state; hits = hits_after p.hits p.state.hits z.hit })) e ∙ sym (one_more (k - 1) (omega (arith, kn.few))) ∙ kn.runs;
          few = omega (arith, well.less, kn.few);
          good = well.good;
          records = omega (arith, well.records, kn.records);
          hmax = well.hmax ∙ kn.hmax;
          glyphs = λ z. omega (arith, well.glyphs, kn.glyphs going);
          same = hits_length p.hits p.state.hits x.hit ∙ kn.same;
        }),
      )

  run-done : (k : ℕ) (p : Looked) → p.state.left ≤ 0 → search_for k s w recs p ≡ p
  unfolding search_for
  run-done zero p h = refl
  run-done (suc k) p h = rw (eq-eqb p.state.left 0 (omega arith))

  pub ended : (k : ℕ) (p : Looked) → Known k p → p.state.left ≤ 0 → p ≡ search_of s w recs p₀
  ended k p kn h = sym (run-done k p h) ∙ kn.runs
