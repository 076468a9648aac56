-- One line of the query further: what is still to come, put behind the glyphs read so far, stays the whole.
use Rattle.std.specs.Prelude.{Result, Ok, Err, Some, None, ok_or, if◌then◌else◌}
use Rattle.std.specs.Prelude as P
use Prim.Native.Nat.{ℕ, ◌+◌, ◌-◌, ◌≤◌, ◌<◌}
use native.Mathlib.Omega.{arith}
use mathlib.Core.Bool.{Bool, true, false, ◌&&◌}
use mathlib.Core.List.{List, [], ◌∷◌, ◌++◌, append-nil}
use mathlib.Core.Option.{Option, none, some}
use mathlib.Core.Path.{◌≡◌, refl, sym, ap, ◌∙◌}
use lib.Dec.{ltb}
use lib.ListN.{length, take, drop, set, length-append, length-take, length-drop, length-set, get_or-append}
use lib.Seq.{get_or_at, get_or-set_same, get_or-set_other, drop-drop}
use borrow.Author.Rules.{rules}
use borrow.Author.Tests.{lt-ltb, le-ltb, ltb-true, ltb-false}
use mir.Syntax.{w64}
use mir.Val.{Fits}
use Rattle.rules.specs.declared.Refusal.{Refusal}
use Rattle.rules.specs.Answers.{refusal}
use Rattle.rules.specs.Bytes.{bytes, same, is_not_newline}
use Rattle.rules.specs.Widths.{lines_from, behind}
use Rattle.rules.specs.Find.{Expected, first_glyph, gap_glyph, either, Wanted as RulesWanted, Query, ill_formed, well_formed, with_wanted, gap_of, may_part, may_ask, query_ends, query_line, query_lines, query}
use Rattle.laws_find.specs.Occurs.{no_wanted, wanted_at}
use Rattle.name.specs.Part.{part_of}
use Rattle.query_line.specs.Kinds.{gap_asked, expected_of, kind_by, kind_of}
use Rattle.query_line.specs.declared.Gap.{Gap}
use Rattle.query_line.specs.declared.Due.TheVariants as D
use Rattle.query_line.specs.declared.Kind.{Kind}
use Rattle.query_line.specs.declared.Kind.TheVariants as K
use Rattle.query.specs.Asked.{no_glyph, query_of, glyph_at, LinesIn, LinesOf}
use Rattle.query.specs.Turns.{end_of, glyphs_before, Going, LineTurned}
use Rattle.query.specs.declared.Wanted.{Wanted}
use Rattle.query.specs.declared.QueryState.{QueryState}
use Rattle.laws.proofs.Cases.{on, and_left}
use Rattle.scan_lex.specs.At.{run_end}
use Rattle.scan_lex.proofs.Lines.{line_at_lem, line_from, lines_none, behind_some, drop-take}

-- ---- glyphs before what the lines behind them say
before_ill : (ws : List RulesWanted) (at : ℕ) → glyphs_before ws (ill_formed at) ≡ ill_formed at
unfolding glyphs_before
before_ill [] at = refl
before_ill (w ∷ ws) at = rw (before_ill ws at)

before_well : (ws qs : List RulesWanted) → glyphs_before ws (well_formed qs) ≡ well_formed (ws ++ qs)
unfolding glyphs_before
before_well [] qs = refl
before_well (w ∷ ws) qs = rw (before_well ws qs)

before_more : (ws : List RulesWanted) (w : RulesWanted) (r : Query) → glyphs_before ws (with_wanted w.gap w.name r) ≡ glyphs_before (ws ++ w ∷ []) r
unfolding glyphs_before
before_more [] w r = refl
before_more (v ∷ ws) w r = rw (before_more ws w r)

-- ---- the row with one glyph line more
module _ (ws : List RulesWanted) (w : RulesWanted) (j : ℕ) where
  old_glyph : j < length ws → wanted_at (ws ++ w ∷ []) j ≡ wanted_at ws j
  old_glyph h = get_or-append ws (w ∷ []) no_wanted j h

  new_glyph : length ws ≡ j → wanted_at (ws ++ w ∷ []) j ≡ w
  new_glyph e = get_or_at ws w [] no_wanted j e

  old_or_new : (P : Type 0) → j < length (ws ++ w ∷ []) → (j < length ws → P) → (length ws ≡ j → P) → P
  old_or_new P h f g =
      on (ltb j (length ws))
      (λ e. f (ltb-true j (length ws) e))
      (λ e. g (omega (arith, ltb-false j (length ws) e, length-append ws (w ∷ []))))

-- a store in the row is read again, and changes no other place
module _ (s : List Wanted) (n : ℕ) (x : Wanted) (j : ℕ) where
  stored : n < length s → n ≡ j → glyph_at (set s n x) j ≡ x
  stored h e = rw (← e) (get_or-set_same s n x no_glyph h)

  kept : j < n → glyph_at (set s n x) j ≡ glyph_at s j
  kept h = get_or-set_other s n j x no_glyph (λ e. omega arith)

module _ (q : List ℕ) (ws : List RulesWanted) (gs : List Wanted) (i : LinesIn q ws gs) (n : ℕ) (x : Wanted) (c : length ws ≡ n) (w : RulesWanted) where
  held_more : n < length gs → x.place + x.len ≤ length q → part_of q x.place x.len ≡ w.name → gap_asked x.gap ≡ w.gap → LinesIn q (ws ++ w ∷ []) (set gs n x)
  held_more v r m k = record {
    inside = λ j h.
        old_or_new ws w j _ h
        (λ o. rw (kept gs n x j (omega arith)) (i.inside j o))
        (λ e. rw (stored gs n x j v (sym c ∙ e)) r);
    name = λ j h.
        old_or_new ws w j _ h
        (λ o. rw (kept gs n x j (omega arith), old_glyph ws w j o) (i.name j o))
        (λ e. rw (stored gs n x j v (sym c ∙ e), new_glyph ws w j e) m);
    gap = λ j h.
        old_or_new ws w j _ h
        (λ o. rw (kept gs n x j (omega arith), old_glyph ws w j o) (i.gap j o))
        (λ e. rw (stored gs n x j v (sym c ∙ e), new_glyph ws w j e) k);
  }

-- ---- what a line of each kind makes of the query
if_some : (b : Bool) (x y : Kind) → (if b then Some x else None) ≡ Some y → (b ≡ true) × (x ≡ y)
if_some true x y h = (refl, cc)
if_some false x y h = cc

if_none : (b : Bool) (x : Kind) → (if b then Some x else None) ≡ None → b ≡ false
if_none true x h = cc
if_none false x h = refl

module _ (n : ℕ) (x : Expected) (at : ℕ) (t : List ℕ) (go : ℕ → Expected → Query) where
  -- a line behind its key, or without it
  abbrev line_says : Option (List ℕ) → Query
  line_says o = query_line n x at t go o

  glyph_by : (o : Option (List ℕ)) → behind (bytes "glyph=") t ≡ o → kind_by n x t o ≡ Some K.Glyph
      → (line_says o ≡ with_wanted (gap_of x) (drop 6 t) (go (n + 1) either)) × (6 ≤ length t) × (n < 64)
  glyph_by none p k = cc ((if_some (may_part x && same t (bytes "gap=any")) K.Gap K.Glyph k).1)
  glyph_by (some name) p k =
      let b = behind_some (bytes "glyph=") t name p in
      let m : may_ask n name ≡ true = (if_some (may_ask n name) K.Glyph K.Glyph k).0 in
      (rw (m, b.0), b.1, ltb-true n 64 (and_left (ltb n 64) _ m))

  gap_by : (o : Option (List ℕ)) → kind_by n x t o ≡ Some K.Gap → line_says o ≡ go n (gap_glyph at)
  gap_by none k = rw ((if_some (may_part x && same t (bytes "gap=any")) K.Gap K.Gap k).0)
  gap_by (some name) k = cc ((if_some (may_ask n name) K.Glyph K.Gap k).1)

  wrong_by : (o : Option (List ℕ)) → kind_by n x t o ≡ None → line_says o ≡ ill_formed at
  wrong_by none k = rw (if_none (may_part x && same t (bytes "gap=any")) K.Gap k)
  wrong_by (some name) k = rw (if_none (may_ask n name) K.Glyph k)

-- ---- the line at the state's place
module _ (q : List ℕ) (st : QueryState) (gs : List Wanted) (G : Going q st gs) (e : ℕ) (h : st.at < length q) (f : e ≡ run_end is_not_newline q st.at) where
  abbrev text : List ℕ
  text = take (e - st.at) (drop st.at q)

  abbrev goes : ℕ → Expected → Query
  goes m y = query_lines m y (lines_from (e + 1) (drop (e + 1) q))

  abbrev says : Query
  says = query_line st.glyphs (expected_of st.due) st.at text goes (behind (bytes "glyph=") text)

  whole : query q ≡ glyphs_before G.asked (if ltb e (length q) then says else ill_formed st.at)
  unfolding query_lines
  whole = G.rest ∙ rw (line_at_lem q st.at e h f)

  pub goes_past : st.at < e + 1
  goes_past = omega (arith, line_from q st.at e f)

  pub stop-unended : length q ≤ e → query q ≡ ill_formed st.at
  stop-unended i = whole ∙ rw (le-ltb e (length q) i, before_ill G.asked st.at)

  module _ (i : e < length q) (k : P.Option Kind) (m : k ≡ kind_of st.glyphs (expected_of st.due) text) where
    ended_line : query q ≡ glyphs_before G.asked says
    ended_line = whole ∙ rw (lt-ltb e (length q) i)

    pub stop-wrong : (w u : Refusal) (x : Result QueryState Refusal) → k ≡ None → ◌≡◌ {A = Result Kind Refusal} (Err u) (ok_or k w) → w ≡ refusal 12 st.at → x ≡ Err u
        → LineTurned q st x gs
    stop-wrong w u x r o v y =
        let z : u ≡ w = cc (rw r at o) in
        rw y (ended_line ∙ rw (wrong_by st.glyphs (expected_of st.due) st.at text goes (behind (bytes "glyph=") text) (sym m ∙ r), before_ill G.asked st.at), z ∙ v)

    module _ (l : Kind) (r : k ≡ Some l) where
      pub on_gap : l ≡ K.Gap → Going q (record { at = e + 1; due = D.Glyph st.at; glyphs = st.glyphs }) gs
      on_gap o = record {
        asked = G.asked;
        rest = ended_line ∙ rw (gap_by st.glyphs (expected_of st.due) st.at text goes (behind (bytes "glyph=") text) (sym m ∙ r ∙ ap Some o));
        count = G.count;
        held = G.held;
        short = G.short;
        room = G.room;
      }

      module _ (o : l ≡ K.Glyph) where
        glyph_says : (says ≡ with_wanted (gap_of (expected_of st.due)) (drop 6 text) (goes (st.glyphs + 1) either)) × (6 ≤ length text) × (st.glyphs < 64)
        glyph_says = glyph_by st.glyphs (expected_of st.due) st.at text goes (behind (bytes "glyph=") text) refl (sym m ∙ r ∙ ap Some o)

        text-length : length text ≡ e - st.at
        text-length = omega (arith, length-take (e - st.at) (drop st.at q), length-drop st.at q)

        pub glyph_long : st.at + 6 ≤ e
        glyph_long = omega (arith, glyph_says.1, text-length)

        pub glyph_room : st.glyphs < length gs
        glyph_room = omega (arith, glyph_says.2, G.room)

        pub glyph-fits : Fits w64 (st.glyphs + 1)
        glyph-fits = omega (arith, glyph_says.2)

        name_is : part_of q (st.at + 6) (e - (st.at + 6)) ≡ drop 6 text
        name_is =
            let a : e - st.at - 6 ≡ e - (st.at + 6) = omega arith in
            sym (drop-take 6 (e - st.at) (drop st.at q) ∙ rw (a, drop-drop 6 st.at q))

        pub on_glyph : (p : Gap) → gap_asked p ≡ gap_of (expected_of st.due)
            → Going q (record { at = e + 1; due = D.Either; glyphs = st.glyphs + 1 }) (set gs st.glyphs (record { place = st.at + 6; len = e - (st.at + 6); gap = p }))
        on_glyph p a =
            let w : RulesWanted = record { gap = gap_of (expected_of st.due); name = drop 6 text } in
            record {
              asked = G.asked ++ w ∷ [];
              rest = ended_line ∙ rw glyph_says.0 (before_more G.asked w (goes (st.glyphs + 1) either));
              count = omega (arith, length-append G.asked (w ∷ []), G.count);
              held = held_more q G.asked gs G.held st.glyphs (record { place = st.at + 6; len = e - (st.at + 6); gap = p }) G.count w glyph_room (omega (arith, glyph_long)) name_is a;
              short = G.short;
              room = rw length-set G.room;
            }

-- ---- the loop over the lines
pub going_start : (q : List ℕ) (gs : List Wanted) → length gs ≡ 64 → length q ≤ 8192 → Going q (record { at = 0; due = D.First; glyphs = 0 }) gs
unfolding query glyphs_before
going_start q gs a d = record {
  asked = [];
  rest = refl;
  count = refl;
  held = record { inside = λ j h. absurd (omega arith); name = λ j h. absurd (omega arith); gap = λ j h. absurd (omega arith) };
  short = d;
  room = a;
}

module _ (q : List ℕ) (st : QueryState) (gs : List Wanted) (G : Going q st gs) where
  ended_by : (x : Expected) → query q ≡ glyphs_before G.asked (query_ends x) → (end_of st.glyphs x ≡ query_of (query q)) × LinesOf q gs (query q)
  ended_by first_glyph e = rw (e ∙ before_ill G.asked 0) (refl, tt)
  ended_by (gap_glyph at) e = rw (e ∙ before_ill G.asked at) (refl, tt)
  ended_by either e =
      let z : query q ≡ well_formed G.asked = e ∙ before_well G.asked [] ∙ rw append-nil in
      rw z (rw G.count, G.held)

  module _ (h : length q ≤ st.at) where
    over : (end_of st.glyphs (expected_of st.due) ≡ query_of (query q)) × LinesOf q gs (query q)
    unfolding query_lines
    over = ended_by (expected_of st.due) (G.rest ∙ rw (lines_none q st.at h))

    pub over_answer : (r : Result ℕ Refusal) → r ≡ end_of st.glyphs (expected_of st.due) → r ≡ query_of (query q)
    over_answer r f = f ∙ over.0

    pub over_row : LinesOf q gs (query q)
    over_row = over.1

pub ruleset turning = (line_from, goes_past, stop-unended, stop-wrong, on_gap, on_glyph, glyph_long, glyph_room, glyph-fits, going_start, over_answer, over_row, rules)
