-- The glyphs of a well-formed query: at least one, and what each asks of the gap mark.
use Rattle.std.specs.Prelude.{if◌then◌else◌}
use Prim.Native.Nat.{ℕ, ◌+◌, ◌<◌}
use native.Mathlib.Omega.{arith}
use mathlib.Core.Bool.{Bool, ◌&&◌}
use mathlib.Core.List.{List, [], ◌∷◌}
use mathlib.Core.Option.{Option, none, some}
use mathlib.Core.Path.{◌≡◌, refl}
use lib.ListN.{length}
use Rattle.rules.specs.Bytes.{bytes, same}
use Rattle.rules.specs.Widths.{Line, lines_from, behind}
use Rattle.rules.specs.Find.{Wanted, Expected, first_glyph, gap_glyph, either, Query, ill_formed, well_formed, query_ends, with_wanted, gap_of, may_part, may_ask, query_line, query_lines, query}
use Rattle.laws.proofs.Cases.{if_both}
use Rattle.laws_find.specs.Occurs.{AllAsked, QueryShape}

-- what is known of the glyphs still to come
abbrev Claim : Expected → Query → Type 0
Claim x (ill_formed at) = Unit {0}
Claim first_glyph (well_formed qs) = QueryShape qs
Claim (gap_glyph at) (well_formed qs) = AllAsked qs
Claim either (well_formed qs) = AllAsked qs

claim_ends : (x : Expected) → Claim x (query_ends x)
claim_ends first_glyph = tt
claim_ends (gap_glyph at) = tt
claim_ends either = tt

-- a glyph line
claim-glyph : (x : Expected) (n : List ℕ) (q : Query) → Claim either q → Claim x (with_wanted (gap_of x) n q)
claim-glyph x n (ill_formed at) h = tt
claim-glyph first_glyph n (well_formed qs) h = (refl, h)
claim-glyph (gap_glyph at) n (well_formed qs) h = (tt, h)
claim-glyph either n (well_formed qs) h = (tt, h)

-- a gap line
claim_gap : (x : Expected) (b : Bool) (at : ℕ) (q : Query) → Claim either q → Claim x (if may_part x && b then q else ill_formed at)
claim_gap first_glyph b at q h = tt
claim_gap (gap_glyph p) b at q h = tt
claim_gap either b at q h = if_both (Claim either) b q (ill_formed at) h tt

part-either : (at : ℕ) (q : Query) → Claim (gap_glyph at) q → Claim either q
part-either at (ill_formed p) h = tt
part-either at (well_formed qs) h = h

claim_line : (n : ℕ) (x : Expected) (at : ℕ) (t : List ℕ) (go : ℕ → Expected → Query) (o : Option (List ℕ))
    → ((m : ℕ) (y : Expected) → Claim y (go m y)) → Claim x (query_line n x at t go o)
claim_line n x at t go (some name) more =
    if_both (Claim x) (may_ask n name) _ _ (claim-glyph x name (go (n + 1) either) (more (n + 1) either)) tt
claim_line n x at t go none more =
    claim_gap x (same t (bytes "gap=any")) _ (go n (gap_glyph at)) (part-either at (go n (gap_glyph at)) (more n (gap_glyph at)))

claim_lines : (ls : List Line) (n : ℕ) (x : Expected) → Claim x (query_lines n x ls)
unfolding query_lines
claim_lines [] n x = claim_ends x
claim_lines (l ∷ ls) n x =
    if_both (Claim x) l.ended _ _
    (claim_line n x l.place l.text (λ m y. query_lines m y ls) (behind (bytes "glyph=") l.text) (λ m y. claim_lines ls m y)) tt

pub query-shape : (q : List ℕ) (qs : List Wanted) → query q ≡ well_formed qs → QueryShape qs
unfolding query
query-shape q qs h = rw h at (claim_lines (lines_from 0 q) 0 first_glyph)

pub shape_some : (qs : List Wanted) → QueryShape qs → 0 < length qs
shape_some [] h = absurd h
shape_some (q ∷ qs) h = omega arith
