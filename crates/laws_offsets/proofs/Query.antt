-- Refusal 12 points at the start of the query's first wrong line: a last gap line is that line, and an empty query has its offset 0.
use Prim.Native.Nat.{ℕ, ◌+◌}
use mathlib.Core.Bool.{true}
use mathlib.Core.List.{List, [], ◌∷◌, ◌++◌, append-nil, append_assoc}
use mathlib.Core.Option.{Option, none, some}
use mathlib.Core.Path.{◌≡◌, refl, sym, ap, ◌∙◌}
use lib.ListN.{length, take}
use lib.Seq.{take-append_seam, drop-append_seam}
use Rattle.rules.specs.Bytes.{bytes, same}
use Rattle.rules.specs.Widths.{lines_from, behind}
use Rattle.rules.specs.Find.{Gap, Wanted, Expected, first_glyph, gap_glyph, either, Query, ill_formed, well_formed, query_ends, with_wanted, gap_of, may_ask, query_line, query_lines, query}
use Rattle.laws.proofs.Cases.{if_on}
use Rattle.laws_find.specs.Written.{gap_line}
use Rattle.laws.proofs.Same.{same_eq}
use Rattle.laws_find.proofs.Written.{OneLine, line_front}
use Rattle.laws_offsets.specs.Lists.{LineStart, first_line, AskedTo, nothing, glyphs, gap_behind, AskedWrongAt, empty, unended_line, wrong_asked, last_gap, QueryOffset}
use Rattle.laws_offsets.proofs.Lines.{Lines, no_line, open_line, one_more, lines, open_front, longer, longer_on, longer_length, longer_start, line_inside, line_taken, open_inside, open_end}

-- glyphs in front of what a query asks for
abbrev pub prefixed : List Wanted → Query → Query
prefixed ws (ill_formed at) = ill_formed at
prefixed ws (well_formed qs) = well_formed (ws ++ qs)

prefixed_none : (x : Query) → x ≡ prefixed [] x
prefixed_none (ill_formed at) = refl
prefixed_none (well_formed qs) = refl

prefixed_on : (ws : List Wanted) (g : Gap) (name : List ℕ) (x : Query) → prefixed ws (with_wanted g name x) ≡ prefixed (ws ++ record { gap = g; name = name } ∷ []) x
prefixed_on ws g name (ill_formed at) = refl
prefixed_on ws g name (well_formed qs) = ap well_formed (sym (append_assoc ws (record { gap = g; name = name } ∷ []) qs))

-- pre ends with a gap line at p, behind what is well formed
pub record Parted (pre : List ℕ) (p : ℕ) : Type 0 where
  pub front : List ℕ
  pub asked : List Wanted
  pub whole : pre ≡ front ++ gap_line
  pub place : p ≡ length front
  pub fine : query front ≡ well_formed asked
  pub start : LineStart (front ++ gap_line) (length front)
  pub empty_next : (m : List ℕ) → query (front ++ 10 ∷ m) ≡ ill_formed (length front)

-- up to the gap line
front_taken : (pre post : List ℕ) (p : ℕ) (b : Parted pre p) → take (length b.front) (pre ++ post) ≡ b.front
front_taken pre post p b =
    ap (λ (u : List ℕ). take (length b.front) (u ++ post)) b.whole
    ∙ ap (take (length b.front)) (append_assoc b.front gap_line post)
    ∙ take-append_seam b.front (gap_line ++ post)

abbrev pub Behind : List ℕ → Expected → Type 0
Behind pre first_glyph = pre ≡ []
Behind pre (gap_glyph p) = Parted pre p
Behind pre either = Unit {0}

-- The lines of pre are right and ask for ws; n glyph lines are among them, and this is expected behind them.
pub record ReadTo (pre : List ℕ) (n : ℕ) (x : Expected) : Type 0 where
  pub ws : List Wanted
  pub on : (m : List ℕ) → query (pre ++ m) ≡ prefixed ws (query_lines n x (lines_from (length pre) m))
  pub start : (m : List ℕ) → LineStart (pre ++ m) (length pre)
  pub behind_it : Behind pre x

module _ (pre : List ℕ) (n : ℕ) (x : Expected) (h : ReadTo pre n x) where
  ends_so : query pre ≡ prefixed h.ws (query_ends x)
  unfolding lines_from query_lines
  ends_so = rw append-nil at (h.on [])

  -- a line of the text t
  at_line : (t m : List ℕ) → OneLine t
      → query (pre ++ (t ++ 10 ∷ m)) ≡ prefixed h.ws (query_line n x (length pre) t (λ k y. query_lines k y (lines_from (length pre + length t + 1) m)) (behind (bytes "glyph=") t))
  unfolding query_lines
  at_line t m k = h.on (t ++ 10 ∷ m) ∙ rw (line_front t (length pre) m k)

  asked_to : (post : List ℕ) → AskedTo (pre ++ post) (length pre)
  asked_to post = go x h.behind_it ends_so
    where
      go : (y : Expected) → Behind pre y → query pre ≡ prefixed h.ws (query_ends y) → AskedTo (pre ++ post) (length pre)
      go first_glyph b e = nothing (ap length b)
      go (gap_glyph p) b e = gap_behind (length b.front) b.asked (rw (front_taken pre post p b) b.fine) (rw (take-append_seam pre post, front_taken pre post p b) b.whole)
      go either b e = glyphs (h.ws ++ []) (rw (take-append_seam pre post) e)

  -- a line of the text t is wrong
  wrong_so : (t m : List ℕ) → OneLine t → ((go : ℕ → Expected → Query) → query_line n x (length pre) t go (behind (bytes "glyph=") t) ≡ ill_formed (length pre))
      → query (pre ++ (t ++ 10 ∷ m)) ≡ ill_formed (length pre)
  wrong_so t m k e = rw (at_line t m k, e (λ j y. query_lines j y (lines_from (length pre + length t + 1) m)))

  empty-wrong : (m : List ℕ) → query (pre ++ 10 ∷ m) ≡ ill_formed (length pre)
  unfolding behind same
  empty-wrong m = wrong_so [] m tt (go x)
    where
      go : (y : Expected) (f : ℕ → Expected → Query) → query_line n y (length pre) [] f none ≡ ill_formed (length pre)
      go first_glyph f = refl
      go (gap_glyph p) f = refl
      go either f = refl

  -- the first line behind pre is wrong
  offset : (post : List ℕ) → AskedWrongAt (pre ++ post) (length pre) → QueryOffset (pre ++ post) (length pre)
  offset post e = record { line = h.start post; before = asked_to post; first = λ m. rw (take-append_seam pre post) (empty-wrong m); here = e }

  open_offset : (b : ℕ) (t : List ℕ) → OneLine (b ∷ t) → QueryOffset (pre ++ b ∷ t) (length pre)
  open_offset b t k = offset (b ∷ t) (unended_line (open_inside pre b t) (open_end pre b t k))

  wrong_offset : (t m : List ℕ) → OneLine t → ((go : ℕ → Expected → Query) → query_line n x (length pre) t go (behind (bytes "glyph=") t) ≡ ill_formed (length pre)) → QueryOffset (pre ++ (t ++ 10 ∷ m)) (length pre)
  wrong_offset t m k e = offset (t ++ 10 ∷ m) (wrong_asked (line_inside pre t m k)
      (λ m'. rw (line_taken pre t m k, longer_on pre t m') (wrong_so t m' k e)))

  glyph_on : (t name : List ℕ) → OneLine t → behind (bytes "glyph=") t ≡ some name → may_ask n name ≡ true → ReadTo (longer pre t) (n + 1) either
  glyph_on t name k e a = record {
    ws = h.ws ++ record { gap = gap_of x; name = name } ∷ [];
    on = λ m. rw (longer_on pre t m, at_line t m k, e, a, longer_length pre t) (prefixed_on h.ws (gap_of x) name (query_lines (n + 1) either (lines_from (length pre + length t + 1) m)));
    start = λ m. longer_start pre t m;
    behind_it = tt;
  }

gap_on : (pre : List ℕ) (n : ℕ) (t : List ℕ) → ReadTo pre n either → OneLine t → behind (bytes "glyph=") t ≡ none → same t (bytes "gap=any") ≡ true → ReadTo (longer pre t) n (gap_glyph (length pre))
gap_on pre n t h k e a = record {
  ws = h.ws;
  on = λ m. rw (longer_on pre t m, at_line pre n either h t m k, e, a, longer_length pre t);
  start = λ m. longer_start pre t m;
  behind_it = record {
    front = pre;
    asked = h.ws ++ [];
    whole = append_assoc pre t (10 ∷ []) ∙ ap (λ (u : List ℕ). pre ++ (u ++ 10 ∷ [])) (same_eq t (bytes "gap=any") a);
    place = refl;
    fine = ends_so pre n either h;
    start = h.start gap_line;
    empty_next = empty-wrong pre n either h;
  };
}

-- ---- the whole query

-- what is said of a query that is refused; of one that is not, that more may follow
abbrev pub Claim : List ℕ → Query → Type 0
Claim q (ill_formed at) = QueryOffset q at
Claim q (well_formed qs) = (n : ℕ) × ReadTo q n either

wanted_claim : (q : List ℕ) (g : Gap) (name : List ℕ) (x : Query) → Claim q x → Claim q (with_wanted g name x)
wanted_claim q g name (ill_formed at) h = h
wanted_claim q g name (well_formed qs) h = h

gap_offset : (pre : List ℕ) (p : ℕ) → Parted pre p → QueryOffset pre p
gap_offset pre p b = rw (b.whole, b.place) (record {
  line = b.start;
  before = glyphs b.asked (rw (take-append_seam b.front gap_line) b.fine);
  first = λ m. rw (take-append_seam b.front gap_line) (b.empty_next m);
  here = last_gap (drop-append_seam b.front gap_line) b.asked (rw (take-append_seam b.front gap_line) b.fine);
})

end_claim : (pre : List ℕ) (n : ℕ) (x : Expected) → ReadTo pre n x → Claim pre (query_ends x)
unfolding query query_lines lines_from behind same
end_claim pre n first_glyph h = record { line = first_line; before = nothing refl; first = λ m. refl; here = empty h.behind_it refl }
end_claim pre n (gap_glyph p) h = gap_offset pre p h.behind_it
end_claim pre n either h = (n, h)

-- a line of the text t behind pre; the lines behind it are claimed of
module _ (pre t r : List ℕ) (n : ℕ) (k : OneLine t)
    (more : (m : ℕ) (y : Expected) → ReadTo (longer pre t) m y → Claim (pre ++ (t ++ 10 ∷ r)) (query_lines m y (lines_from (length pre + length t + 1) r))) where
  abbrev rest : ℕ → Expected → Query
  rest m y = query_lines m y (lines_from (length pre + length t + 1) r)

  line_claim : (x : Expected) (o : Option (List ℕ)) → ReadTo pre n x → behind (bytes "glyph=") t ≡ o → Claim (pre ++ (t ++ 10 ∷ r)) (query_line n x (length pre) t rest o)
  line_claim x (some name) h e =
      if_on (Claim (pre ++ (t ++ 10 ∷ r))) (may_ask n name) _ _
      (λ a. wanted_claim (pre ++ (t ++ 10 ∷ r)) (gap_of x) name (rest (n + 1) either) (more (n + 1) either (glyph_on pre n x h t name k e a)))
      (λ a. wrong_offset pre n x h t r k (λ go. rw (e, a)))
  line_claim first_glyph none h e = wrong_offset pre n first_glyph h t r k (λ go. rw e)
  line_claim (gap_glyph p) none h e = wrong_offset pre n (gap_glyph p) h t r k (λ go. rw e)
  line_claim either none h e =
      if_on (Claim (pre ++ (t ++ 10 ∷ r))) (same t (bytes "gap=any")) _ _
      (λ a. more n (gap_glyph (length pre)) (gap_on pre n t h k e a))
      (λ a. wrong_offset pre n either h t r k (λ go. rw (e, a)))

claims : {post : List ℕ} → Lines post → (pre : List ℕ) (n : ℕ) (x : Expected) → ReadTo pre n x → Claim (pre ++ post) (query_lines n x (lines_from (length pre) post))
unfolding query_lines lines_from
claims no_line pre n x h = rw append-nil (end_claim pre n x h)
claims (open_line b t k) pre n x h = rw (open_front b t (length pre) k) (open_offset pre n x h b t k)
claims (one_more t r k more) pre n x h =
    rw (line_front t (length pre) r k)
    (line_claim pre t r n k (λ m y g. rw (longer_on pre t r, longer_length pre t) at (claims more (longer pre t) m y g)) x (behind (bytes "glyph=") t) h refl)

pub query-claim : (q : List ℕ) → Claim q (query q)
unfolding query
query-claim q = claims (lines q) [] 0 first_glyph (record { ws = []; on = λ m. prefixed_none (query m); start = λ m. first_line; behind_it = refl })

-- a gap line behind a query is its first wrong line
pub gap_last : (q : List ℕ) (n : ℕ) → ReadTo q n either → query (q ++ gap_line) ≡ ill_formed (length q)
unfolding query_lines lines_from behind same
gap_last q n h = h.on gap_line
