-- The glyphs of a question one by one.
use Rattle.std.proofs.Common.{◌≡◌, ◌∙◌, ℕ, suc, ◌+◌, ◌<◌, ◌≤◌, [], ◌∷◌, length, drop, map, sym, ap, add-one, drop-cons}
use Rattle.std.proofs.Math.ListN.{drop_of_length-le}
use Rattle.std.proofs.lemmas.List.{drop-map}
use Rattle.find_match.specs.declared.Question.{Question}
use Rattle.find_match.specs.Match.{sought_in, sought_at, glyphs_of, no_glyph}

module _ (w : Question) (j : ℕ) where
  pub glyph_here : j < length w.glyphs.now → drop j (glyphs_of w) ≡ sought_at w j ∷ drop (j + 1) (glyphs_of w)
  glyph_here h =
      drop-map (sought_in w) j w.glyphs.now ∙ ap (map (sought_in w)) (drop-cons w.glyphs.now j no_glyph h)
      ∙ rw (add-one) (ap (λ l. sought_at w j ∷ l) (sym (drop-map (sought_in w) (suc j) w.glyphs.now)))

  pub glyphs_over : length w.glyphs.now ≤ j → drop j (glyphs_of w) ≡ []
  glyphs_over h = drop-map (sought_in w) j w.glyphs.now ∙ ap (map (sought_in w)) (drop_of_length-le w.glyphs.now h)
