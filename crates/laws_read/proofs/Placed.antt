-- Reading a stream is reading its commands, places aside.
use Rattle.std.specs.Prelude.{if◌then◌else◌}
use Prim.Native.Nat.{ℕ, ◌+◌}
use mathlib.Core.Bool.{Bool, true, false}
use mathlib.Core.List.{List, [], ◌∷◌, map, map-append}
use mathlib.Core.Path.{◌≡◌, refl, sym, ap, ap₂, ◌∙◌}
use lib.ListN.{length}
use Rattle.rules.specs.Scan.{Cmds, done, wrong, next, bare}
use Rattle.rules.specs.Widths.{Widths}
use Rattle.rules.specs.State.{Env, start, Glyph, Item, Step, refused, went, before, and_then, acts, perform, steps, stopped}
use Rattle.rules.specs.Record.{GlyphRow, ItemRow, Answer, refuse, answer, glyph_rows, item_rows, after_rows, go_on, follow, seen}
use Rattle.rules.specs.Answers.{is_accepted}
use Rattle.laws.proofs.Cases.{on, no}
use Rattle.laws.proofs.Good.{Ended}
use Rattle.laws_read.proofs.Runs.{well}

abbrev pub finish : Step → Step
finish (refused n) = refused n
finish (went e gs is) = if stopped e then went e gs is else refused 11

rows_glyphs : (gs : List Glyph) (a : ℕ) → map (λ (r : GlyphRow). r.glyph) (glyph_rows a gs) ≡ gs
unfolding glyph_rows
rows_glyphs [] a = refl
rows_glyphs (g ∷ gs) a = ap (λ (l : List Glyph). g ∷ l) (rows_glyphs gs (a + length g.name))

rows_items : (is : List Item) (at l : ℕ) → map (λ (r : ItemRow). r.item) (item_rows at l is) ≡ is
unfolding item_rows
rows_items [] at l = refl
rows_items (x ∷ is) at l = ap (λ (r : List Item). x ∷ r) (rows_items is at l)

seen_after : (rs : List GlyphRow) (ls : List ItemRow) (x : Answer)
    → seen (after_rows rs ls x) ≡ before (map (λ (r : GlyphRow). r.glyph) rs) (map (λ (l : ItemRow). l.item) ls) (seen x)
seen_after rs ls (refuse n at) = refl
seen_after rs ls (answer rs' ls' e) = ap₂ (went e) (map-append (λ (r : GlyphRow). r.glyph) rs rs') (map-append (λ (l : ItemRow). l.item) ls ls')

finish_before : (gs : List Glyph) (is : List Item) (x : Step) → finish (before gs is x) ≡ before gs is (finish x)
finish_before gs is (refused n) = refl
finish_before gs is (went e gs' is') = on (stopped e) (λ h. rw h) (λ h. rw h)

accepted_after : (rs : List GlyphRow) (ls : List ItemRow) (x : Answer) → is_accepted (after_rows rs ls x) ≡ true → is_accepted x ≡ true
accepted_after rs ls (refuse n at) h = h
accepted_after rs ls (answer rs' ls' e) h = refl

module _ (w : Widths) where
  pub ended : (cs : Cmds) (e : Env) → is_accepted (follow w e cs) ≡ true → Ended cs
  unfolding follow
  ended (done at) e h = tt
  ended (wrong n at k) e h = on (stopped e) (λ q. no (rw q at h)) (λ q. no (rw q at h))
  ended (next c at a l more) e h = go (perform e (acts w e c)) (λ d k. ended more d k) h
    where
      go : (x : Step) → ((d : Env) → is_accepted (follow w d more) ≡ true → Ended more) → is_accepted (go_on at a l (λ d. follow w d more) x) ≡ true → Ended more
      go (refused n) f h = no h
      go (went d gs is) f h = f d (accepted_after (glyph_rows a gs) (item_rows at l is) (follow w d more) h)

  pub seen-follow : (cs : Cmds) (e : Env) → Ended cs → seen (follow w e cs) ≡ finish (steps w e (bare cs))
  unfolding follow steps
  seen-follow (done at) e h = on (stopped e) (λ k. rw k) (λ k. rw k)
  seen-follow (wrong n at k) e h = absurd h
  seen-follow (next c at a l more) e h = go (perform e (acts w e c)) (λ d. seen-follow more d h)
    where
      go : (x : Step) → ((d : Env) → seen (follow w d more) ≡ finish (steps w d (bare more)))
          → seen (go_on at a l (λ d. follow w d more) x) ≡ finish (and_then x (λ d. steps w d (bare more)))
      go (refused n) f = refl
      go (went d gs is) f =
          seen_after (glyph_rows a gs) (item_rows at l is) (follow w d more)
          ∙ rw (rows_glyphs gs a, rows_items is at l, f d) (sym (finish_before gs is (steps w d (bare more))))

abbrev pub did_go : Step → Bool
did_go (refused n) = false
did_go (went e gs is) = true

pub seen-goes : (x : Answer) → did_go (seen x) ≡ is_accepted x
seen-goes (refuse n at) = refl
seen-goes (answer rs ls e) = refl

finished : (x : Step) → did_go (finish x) ≡ true → well x ≡ true
finished (refused n) h = h
finished (went e gs is) h = on (stopped e) (λ k. k) (λ k. no (rw k at h))

pub finish_well : (x : Step) → well x ≡ true → finish x ≡ x
finish_well (refused n) h = refl
finish_well (went e gs is) h = rw h

-- an accepted stream's commands all go well, and say what the stream says
module _ (w : Widths) (cs : Cmds) (h : is_accepted (follow w start cs) ≡ true) where
  pub goes_well : well (steps w start (bare cs)) ≡ true
  goes_well = finished (steps w start (bare cs)) (rw (← seen-follow w cs start (ended w cs start h), seen-goes) h)

  pub says : seen (follow w start cs) ≡ steps w start (bare cs)
  says = seen-follow w cs start (ended w cs start h) ∙ finish_well (steps w start (bare cs)) goes_well
