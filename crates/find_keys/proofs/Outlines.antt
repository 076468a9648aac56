-- The keys that the moves give, from any place on, are those of the outline from there on.
use Rattle.std.specs.Prelude.{Option, Some, None}
use Prim.Native.Nat.{ℕ, zero, suc, ◌+◌, ◌-◌, ◌<◌, ◌≤◌}
use native.Mathlib.Omega.{arith}
use mathlib.Core.Bool.{true, false}
use mathlib.Core.List.{List, [], ◌∷◌, ◌++◌, map}
use mathlib.Core.Path.{◌≡◌, refl, sym, ap, subst, ◌∙◌}
use lib.Dec.{ltb}
use lib.ListN.{length, take, drop, get_or}
use lib.Seq.{drop-drop}
use borrow.Author.Tests.{ltb-true, ltb-false}
use Rattle.rules.specs.Bytes.{origin, is, is_white, one_line}
use Rattle.rules.specs.Act.{glyph, index, to, by, page, font, size, colour, break, space, draw, device, resolution, init, file, mount, plain, raw, stop, line, arc, circle, solid_circle, ellipse, solid_ellipse, polygon, solid_polygon, spline, thickness, gray_fill, colour_fill, Cmd, just, word, pair}
use Rattle.rules.specs.Scan.{Scan, name_in, got, bad, command, Cmds, commands, bare}
use Rattle.rules.specs.Find.{Key as RulesKey}
use Rattle.laws.proofs.Cases.{on}
use Rattle.laws.proofs.Good.{GoodCmd}
use Rattle.laws_scan.proofs.Fair.{command_good}
use Rattle.laws_scan.proofs.Bounds.{GotIn, command_in}
use Rattle.laws_scan.proofs.Walk.{from, cons_at, from_end, from_white, from_comment, from_bad, from_got}
use Rattle.laws_read.specs.Outline.{Sign, named_sign, gap_sign, byte_sign, signs_of, outline, keys_from}
use Rattle.scan_command.specs.View.{cmd_of, command_of, command_at}
use Rattle.name.specs.Part.{part_of}
use Rattle.find_match.specs.Match.{key_in}
use Rattle.find_outline.specs.declared.Word.{Word}
use Rattle.find_outline.specs.declared.Outline.{Outline}
use Rattle.find_outline.specs.declared.Moved.{Moved}
use Rattle.find_outline.specs.Move.{passing, standing, naming, word_move, command_move, scanned_move, move_of}
use Rattle.find_keys.specs.Keys.{keys_on, keys_for, moves_left, keys_at, WordIn, Fair}
use Rattle.find_keys.proofs.Keys.{by_word, Onward, move_on, keys_end, keys_move}

module _ (s : List ℕ) where
  -- the outline from a place on
  abbrev pub rest_at : ℕ → List Sign
  rest_at at = outline (bare (from s at))

  abbrev pub marks_in : ℕ → Option Word → List Sign
  marks_in at (Some w) = map byte_sign (take (w.end - at) (drop at s)) ++ rest_at w.next
  marks_in at None = rest_at at

  abbrev pub marks_at : Outline → List Sign
  marks_at o = marks_in o.at o.word

  rest_end : (at : ℕ) → length s ≤ at → rest_at at ≡ []
  unfolding outline
  rest_end at h = rw (from_end s at h)

  keys_none : (o g : ℕ) → keys_from o g [] ≡ []
  unfolding keys_from
  keys_none o g = refl

  abbrev Shown : ℕ → Outline → Type 0
  Shown f o = map (key_in s) (keys_for f s o) ≡ keys_from o.ordinal o.gap (marks_at o)

  module _ (f : ℕ) (more : (p : Outline) → Fair (length s) p → moves_left s p ≤ f → Shown f p) (o : Outline) (k : Fair (length s) o) (l : moves_left s o ≤ suc f) (h : o.at < length s) where
    abbrev Told : Moved → Type 0
    Told m = map (key_in s) (keys_on m (keys_for f s m.on)) ≡ keys_from o.ordinal o.gap (marks_at o)

    -- a move with no record
    passed : (p : Outline) → Onward s o p → keys_from p.ordinal p.gap (marks_at p) ≡ keys_from o.ordinal o.gap (marks_at o) → Told (passing p)
    passed p n e = more p n.fair (omega (arith, n.less)) ∙ e

    -- and with one
    named : (place len : ℕ) (p : Outline) → Onward s o p
        → record { name = part_of s place len; gap = o.gap; ordinal = o.ordinal } ∷ keys_from p.ordinal p.gap (marks_at p) ≡ keys_from o.ordinal o.gap (marks_at o) → Told (naming o place len p)
    named place len p n e = ap (λ (r : List RulesKey). record { name = part_of s place len; gap = o.gap; ordinal = o.ordinal } ∷ r) (more p n.fair (omega (arith, n.less))) ∙ e

    -- in a word
    word_told : (w : Word) → o.word ≡ Some w → Onward s o (word_move o w).on → Told (word_move o w)
    unfolding keys_from
    word_told w z n =
        let i : WordIn (length s) o.at (Some w) = rw z at k.word in
        let e : w.end - o.at ≡ suc (w.end - (o.at + 1)) = omega (arith, i) in
        named o.at 1 (word_move o w).on n
        (rw (z, e, cons_at s o.at h)
        (ap (λ (r : List RulesKey). record { name = get_or s o.at 0 ∷ []; gap = o.gap; ordinal = o.ordinal } ∷ r) rest))
      where
        rest : keys_from (word_move o w).on.ordinal (word_move o w).on.gap (marks_at (word_move o w).on) ≡ keys_from o.ordinal 0 (map byte_sign (take (w.end - (o.at + 1)) (drop (o.at + 1) s)) ++ rest_at w.next)
        rest =
            on (ltb (o.at + 1) w.end) (λ z. rw z)
            (λ z.
            let y : w.end ≤ o.at + 1 = ltb-false (o.at + 1) w.end z in
            let x : w.end - (o.at + 1) ≡ 0 = omega arith in
            rw (z, x))

    module _ (w : o.word ≡ None) where
      here : marks_at o ≡ rest_at o.at
      here = rw w

      -- on to a place with the same signs
      same_told : (q : ℕ) → Onward s o (standing q o.gap o.ordinal) → rest_at o.at ≡ rest_at q → Told (passing (standing q o.gap o.ordinal))
      same_told q n e = passed (standing q o.gap o.ordinal) n (ap (keys_from o.ordinal o.gap) (sym e ∙ sym here))

      module _ (x : is_white (get_or s o.at 0) ≡ false) (y : is "#" (get_or s o.at 0) ≡ false) where
        module _ (c : Cmd) (a j : ℕ) (q : command (get_or s o.at 0) (drop (o.at + 1) s) ≡ got c a j) where
          good : GoodCmd c
          good = rw q at (command_good (get_or s o.at 0) (drop (o.at + 1) s))

          inside : GotIn (get_or s o.at 0 ∷ drop (o.at + 1) s) c a j
          inside = rw q at (command_in (get_or s o.at 0) (drop (o.at + 1) s))

          stands : take (length (name_in c)) (drop (o.at + a) s) ≡ name_in c
          stands = rw (← drop-drop a o.at s, cons_at s o.at h) inside.stands

          rest_is : rest_at o.at ≡ signs_of c ++ rest_at (o.at + j)
          unfolding outline
          rest_is = rw (from_got s o.at h x y c a j q)

        abbrev At : Cmd → ℕ → ℕ → Moved
        At c a j = command_move o (cmd_of (o.at + a) (o.at + j) c)

        -- a command of no mark
        plain-told : (c : Cmd) (a j : ℕ) → command (get_or s o.at 0) (drop (o.at + 1) s) ≡ got c a j → signs_of c ≡ [] → Onward s o (standing (o.at + j) o.gap o.ordinal) → Told (passing (standing (o.at + j) o.gap o.ordinal))
        plain-told c a j q e n = same_told (o.at + j) n (rest_is c a j q ∙ rw e)

        -- of a gap
        gap_told : (c : Cmd) (a j : ℕ) → command (get_or s o.at 0) (drop (o.at + 1) s) ≡ got c a j → signs_of c ≡ gap_sign ∷ [] → Onward s o (standing (o.at + j) 1 o.ordinal) → Told (passing (standing (o.at + j) 1 o.ordinal))
        unfolding keys_from
        gap_told c a j q e n = passed (standing (o.at + j) 1 o.ordinal) n (rw (here, rest_is c a j q, e))

        -- of a name
        name_told : (c : Cmd) (a j place len : ℕ) (t : List ℕ) → command (get_or s o.at 0) (drop (o.at + 1) s) ≡ got c a j → signs_of c ≡ named_sign t ∷ [] → part_of s place len ≡ t
            → Onward s o (standing (o.at + j) 0 o.ordinal) → Told (naming o place len (standing (o.at + j) 0 o.ordinal))
        unfolding keys_from
        name_told c a j place len t q e z n =
            named place len (standing (o.at + j) 0 o.ordinal) n
            (rw (here, rest_is c a j q, e, z))

        index-told : (n a j : ℕ) → command (get_or s o.at 0) (drop (o.at + 1) s) ≡ got (just (index n)) a j → Onward s o (At (just (index n)) a j).on → Told (At (just (index n)) a j)
        unfolding keys_from
        index-told n a j q r =
            on (ltb n origin)
            (λ z. rw z (gap_told (just (index n)) a j q (rw z) (rw z at r)))
            (λ z. rw z (named 0 0 (standing (o.at + j) 0 o.ordinal) (rw z at r)
            (rw (here, rest_is (just (index n)) a j q, z))))

        got-told : (c : Cmd) (a j : ℕ) → command (get_or s o.at 0) (drop (o.at + 1) s) ≡ got c a j → Onward s o (At c a j).on → Told (At c a j)
        unfolding keys_from
        got-told (just (glyph n)) a j q r = name_told (just (glyph n)) a j (o.at + a) (length n) n q refl (stands (just (glyph n)) a j q) r
        got-told (just (index n)) a j q r = index-told n a j q r
        got-told (just (to i n)) a j q r = plain-told (just (to i n)) a j q refl r
        got-told (just (by i n)) a j q r = plain-told (just (by i n)) a j q refl r
        got-told (just (page n)) a j q r = passed (standing (o.at + j) 1 (o.ordinal + 1)) r (rw (here, rest_is (just (page n)) a j q))
        got-told (just (font n)) a j q r = plain-told (just (font n)) a j q refl r
        got-told (just (size n)) a j q r = plain-told (just (size n)) a j q refl r
        got-told (just (colour c ns)) a j q r = plain-told (just (colour c ns)) a j q refl r
        got-told (just break) a j q r = gap_told (just break) a j q refl r
        got-told (just space) a j q r = gap_told (just space) a j q refl r
        got-told (just (draw line ns)) a j q r = plain-told (just (draw line ns)) a j q refl r
        got-told (just (draw arc ns)) a j q r = plain-told (just (draw arc ns)) a j q refl r
        got-told (just (draw circle ns)) a j q r = plain-told (just (draw circle ns)) a j q refl r
        got-told (just (draw solid_circle ns)) a j q r = plain-told (just (draw solid_circle ns)) a j q refl r
        got-told (just (draw ellipse ns)) a j q r = plain-told (just (draw ellipse ns)) a j q refl r
        got-told (just (draw solid_ellipse ns)) a j q r = plain-told (just (draw solid_ellipse ns)) a j q refl r
        got-told (just (draw polygon ns)) a j q r = plain-told (just (draw polygon ns)) a j q refl r
        got-told (just (draw solid_polygon ns)) a j q r = plain-told (just (draw solid_polygon ns)) a j q refl r
        got-told (just (draw spline ns)) a j q r = plain-told (just (draw spline ns)) a j q refl r
        got-told (just (draw thickness ns)) a j q r = plain-told (just (draw thickness ns)) a j q refl r
        got-told (just (draw gray_fill ns)) a j q r = plain-told (just (draw gray_fill ns)) a j q refl r
        got-told (just (draw (colour_fill c) ns)) a j q r = plain-told (just (draw (colour_fill c) ns)) a j q refl r
        got-told (just (device n)) a j q r = plain-told (just (device n)) a j q refl r
        got-told (just (resolution n b d)) a j q r = plain-told (just (resolution n b d)) a j q refl r
        got-told (just init) a j q r = plain-told (just init) a j q refl r
        got-told (just (file n)) a j q r = plain-told (just (file n)) a j q refl r
        got-told (just (mount n m)) a j q r = plain-told (just (mount n m)) a j q refl r
        got-told (just (plain c ns)) a j q r = plain-told (just (plain c ns)) a j q refl r
        got-told (just (raw t)) a j q r = plain-told (just (raw t)) a j q refl r
        got-told (just stop) a j q r = plain-told (just stop) a j q refl r
        got-told (word n bs) a j q r =
            let e : o.at + a + length bs - (o.at + a) ≡ length bs = omega arith in
            passed (At (word n bs) a j).on r
            (rw (here, rest_is (word n bs) a j q, e, stands (word n bs) a j q))
        got-told (pair n b) a j q r = name_told (pair n b) a j (o.at + a) 1 (b ∷ []) q refl (stands (pair n b) a j q) r

        scan_told : (z : Scan) → command (get_or s o.at 0) (drop (o.at + 1) s) ≡ z → Onward s o (scanned_move (length s) o (command_of o.at z)).on → Told (scanned_move (length s) o (command_of o.at z))
        unfolding outline
        scan_told (bad n i) q r = same_told (length s) r (rw (from_bad s o.at h x y n i q) (sym (rest_end (length s) (omega arith))))
        scan_told (got c a j) q r = got-told c a j q r

      white_is : is_white (get_or s o.at 0) ≡ true → move_of s o ≡ passing (standing (o.at + 1) o.gap o.ordinal)
      unfolding move_of
      white_is z = rw (w, z)

      comment_is : is_white (get_or s o.at 0) ≡ false → is "#" (get_or s o.at 0) ≡ true → move_of s o ≡ passing (standing (o.at + 1 + one_line (drop (o.at + 1) s)) o.gap o.ordinal)
      unfolding move_of
      comment_is z y = rw (w, z, y)

      command_is : is_white (get_or s o.at 0) ≡ false → is "#" (get_or s o.at 0) ≡ false → move_of s o ≡ scanned_move (length s) o (command_of o.at (command (get_or s o.at 0) (drop (o.at + 1) s)))
      unfolding move_of command_at
      command_is z y = rw (w, z, y)

      -- by what the move is
      told_by : (m : Moved) → move_of s o ≡ m → (Onward s o m.on → Told m) → Onward s o (move_of s o).on → Told (move_of s o)
      told_by m e g n = subst Told (sym e) (g (subst (λ (x : Moved). Onward s o x.on) e n))

      other-told : Onward s o (move_of s o).on → Told (move_of s o)
      other-told n =
          on (is_white (get_or s o.at 0))
          (λ z. told_by _ (white_is z) (λ r. same_told (o.at + 1) r (ap (λ (x : Cmds). outline (bare x)) (from_white s o.at h z))) n)
          (λ z. on (is "#" (get_or s o.at 0))
          (λ y. told_by _ (comment_is z y) (λ r. same_told (o.at + 1 + one_line (drop (o.at + 1) s)) r (ap (λ (x : Cmds). outline (bare x)) (from_comment s o.at h z y _ refl))) n)
          (λ y. told_by _ (command_is z y) (λ r. scan_told z y (command (get_or s o.at 0) (drop (o.at + 1) s)) refl r) n))

    word_is : (w : Word) → o.word ≡ Some w → move_of s o ≡ word_move o w
    unfolding move_of
    word_is w z = rw z

    move_told : Told (move_of s o)
    move_told =
        by_word o.word
        (λ w z. subst Told (sym (word_is w z)) (word_told w z (subst (λ (x : Moved). Onward s o x.on) (word_is w z) (move_on s o k h))))
        (λ z. other-told z (move_on s o k h))

  -- at the end
  end_shown : (f : ℕ) (o : Outline) → Fair (length s) o → length s ≤ o.at → Shown f o
  end_shown f o k h =
      by_word o.word (λ w z. let i : WordIn (length s) o.at (Some w) = rw z at k.word in absurd (omega (arith, i)))
      (λ z. rw (keys_end f s o h, z, rest_end o.at h) (sym (keys_none o.ordinal o.gap)))

  keys_shown : (f : ℕ) (o : Outline) → Fair (length s) o → moves_left s o ≤ f → Shown f o
  keys_shown zero o k l = end_shown zero o k (omega arith)
  keys_shown (suc f) o k l =
      on (ltb o.at (length s))
      (λ z. let h : o.at < length s = ltb-true o.at (length s) z in ap (map (key_in s)) (keys_move f s o h) ∙ move_told f (λ p a b. keys_shown f p a b) o k l h)
      (λ z. end_shown (suc f) o k (ltb-false o.at (length s) z))

  -- from the start of the stream
  pub all_keys : length s ≤ 16777216 → map (key_in s) (keys_at s (standing 0 0 0)) ≡ keys_from 0 0 (outline (bare (commands 0 0 s)))
  all_keys h =
      keys_shown (moves_left s (standing 0 0 0)) (standing 0 0 0) (record { within = omega arith; most = h; pages = omega arith; word = tt }) (omega arith)
