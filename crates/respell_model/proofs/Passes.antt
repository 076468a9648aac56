-- A pass of the rewriter goes as the reader's does, and writes the house spelling of what it reads.
use Rattle.std.specs.Prelude.{Result, Ok, Err, if◌then◌else◌}
use Prim.Native.Nat.{ℕ, zero, suc, ◌+◌, ◌<◌, ◌≤◌}
use native.Mathlib.Omega.{arith}
use mathlib.Core.Bool.{true, false}
use mathlib.Core.List.{List, [], ◌++◌}
use mathlib.Core.Path.{◌≡◌, refl, sym, ap, ◌∙◌}
use lib.Dec.{eqb}
use lib.ListN.{length, drop, get_or}
use borrow.Author.Tests.{eq-eqb, ne_eqb}
use Rattle.rules.specs.declared.Record.{Record}
use Rattle.rules.specs.declared.Entry.{Entry}
use Rattle.rules.specs.declared.Refusal.{Refusal}
use Rattle.rules.specs.Bytes.{is, is_white, one_line}
use Rattle.rules.specs.Act.{Cmd, just, word, pair}
use Rattle.rules.specs.Scan.{Scan, got, bad, command, bare}
use Rattle.rules.specs.Widths.{Widths}
use Rattle.rules.specs.State.{Spot, Env, Glyph, Item, Step, refused, went, acts, perform}
use Rattle.rules.specs.Record.{GlyphRow, ItemRow, Answer, refuse, answer, glyph_rows, item_rows, after_rows, follow}
use Rattle.rules.specs.House.{house, played, spell_all}
use Rattle.scan_command.specs.declared.Command.{Command}
use Rattle.scan_command.specs.View.{command_at}
use Rattle.laws.proofs.Cases.{on, if_both}
use Rattle.laws_scan.proofs.Walk.{from, comment_in, from_end, from_white, from_comment, from_bad, from_got}
use Rattle.read_model.specs.declared.Environment.{Environment}
use Rattle.read_model.specs.declared.Did.{Did}
use Rattle.read_model.specs.declared.State.{State}
use Rattle.read_model.specs.declared.Turned.{Turned}
use Rattle.read_model.specs.Environment.{env_of}
use Rattle.read_model.specs.Turns.{gone_to, skipped, turn_on, turn_of, scratch_of}
use Rattle.read_model.specs.Passes as R
use Rattle.read_model.proofs.Acts.{Agrees}
use Rattle.read_model.proofs.Commands.{mounts_after_cmd}
use Rattle.read_model.proofs.Live.{Live, did_agrees}
use Rattle.read_model.proofs.Passes.{Going, Room, room_next, after_none, reads_at, command_here, did_here, Here, here_is, Went, went_here}
use Rattle.respell_model.specs.declared.Mark.{Mark}
use Rattle.respell_model.specs.Sheet.{Sheet, put_all}
use Rattle.respell_model.specs.Command.{manner_of, pen_h, pen_v, spelled_at}
use Rattle.respell_model.specs.Passes.{sheet_at, sheet_on, mark_on, bytes_on, mark_after, bytes_of, mark_of, RespellPass, respell_step_of, respell_pass_for}
use Rattle.respell_model.proofs.Sheets.{put_all-append, put-length, put_at_most}
use Rattle.respell_model.proofs.Lines.{line_is as act_line_is}
use Rattle.respell_model.proofs.House.{LineIs, command_on}

-- ---- the reader's pass

-- where the reader's pass stands, with any rows
abbrev pub reader_at : RespellPass → List Record → List Entry → R.ReadPass
reader_at p rs es = record { state = p.state; scratch = p.scratch; records = rs; entries = es }

module _ (find : List ℕ → ℕ) (s : List ℕ) where
  -- state and scratch row go as there
  pub pass_same : (f : ℕ) (p : RespellPass) (rs : List Record) (es : List Entry)
      → ((respell_pass_for f find s p).state ≡ (R.read_pass_for f find s (reader_at p rs es)).state) × ((respell_pass_for f find s p).scratch ≡ (R.read_pass_for f find s (reader_at p rs es)).scratch)
  unfolding respell_pass_for R.read_pass_for
  pass_same zero p rs es = (refl, refl)
  pass_same (suc f) p rs es =
      let q : R.ReadPass = R.read_step_of find s (reader_at p rs es) in
      let more : ((respell_pass_for f find s (respell_step_of find s p)).state ≡ (R.read_pass_for f find s q).state) × ((respell_pass_for f find s (respell_step_of find s p)).scratch ≡ (R.read_pass_for f find s q).scratch) =
      pass_same f (respell_step_of find s p) q.records q.entries in
      on (eqb p.state.left 0) (λ e. rw e (refl, refl)) (λ e. rw e more)

  -- ---- a pass that has stopped

  pub stays : (f : ℕ) (p : RespellPass) → p.state.left ≡ 0 → respell_pass_for f find s p ≡ p
  unfolding respell_pass_for
  stays zero p h = refl
  stays (suc f) p h = rw (eq-eqb p.state.left 0 h)

  goes : (f : ℕ) (p : RespellPass) → 0 < p.state.left → respell_pass_for (suc f) find s p ≡ respell_pass_for f find s (respell_step_of find s p)
  unfolding respell_pass_for
  goes f p h = rw (ne_eqb p.state.left 0 (λ e. omega arith))

-- ---- the place of the next byte, and the buffer's length

module _ (s ws : List ℕ) (st : State) (out : List ℕ) (m : Mark) where
  sheet_at_lem : (next : State) (c : Command) → m.at ≤ 16777217 → (sheet_on s ws st next c out m).at ≤ 16777217
  sheet_at_lem next c h =
      if_both (λ (x : Sheet). x.at ≤ 16777217) (eqb next.refusal 0) _ (sheet_at out m)
      (put_at_most (spelled_at s ws st.unitwidth st.env st.at next.env.h next.env.v m.h m.v c) (sheet_at out m) h) h

  mark_after_at : (c : Result Command Refusal) → m.at ≤ 16777217 → (mark_after s ws st c out m).at ≤ 16777217
  mark_after_at (Ok c) h = sheet_at_lem (turn_on s ws st (Ok c)).state c h
  mark_after_at (Err r) h = h

  mark_at : m.at ≤ 16777217 → (mark_of s ws st out m).at ≤ 16777217
  unfolding mark_of
  mark_at h =
      let rest : Mark = mark_after s ws st (command_at s st.at) out m in
      if_both (λ (x : Mark). x.at ≤ 16777217) (is_white (get_or s st.at 0)) m (if is "#" (get_or s st.at 0) then m else rest) h
      (if_both (λ (x : Mark). x.at ≤ 16777217) (is "#" (get_or s st.at 0)) m rest h (mark_after_at (command_at s st.at) h))

  sheet_length : (next : State) (c : Command) → length (sheet_on s ws st next c out m).bytes ≡ length out
  sheet_length next c =
      if_both (λ (x : Sheet). length x.bytes ≡ length out) (eqb next.refusal 0) _ (sheet_at out m)
      (put-length (spelled_at s ws st.unitwidth st.env st.at next.env.h next.env.v m.h m.v c) (sheet_at out m)) refl

  scanned-length : (c : Result Command Refusal) → length (bytes_on s ws st c out m) ≡ length out
  scanned-length (Ok c) = sheet_length (turn_on s ws st (Ok c)).state c
  scanned-length (Err r) = refl

  bytes-length : length (bytes_of s ws st out m) ≡ length out
  unfolding bytes_of
  bytes-length =
      let rest : List ℕ = bytes_on s ws st (command_at s st.at) out m in
      if_both (λ (x : List ℕ). length x ≡ length out) (is_white (get_or s st.at 0)) out (if is "#" (get_or s st.at 0) then out else rest) refl
      (if_both (λ (x : List ℕ). length x ≡ length out) (is "#" (get_or s st.at 0)) out rest refl (scanned-length (command_at s st.at)))

module _ (find : List ℕ → ℕ) (s : List ℕ) where
  pub pass_at_most : (f : ℕ) (p : RespellPass) → p.mark.at ≤ 16777217 → (respell_pass_for f find s p).mark.at ≤ 16777217
  unfolding respell_pass_for
  pass_at_most zero p h = h
  pass_at_most (suc f) p h =
      let more : (respell_pass_for f find s (respell_step_of find s p)).mark.at ≤ 16777217 = pass_at_most f (respell_step_of find s p) (mark_at s p.scratch p.state p.bytes p.mark h) in
      on (eqb p.state.left 0) (λ e. rw e h) (λ e. rw e more)

  pub pass_length : (f : ℕ) (p : RespellPass) → length (respell_pass_for f find s p).bytes ≡ length p.bytes
  unfolding respell_pass_for
  pass_length zero p = refl
  pass_length (suc f) p =
      let more : length (respell_pass_for f find s (respell_step_of find s p)).bytes ≡ length (respell_step_of find s p).bytes = pass_length f (respell_step_of find s p) in
      on (eqb p.state.left 0) (λ e. rw e refl) (λ e. rw e (more ∙ bytes-length s p.scratch p.state p.bytes p.mark))

-- ---- a command of which nothing is refused, on to the place to

module _ (s ws : List ℕ) (st : State) (out : List ℕ) (m : Mark) (c : Command) (n to i j : ℕ) (x : Environment) (z : st.refusal ≡ 0) where
  sheet_on_lem : sheet_on s ws st (gone_to n st to i j x) c out m ≡ put_all (spelled_at s ws st.unitwidth st.env st.at x.h x.v m.h m.v c) (sheet_at out m)
  sheet_on_lem = rw z

  mark_on_lem : mark_on s ws st (gone_to n st to i j x) c out m
      ≡ record { at = (put_all (spelled_at s ws st.unitwidth st.env st.at x.h x.v m.h m.v c) (sheet_at out m)).at; h = pen_h s ws st.unitwidth st.env x.h m.h (manner_of c); v = pen_v ws st.unitwidth st.env x.v m.v (manner_of c) }
  mark_on_lem = rw z

-- ---- what the rules accept

abbrev pub Taken : Answer → Type 0
Taken (refuse k o) = ⊥
Taken (answer rs xs d) = Unit {0}

taken_rest : (rs : List GlyphRow) (xs : List ItemRow) (r : Answer) → Taken (after_rows rs xs r) → Taken r
taken_rest rs xs (refuse k o) h = h
taken_rest rs xs (answer rs' xs' d) h = h

-- ---- a whole pass

-- the place that a reader of the spelling so far has
abbrev pub pen_of : Mark → Spot
pen_of m = record { h = m.h; v = m.v }

module _ (w : Widths) (find : List ℕ → ℕ) (s : List ℕ) (y : (i : ℕ) → get_or s i 0 < 256) where
  abbrev reads_from : List (List ℕ) → State → Answer
  reads_from ms st = reads_at w s ms st

  -- the house spelling of what is still to come
  abbrev spells_from : List (List ℕ) → State → Mark → List ℕ
  spells_from ms st m = spell_all (house (env_of st.env ms) (pen_of m) (played w (env_of st.env ms) (bare (from s st.at))))

  -- the pass p has ended at q
  abbrev Written : List (List ℕ) → RespellPass → RespellPass → Type 0
  Written ms p q = sheet_at q.bytes q.mark ≡ put_all (spells_from ms p.state p.mark) (sheet_at p.bytes p.mark)

  -- what is claimed of f turns
  abbrev Writes : ℕ → Type 0
  Writes f = (ms : List (List ℕ)) (p : RespellPass) → Going (length s) p.state → Live w find ms p.scratch p.state.unitwidth p.state.env → p.state.left ≤ f
      → Room (length s) (reads_from ms p.state) p.state → Taken (reads_from ms p.state) → Written ms p (respell_pass_for f find s p)

  -- at the end of the stream
  ends : (f : ℕ) (ms : List (List ℕ)) (p : RespellPass) → Going (length s) p.state → p.state.left ≡ 0 → Written ms p (respell_pass_for f find s p)
  unfolding played house spell_all put_all
  ends f ms p g h = rw (stays find s f p h, from_end s p.state.at (omega (arith, g.left, g.within)))

  -- a step that reads rs and xs and writes t, then f turns
  onward : (f : ℕ) → Writes f → (ms ms' : List (List ℕ)) (p p' : RespellPass) (rs : List GlyphRow) (xs : List ItemRow) (t : List ℕ) → Going (length s) p'.state
      → Live w find ms' p'.scratch p'.state.unitwidth p'.state.env → p'.state.left ≤ f → reads_from ms p.state ≡ after_rows rs xs (reads_from ms' p'.state)
      → Room (length s) (reads_from ms' p'.state) p'.state → Taken (reads_from ms p.state) → sheet_at p'.bytes p'.mark ≡ put_all t (sheet_at p.bytes p.mark)
      → spells_from ms p.state p.mark ≡ t ++ spells_from ms' p'.state p'.mark → (q : RespellPass) → q ≡ respell_pass_for f find s p' → Written ms p q
  onward f more ms ms' p p' rs xs t g v l e r k b u q z =
      ap (λ (i : RespellPass). sheet_at i.bytes i.mark) z
      ∙ more ms' p' g v l r (taken_rest rs xs (reads_from ms' p'.state) (rw e at k))
      ∙ ap (put_all (spells_from ms' p'.state p'.mark)) b
      ∙ sym (put_all-append t (spells_from ms' p'.state p'.mark) (sheet_at p.bytes p.mark))
      ∙ ap (λ (i : List ℕ). put_all i (sheet_at p.bytes p.mark)) (sym u)

  module _ (f : ℕ) (more : Writes f) (ms : List (List ℕ)) (p : RespellPass) (g : Going (length s) p.state) (v : Live w find ms p.scratch p.state.unitwidth p.state.env) (l : p.state.left ≤ suc f) (h : p.state.at < length s) (r : Room (length s) (reads_from ms p.state) p.state) (ok : Taken (reads_from ms p.state)) where
    one_turn : respell_pass_for (suc f) find s p ≡ respell_pass_for f find s (respell_step_of find s p)
    one_turn = goes find s f p (omega (arith, g.left))

    -- whitespace and comments
    skips : (to : ℕ) → turn_of s p.scratch p.state ≡ skipped (length s) p.state to → scratch_of find s p.scratch p.state ≡ p.scratch
        → bytes_of s p.scratch p.state p.bytes p.mark ≡ p.bytes → mark_of s p.scratch p.state p.bytes p.mark ≡ p.mark
        → p.state.at < to → to ≤ length s → from s p.state.at ≡ from s to → Written ms p (respell_pass_for (suc f) find s p)
    unfolding put_all
    skips to t k i j a b e =
        let reads : reads_from ms p.state ≡ after_rows [] [] (follow w (env_of p.state.env ms) (from s to)) =
        ap (follow w (env_of p.state.env ms)) e ∙ sym (after_none (follow w (env_of p.state.env ms) (from s to))) in
        onward f more ms ms p (respell_step_of find s p) [] [] []
        (rw t (record { within = b; left = refl; clear = g.clear }))
        (rw (t, k) v)
        (rw t (omega (arith, g.left)))
        (rw t reads)
        (rw t (room_next (length s) [] [] (follow w (env_of p.state.env ms) (from s to)) p.state (skipped (length s) p.state to).state (omega arith) (omega arith) refl refl (omega arith) (omega arith) (rw reads at r)))
        ok
        (rw (i, j))
        (rw (t, j, e))
        (respell_pass_for (suc f) find s p) one_turn

    white : is_white (get_or s p.state.at 0) ≡ true → Written ms p (respell_pass_for (suc f) find s p)
    unfolding turn_of scratch_of bytes_of mark_of
    white e = skips (p.state.at + 1) (rw e) (rw e) (rw e) (rw e) (omega arith) (omega arith) (from_white s p.state.at h e)

    comment : is_white (get_or s p.state.at 0) ≡ false → is "#" (get_or s p.state.at 0) ≡ true → Written ms p (respell_pass_for (suc f) find s p)
    unfolding turn_of scratch_of bytes_of mark_of
    comment e k =
        skips (p.state.at + 1 + one_line (drop (p.state.at + 1) s)) (rw (e, k)) (rw (e, k)) (rw (e, k)) (rw (e, k)) (omega arith) (comment_in s p.state.at h)
        (from_comment s p.state.at h e k _ refl)

    module _ (e : is_white (get_or s p.state.at 0) ≡ false) (k : is "#" (get_or s p.state.at 0) ≡ false) where
      refuses : (n j : ℕ) → command (get_or s p.state.at 0) (drop (p.state.at + 1) s) ≡ bad n j → Written ms p (respell_pass_for (suc f) find s p)
      unfolding follow
      refuses n j q = on (eqb p.state.env.phase 4) (λ x. absurd (rw (from_bad s p.state.at h e k n j q, x) at ok)) (λ x. absurd (rw (from_bad s p.state.at h e k n j q, x) at ok))

      module _ (c : Cmd) (a l' : ℕ) (q : command (get_or s p.state.at 0) (drop (p.state.at + 1) s) ≡ got c a l') where
        at_here : Here w find s ms p.scratch p.state c a l'
        at_here = here_is w find s ms p.scratch p.state c a l' h e k q

        line_is : LineIs s p.state.at a l' c
        line_is = go c q
          where
            go : (x : Cmd) → command (get_or s p.state.at 0) (drop (p.state.at + 1) s) ≡ got x a l' → LineIs s p.state.at a l' x
            go (just x) z = act_line_is s p.state.at h x a l' z
            go (word n bs) z = tt
            go (pair n b) z = tt

        abbrev here : Command
        here = command_here p.state c a l'

        -- did was done
        module _ (did : Did) where
          -- what is written
          text : List ℕ
          text = spelled_at s p.scratch p.state.unitwidth p.state.env p.state.at did.env.h did.env.v p.mark.h p.mark.v here

          abbrev pen : Spot
          pen = record { h = pen_h s p.scratch p.state.unitwidth p.state.env did.env.h p.mark.h (manner_of here); v = pen_v p.scratch p.state.unitwidth p.state.env did.env.v p.mark.v (manner_of here) }

          module _ (i j : ℕ) (t : (turn_on s p.scratch p.state (Ok here)).state ≡ gone_to (length s) p.state (p.state.at + l') i j did.env) where
            bytes_are : bytes_of s p.scratch p.state p.bytes p.mark ≡ (put_all text (sheet_at p.bytes p.mark)).bytes
            unfolding bytes_of text
            bytes_are =
                rw (e, k, at_here.found)
                (ap (λ (n : State). (sheet_on s p.scratch p.state n here p.bytes p.mark).bytes) t
                ∙ ap (λ (d : Sheet). d.bytes) (sheet_on_lem s p.scratch p.state p.bytes p.mark here (length s) (p.state.at + l') i j did.env g.clear))

            mark_is : mark_of s p.scratch p.state p.bytes p.mark ≡ record { at = (put_all text (sheet_at p.bytes p.mark)).at; h = pen.h; v = pen.v }
            unfolding mark_of text
            mark_is =
                rw (e, k, at_here.found)
                (ap (λ (n : State). mark_on s p.scratch p.state n here p.bytes p.mark) t
                ∙ mark_on_lem s p.scratch p.state p.bytes p.mark here (length s) (p.state.at + l') i j did.env g.clear)

          went_on : (d : Env) (gs : List Glyph) (ys : List Item) → perform (env_of p.state.env ms) (acts w (env_of p.state.env ms) c) ≡ went d gs ys → did_here s p.scratch p.state c a l' ≡ Ok did
              → Agrees s p.scratch (mounts_after_cmd c ms) p.state.at (p.state.at + a) l' (went d gs ys) (Ok did) → Written ms p (respell_pass_for (suc f) find s p)
          unfolding text
          went_on d gs ys z b t =
              let at : ℕ = p.state.at + l' in
              let rs : List GlyphRow = glyph_rows (p.state.at + a) gs in
              let xs : List ItemRow = item_rows p.state.at l' ys in
              let m : List (List ℕ) = mounts_after_cmd c ms in
              let rest : Answer = follow w (env_of did.env m) (from s at) in
              let cs : List Cmd = bare (from s at) in
              let i : ℕ = p.state.records + length rs in
              let j : ℕ = p.state.entries + length xs in
              let x : Went w find s ms p.scratch p.state c a l' did rs xs = went_here w find s ms p.scratch p.state c a l' at_here v r d gs ys z did b t in
              let turned : (turn_on s p.scratch p.state (Ok here)).state ≡ gone_to (length s) p.state at i j did.env = ap (λ (y : Turned). y.state) (at_here.turned ∙ sym at_here.turn) ∙ x.state in
              let spells : spells_from ms p.state p.mark ≡ text ++ spell_all (house (env_of did.env m) pen (played w (env_of did.env m) cs)) =
              rw (from_got s p.state.at h e k c a l' q)
              (command_on w find s y ms p.scratch p.state.unitwidth p.state.env v p.state.at l' a c at_here.good at_here.stands line_is d gs ys did z t.0 (pen_of p.mark) cs) in
              onward f more ms m p (respell_step_of find s p) rs xs text
              (rw x.state (record { within = at_here.within; left = refl; clear = g.clear }))
              (rw x.state x.live)
              (rw x.state (omega (arith, g.left, at_here.some, at_here.within)))
              (rw x.state x.reads)
              (rw x.state (room_next (length s) rs xs rest p.state (gone_to (length s) p.state at i j did.env) refl refl refl refl (omega (arith, x.few_records)) (omega (arith, x.few_entries)) (rw x.reads at r)))
              ok
              (rw (bytes_are i j turned, mark_is i j turned))
              (rw (x.state, mark_is i j turned) spells)
              (respell_pass_for (suc f) find s p) one_turn

        goes_on : (x : Step) → perform (env_of p.state.env ms) (acts w (env_of p.state.env ms) c) ≡ x → (d : Result Did Refusal) → did_here s p.scratch p.state c a l' ≡ d
            → Agrees s p.scratch (mounts_after_cmd c ms) p.state.at (p.state.at + a) l' x d → Written ms p (respell_pass_for (suc f) find s p)
        goes_on (refused n) z d b t = absurd (rw (at_here.follows, z) at ok)
        goes_on (went d gs ys) z (Err y) b t = absurd t
        goes_on (went d gs ys) z (Ok did) b t = went_on did d gs ys z b t

        one_command : Written ms p (respell_pass_for (suc f) find s p)
        unfolding did_here
        one_command =
            goes_on (perform (env_of p.state.env ms) (acts w (env_of p.state.env ms) c)) refl (did_here s p.scratch p.state c a l') refl
            (did_agrees w find s y ms p.scratch p.state.unitwidth p.state.env v p.state.at l' a c at_here.good at_here.stands)

      commands_on : (x : Scan) → command (get_or s p.state.at 0) (drop (p.state.at + 1) s) ≡ x → Written ms p (respell_pass_for (suc f) find s p)
      commands_on (bad n j) q = refuses n j q
      commands_on (got c a l') q = one_command c a l' q

    turns_on : Written ms p (respell_pass_for (suc f) find s p)
    turns_on =
        on (is_white (get_or s p.state.at 0)) white
        (λ e. on (is "#" (get_or s p.state.at 0)) (comment e) (λ k. commands_on e k (command (get_or s p.state.at 0) (drop (p.state.at + 1) s)) refl))

  -- From any place on, where the rules accept what is still to come, a pass writes its house spelling.
  pub pass_writes : (f : ℕ) → Writes f
  pass_writes zero ms p g v l r k = ends zero ms p g (omega arith)
  pass_writes (suc f) ms p g v l r k = go (λ m o a b c d e. pass_writes f m o a b c d e) p.state.left refl
    where
      go : Writes f → (i : ℕ) → p.state.left ≡ i → Written ms p (respell_pass_for (suc f) find s p)
      go more zero q = ends (suc f) ms p g q
      go more (suc i) q = turns_on f more ms p g v l (omega (arith, g.left)) r k

  pub pass_spells : (f : ℕ) (ms : List (List ℕ)) (p : RespellPass) → Going (length s) p.state → Live w find ms p.scratch p.state.unitwidth p.state.env → p.state.left ≤ f
      → Room (length s) (follow w (env_of p.state.env ms) (from s p.state.at)) p.state
      → (rs : List GlyphRow) (xs : List ItemRow) (d : Env) → follow w (env_of p.state.env ms) (from s p.state.at) ≡ answer rs xs d
      → sheet_at (respell_pass_for f find s p).bytes (respell_pass_for f find s p).mark
      ≡ put_all (spell_all (house (env_of p.state.env ms) (record { h = p.mark.h; v = p.mark.v }) (played w (env_of p.state.env ms) (bare (from s p.state.at))))) (sheet_at p.bytes p.mark)
  pass_spells f ms p g v l r rs xs d q = pass_writes f ms p g v l r (rw q tt)
