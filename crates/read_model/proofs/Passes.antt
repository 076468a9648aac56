-- A pass reads the stream as the rules do: from any place on, it ends as they say, and leaves in the rows what they say.
use Rattle.std.specs.Prelude.{Result, Ok, Err, if◌then◌else◌}
use Prim.Native.Nat.{ℕ, zero, suc, ◌+◌, ◌-◌, ◌<◌, ◌≤◌}
use native.Mathlib.Omega.{arith}
use native.Mathlib.Nat.{add-zero}
use mathlib.Core.Bool.{true, false}
use mathlib.Core.List.{List, [], ◌∷◌, ◌++◌, map, map-append}
use mathlib.Core.Logic.{◌⊎◌, inl, inr}
use mathlib.Core.Path.{◌≡◌, refl, sym, ap, ◌∙◌}
use lib.Dec.{ltb, eqb}
use lib.ListN.{length, take, drop, get_or, length-append}
use lib.Seq.{drop-drop}
use borrow.Author.Tests.{eq-eqb, ne_eqb}
use Rattle.rules.specs.declared.Refusal.{Refusal}
use Rattle.rules.specs.Bytes.{is, is_white, one_line}
use Rattle.rules.specs.Act.{Cmd}
use Rattle.rules.specs.Scan.{Scan, name_in, got, bad, command}
use Rattle.rules.specs.Widths.{Widths}
use Rattle.rules.specs.State.{Env, Glyph, Item, Step, refused, went, acts, perform}
use Rattle.rules.specs.Record.{GlyphRow, ItemRow, Answer, refuse, answer, glyph_rows, item_rows, after_rows, go_on, follow, record_of, entry_of}
use Rattle.scan_command.specs.declared.Command.{Command}
use Rattle.scan_command.specs.View.{cmd_of, command_at}
use Rattle.laws.proofs.Cases.{on, if_both}
use Rattle.laws.proofs.Good.{GoodCmd}
use Rattle.laws_scan.proofs.Fair.{command_good}
use Rattle.laws_scan.proofs.Bounds.{GotIn, command_in}
use Rattle.laws_scan.proofs.Walk.{from, cons_at, comment_in, got_in, from_end, from_white, from_comment, from_bad, from_got}
use Rattle.read_model.specs.declared.Environment.{Environment}
use Rattle.read_model.specs.declared.Did.{Did}
use Rattle.read_model.specs.declared.Emitted.{Emitted}
use Rattle.read_model.specs.declared.Emitted.TheVariants as E
use Rattle.read_model.specs.declared.Effect.TheVariants as F
use Rattle.read_model.specs.declared.State.{State}
use Rattle.read_model.specs.declared.Turned.{Turned}
use Rattle.read_model.specs.Environment.{env_of}
use Rattle.read_model.specs.Turns.{did_at, next_of, scratch_after, halted_at, halted, gone_to, fills_records, fills_entries, emitted, done_of, skipped, turn_on, turn_of, scratch_of}
use Rattle.read_model.specs.Passes.{ReadPass, records_after, entries_after, read_step_of, read_pass_for}
use Rattle.read_model.proofs.Acts.{Agrees, records_in, entries_in}
use Rattle.read_model.proofs.Commands.{mounts_after_cmd}
use Rattle.read_model.proofs.Live.{Live, did_agrees, live_next}
use Rattle.read_model.proofs.Few.{Few, few, next_is}
use Rattle.read_model.proofs.Rows.{written, written-append, written_none, Turns, emitted-turns}

-- ---- what the end of a pass is to be

module _ (n : ℕ) where
  -- a pass that still goes on, at a place of a stream of n bytes
  pub record Going (st : State) : Type 0 where
    pub within : st.at ≤ n
    pub left : st.left ≡ n - st.at
    pub clear : st.refusal ≡ 0

  -- the rooms are large enough for any stream of n bytes
  abbrev pub Wide : State → Type 0
  Wide st = (n ≤ st.rmax) × (n ≤ st.emax) × (st.records ≤ st.at) × (st.entries ≤ st.at)

  -- or for what is still to come
  abbrev pub Enough : Answer → State → Type 0
  Enough (refuse k o) st = ⊥
  Enough (answer rs xs d) st = (st.records + length rs ≤ st.rmax) × (st.entries + length xs ≤ st.emax)

  abbrev pub Room : Answer → State → Type 0
  Room r st = Wide st ⊎ Enough r st

-- refused, or at the end without `x s`
abbrev pub Refused : ℕ → ℕ → State → Type 0
Refused k o st = ((st.refusal ≡ k) × (0 < k) × (st.at ≡ o)) ⊎ ((k ≡ 11) × (st.refusal ≡ 0) × (st.at ≡ o) × (eqb st.env.phase 4 ≡ false))

pub record Accepted (rs : List GlyphRow) (xs : List ItemRow) (d : Env) (p q : ReadPass) : Type 0 where
  pub clear : q.state.refusal ≡ 0
  pub mounts : List (List ℕ)
  pub environment : env_of q.state.env mounts ≡ d
  pub stopped : eqb q.state.env.phase 4 ≡ true
  pub count : q.state.records ≡ p.state.records + length rs
  pub number : q.state.entries ≡ p.state.entries + length xs
  pub records : q.records ≡ written (fills_records p.state.fill) p.records p.state.records (map record_of rs)
  pub entries : q.entries ≡ written (fills_entries p.state.fill) p.entries p.state.entries (map entry_of xs)

abbrev pub Ended : Answer → ReadPass → ReadPass → Type 0
Ended (refuse k o) p q = Refused k o q.state
Ended (answer rs xs d) p q = Accepted rs xs d p q

-- ---- a pass that has stopped

stays : (f : ℕ) (find : List ℕ → ℕ) (s : List ℕ) (p : ReadPass) → p.state.left ≡ 0 → read_pass_for f find s p ≡ p
unfolding read_pass_for
stays zero find s p h = refl
stays (suc f) find s p h = rw (eq-eqb p.state.left 0 h)

goes : (f : ℕ) (find : List ℕ → ℕ) (s : List ℕ) (p : ReadPass) → 0 < p.state.left → read_pass_for (suc f) find s p ≡ read_pass_for f find s (read_step_of find s p)
unfolding read_pass_for
goes f find s p h = rw (ne_eqb p.state.left 0 (λ e. omega arith))

-- ---- one command, then the rest

-- what a step to p' has read: rows rs and entries xs
pub record Stepped (rs : List GlyphRow) (xs : List ItemRow) (p p' : ReadPass) : Type 0 where
  pub count : p'.state.records ≡ p.state.records + length rs
  pub number : p'.state.entries ≡ p.state.entries + length xs
  pub fill : p'.state.fill ≡ p.state.fill
  pub rmax : p'.state.rmax ≡ p.state.rmax
  pub emax : p'.state.emax ≡ p.state.emax
  pub records : p'.records ≡ written (fills_records p.state.fill) p.records p.state.records (map record_of rs)
  pub entries : p'.entries ≡ written (fills_entries p.state.fill) p.entries p.state.entries (map entry_of xs)

pub length-map {ℓ ℓ'} : {A : Type ℓ} {B : Type ℓ'} (f : A → B) (l : List A) → length (map f l) ≡ length l
length-map f [] = refl
length-map f (x ∷ l) = ap suc (length-map f l)

ended_after : (rs : List GlyphRow) (xs : List ItemRow) (r : Answer) (p p' q : ReadPass) → Stepped rs xs p p' → Ended r p' q → Ended (after_rows rs xs r) p q
ended_after rs xs (refuse k o) p p' q t h = h
ended_after rs xs (answer rs' xs' d) p p' q t h = record {
  clear = h.clear;
  mounts = h.mounts;
  environment = h.environment;
  stopped = h.stopped;
  count = h.count ∙ ap (λ (k : ℕ). k + length rs') t.count ∙ let z : length (rs ++ rs') ≡ length rs + length rs' = length-append rs rs' in omega arith;
  number = h.number ∙ ap (λ (k : ℕ). k + length xs') t.number ∙ let z : length (xs ++ xs') ≡ length xs + length xs' = length-append xs xs' in omega arith;
  records =
      h.records
      ∙ rw (t.fill, t.records, t.count, map-append record_of rs rs', ← length-map record_of rs) (written-append (fills_records p.state.fill) (map record_of rs) (map record_of rs') p.records p.state.records);
  entries =
      h.entries
      ∙ rw (t.fill, t.entries, t.number, map-append entry_of xs xs', ← length-map entry_of xs) (written-append (fills_entries p.state.fill) (map entry_of xs) (map entry_of xs') p.entries p.state.entries);
}

-- ---- room

module _ (n : ℕ) (rs : List GlyphRow) (xs : List ItemRow) where
  pub room_now : (r : Answer) (st : State) → st.at + length rs ≤ n → st.at + length xs ≤ n → Room n (after_rows rs xs r) st
      → (st.records + length rs ≤ st.rmax) × (st.entries + length xs ≤ st.emax)
  room_now r st a b (inl h) = (omega (arith, h.0, h.2), omega (arith, h.1, h.3))
  room_now (refuse k o) st a b (inr h) = absurd h
  room_now (answer rs' xs' d) st a b (inr h) = (omega (arith, h.0, length-append rs rs'), omega (arith, h.1, length-append xs xs'))

  -- behind them, at the state st'
  pub room_next : (r : Answer) (st st' : State) → st'.records ≡ st.records + length rs → st'.entries ≡ st.entries + length xs → st'.rmax ≡ st.rmax → st'.emax ≡ st.emax
      → st.at + length rs ≤ st'.at → st.at + length xs ≤ st'.at → Room n (after_rows rs xs r) st → Room n r st'
  room_next r st st' t u v w a b (inl h) = inl (omega (arith, v, h.0), omega (arith, w, h.1), omega (arith, t, h.2), omega (arith, u, h.3))
  room_next (refuse k o) st st' t u v w a b (inr h) = absurd h
  room_next (answer rs' xs' d) st st' t u v w a b (inr h) = inr (omega (arith, v, t, h.0, length-append rs rs'), omega (arith, w, u, h.1, length-append xs xs'))

pub after_none : (r : Answer) → after_rows [] [] r ≡ r
after_none (refuse k o) = refl
after_none (answer rs xs d) = refl

-- ---- one turn

module _ (find : List ℕ → ℕ) (s : List ℕ) (p : ReadPass) where
  -- whitespace or a comment
  pub skip_steps : (to : ℕ) → turn_of s p.scratch p.state ≡ skipped (length s) p.state to → Stepped [] [] p (read_step_of find s p)
  skip_steps to t = record {
    count = rw t (sym (add-zero p.state.records));
    number = rw t (sym (add-zero p.state.entries));
    fill = rw t;
    rmax = rw t;
    emax = rw t;
    records = rw t (sym (written_none (fills_records p.state.fill) p.records p.state.records));
    entries = rw t (sym (written_none (fills_entries p.state.fill) p.entries p.state.entries));
  }

  -- a command that went
  pub went-steps : (to : ℕ) (d : Did) (rs : List GlyphRow) (xs : List ItemRow) → turn_of s p.scratch p.state ≡ emitted (length s) p.state to d.env d.emitted
      → map record_of rs ≡ records_in s p.scratch d.emitted → map entry_of xs ≡ entries_in d.emitted
      → Turns s p.scratch (length s) p.state to d.env d.emitted (emitted (length s) p.state to d.env d.emitted) → Stepped rs xs p (read_step_of find s p)
  went-steps to d rs xs t r x u =
      let a : length (records_in s p.scratch d.emitted) ≡ length rs = sym (ap length r) ∙ length-map record_of rs in
      let b : length (entries_in d.emitted) ≡ length xs = sym (ap length x) ∙ length-map entry_of xs in
      record {
        count = rw (t, u.state, a);
        number = rw (t, u.state, b);
        fill = rw (t, u.state);
        rmax = rw (t, u.state);
        emax = rw (t, u.state);
        records = rw (t, r) (u.records p.records);
        entries = rw (t, x) (u.entries p.entries);
      }

-- ---- the command where a pass stands, of the reader and of the rewriter

-- what the rules say from there on
abbrev pub reads_at : Widths → List ℕ → List (List ℕ) → State → Answer
reads_at w s ms st = follow w (env_of st.env ms) (from s st.at)

-- the command c, whose name stands a bytes on and which is l bytes long
abbrev pub command_here : State → Cmd → ℕ → ℕ → Command
command_here st c a l = cmd_of (st.at + a) (st.at + l) c

unfoldable pub did_here : List ℕ → List ℕ → State → Cmd → ℕ → ℕ → Result Did Refusal
did_here s ws st c a l = did_at s ws st.unitwidth st.env st.at (command_here st c a l)

pub record Here (w : Widths) (find : List ℕ → ℕ) (s : List ℕ) (ms : List (List ℕ)) (ws : List ℕ) (st : State) (c : Cmd) (a l : ℕ) : Type 0 where
  pub good : GoodCmd c
  pub stands : take (length (name_in c)) (drop (st.at + a) s) ≡ name_in c
  pub some : 1 ≤ l
  pub within : st.at + l ≤ length s
  pub found : command_at s st.at ≡ Ok (command_here st c a l)
  pub turned : turn_on s ws st (Ok (command_here st c a l)) ≡ done_of (length s) st (st.at + l) (did_here s ws st c a l)
  pub turn : turn_of s ws st ≡ done_of (length s) st (st.at + l) (did_here s ws st c a l)
  pub scratch : scratch_of find s ws st ≡ scratch_after find s ws st.env (command_here st c a l)
  pub follows : reads_at w s ms st ≡ go_on st.at (st.at + a) l (λ d. follow w d (from s (st.at + l))) (perform (env_of st.env ms) (acts w (env_of st.env ms) c))
  pub fewer : Few s ws l some (did_here s ws st c a l)

module _ (w : Widths) (find : List ℕ → ℕ) (s : List ℕ) (ms : List (List ℕ)) (ws : List ℕ) (st : State) (c : Cmd) (a l : ℕ) where
  module _ (h : st.at < length s) (e : is_white (get_or s st.at 0) ≡ false) (k : is "#" (get_or s st.at 0) ≡ false) (q : command (get_or s st.at 0) (drop (st.at + 1) s) ≡ got c a l) where
    inside : GotIn (get_or s st.at 0 ∷ drop (st.at + 1) s) c a l
    inside = rw q at (command_in (get_or s st.at 0) (drop (st.at + 1) s))

    found_is : command_at s st.at ≡ Ok (command_here st c a l)
    unfolding command_at
    found_is = rw q

    turned_is : turn_on s ws st (Ok (command_here st c a l)) ≡ done_of (length s) st (st.at + l) (did_here s ws st c a l)
    unfolding did_here
    turned_is = ap (λ (i : ℕ). done_of (length s) st i (did_here s ws st c a l)) (next_is (st.at + a) (st.at + l) c)

    turn_is : turn_of s ws st ≡ done_of (length s) st (st.at + l) (did_here s ws st c a l)
    unfolding turn_of
    turn_is = rw (e, k, found_is) turned_is

    scratch_is : scratch_of find s ws st ≡ scratch_after find s ws st.env (command_here st c a l)
    unfolding scratch_of
    scratch_is = rw (e, k, found_is)

    follow_is : reads_at w s ms st ≡ go_on st.at (st.at + a) l (λ d. follow w d (from s (st.at + l))) (perform (env_of st.env ms) (acts w (env_of st.env ms) c))
    unfolding follow
    follow_is = rw (from_got s st.at h e k c a l q)

    reaches : (1 ≤ l) × (st.at + l ≤ length s) × (a ≤ l)
    reaches = got_in s st.at h c a l q

    fewer_is : Few s ws l reaches.0 (did_here s ws st c a l)
    unfolding did_here
    fewer_is = few s ws l reaches.0 st.unitwidth st.env st.at (st.at + a) (st.at + l) c (omega (arith, inside.name))

    pub here_is : Here w find s ms ws st c a l
    here_is = record {
      good = rw q at (command_good (get_or s st.at 0) (drop (st.at + 1) s));
      stands = rw (← drop-drop a st.at s, cons_at s st.at h) inside.stands;
      some = reaches.0;
      within = reaches.1;
      found = found_is;
      turned = turned_is;
      turn = turn_is;
      scratch = scratch_is;
      follows = follow_is;
      fewer = fewer_is;
    }

  -- where nothing is refused, with what was done, its records rs and its entries xs
  pub record Went (did : Did) (rs : List GlyphRow) (xs : List ItemRow) : Type 0 where
    pub is : did_here s ws st c a l ≡ Ok did
    pub reads : reads_at w s ms st ≡ after_rows rs xs (follow w (env_of did.env (mounts_after_cmd c ms)) (from s (st.at + l)))
    pub few_records : length rs ≤ l
    pub few_entries : length xs ≤ l
    pub turn : turn_of s ws st ≡ emitted (length s) st (st.at + l) did.env did.emitted
    pub turns : Turns s ws (length s) st (st.at + l) did.env did.emitted (emitted (length s) st (st.at + l) did.env did.emitted)
    pub state : (turn_of s ws st).state ≡ gone_to (length s) st (st.at + l) (st.records + length rs) (st.entries + length xs) did.env
    pub live : Live w find (mounts_after_cmd c ms) (scratch_of find s ws st) st.unitwidth did.env

  pub went_here : (o : Here w find s ms ws st c a l) → Live w find ms ws st.unitwidth st.env → Room (length s) (reads_at w s ms st) st
      → (d : Env) (gs : List Glyph) (ys : List Item) → perform (env_of st.env ms) (acts w (env_of st.env ms) c) ≡ went d gs ys
      → (did : Did) → did_here s ws st c a l ≡ Ok did → Agrees s ws (mounts_after_cmd c ms) st.at (st.at + a) l (went d gs ys) (Ok did)
      → Went did (glyph_rows (st.at + a) gs) (item_rows st.at l ys)
  went_here o v r d gs ys z did e t =
      let rs : List GlyphRow = glyph_rows (st.at + a) gs in
      let xs : List ItemRow = item_rows st.at l ys in
      let rest : Answer = follow w (env_of did.env (mounts_after_cmd c ms)) (from s (st.at + l)) in
      let fewer : Few s ws l o.some (Ok did) = rw e at o.fewer in
      let n₁ : length (records_in s ws did.emitted) ≡ length rs = sym (ap length t.1) ∙ length-map record_of rs in
      let n₂ : length (entries_in did.emitted) ≡ length xs = sym (ap length t.2) ∙ length-map entry_of xs in
      let f₁ : length rs ≤ l = omega (arith, n₁, fewer.0) in
      let f₂ : length xs ≤ l = omega (arith, n₂, fewer.1) in
      let reads : reads_at w s ms st ≡ after_rows rs xs rest = o.follows ∙ rw z (ap (λ (i : Env). after_rows rs xs (follow w i (from s (st.at + l)))) (sym t.0)) in
      let room : (st.records + length rs ≤ st.rmax) × (st.entries + length xs ≤ st.emax) =
      room_now (length s) rs xs rest st (omega (arith, o.within)) (omega (arith, o.within)) (rw reads at r) in
      let turn : turn_of s ws st ≡ emitted (length s) st (st.at + l) did.env did.emitted = o.turn ∙ rw e in
      let turns : Turns s ws (length s) st (st.at + l) did.env did.emitted (emitted (length s) st (st.at + l) did.env did.emitted) =
      emitted-turns s ws (length s) st (st.at + l) did.env did.emitted (rw n₁ room.0) (rw n₂ room.1) in
      record {
        is = e;
        reads = reads;
        few_records = f₁;
        few_entries = f₂;
        turn = turn;
        turns = turns;
        state = rw (turn, turns.state, n₁, n₂);
        live = rw o.scratch (live_next w find s ms ws st.unitwidth st.env v st.at l a c o.good o.stands d gs ys did z t.0);
      }

-- ---- a whole pass

module _ (w : Widths) (find : List ℕ → ℕ) (s : List ℕ) (y : (i : ℕ) → get_or s i 0 < 256) where
  abbrev reads_from : List (List ℕ) → State → Answer
  reads_from ms st = reads_at w s ms st

  -- what is claimed of f turns
  abbrev Passes : ℕ → Type 0
  Passes f = (ms : List (List ℕ)) (p : ReadPass) → Going (length s) p.state → Live w find ms p.scratch p.state.unitwidth p.state.env → p.state.left ≤ f
      → Room (length s) (reads_from ms p.state) p.state → Ended (reads_from ms p.state) p (read_pass_for f find s p)

  -- at the end of the stream
  ends : (f : ℕ) (ms : List (List ℕ)) (p : ReadPass) → Going (length s) p.state → p.state.left ≡ 0 → Ended (reads_from ms p.state) p (read_pass_for f find s p)
  unfolding follow
  ends f ms p g h =
      rw (stays f find s p h, from_end s p.state.at (omega (arith, g.left, g.within)))
      (on (eqb p.state.env.phase 4)
      (λ e. rw e (record {
        clear = g.clear;
        mounts = ms;
        environment = refl;
        stopped = e;
        count = sym (add-zero p.state.records);
        number = sym (add-zero p.state.entries);
        records = sym (written_none (fills_records p.state.fill) p.records p.state.records);
        entries = sym (written_none (fills_entries p.state.fill) p.entries p.state.entries);
      }))
      (λ e. rw e (inr (refl, g.clear, refl, e))))

  -- a step that reads rs and xs, then f turns
  onward : (f : ℕ) → Passes f → (ms ms' : List (List ℕ)) (p p' : ReadPass) (rs : List GlyphRow) (xs : List ItemRow) → Stepped rs xs p p' → Going (length s) p'.state
      → Live w find ms' p'.scratch p'.state.unitwidth p'.state.env → p.state.at + length rs ≤ p'.state.at → p.state.at + length xs ≤ p'.state.at → p'.state.left ≤ f
      → reads_from ms p.state ≡ after_rows rs xs (reads_from ms' p'.state) → Room (length s) (reads_from ms p.state) p.state → (q : ReadPass) → q ≡ read_pass_for f find s p'
      → Ended (reads_from ms p.state) p q
  onward f more ms ms' p p' rs xs t g v a b l e r q z =
      rw (e, z)
      (ended_after rs xs (reads_from ms' p'.state) p p' (read_pass_for f find s p') t
      (more ms' p' g v l (room_next (length s) rs xs (reads_from ms' p'.state) p.state p'.state t.count t.number t.rmax t.emax a b (rw e at r))))

  module _ (f : ℕ) (more : Passes f) (ms : List (List ℕ)) (p : ReadPass) (g : Going (length s) p.state) (v : Live w find ms p.scratch p.state.unitwidth p.state.env) (l : p.state.left ≤ suc f) (h : p.state.at < length s) (r : Room (length s) (reads_from ms p.state) p.state) where
    one_turn : read_pass_for (suc f) find s p ≡ read_pass_for f find s (read_step_of find s p)
    one_turn = goes f find s p (omega (arith, g.left))

    same : (to : ℕ) → turn_of s p.scratch p.state ≡ skipped (length s) p.state to → from s p.state.at ≡ from s to → reads_from ms p.state ≡ reads_from ms (read_step_of find s p).state
    same to t e = rw t (ap (follow w (env_of p.state.env ms)) e)

    -- whitespace and comments
    skips : (to : ℕ) → turn_of s p.scratch p.state ≡ skipped (length s) p.state to → scratch_of find s p.scratch p.state ≡ p.scratch
        → p.state.at < to → to ≤ length s → from s p.state.at ≡ from s to → Ended (reads_from ms p.state) p (read_pass_for (suc f) find s p)
    skips to t k a b e =
        onward f more ms ms p (read_step_of find s p) [] [] (skip_steps find s p to t)
        (rw t (record { within = b; left = refl; clear = g.clear }))
        (rw (t, k) v) (rw t (omega arith)) (rw t (omega arith)) (rw t (omega (arith, g.left)))
        (same to t e ∙ sym (after_none (reads_from ms (read_step_of find s p).state))) r (read_pass_for (suc f) find s p) one_turn

    white : is_white (get_or s p.state.at 0) ≡ true → Ended (reads_from ms p.state) p (read_pass_for (suc f) find s p)
    unfolding turn_of scratch_of
    white e = skips (p.state.at + 1) (rw e) (rw e) (omega arith) (omega arith) (from_white s p.state.at h e)

    comment : is_white (get_or s p.state.at 0) ≡ false → is "#" (get_or s p.state.at 0) ≡ true → Ended (reads_from ms p.state) p (read_pass_for (suc f) find s p)
    unfolding turn_of scratch_of
    comment e k =
        skips (p.state.at + 1 + one_line (drop (p.state.at + 1) s)) (rw (e, k)) (rw (e, k)) (omega arith) (comment_in s p.state.at h) (from_comment s p.state.at h e k _ refl)

    module _ (e : is_white (get_or s p.state.at 0) ≡ false) (k : is "#" (get_or s p.state.at 0) ≡ false) where
      -- the pass stops with the number x, which points at a place
      stops : (x to : ℕ) → 0 < x → turn_of s p.scratch p.state ≡ halted_at to p.state x → reads_from ms p.state ≡ refuse x to
          → Ended (reads_from ms p.state) p (read_pass_for (suc f) find s p)
      stops x to z t q = rw (q, one_turn, stays f find s (read_step_of find s p) (rw t), t) (inl (refl, z, refl))

      refuses : (n j : ℕ) → command (get_or s p.state.at 0) (drop (p.state.at + 1) s) ≡ bad n j → Ended (reads_from ms p.state) p (read_pass_for (suc f) find s p)
      unfolding turn_of command_at follow
      refuses n j q =
          let z : 0 < n = rw q at (command_good (get_or s p.state.at 0) (drop (p.state.at + 1) s)) in
          on (eqb p.state.env.phase 4)
          (λ x. stops 7 p.state.at (omega arith) (rw (e, k, q, x)) (rw (from_bad s p.state.at h e k n j q, x)))
          (λ x. stops n (p.state.at + j) z (rw (e, k, q, x)) (rw (from_bad s p.state.at h e k n j q, x)))

      module _ (c : Cmd) (a l' : ℕ) (q : command (get_or s p.state.at 0) (drop (p.state.at + 1) s) ≡ got c a l') where
        here : Here w find s ms p.scratch p.state c a l'
        here = here_is w find s ms p.scratch p.state c a l' h e k q

        goes_on : (x : Step) → perform (env_of p.state.env ms) (acts w (env_of p.state.env ms) c) ≡ x → (d : Result Did Refusal) → did_here s p.scratch p.state c a l' ≡ d
            → Agrees s p.scratch (mounts_after_cmd c ms) p.state.at (p.state.at + a) l' x d → Ended (reads_from ms p.state) p (read_pass_for (suc f) find s p)
        goes_on (refused n) z (Ok d) i t = absurd t
        goes_on (refused n) z (Err y) i t = stops n p.state.at t.1 (here.turn ∙ rw (i, t.0)) (here.follows ∙ rw z)
        goes_on (went d gs ys) z (Err y) i t = absurd t
        goes_on (went d gs ys) z (Ok did) i t =
            let rs : List GlyphRow = glyph_rows (p.state.at + a) gs in
            let xs : List ItemRow = item_rows p.state.at l' ys in
            let x : Went w find s ms p.scratch p.state c a l' did rs xs = went_here w find s ms p.scratch p.state c a l' here v r d gs ys z did i t in
            onward f more ms (mounts_after_cmd c ms) p (read_step_of find s p) rs xs (went-steps find s p (p.state.at + l') did rs xs x.turn t.1 t.2 x.turns)
            (rw x.state (record { within = here.within; left = refl; clear = g.clear }))
            (rw x.state x.live)
            (rw x.state (omega (arith, x.few_records)))
            (rw x.state (omega (arith, x.few_entries)))
            (rw x.state (omega (arith, g.left, here.some, here.within)))
            (rw x.state x.reads)
            r (read_pass_for (suc f) find s p) one_turn

        one_command : Ended (reads_from ms p.state) p (read_pass_for (suc f) find s p)
        unfolding did_here
        one_command =
            goes_on (perform (env_of p.state.env ms) (acts w (env_of p.state.env ms) c)) refl (did_here s p.scratch p.state c a l') refl
            (did_agrees w find s y ms p.scratch p.state.unitwidth p.state.env v p.state.at l' a c here.good here.stands)

      commands_on : (x : Scan) → command (get_or s p.state.at 0) (drop (p.state.at + 1) s) ≡ x → Ended (reads_from ms p.state) p (read_pass_for (suc f) find s p)
      commands_on (bad n j) q = refuses n j q
      commands_on (got c a l') q = one_command c a l' q

    turns_on : Ended (reads_from ms p.state) p (read_pass_for (suc f) find s p)
    turns_on =
        on (is_white (get_or s p.state.at 0)) white
        (λ e. on (is "#" (get_or s p.state.at 0)) (comment e) (λ k. commands_on e k (command (get_or s p.state.at 0) (drop (p.state.at + 1) s)) refl))

  -- From any place on a pass ends as the rules say.
  pub pass_ends : (f : ℕ) → Passes f
  pass_ends zero ms p g v l r = ends zero ms p g (omega arith)
  pass_ends (suc f) ms p g v l r = go (λ m o a b c d. pass_ends f m o a b c d) p.state.left refl
    where
      go : Passes f → (k : ℕ) → p.state.left ≡ k → Ended (reads_from ms p.state) p (read_pass_for (suc f) find s p)
      go more zero q = ends (suc f) ms p g q
      go more (suc k) q = turns_on f more ms p g v l (omega (arith, g.left)) r

-- ---- a pass that judges leaves the rows as they were

module _ (find : List ℕ → ℕ) (s : List ℕ) where
  -- what a turn does where the rows are not filled
  abbrev Idle : Turned → Type 0
  Idle t = (t.effect ≡ F.Nothing) × (t.state.fill ≡ 0)

  emitted_idle : (n : ℕ) (st : State) (to : ℕ) (e : Environment) (x : Emitted) → st.fill ≡ 0 → Idle (emitted n st to e x)
  emitted_idle n st to e E.Nothing h = (refl, h)
  emitted_idle n st to e (E.Record r) h = if_both Idle (ltb st.records st.rmax) _ (halted st 13) (rw h (refl, refl)) (refl, h)
  emitted_idle n st to e (E.Entry x) h = if_both Idle (ltb st.entries st.emax) _ (halted st 13) (rw h (refl, refl)) (refl, h)
  emitted_idle n st to e (E.Word d) h = if_both Idle (ltb (st.rmax - st.records) d.left) (halted st 13) _ (refl, h) (rw h (refl, refl))

  done_idle : (n : ℕ) (st : State) (to : ℕ) (d : Result Did Refusal) → st.fill ≡ 0 → Idle (done_of n st to d)
  done_idle n st to (Ok d) h = emitted_idle n st to d.env d.emitted h
  done_idle n st to (Err r) h = (refl, h)

  command_idle : (ws : List ℕ) (st : State) (c : Result Command Refusal) → st.fill ≡ 0 → Idle (turn_on s ws st c)
  command_idle ws st (Ok c) h = done_idle (length s) st (next_of c) (did_at s ws st.unitwidth st.env st.at c) h
  command_idle ws st (Err r) h = (refl, h)

  turn_idle : (ws : List ℕ) (st : State) → st.fill ≡ 0 → Idle (turn_of s ws st)
  unfolding turn_of
  turn_idle ws st h =
      let line : Turned = skipped (length s) st (st.at + 1 + one_line (drop (st.at + 1) s)) in
      let rest : Turned = turn_on s ws st (command_at s st.at) in
      if_both Idle (is_white (get_or s st.at 0)) (skipped (length s) st (st.at + 1)) (if is "#" (get_or s st.at 0) then line else rest) (refl, h)
      (if_both Idle (is "#" (get_or s st.at 0)) line rest (refl, h) (command_idle ws st (command_at s st.at) h))

  pub judging_keeps : (f : ℕ) (p : ReadPass) → p.state.fill ≡ 0 → ((read_pass_for f find s p).records ≡ p.records) × ((read_pass_for f find s p).entries ≡ p.entries)
  unfolding read_pass_for
  judging_keeps zero p h = (refl, refl)
  judging_keeps (suc f) p h =
      let t : Idle (turn_of s p.scratch p.state) = turn_idle p.scratch p.state h in
      let more : ((read_pass_for f find s (read_step_of find s p)).records ≡ (read_step_of find s p).records) × ((read_pass_for f find s (read_step_of find s p)).entries ≡ (read_step_of find s p).entries) = judging_keeps f (read_step_of find s p) t.1 in
      on (eqb p.state.left 0) (λ e. rw e (refl, refl))
      (λ e. rw e (more.0 ∙ ap (records_after s p.scratch p.records) t.0, more.1 ∙ ap (entries_after p.entries) t.0))
