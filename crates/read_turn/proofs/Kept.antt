-- What a turn keeps, and that what it gives lies within the rows.
use Rattle.std.specs.Prelude.{Option, Some, None, IsSome, Result, Ok, Err, if◌then◌else◌}
use Prim.Native.Nat.{ℕ, zero, suc, ◌+◌, ◌*◌, ◌-◌, ◌<◌, ◌≤◌}
use native.Mathlib.Omega.{arith}
use native.Mathlib.Decide.{ℕ_discrete}
use mathlib.Core.Bool.{Bool, true, false}
use mathlib.Core.List.{List, [], ◌∷◌}
use mathlib.Core.Path.{◌≡◌, refl, ◌∙◌}
use lib.Dec.{ltb, eqb}
use lib.ListN.{length, take, drop, set, get_or, length-set}
use lib.Seq.{get_or-set_same, get_or-set_other}
use borrow.Author.Tests.{ltb-true, ltb-false}
use Rattle.rules.specs.declared.Refusal.{Refusal}
use Rattle.rules.specs.Answers.{refusal, and_then}
use Rattle.rules.specs.Bytes.{origin, is, is_white, one_line}
use Rattle.laws.proofs.Cases.{on, if_both, if_on}
use Rattle.laws_scan.proofs.Walk.{comment_in}
use Rattle.scan_command.specs.declared.Command.{Command}
use Rattle.scan_command.specs.declared.Command.TheVariants as C
use Rattle.scan_command.specs.View.{command_at}
use Rattle.read_model.specs.declared.Environment.{Environment}
use Rattle.read_model.specs.declared.Word.{Word}
use Rattle.read_model.specs.declared.Emitted.{Emitted}
use Rattle.read_model.specs.declared.Emitted.TheVariants as E
use Rattle.read_model.specs.declared.Did.{Did}
use Rattle.read_model.specs.declared.State.{State}
use Rattle.read_model.specs.declared.Effect.{Effect}
use Rattle.read_model.specs.declared.Effect.TheVariants as F
use Rattle.read_model.specs.declared.Turned.{Turned}
use Rattle.read_model.specs.Environment.{with_spot, doing, on_page, in_body, is_set, gone, placed_or, drawing_here, control_here, record_on, along, with_along}
use Rattle.read_model.specs.Words.{all_wide, word_here, word_end, word_to, word_on}
use Rattle.read_model.specs.Fits.{EnvFits, Ends, CommandIn, ScannedIn}
use Rattle.read_model.specs.Turns.{mount_at, block_now, did_at, next_of, scratch_after, scratch_on, halted_at, halted, halted_by, gone_to, filling, fills_records, fills_entries, emitted, done_of, skipped, turn_on, turn_of, scratch_of}
use Rattle.read_model.proofs.Fits.{command-fits, Kept, did_fits, later}
use Rattle.read_environment.specs.Bounds.{Fits}
use Rattle.read_word.specs.Bounds.{Small, WordFits}
use Rattle.read_word.proofs.Spelling.{here_fits}
use Rattle.read_next.proofs.Places.{ends_in}
use Rattle.read_turn.specs.Ready.{find_in, Scratch, Ready}
use Rattle.read_mount.proofs.Mounts.{found_most}

-- ---- what a command gives to the rows is within the bounds that filling asks

module _ (s ws : List ℕ) where
  abbrev pub GivenIn : Emitted → Type 0
  GivenIn E.Nothing = Unit {0}
  GivenIn (E.Record r) = Unit {0}
  GivenIn (E.Entry x) = Unit {0}
  GivenIn (E.Word d) = WordFits d × IsSome (word_end d.left s ws d)

  module _ (at : ℕ) where
    -- and a refusal points at the command
    abbrev Gives : Result Did Refusal → Type 0
    Gives (Ok d) = GivenIn d.emitted
    Gives (Err r) = r.offset ≡ at

    -- behind a test that may refuse
    or_gives : {A : Type 0} (b : Bool) (a : A) (n : ℕ) (g : A → Result Did Refusal) → Gives (g a) → Gives (and_then (if b then Ok a else Err (refusal n at)) g)
    or_gives true a n g k = k
    or_gives false a n g k = refl

    -- behind a place that may lie beyond the limit
    placed_gives : (o : Option ℕ) (g : ℕ → Result Did Refusal) → ((x : ℕ) → Gives (g x)) → Gives (and_then (placed_or o at) g)
    placed_gives (Some x) g k = k x
    placed_gives None g k = refl

    module _ (e : Environment) (u : ℕ) (f : Fits e) (a : 1 ≤ u) (b : u ≤ 100000) (m : Small ws) where
      word_gives : (t p k : ℕ) → t < 2 * origin → p + k ≤ 16777216 → Gives (word_on s ws e at u t k p (block_now ws e))
      word_gives t p k h l =
          or_gives (is_set e) tt 8 _ (or_gives (all_wide k s ws (block_now ws e) p) tt 9 _ (go (word_end k s ws d) refl))
        where
          d : Word
          d = word_here e u t k p (block_now ws e)

          go : (o : Option ℕ) → word_end k s ws d ≡ o → Gives (word_to e at d o)
          go None q = refl
          go (Some x) q = (here_fits e u t k p (block_now ws e) f a b h l (m.each (e.font - 1)), rw q refl)

      pub did_gives : (n : ℕ) (c : Command) → n ≤ 16777216 → CommandIn at n c → Gives (did_at s ws u e at c)
      did_gives n (C.Glyph p l q) z i = or_gives (on_page e) tt 7 _ (or_gives (is_set e) tt 8 _ tt)
      did_gives n (C.Index k q) z i = or_gives (on_page e) tt 7 _ (or_gives (is_set e) tt 8 _ (if_both Gives (ltb k origin) _ _ tt tt))
      did_gives n (C.Word t p x q) z i = or_gives (on_page e) tt 7 _ (word_gives t p (x - p) i.1 (omega (arith, i.0, i.3, i.4)))
      did_gives n (C.Pair k p q) z i = or_gives (on_page e) tt 7 _ (or_gives (is_set e) tt 8 _ (placed_gives (gone origin (e.h + k)) (λ h. record_on (with_spot e h e.v) p 1 0) (λ h. tt)))
      did_gives n (C.To x k q) z i = or_gives (on_page e) tt 7 _ tt
      did_gives n (C.By x k q) z i = or_gives (on_page e) tt 7 _ (placed_gives (gone origin (along e x + k)) (λ j. doing (with_along e x j) E.Nothing) (λ j. tt))
      did_gives n (C.Page k q) z i = or_gives (in_body e) tt 7 _ tt
      did_gives n (C.Font k q) z i = or_gives (in_body e) tt 7 _ (or_gives (ltb 0 (mount_at ws k)) tt 8 _ tt)
      did_gives n (C.Size k q) z i = or_gives (in_body e) tt 7 _ tt
      did_gives n (C.Colour x p q r k l) z i = or_gives (in_body e) tt 7 _ tt
      did_gives n (C.Break q) z i = or_gives (in_body e) tt 7 _ tt
      did_gives n (C.Space q) z i = or_gives (in_body e) tt 7 _ tt
      did_gives n (C.Draw l x y k q) z i =
          let moved : ℕ → ℕ → Result Did Refusal = λ h v. doing (with_spot e h v) (E.Entry (drawing_here e l 0 at q)) in
          or_gives (on_page e) tt 7 _
          (placed_gives (gone (k * origin) (e.h + x)) (λ h. and_then (placed_or (gone (k * origin) (e.v + y)) at) (moved h))
          (λ h. placed_gives (gone (k * origin) (e.v + y)) (moved h) (λ v. tt)))
      did_gives n (C.Gray k q) z i = or_gives (on_page e) tt 7 _ tt
      did_gives n (C.Fill x p q r k l) z i = or_gives (on_page e) tt 7 _ tt
      did_gives n (C.Device p l q) z i = or_gives (eqb e.phase 0) tt 7 _ tt
      did_gives n (C.Resolution k q) z i = or_gives (eqb e.phase 1) tt 7 _ tt
      did_gives n (C.Init q) z i = or_gives (eqb e.phase 2) tt 7 _ tt
      did_gives n (C.File p l q) z i = or_gives (in_body e) tt 7 _ tt
      did_gives n (C.Mount k p l q) z i = or_gives (in_body e) tt 7 _ tt
      did_gives n (C.Plain l q) z i = or_gives (in_body e) tt 7 _ tt
      did_gives n (C.Raw q) z i = or_gives (in_body e) tt 7 _ tt
      did_gives n (C.Stop q) z i = or_gives (in_body e) tt 7 _ tt

-- ---- a turn

-- what a turn gives to the rows: within the rooms, and only where that row is filled
abbrev pub InRows : List ℕ → List ℕ → State → Effect → Type 0
InRows s ws st F.Nothing = Unit {0}
InRows s ws st (F.Record i r) = (fills_records st.fill ≡ true) × (i < st.rmax)
InRows s ws st (F.Entry i x) = (fills_entries st.fill ≡ true) × (i < st.emax)
InRows s ws st (F.Word k d) = (fills_records st.fill ≡ true) × WordFits d × IsSome (word_end d.left s ws d) × (k + d.left ≤ st.rmax)

pub record Well (s ws : List ℕ) (st : State) (t : Turned) : Type 0 where
  pub less : t.state.left < st.left
  pub ready : 0 < t.state.left → Ready (length s) t.state
  pub fill : t.state.fill ≡ st.fill
  pub rmax : t.state.rmax ≡ st.rmax
  pub emax : t.state.emax ≡ st.emax
  pub fonts : t.state.fonts ≡ st.fonts
  pub unit : t.state.unitwidth ≡ st.unitwidth
  pub fits : EnvFits t.state.at t.state.env
  pub rows : InRows s ws st t.effect

module _ (s ws : List ℕ) (st : State) (r : Ready (length s) st) where
  halted_well : (p k : ℕ) → st.at ≤ p → Well s ws st (halted_at p st k)
  halted_well p k l = record { less = r.some; ready = λ h. absurd (let z : 0 < 0 = h in omega arith); fill = refl; rmax = refl; emax = refl; fonts = refl; unit = refl; fits = later st.at p st.env l r.fits; rows = tt }

  full_well : Well s ws st (halted st 13)
  full_well = halted_well st.at 13 (omega arith)

  -- behind the place
  module _ (next : ℕ) (l : st.at < next) (h : next ≤ length s) (e : Environment) (f : EnvFits next e) where
    gone_well : (x : Effect) (k j : ℕ) → k ≤ st.rmax → j ≤ st.emax → InRows s ws st x → Well s ws st (record { effect = x; state = gone_to (length s) st next k j e })
    gone_well x k j a b i = record {
      less = omega (arith, r.ends);
      ready = λ z. record { some = z; ends = omega arith; most = r.most; fits = f; unit_some = r.unit_some; unit_most = r.unit_most; few = r.few; records = a; entries = b };
      fill = refl;
      rmax = refl;
      emax = refl;
      fonts = refl;
      unit = refl;
      fits = f;
      rows = i;
    }

    filled : (b : Bool) (x : Effect) → (b ≡ true → InRows s ws st x) → InRows s ws st (filling b x)
    filled true x i = i refl
    filled false x i = tt

    emitted_well : (x : Emitted) → GivenIn s ws x → Well s ws st (emitted (length s) st next e x)
    emitted_well E.Nothing g = gone_well F.Nothing st.records st.entries r.records r.entries tt
    emitted_well (E.Record y) g =
        if_on (Well s ws st) (ltb st.records st.rmax) _ (halted st 13)
        (λ z. let q : st.records < st.rmax = ltb-true st.records st.rmax z in gone_well _ (st.records + 1) st.entries (omega arith) r.entries (filled (fills_records st.fill) (F.Record st.records y) (λ b. (b, q))))
        (λ z. full_well)
    emitted_well (E.Entry y) g =
        if_on (Well s ws st) (ltb st.entries st.emax) _ (halted st 13)
        (λ z. let q : st.entries < st.emax = ltb-true st.entries st.emax z in gone_well _ st.records (st.entries + 1) r.records (omega arith) (filled (fills_entries st.fill) (F.Entry st.entries y) (λ b. (b, q))))
        (λ z. full_well)
    emitted_well (E.Word d) g =
        if_on (Well s ws st) (ltb (st.rmax - st.records) d.left) (halted st 13) _ (λ z. full_well)
        (λ z.
        let q : d.left ≤ st.rmax - st.records = ltb-false (st.rmax - st.records) d.left z in
        let m : st.records + d.left ≤ st.rmax = omega (arith, r.records) in
        gone_well _ (st.records + d.left) st.entries m r.entries (filled (fills_records st.fill) (F.Word st.records d) (λ b. (b, g.0, g.1, m))))

  skipped_well : (next : ℕ) → st.at < next → next ≤ length s → Well s ws st (skipped (length s) st next)
  skipped_well next l h = gone_well next l h st.env (later st.at next st.env (omega arith) r.fits) F.Nothing st.records st.entries r.records r.entries tt

  -- behind what a command did, at next
  done_well : (next : ℕ) → Ends st.at (length s) next → (d : Result Did Refusal) → Kept next d → Gives s ws st.at d → Well s ws st (done_of (length s) st next d)
  done_well next z (Ok d) k g = emitted_well next z.0 z.1 d.env k d.emitted g
  done_well next z (Err x) k g = halted_well x.offset x.number (omega (arith, g))

module _ (s ws : List ℕ) (st : State) (r : Ready (length s) st) (m : Small ws) where
  in_stream : Fits st.env
  in_stream = later st.at 16777216 st.env (omega (arith, r.ends, r.most)) r.fits

  scanned_well : (c : Result Command Refusal) → ScannedIn st.at (length s) c → Well s ws st (turn_on s ws st c)
  scanned_well (Ok c) i =
      done_well s ws st r (next_of c) (ends_in st.at (length s) c i) (did_at s ws st.unitwidth st.env st.at c)
      (did_fits s ws st.unitwidth st.at (length s) st.env r.fits c i)
      (did_gives s ws st.at st.env st.unitwidth in_stream r.unit_some r.unit_most m (length s) c r.most i)
  scanned_well (Err x) i =
      if_both (λ (y : Refusal). Well s ws st (halted_by st y)) (eqb st.env.phase 4) (refusal 7 st.at) x (halted_well s ws st r st.at 7 (omega arith)) (halted_well s ws st r x.offset x.number i.1)

  pub turn_well : Well s ws st (turn_of s ws st)
  unfolding turn_of
  turn_well =
      let h : st.at < length s = omega (arith, r.ends, r.some) in
      let line : Turned = skipped (length s) st (st.at + 1 + one_line (drop (st.at + 1) s)) in
      let rest : Turned = turn_on s ws st (command_at s st.at) in
      if_both (Well s ws st) (is_white (get_or s st.at 0)) (skipped (length s) st (st.at + 1)) (if is "#" (get_or s st.at 0) then line else rest)
      (skipped_well s ws st r (st.at + 1) (omega arith) (omega arith))
      (if_both (Well s ws st) (is "#" (get_or s st.at 0)) line rest
      (skipped_well s ws st r (st.at + 1 + one_line (drop (st.at + 1) s)) (omega arith) (comment_in s st.at h))
      (scanned_well (command_at s st.at) (command-fits s st.at h)))

-- ---- the scratch row behind a turn

-- only its mounts are new, and they are numbers of blocks
pub record Remounted (ws ws' : List ℕ) : Type 0 where
  pub scratch : Scratch ws'
  pub kept : drop 256 ws' ≡ drop 256 ws

drop-set : (ws : List ℕ) (i k x : ℕ) → i < k → drop k (set ws i x) ≡ drop k ws
drop-set [] i k x h = refl
drop-set (y ∷ ws) i zero x h = absurd (omega arith)
drop-set (y ∷ ws) zero (suc k) x h = refl
drop-set (y ∷ ws) (suc i) (suc k) x h = drop-set ws i k x (omega arith)

module _ (list s : List ℕ) (fonts : ℕ) (few : fonts ≤ 32) (ws : List ℕ) (g : Scratch ws) where
  same_scratch : Remounted ws ws
  same_scratch = record { scratch = g; kept = refl }

  set_scratch : (i x : ℕ) → i < 256 → x ≤ 100001 → Remounted ws (set ws i x)
  set_scratch i x h l = record {
    scratch = record { size = length-set ws i x ∙ g.size; small = record { each = λ j. small j (ℕ_discrete j i) } };
    kept = drop-set ws i 256 x h;
  }
    where
      small : (j : ℕ) → Dec (j ≡ i) → get_or (set ws i x) j 0 ≤ 100001
      small j (yes e) = let y : length ws ≡ 8768 = g.size in rw (e, get_or-set_same ws i x 0 (omega arith)) l
      small j (no e) = rw (get_or-set_other ws i j x 0 e) (g.small.each j)

  after_scratch : (e : Environment) (at n : ℕ) (c : Command) → CommandIn at n c → Remounted ws (scratch_after (find_in list fonts ws) s ws e c)
  after_scratch e at n (C.Mount k p l q) i =
      if_both (Remounted ws) (in_body e) _ ws
      (set_scratch k (find_in list fonts ws (take l (drop p s)) + 1) i.1 (omega (arith, found_most list ws (take l (drop p s)) fonts (find_in list fonts ws (take l (drop p s))) refl few))) same_scratch
  after_scratch e at n c i = same_scratch

  scanned_scratch : (e : Environment) (at n : ℕ) (c : Result Command Refusal) → ScannedIn at n c → Remounted ws (scratch_on (find_in list fonts ws) s ws e c)
  scanned_scratch e at n (Ok c) i = after_scratch e at n c i
  scanned_scratch e at n (Err x) i = same_scratch

  pub turn_scratch : (st : State) → Ready (length s) st → Remounted ws (scratch_of (find_in list fonts ws) s ws st)
  unfolding scratch_of
  turn_scratch st r =
      let h : st.at < length s = omega (arith, r.ends, r.some) in
      let rest : List ℕ = scratch_on (find_in list fonts ws) s ws st.env (command_at s st.at) in
      if_both (Remounted ws) (is_white (get_or s st.at 0)) ws (if is "#" (get_or s st.at 0) then ws else rest) same_scratch
      (if_both (Remounted ws) (is "#" (get_or s st.at 0)) ws rest same_scratch
      (scanned_scratch st.env st.at (length s) (command_at s st.at) (command-fits s st.at h)))

-- ---- a word leaves the scratch row

abbrev pub WordKeeps : List ℕ → Effect → List ℕ → Type 0
WordKeeps ws F.Nothing ws' = Unit {0}
WordKeeps ws (F.Record i r) ws' = Unit {0}
WordKeeps ws (F.Entry i x) ws' = Unit {0}
WordKeeps ws (F.Word k d) ws' = ws' ≡ ws

module _ (find : List ℕ → ℕ) (s ws : List ℕ) (st : State) where
  kept_by : (x : Effect) → WordKeeps ws x ws
  kept_by F.Nothing = tt
  kept_by (F.Record i r) = tt
  kept_by (F.Entry i x) = tt
  kept_by (F.Word k d) = refl

  command_keeps : (c : Result Command Refusal) → WordKeeps ws (turn_on s ws st c).effect (scratch_on find s ws st.env c)
  command_keeps (Ok (C.Mount k p l q)) =
      on (in_body st.env)
      (λ z. rw z (if_both (λ (t : Turned). WordKeeps ws t.effect (set ws k (find (take l (drop p s)) + 1))) (ltb st.entries st.emax) _ (halted st 13) (entry (fills_entries st.fill)) tt))
      (λ z. rw z tt)
    where
      entry : (b : Bool) → WordKeeps ws (filling b (F.Entry st.entries (control_here st.env 102 st.at q))) (set ws k (find (take l (drop p s)) + 1))
      entry true = tt
      entry false = tt
  command_keeps (Ok c) = kept_by (turn_on s ws st (Ok c)).effect
  command_keeps (Err x) = tt

  pub word_keeps : WordKeeps ws (turn_of s ws st).effect (scratch_of find s ws st)
  unfolding turn_of scratch_of
  word_keeps =
      on (is_white (get_or s st.at 0)) (λ z. rw z tt)
      (λ z. on (is "#" (get_or s st.at 0)) (λ y. rw (z, y) tt) (λ y. rw (z, y) (command_keeps (command_at s st.at))))
