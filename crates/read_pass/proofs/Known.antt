-- What is known of a pass where a turn begins, and that a turn keeps it.
use Prim.Native.Nat.{ℕ, zero, suc, ◌+◌, ◌-◌, ◌<◌, ◌≤◌}
use native.Mathlib.Omega.{arith}
use mathlib.Core.Bool.{true}
use mathlib.Core.List.{List}
use mathlib.Core.Path.{◌≡◌, refl, sym, ap, subst, ◌∙◌}
use lib.ListN.{length, take, drop, set, length-set}
use lib.Seq.{drop-drop}
use borrow.Author.Tests.{eq-eqb, ne_eqb}
use Rattle.rules.specs.declared.Record.{Record}
use Rattle.rules.specs.declared.Entry.{Entry}
use Rattle.widths_table.specs.Slots.{slot_in}
use Rattle.read_model.specs.declared.Word.{Word}
use Rattle.read_model.specs.declared.Effect.{Effect}
use Rattle.read_model.specs.declared.Effect.TheVariants as F
use Rattle.read_model.specs.declared.Turned.{Turned}
use Rattle.read_model.specs.Words.{word_next, word_record}
use Rattle.read_model.specs.Fits.{EnvFits}
use Rattle.read_model.specs.Turns.{fills_records, fills_entries, turn_of, scratch_of}
use Rattle.read_model.specs.Passes.{ReadPass, word_fill, records_after, entries_after, read_step_of, read_pass_for, read_pass_of}
use Rattle.read_turn.specs.Ready.{find_in, Scratch, Ready}
use Rattle.read_turn.proofs.Kept.{InRows, Well, turn_well, Remounted, turn_scratch, WordKeeps, word_keeps}
use Rattle.read_pass.specs.Ready.{PassReady}

-- ---- the names in the scratch row

pub find_same : (list : List ℕ) (fonts : ℕ) (ws ws' : List ℕ) → drop 256 ws' ≡ drop 256 ws → find_in list fonts ws' ≡ find_in list fonts ws
find_same list fonts ws ws' h = λ i n. slot_in list (take 32 (places i)) (take 32 (lengths i)) fonts n
  where
    places : drop 8704 ws' ≡ drop 8704 ws
    places = sym (drop-drop 8448 256 ws') ∙ ap (drop 8448) h ∙ drop-drop 8448 256 ws

    lengths : drop 8736 ws' ≡ drop 8736 ws
    lengths = sym (drop-drop 8480 256 ws') ∙ ap (drop 8480) h ∙ drop-drop 8480 256 ws

-- ---- rows keep their lengths

pub fill-length : (n : ℕ) (s ws : List ℕ) (k : ℕ) (d : Word) (rows : List Record) → length (word_fill n s ws k d rows) ≡ length rows
unfolding word_fill
fill-length zero s ws k d rows = refl
fill-length (suc n) s ws k d rows = fill-length n s ws (k + 1) (word_next s ws d) (set rows k (word_record d)) ∙ length-set rows k (word_record d)

pub records_length : (s ws : List ℕ) (rows : List Record) (x : Effect) → length (records_after s ws rows x) ≡ length rows
records_length s ws rows F.Nothing = refl
records_length s ws rows (F.Record i r) = length-set rows i r
records_length s ws rows (F.Entry i x) = refl
records_length s ws rows (F.Word k d) = fill-length d.left s ws k d rows

pub entries_length : (rows : List Entry) (x : Effect) → length (entries_after rows x) ≡ length rows
entries_length rows F.Nothing = refl
entries_length rows (F.Record i r) = refl
entries_length rows (F.Entry i x) = length-set rows i x
entries_length rows (F.Word k d) = refl

-- ---- where a turn begins: at most k turns are left, and p is the pass as it stands

module _ (list s : List ℕ) (p₀ : ReadPass) where
  abbrev find₀ : List ℕ → ℕ
  find₀ = find_in list p₀.state.fonts p₀.scratch

  pub record Known (k : ℕ) (p : ReadPass) : Type 0 where
    pub runs : read_pass_for k find₀ s p ≡ read_pass_of find₀ s p₀
    pub few : p.state.left ≤ k
    pub scratch : Scratch p.scratch
    pub kept : drop 256 p.scratch ≡ drop 256 p₀.scratch
    pub ready : 0 < p.state.left → Ready (length s) p.state
    pub fonts : p.state.fonts ≡ p₀.state.fonts
    pub unit : p.state.unitwidth ≡ p₀.state.unitwidth
    pub fits : EnvFits p.state.at p.state.env
    pub rmax : fills_records p.state.fill ≡ true → p.state.rmax ≡ length p₀.records
    pub emax : fills_entries p.state.fill ≡ true → p.state.emax ≡ length p₀.entries
    pub records_same : length p.records ≡ length p₀.records
    pub entries_same : length p.entries ≡ length p₀.entries

  pub first_known : PassReady (length s) p₀.scratch (length p₀.records) (length p₀.entries) p₀.state → Known p₀.state.left p₀
  first_known h = record { runs = refl; few = omega arith; scratch = h.scratch; kept = refl; ready = h.ready; fonts = refl; unit = refl; fits = h.fits; rmax = h.rmax; emax = h.emax; records_same = refl; entries_same = refl }

  -- the pass behind a turn, with what the turn answered and the scratch row that it left
  abbrev pub behind : ReadPass → Turned → List ℕ → ReadPass
  behind p x ws = record { state = x.state; scratch = ws; records = records_after s p.scratch p.records x.effect; entries = entries_after p.entries x.effect }

  module _ (k : ℕ) (p : ReadPass) (kn : Known k p) (going : 0 < p.state.left) (x : Turned) (ws : List ℕ) (e : x ≡ turn_of s p.scratch p.state) (m : ws ≡ scratch_of (find_in list p.state.fonts p.scratch) s p.scratch p.state) where
    well : Well s p.scratch p.state x
    well = rw e (turn_well s p.scratch p.state (kn.ready going) kn.scratch.small)

    remounted : Remounted p.scratch ws
    remounted = rw m (turn_scratch list s p.state.fonts (kn.ready going).few p.scratch kn.scratch p.state (kn.ready going))

    -- what the turn gives lies within the rows as they are
    pub in_rows : InRows s p.scratch p.state x.effect
    in_rows = well.rows

    pub words_keep : WordKeeps p.scratch x.effect ws
    words_keep = rw (e, m) (word_keeps (find_in list p.state.fonts p.scratch) s p.scratch p.state)

    pub less : x.state.left < p.state.left
    less = well.less

    steps : behind p x ws ≡ read_step_of find₀ s p
    steps = rw (m, e, find_same list p.state.fonts p₀.scratch p.scratch kn.kept, kn.fonts)

    module _ (n : ℕ) (h : k ≡ suc n) where
      one_more : read_pass_for k find₀ s p ≡ read_pass_for n find₀ s (read_step_of find₀ s p)
      unfolding read_pass_for
      one_more = rw (h, ne_eqb p.state.left 0 (λ z. omega arith))

      behind_known : Known n (behind p x ws)
      behind_known = record {
        runs = ap (read_pass_for n find₀ s) steps ∙ sym one_more ∙ kn.runs;
        few = omega (arith, well.less, kn.few);
        scratch = remounted.scratch;
        kept = remounted.kept ∙ kn.kept;
        ready = well.ready;
        fonts = well.fonts ∙ kn.fonts;
        unit = well.unit ∙ kn.unit;
        fits = well.fits;
        rmax = λ h. well.rmax ∙ kn.rmax (sym (ap fills_records well.fill) ∙ h);
        emax = λ h. well.emax ∙ kn.emax (sym (ap fills_entries well.fill) ∙ h);
        records_same = records_length s p.scratch p.records x.effect ∙ kn.records_same;
        entries_same = entries_length p.entries x.effect ∙ kn.entries_same;
      }

    -- what the rows hold then is what the turn gave
    pub next_known : (rs : List Record) (es : List Entry) → rs ≡ records_after s p.scratch p.records x.effect → es ≡ entries_after p.entries x.effect
        → (n : ℕ) × Known n (record { state = x.state; scratch = ws; records = rs; entries = es })
    next_known rs es a b = (k - 1, rw (a, b) (behind_known (k - 1) (omega (arith, kn.few))))

  pub run-done : (k : ℕ) (p : ReadPass) → p.state.left ≤ 0 → read_pass_for k find₀ s p ≡ p
  unfolding read_pass_for
  run-done zero p h = refl
  run-done (suc k) p h = rw (eq-eqb p.state.left 0 (omega arith))

  -- ---- the end of a pass

  over_known : (k : ℕ) (p : ReadPass) → Known k p → p.state.left ≤ 0 → Known 0 p
  over_known k p kn h = record {
    runs = run-done 0 p h ∙ sym (run-done k p h) ∙ kn.runs;
    few = h;
    scratch = kn.scratch;
    kept = kn.kept;
    ready = kn.ready;
    fonts = kn.fonts;
    unit = kn.unit;
    fits = kn.fits;
    rmax = kn.rmax;
    emax = kn.emax;
    records_same = kn.records_same;
    entries_same = kn.entries_same;
  }

  ends_known : (k : ℕ) (p : ReadPass) → Known k p → Known 0 (read_pass_for k find₀ s p)
  ends_known zero p kn = rw (run-done 0 p kn.few) kn
  ends_known (suc k) p kn = go p.state.left refl (λ q kq. ends_known k q kq)
    where
      go : (m : ℕ) → p.state.left ≡ m → ((q : ReadPass) → Known k q → Known 0 (read_pass_for k find₀ s q)) → Known 0 (read_pass_for (suc k) find₀ s p)
      go zero e more = rw (run-done (suc k) p (omega arith)) (over_known (suc k) p kn (omega arith))
      go (suc m) e more =
          let h : 0 < p.state.left = omega arith in
          let x : Turned = turn_of s p.scratch p.state in
          let ws : List ℕ = scratch_of (find_in list p.state.fonts p.scratch) s p.scratch p.state in
          subst (Known 0) (sym (one_more (suc k) p kn h x ws refl refl k refl ∙ ap (read_pass_for k find₀ s) (sym (steps (suc k) p kn h x ws refl refl))))
          (more (behind p x ws) (behind_known (suc k) p kn h x ws refl refl k refl))

  -- what a whole pass leaves: the scratch row but for its mounts, the lengths of the rows, an environment within its bounds
  pub pass_known : PassReady (length s) p₀.scratch (length p₀.records) (length p₀.entries) p₀.state → Known 0 (read_pass_of find₀ s p₀)
  pass_known h = ends_known p₀.state.left p₀ (first_known h)

  -- the end of the loop
  pub ended : (k : ℕ) (p : ReadPass) → Known k p → p.state.left ≤ 0 → p ≡ read_pass_of find₀ s p₀
  ended k p kn h = sym (run-done k p h) ∙ kn.runs
