-- Two passes answer what the rules answer: what each of them asks, and what is answered at the end.
use Rattle.std.specs.Prelude.{if◌then◌else◌}
use Prim.Native.Nat.{ℕ, ◌+◌, ◌<◌, ◌≤◌}
use native.Mathlib.Omega.{arith}
use mathlib.Core.Bool.{Bool, true, false, ◌||◌}
use mathlib.Core.List.{List, map}
use mathlib.Core.Logic.{◌⊎◌, inl, inr}
use mathlib.Core.Path.{◌≡◌, refl, sym, ap, subst, ◌∙◌}
use lib.Dec.{ltb, eqb}
use lib.ListN.{length}
use borrow.Author.Tests.{ne_eqb, ltb-false}
use Rattle.rules.specs.declared.Record.{Record}
use Rattle.rules.specs.declared.Entry.{Entry}
use Rattle.rules.specs.Scan.{commands}
use Rattle.rules.specs.State.{Env, start}
use Rattle.rules.specs.Widths.{Widths, WidthList, unsound, sound, width_list}
use Rattle.rules.specs.Record.{GlyphRow, ItemRow, Answer, refuse, answer, follow, record_of, entry_of}
use Rattle.rules.specs.Answers.{stream_most, is_over, read, room_for, read_into, reading_of, records_over, entries_over}
use Rattle.laws.proofs.Cases.{on, no as impossible, if_both, or_true}
use Rattle.widths_table.proofs.Bounds.{sound_unit, sound_few}
use Rattle.read_model.specs.declared.State.{State}
use Rattle.read_model.specs.Fits.{EnvFits}
use Rattle.read_model.specs.Turns.{fills_entries}
use Rattle.read_model.specs.Passes.{ReadPass, read_pass_for, read_pass_of}
use Rattle.read_model.proofs.Passes.{Room, Refused, Accepted, Ended, pass_ends, judging_keeps, length-map}
use Rattle.read_model.proofs.Rows.{over_is}
use Rattle.read_turn.specs.Ready.{find_in, Scratch, Ready}
use Rattle.read_pass.specs.Ready.{PassReady}
use Rattle.read_pass.proofs.Known.{Known, pass_known}
use Rattle.read_setup.specs.Setup.{ScratchOf, Unmounted, start_env, begin_of, refused_at, StartedWith, StartedOr, Started, again_of, read_answer_of, AreBytes}
use Rattle.read_twice.proofs.Scratched.{no_mounts, start_live, scratch_again}

-- a pass that begins at a state, with a scratch row and both rows
abbrev pub pass_from : State → List ℕ → List Record → List Entry → ReadPass
pass_from st ws rs es = record { state = st; scratch = ws; records = rs; entries = es }

-- ---- what a pass asks where it begins

start_fits : (at : ℕ) → EnvFits at start_env
start_fits at = record { h_some = omega arith; h_most = omega arith; v_some = omega arith; v_most = omega arith; number = omega arith; ordinal = omega arith; size = omega arith; quantum_some = omega arith; quantum_most = omega arith; font = omega arith }

pub refused-sound : (n : ℕ) (ws : List ℕ) (g e number offset : ℕ) → Scratch ws → PassReady n ws g e (refused_at number offset)
refused-sound n ws g e number offset k = record {
  scratch = k;
  ready = λ z. absurd (let y : 0 < 0 = z in omega arith);
  fits = start_fits offset;
  rmax = λ z. impossible z;
  emax = λ z. impossible z;
}

begin_ready : (n g e fonts unit fill : ℕ) → n ≤ 16777216 → fonts ≤ 32 → 1 ≤ unit → unit ≤ 100000 → 0 < n → Ready n (begin_of n g e fonts unit fill)
begin_ready n g e fonts unit fill a b c d z = record { some = z; ends = omega arith; most = a; fits = start_fits 0; unit_some = c; unit_most = d; few = b; records = omega arith; entries = omega arith }

pub not_over : (s list : List ℕ) → (is_over stream_most s || is_over 65_536 list) ≡ false → length s ≤ 16777216
not_over s list h = ltb-false stream_most (length s) (on (is_over stream_most s) (λ y. impossible (sym (rw y at h))) (λ y. y))

-- a pass that fills nothing, with the scratch row of a sound list
pub begin_sound : (s list : List ℕ) (w : Widths) → width_list list ≡ sound w → length s ≤ 16777216 → (ws : List ℕ) → ScratchOf list w.fonts ws → (g e rmax emax : ℕ)
    → PassReady (length s) ws g e (begin_of (length s) rmax emax (length w.fonts) w.unitwidth 0)
begin_sound s list w q short ws k g e rmax emax = record {
  scratch = k.scratch;
  ready = begin_ready (length s) rmax emax (length w.fonts) w.unitwidth 0 short (sound_few list w q) (sound_unit list w q).0 (sound_unit list w q).1;
  fits = start_fits 0;
  rmax = λ y. impossible y;
  emax = λ y. impossible y;
}

-- what the judging pass asks
module _ (s list : List ℕ) (a : State) (ws : List ℕ) (g e : ℕ) where
  with_sound : (is_over stream_most s || is_over 65_536 list) ≡ false → (x : WidthList) → width_list list ≡ x → StartedWith (length s) list a ws x → PassReady (length s) ws g e a
  with_sound z (unsound at) q h = subst (PassReady (length s) ws g e) (sym h.0) (refused-sound (length s) ws g e 2 at h.1)
  with_sound z (sound w) q h = subst (PassReady (length s) ws g e) (sym h.0) (begin_sound s list w q (not_over s list z) ws h.1 g e (length s) (length s))

  or_sound : (b : Bool) → (is_over stream_most s || is_over 65_536 list) ≡ b → StartedOr b s list a ws → PassReady (length s) ws g e a
  or_sound true z h = subst (PassReady (length s) ws g e) (sym h.0) (refused-sound (length s) ws g e 1 0 h.1)
  or_sound false z h = with_sound z (width_list list) refl h

pub first-sound : (s list : List ℕ) (a : State) (ws : List ℕ) (g e : ℕ) → Started s list a ws → PassReady (length s) ws g e a
first-sound s list a ws g e h = or_sound s list a ws g e (is_over stream_most s || is_over 65_536 list) refl h

-- ---- refused before the stream is read, or read

pub record Off (s list : List ℕ) (a : State) : Type 0 where
  pub number : ℕ
  pub offset : ℕ
  pub state : a ≡ refused_at number offset
  pub some : 0 < number
  pub answered : read s list ≡ refuse number offset

pub record On (s list : List ℕ) (a : State) (ws : List ℕ) : Type 0 where
  pub widths : Widths
  pub list_is : width_list list ≡ sound widths
  pub state : a ≡ begin_of (length s) (length s) (length s) (length widths.fonts) widths.unitwidth 0
  pub scratch : ScratchOf list widths.fonts ws
  pub short : length s ≤ 16777216
  pub answered : read s list ≡ follow widths start (commands 0 0 s)

module _ (s list : List ℕ) (a : State) (ws : List ℕ) where
  with_case : (is_over stream_most s || is_over 65_536 list) ≡ false → (x : WidthList) → width_list list ≡ x → StartedWith (length s) list a ws x → Off s list a ⊎ On s list a ws
  unfolding read
  with_case z (unsound at) q h = inl (record { number = 2; offset = at; state = h.0; some = omega arith; answered = rw (z, q) })
  with_case z (sound w) q h = inr (record { widths = w; list_is = q; state = h.0; scratch = h.1; short = not_over s list z; answered = rw (z, q) })

  or_case : (b : Bool) → (is_over stream_most s || is_over 65_536 list) ≡ b → StartedOr b s list a ws → Off s list a ⊎ On s list a ws
  unfolding read
  or_case true z h = inl (record { number = 1; offset = 0; state = h.0; some = omega arith; answered = rw z })
  or_case false z h = with_case z (width_list list) refl h

  pub started_case : Started s list a ws → Off s list a ⊎ On s list a ws
  started_case h = or_case (is_over stream_most s || is_over 65_536 list) refl h

-- a pass that does not go on
pub halted_pass : (find : List ℕ → ℕ) (s : List ℕ) (p : ReadPass) → p.state.left ≡ 0 → read_pass_of find s p ≡ p
unfolding read_pass_for
halted_pass find s p h = rw h

-- a pass that begins with the scratch row of a sound list ends as the rules say
pub run_ends : (s list : List ℕ) (w : Widths) → width_list list ≡ sound w → (ws : List ℕ) → ScratchOf list w.fonts ws → AreBytes s → (g e fill : ℕ) (rs : List Record) (es : List Entry)
    → Room (length s) (follow w start (commands 0 0 s)) (begin_of (length s) g e (length w.fonts) w.unitwidth fill)
    → Ended (follow w start (commands 0 0 s)) (pass_from (begin_of (length s) g e (length w.fonts) w.unitwidth fill) ws rs es) (read_pass_of (find_in list (length w.fonts) ws) s (pass_from (begin_of (length s) g e (length w.fonts) w.unitwidth fill) ws rs es))
run_ends s list w q ws k y g e fill rs es r =
    pass_ends w (find_in list (length w.fonts) ws) s y.each (length s) no_mounts (pass_from (begin_of (length s) g e (length w.fonts) w.unitwidth fill) ws rs es)
    (record { within = omega arith; left = omega arith; clear = refl }) (start_live list w q ws k) (omega arith) r

-- ---- the first pass

module _ (s list : List ℕ) (rs : List Record) (es : List Entry) (a : State) (ws₁ : List ℕ) (h : Started s list a ws₁) (p : ReadPass) (is : p ≡ read_pass_of (find_in list a.fonts ws₁) s (pass_from a ws₁ rs es)) where
  judged : Known list s (pass_from a ws₁ rs es) 0 p
  judged = subst (Known list s (pass_from a ws₁ rs es) 0) (sym is) (pass_known list s (pass_from a ws₁ rs es) (first-sound s list a ws₁ (length rs) (length es) h))

  -- what it leaves
  pub judged_scratch : Scratch p.scratch
  judged_scratch = judged.scratch

  pub judged_records : length p.records ≡ length rs
  judged_records = judged.records_same

  pub judged_entries : length p.entries ≡ length es
  judged_entries = judged.entries_same

  -- refused before: it leaves all as it was
  module _ (o : Off s list a) where
    off_pass : p ≡ pass_from a ws₁ rs es
    off_pass = is ∙ halted_pass (find_in list a.fonts ws₁) s (pass_from a ws₁ rs es) (rw o.state)

    off_next : again_of p.state (length s) (length rs) (length es) 1 ≡ refused_at o.number o.offset
    off_next = rw (off_pass, o.state, ne_eqb o.number 0 (λ z. let y : 0 < o.number = o.some in omega arith))

  -- as the rules read the stream
  module _ (y : AreBytes s) (o : On s list a ws₁) where
    abbrev said : Answer
    said = follow o.widths start (commands 0 0 s)

    abbrev pub begun : State
    begun = begin_of (length s) (length s) (length s) (length o.widths.fonts) o.widths.unitwidth 0

    on_pass : p ≡ read_pass_of (find_in list (length o.widths.fonts) ws₁) s (pass_from begun ws₁ rs es)
    on_pass = is ∙ ap (λ (z : State). read_pass_of (find_in list z.fonts ws₁) s (pass_from z ws₁ rs es)) o.state

    pub on_ends : Ended said (pass_from begun ws₁ rs es) p
    on_ends =
        subst (Ended said (pass_from begun ws₁ rs es)) (sym on_pass)
        (run_ends s list o.widths o.list_is ws₁ o.scratch y (length s) (length s) 0 rs es (inl (omega arith, omega arith, omega arith, omega arith)))

    pub kept_records : p.records ≡ rs
    kept_records = ap (λ (z : ReadPass). z.records) on_pass ∙ (judging_keeps (find_in list (length o.widths.fonts) ws₁) s (length s) (pass_from begun ws₁ rs es) refl).0

    kept_entries : p.entries ≡ es
    kept_entries = ap (λ (z : ReadPass). z.entries) on_pass ∙ (judging_keeps (find_in list (length o.widths.fonts) ws₁) s (length s) (pass_from begun ws₁ rs es) refl).1

    -- it accepted
    module _ (xs : List GlyphRow) (zs : List ItemRow) (d : Env) (said_is : said ≡ answer xs zs d) (g : Accepted xs zs d (pass_from begun ws₁ rs es) p) where
      pub judged_count : p.state.records ≡ length xs
      judged_count = g.count ∙ (let e : 0 + length xs ≡ length xs = omega arith in e)

      pub judged_number : p.state.entries ≡ length zs
      judged_number = g.number ∙ (let e : 0 + length zs ≡ length zs = omega arith in e)

      -- then a pass that fills, with rooms that are large enough, accepts too
      module _ (emax fill : ℕ) (ws₂ : List ℕ) (u : Unmounted p.scratch ws₂) (c : State) (next : c ≡ begin_of (length s) (length rs) emax p.state.fonts p.state.unitwidth fill) where
        abbrev pub refill : State
        refill = begin_of (length s) (length rs) emax (length o.widths.fonts) o.widths.unitwidth fill

        refill_is : c ≡ refill
        refill_is =
            let k : p.state.fonts ≡ length o.widths.fonts = judged.fonts ∙ ap (λ (z : State). z.fonts) o.state in
            let v : p.state.unitwidth ≡ o.widths.unitwidth = judged.unit ∙ ap (λ (z : State). z.unitwidth) o.state in
            next ∙ rw (k, v)

        pub refilled : length xs ≤ length rs → length zs ≤ emax → (q : ReadPass) → q ≡ read_pass_of (find_in list c.fonts ws₂) s (pass_from c ws₂ p.records p.entries) → Accepted xs zs d (pass_from refill ws₂ p.records p.entries) q
        refilled records_fit entries_fit q ends =
            let b : q ≡ read_pass_of (find_in list (length o.widths.fonts) ws₂) s (pass_from refill ws₂ p.records p.entries) = ends ∙ ap (λ (z : State). read_pass_of (find_in list z.fonts ws₂) s (pass_from z ws₂ p.records p.entries)) refill_is in
            let k : ScratchOf list o.widths.fonts ws₂ = scratch_again list o.widths.fonts ws₁ p.scratch ws₂ o.scratch judged.kept u (sound_few list o.widths o.list_is) in
            let e : Ended said (pass_from refill ws₂ p.records p.entries) q =
            subst (Ended said (pass_from refill ws₂ p.records p.entries)) (sym b)
            (run_ends s list o.widths o.list_is ws₂ k y (length rs) emax fill p.records p.entries
            (subst (λ (x : Answer). Room (length s) x refill) (sym said_is) (inr (omega (arith, records_fit), omega (arith, entries_fit))))) in
            subst (λ (x : Answer). Ended x (pass_from refill ws₂ p.records p.entries) q) said_is e

  -- what a pass that fills asks, where it fills rows of these lengths
  pub filling-sound : (emax fill : ℕ) → (fills_entries fill ≡ true → emax ≡ length p.entries) → (ws₂ : List ℕ) → Unmounted p.scratch ws₂ → On s list a ws₁
      → PassReady (length s) ws₂ (length p.records) (length p.entries) (again_of p.state (length s) (length rs) emax fill)
  filling-sound emax fill whole ws₂ u o =
      let P : State → Type 0 = PassReady (length s) ws₂ (length p.records) (length p.entries) in
      let k : p.state.fonts ≡ length o.widths.fonts = judged.fonts ∙ ap (λ (z : State). z.fonts) o.state in
      let v : p.state.unitwidth ≡ o.widths.unitwidth = judged.unit ∙ ap (λ (z : State). z.unitwidth) o.state in
      if_both P (eqb p.state.refusal 0) _ (refused_at p.state.refusal p.state.at)
      (if_both P (eqb p.state.env.phase 4) _ (refused_at 11 p.state.at)
      (if_both P (ltb (length rs) p.state.records || ltb emax p.state.entries) (refused_at 13 0) _ (refused-sound (length s) ws₂ (length p.records) (length p.entries) 13 0 u.scratch)
      (record {
        scratch = u.scratch;
        ready = begin_ready (length s) (length rs) emax p.state.fonts p.state.unitwidth fill o.short (omega (arith, k, sound_few list o.widths o.list_is)) (omega (arith, v, (sound_unit list o.widths o.list_is).0)) (omega (arith, v, (sound_unit list o.widths o.list_is).1));
        fits = start_fits 0;
        rmax = λ z. sym judged_records;
        emax = whole;
      }))
      (refused-sound (length s) ws₂ (length p.records) (length p.entries) 11 p.state.at u.scratch))
      (refused-sound (length s) ws₂ (length p.records) (length p.entries) p.state.refusal p.state.at u.scratch)

  module _ (c : State) (next : c ≡ again_of p.state (length s) (length rs) (length es) 1) (ws₂ : List ℕ) (u : Unmounted p.scratch ws₂) where
    -- what the filling pass asks
    on_sound : On s list a ws₁ → PassReady (length s) ws₂ (length p.records) (length p.entries) c
    on_sound o = subst (PassReady (length s) ws₂ (length p.records) (length p.entries)) (sym next) (filling-sound (length es) 1 (λ z. sym judged_entries) ws₂ u o)

    case_sound : Off s list a ⊎ On s list a ws₁ → PassReady (length s) ws₂ (length p.records) (length p.entries) c
    case_sound (inl o) = subst (PassReady (length s) ws₂ (length p.records) (length p.entries)) (sym (next ∙ off_next o)) (refused-sound (length s) ws₂ (length p.records) (length p.entries) o.number o.offset u.scratch)
    case_sound (inr o) = on_sound o

    pub again_sound : PassReady (length s) ws₂ (length p.records) (length p.entries) c
    again_sound = case_sound (started_case s list a ws₁ h)

    module _ (q : ReadPass) (ends : q ≡ read_pass_of (find_in list c.fonts ws₂) s (pass_from c ws₂ p.records p.entries)) where
      -- what the answer asks
      pub last_fits : EnvFits q.state.at q.state.env
      last_fits = subst (λ (z : ReadPass). EnvFits z.state.at z.state.env) (sym ends) (pass_known list s (pass_from c ws₂ p.records p.entries) again_sound).fits

      abbrev told : Answer
      told = read_into (length rs) (length es) s list

      abbrev Answered : Answer → Type 0
      Answered x = (read_answer_of q.state ≡ reading_of x) × (q.records ≡ records_over rs x) × (q.entries ≡ entries_over es x)

      -- a refusal leaves the rows
      refused_as : (k o : ℕ) → c ≡ refused_at k o → 0 < k → p.records ≡ rs → p.entries ≡ es → Answered (refuse k o)
      refused_as k o e z r x =
          let b : q ≡ pass_from c ws₂ p.records p.entries = ends ∙ halted_pass (find_in list c.fonts ws₂) s (pass_from c ws₂ p.records p.entries) (ap (λ (i : State). i.left) e) in
          (rw (b, e, ne_eqb k 0 (λ i. omega arith)), ap (λ (i : ReadPass). i.records) b ∙ r, ap (λ (i : ReadPass). i.entries) b ∙ x)

      off_reads : Off s list a → Answered told
      unfolding read_into
      off_reads o =
          let b : p ≡ pass_from a ws₁ rs es = off_pass o in
          rw o.answered (refused_as o.number o.offset (next ∙ off_next o) o.some (ap (λ (i : ReadPass). i.records) b) (ap (λ (i : ReadPass). i.entries) b))

      module _ (y : AreBytes s) (o : On s list a ws₁) where
        -- the judging pass ended with a refusal
        pass_refused : (k j : ℕ) → Refused k j p.state → (c ≡ refused_at k j) × (0 < k)
        pass_refused k j (inl (r, z, e)) = (next ∙ rw (r, e, ne_eqb k 0 (λ i. omega arith)), z)
        pass_refused k j (inr (f, r, e, x)) = (next ∙ rw (r, x, e, f), omega arith)

        -- it accepted
        module _ (xs : List GlyphRow) (zs : List ItemRow) (d : Env) (said_is : follow o.widths start (commands 0 0 s) ≡ answer xs zs d) (g : Accepted xs zs d (pass_from (begun y o) ws₁ rs es) p) where
          abbrev full : Bool
          full = ltb (length rs) (length xs) || ltb (length es) (length zs)

          next_is : c ≡ (if full then refused_at 13 0 else begin_of (length s) (length rs) (length es) p.state.fonts p.state.unitwidth 1)
          next_is = next ∙ rw (g.clear, g.stopped, judged_count y o xs zs d said_is g, judged_number y o xs zs d said_is g)

          -- then the second pass fills the rows
          module _ (roomy : full ≡ false) where
            fills : c ≡ begin_of (length s) (length rs) (length es) p.state.fonts p.state.unitwidth 1
            fills = next_is ∙ rw roomy

            records_fit : length xs ≤ length rs
            records_fit = ltb-false (length rs) (length xs) (on (ltb (length rs) (length xs)) (λ z. impossible (sym (rw z at roomy))) (λ z. z))

            entries_fit : length zs ≤ length es
            entries_fit = ltb-false (length es) (length zs) (on (ltb (length es) (length zs)) (λ z. impossible (sym roomy ∙ or_true (ltb (length rs) (length xs)) (ltb (length es) (length zs)) z)) (λ z. z))

            filling : Accepted xs zs d (pass_from (refill y o xs zs d said_is g (length es) 1 ws₂ u c fills) ws₂ p.records p.entries) q
            filling = refilled y o xs zs d said_is g (length es) 1 ws₂ u c fills records_fit entries_fit q ends

            filled : Answered (answer xs zs d)
            filled =
                let r : q.state.records ≡ length xs = filling.count ∙ (let e : 0 + length xs ≡ length xs = omega arith in e) in
                let x : q.state.entries ≡ length zs = filling.number ∙ (let e : 0 + length zs ≡ length zs = omega arith in e) in (
                  rw (filling.clear, r, x) (ap (λ (i : Env). reading_of (answer xs zs i)) filling.environment),
                  filling.records ∙ rw (kept_records y o) (over_is (map record_of xs) rs (omega (arith, records_fit, length-map record_of xs))),
                  filling.entries ∙ rw (kept_entries y o) (over_is (map entry_of zs) es (omega (arith, entries_fit, length-map entry_of zs))),
                )

        on_reads : (x : Answer) → follow o.widths start (commands 0 0 s) ≡ x → Ended x (pass_from (begun y o) ws₁ rs es) p → Answered (room_for (length rs) (length es) x)
        on_reads (refuse k j) e g = refused_as k j (pass_refused k j g).0 (pass_refused k j g).1 (kept_records y o) (kept_entries y o)
        on_reads (answer xs zs d) e g =
            on (full xs zs d e g)
            (λ b. rw b (refused_as 13 0 (next_is xs zs d e g ∙ rw b) (omega arith) (kept_records y o) (kept_entries y o)))
            (λ b. rw b (filled xs zs d e g b))

        on_told : Answered told
        unfolding read_into
        on_told = rw o.answered (on_reads (follow o.widths start (commands 0 0 s)) refl (on_ends y o))

      case_reads : AreBytes s → Off s list a ⊎ On s list a ws₁ → Answered told
      case_reads y (inl o) = off_reads o
      case_reads y (inr o) = on_told y o

      -- and what is answered
      pub reads_as : AreBytes s → (read_answer_of q.state ≡ reading_of told) × (q.records ≡ records_over rs told) × (q.entries ≡ entries_over es told)
      reads_as y = case_reads y (started_case s list a ws₁ h)
