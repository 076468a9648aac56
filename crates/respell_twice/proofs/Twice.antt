-- Two passes of the rewriter answer what the rules answer: what the second one asks, and what is answered at the end.
use Rattle.std.specs.Prelude.{Result, Ok, if◌then◌else◌}
use Prim.Native.Nat.{ℕ, ◌<◌, ◌≤◌, min}
use native.Mathlib.Omega.{arith}
use mathlib.Core.Bool.{true, false}
use mathlib.Core.List.{List, []}
use mathlib.Core.Logic.{◌⊎◌, inl, inr}
use mathlib.Core.Path.{◌≡◌, sym, ap, subst, ◌∙◌}
use lib.Dec.{eqb}
use lib.ListN.{length}
use borrow.Author.Tests.{ne_eqb, lt-ltb, le-ltb, ltb-true, ltb-false}
use Rattle.rules.specs.declared.Refusal.{Refusal}
use Rattle.rules.specs.State.{Env}
use Rattle.rules.specs.Widths.{Widths, sound, width_list}
use Rattle.rules.specs.Record.{GlyphRow, ItemRow, Answer, refuse, answer, over}
use Rattle.rules.specs.Answers.{stream_most, is_over, read, Spelling, not_spelled, spelled, respell, respell_into, respelling_of, buffer_over}
use Rattle.rules.specs.Calls.{RespellCall}
use Rattle.laws.proofs.Cases.{on}
use Rattle.read_model.specs.declared.State.{State}
use Rattle.read_model.specs.Passes as R
use Rattle.read_model.proofs.Passes.{Room, Refused, Accepted, Ended}
use Rattle.read_turn.specs.Ready.{find_in}
use Rattle.read_pass.specs.Ready.{PassReady}
use Rattle.read_setup.specs.Setup.{ScratchOf, Unmounted, begin_of, refused_at, Started, again_of, AreBytes}
use Rattle.widths_table.proofs.Bounds.{sound_few}
use Rattle.read_twice.proofs.Scratched.{scratch_again}
use Rattle.read_twice.proofs.Twice as T
use Rattle.respell_model.specs.declared.Writing.{Writing}
use Rattle.respell_model.specs.Sheet.{Sheet}
use Rattle.respell_model.specs.Passes.{RespellPass, respell_pass_of, sheet_at}
use Rattle.respell_model.proofs.Sheets.{put_over}
use Rattle.respell_model.proofs.Passes.{pass_same, stays}
use Rattle.respell_twice.specs.Respell.{too_long, held_back, next_of, respell_answer_of}
use Rattle.respell_twice.proofs.First.{pass_from, end_of, said_of, text_of, run_spells, Refuses, Accepts, first_says}

-- ---- what the second pass finds: a refusal, or a spelling that has room

module _ (s list : List ℕ) (ws o : List ℕ) (c : State) where
  abbrev told : Spelling
  told = respell_into (length o) s list

  record Halt : Type 0 where
    pub number : ℕ
    pub offset : ℕ
    pub state : c ≡ refused_at number offset
    pub some : 0 < number
    pub answered : told ≡ not_spelled number offset

  record Goes : Type 0 where
    pub widths : Widths
    pub list_is : width_list list ≡ sound widths
    pub scratch : ScratchOf list widths.fonts ws
    pub rows : List GlyphRow
    pub items : List ItemRow
    pub end : Env
    pub said : said_of s widths ≡ answer rows items end
    pub state : c ≡ begin_of (length s) (length rows) (length items) (length widths.fonts) widths.unitwidth 0
    pub sound : PassReady (length s) ws 0 0 c
    pub short : length (text_of s widths) ≤ 16777216
    pub fit : length (text_of s widths) ≤ length o
    pub answered : told ≡ spelled (text_of s widths)

-- ---- behind the first pass

-- where it accepted
next_of_lem : (x : Writing) (n room r e f u len : ℕ) → x.state.refusal ≡ 0 → eqb x.state.env.phase 4 ≡ true → x.state.records ≡ r → x.state.entries ≡ e → x.state.fonts ≡ f → x.state.unitwidth ≡ u → x.mark.at ≡ len
    → next_of x n room ≡ (if too_long len room then refused_at 13 0 else begin_of n r e f u 0)
next_of_lem x n room r e f u len clear stopped count number fonts unit at = rw (clear, stopped, count, number, fonts, unit, le-ltb r r (omega arith), le-ltb e e (omega arith), at)

module _ (s list : List ℕ) (a : State) (ws₁ : List ℕ) (h : Started s list a ws₁) (o₁ : List ℕ) (p : RespellPass) (is : p ≡ respell_pass_of (find_in list a.fonts ws₁) s (pass_from a ws₁ o₁)) where
  module _ (y : AreBytes s) (o₂ : List ℕ) (c : State) (next : c ≡ next_of (end_of p) (length s) (length o₂)) (ws₂ : List ℕ) (u : Unmounted p.scratch ws₂) where
    abbrev Next : Type 0
    Next = Halt s list ws₂ o₂ c ⊎ Goes s list ws₂ o₂ c

    -- a refusal stays
    held : (k j : ℕ) → 0 < k → again_of p.state (length s) p.state.records p.state.entries 0 ≡ refused_at k j → c ≡ refused_at k j
    held k j z e = next ∙ ap (λ (i : State). held_back i p.mark.at (length o₂)) e ∙ rw (ne_eqb k 0 (λ i. omega arith))

    -- it ended with a refusal
    halts : (k j : ℕ) → c ≡ refused_at k j → 0 < k → respell s list ≡ not_spelled k j → Next
    unfolding respell_into
    halts k j e z r = inl (record { number = k; offset = j; state = e; some = z; answered = rw r })

    refused-next : (k j : ℕ) → read s list ≡ refuse k j → Refused k j p.state → Next
    unfolding respell
    refused-next k j e (inl (r, z, i)) = halts k j (held k j z (rw (r, i, ne_eqb k 0 (λ x. omega arith)))) z (rw e)
    refused-next k j e (inr (f, r, i, x)) = halts k j (held k j (omega arith) (rw (r, x, i, f))) (omega arith) (rw e)

    -- it accepted
    module _ (g : Accepts s list a ws₁ p) where
      abbrev w : Widths
      w = g.on.widths

      abbrev text : List ℕ
      text = text_of s w

      -- 13, or the second pass
      abbrev again : State
      again = begin_of (length s) (length g.rows) (length g.items) (length w.fonts) w.unitwidth 0

      next_is : c ≡ (if too_long (min (length text) 16777217) (length o₂) then refused_at 13 0 else again)
      next_is =
          next
          ∙ next_of_lem (end_of p) (length s) (length o₂) (length g.rows) (length g.items) (length w.fonts) w.unitwidth (min (length text) 16777217)
          g.clear g.stopped g.count g.number g.fonts g.unit g.measured

      told_is : respell s list ≡ (if is_over stream_most text then not_spelled 13 0 else spelled text)
      unfolding respell
      told_is = rw (g.on.answered, g.on.list_is, g.said)

      -- over 16,777,216 bytes
      long_next : is_over stream_most text ≡ true → Next
      long_next z =
          let l : 16777216 < length text = ltb-true stream_most (length text) z in
          halts 13 0 (next_is ∙ rw (lt-ltb stream_most (min (length text) 16777217) (omega arith))) (omega arith) (told_is ∙ rw z)

      module _ (z : is_over stream_most text ≡ false) where
        few : length text ≤ 16777216
        few = ltb-false stream_most (length text) z

        whole : min (length text) 16777217 ≡ length text
        whole = omega (arith, few)

        -- more than was lent
        wide_next : is_over (length o₂) text ≡ true → Next
        unfolding respell_into
        wide_next x = inl (record { number = 13; offset = 0; state = next_is ∙ rw (whole, z, x); some = omega arith; answered = rw (told_is, z, x) })

        goes-next : is_over (length o₂) text ≡ false → Next
        unfolding respell_into
        goes-next x =
            let k : ScratchOf list w.fonts ws₂ = scratch_again list w.fonts ws₁ p.scratch ws₂ g.on.scratch g.kept u (sound_few list w g.on.list_is) in
            let b : c ≡ again = next_is ∙ rw (whole, z, x) in
            inr (record {
              widths = w;
              list_is = g.on.list_is;
              scratch = k;
              rows = g.rows;
              items = g.items;
              end = g.end;
              said = g.said;
              state = b;
              sound = subst (PassReady (length s) ws₂ 0 0) (sym b) (T.begin_sound s list w g.on.list_is g.on.short ws₂ k 0 0 (length g.rows) (length g.items));
              short = few;
              fit = ltb-false (length o₂) (length text) x;
              answered = rw (told_is, z, x);
            })

      accepted_next : Next
      accepted_next = on (is_over stream_most text) long_next (λ z. on (is_over (length o₂) text) (wide_next z) (goes-next z))

    case_next : Refuses s list p ⊎ Accepts s list a ws₁ p → Next
    case_next (inl f) = refused-next f.number f.offset f.answered f.refused
    case_next (inr g) = accepted_next g

    outcome : Next
    outcome = case_next (first_says s list a ws₁ h o₁ p is y)

    case_sound : Next → PassReady (length s) ws₂ 0 0 c
    case_sound (inl o) = subst (PassReady (length s) ws₂ 0 0) (sym o.state) (T.refused-sound (length s) ws₂ 0 0 o.number o.offset u.scratch)
    case_sound (inr o) = o.sound

    -- what the second pass asks
    pub second_sound : PassReady (length s) ws₂ 0 0 c
    second_sound = case_sound outcome

    -- ---- the second pass

    module _ (q : RespellPass) (ends : q ≡ respell_pass_of (find_in list c.fonts ws₂) s (pass_from c ws₂ o₂)) where
      abbrev Answered : Spelling → Type 0
      Answered x = (respell_answer_of (end_of q) ≡ respelling_of x) × (q.bytes ≡ buffer_over o₂ x)

      -- a refusal leaves the buffer
      halt_spells : Halt s list ws₂ o₂ c → Answered (respell_into (length o₂) s list)
      halt_spells o =
          let b : q ≡ pass_from c ws₂ o₂ = ends ∙ stays (find_in list c.fonts ws₂) s c.left (pass_from c ws₂ o₂) (rw o.state) in
          subst Answered (sym o.answered)
          (rw (b, o.state, ne_eqb o.number 0 (λ i. let l : 0 < o.number = o.some in omega arith)), ap (λ (i : RespellPass). i.bytes) b)

      module _ (o : Goes s list ws₂ o₂ c) where
        abbrev there : State
        there = begin_of (length s) (length o.rows) (length o.items) (length o.widths.fonts) o.widths.unitwidth 0

        room : Room (length s) (said_of s o.widths) there
        room = subst (λ (x : Answer). Room (length s) x there) (sym o.said) (inr (omega arith, omega arith))

        runs : q ≡ respell_pass_of (find_in list (length o.widths.fonts) ws₂) s (pass_from there ws₂ o₂)
        runs = ends ∙ ap (λ (i : State). respell_pass_of (find_in list i.fonts ws₂) s (pass_from i ws₂ o₂)) o.state

        abbrev filling : R.ReadPass
        filling = R.read_pass_of (find_in list (length o.widths.fonts) ws₂) s (T.pass_from there ws₂ [] [])

        accepts : Accepted o.rows o.items o.end (T.pass_from there ws₂ [] []) filling
        accepts =
            subst (λ (x : Answer). Ended x (T.pass_from there ws₂ [] []) filling) o.said
            (T.run_ends s list o.widths o.list_is ws₂ o.scratch y (length o.rows) (length o.items) 0 [] [] room)

        clear : q.state.refusal ≡ 0
        clear =
            ap (λ (i : RespellPass). i.state.refusal) runs
            ∙ ap (λ (i : State). i.refusal) (pass_same (find_in list (length o.widths.fonts) ws₂) s (length s) (pass_from there ws₂ o₂) [] []).0
            ∙ accepts.clear

        sheet : sheet_at q.bytes q.mark ≡ record { bytes = over (text_of s o.widths) o₂; at = length (text_of s o.widths) }
        sheet =
            run_spells s list o.widths o.list_is ws₂ o.scratch y (length o.rows) (length o.items) room o.rows o.items o.end o.said o₂ q runs
            ∙ put_over (text_of s o.widths) o₂ o.short o.fit

        goes_spells : Answered (respell_into (length o₂) s list)
        goes_spells =
            let counted : Sheet → Result ℕ Refusal = λ i. Ok i.at in
            subst Answered (sym o.answered) (rw clear (ap counted sheet), ap (λ (i : Sheet). i.bytes) sheet)

      case_spells : Next → Answered (respell_into (length o₂) s list)
      case_spells (inl o) = halt_spells o
      case_spells (inr o) = goes_spells o

      -- and what is answered
      pub spells_as : RespellCall s list o₂ (respell_answer_of (end_of q)) q.bytes
      spells_as = let y = case_spells outcome in record { answer = y.0; buffer = y.1 }
