use Rattle.std.proofs.Common.{◌≡◌, ◌∙◌, ap, arith}
use Rattle.read_model.specs.Passes.{records_after, entries_after, word_fill}
use Rattle.read_pass.proofs.Known.{first_known, next_known, in_rows, words_keep, less, ended}
use Rattle.read_pass.proofs.pass.Goals as goal
use Rattle.read_pass.proofs.pass.Goals.{in-Nothing, in-Record, in-Entry, in-Word}

pub loop-st-init : goal.loop-st-init
loop-st-init c = record { stream = ap (λ b. b.now) c.new-reader.ensures.0; known = (c.args.from.left, first_known _ _ _ c.requires) }

pub put-requires : goal.put-requires
put-requires c =
    let kn = c.loop-st.invariant.known.1 in
    let t = rw c.loop-st.invariant.stream at c.turn-x.ensures in
    let i = rw c.in-Record.is at (in_rows _ _ _ _ _ kn c.loop-st-test.true _ _ t.0 t.1) in
    omega (arith, i.1, kn.rmax i.0, kn.records_same)

pub put-requires-in-Entry : goal.put-requires-in-Entry
put-requires-in-Entry c =
    let kn = c.loop-st.invariant.known.1 in
    let t = rw c.loop-st.invariant.stream at c.turn-x.ensures in
    let i = rw c.in-Entry.is at (in_rows _ _ _ _ _ kn c.loop-st-test.true _ _ t.0 t.1) in
    omega (arith, i.1, kn.emax i.0, kn.entries_same)

pub fill_word-requires : goal.fill_word-requires
fill_word-requires c =
    let kn = c.loop-st.invariant.known.1 in
    let t = rw c.loop-st.invariant.stream at c.turn-x.ensures in
    let i = rw c.in-Word.is at (in_rows _ _ _ _ _ kn c.loop-st-test.true _ _ t.0 t.1) in
    let same = rw c.in-Word.is at (words_keep _ _ _ _ _ kn c.loop-st-test.true _ _ t.0 t.1) in
    rw same (record { fits = i.1; small = kn.scratch.small; ends = i.2; room = omega (arith, i.3, kn.rmax i.0, kn.records_same) })

pub loop-st-smaller : goal.loop-st-smaller
loop-st-smaller c =
    let t = rw c.loop-st.invariant.stream at c.turn-x.ensures in
    less _ _ _ _ _ c.loop-st.invariant.known.1 c.loop-st-test.true _ _ t.0 t.1

pub loop-st-preserved : goal.loop-st-preserved
loop-st-preserved c =
    let kn = c.loop-st.invariant.known.1 in
    let t = rw c.loop-st.invariant.stream at c.turn-x.ensures in
    let keep = words_keep _ _ _ _ _ kn c.loop-st-test.true _ _ t.0 t.1 in
    let a : c.match-effect.records ≡ records_after c.args.s.now c.loop-st.ws c.loop-st.records c.turn-x.result.effect = elim c.match-effect.branch [
      | in-Nothing w ↦ rw w.in-Nothing.is w.records-is
      | in-Record w ↦ rw w.in-Record.is (w.records-is ∙ w.put.ensures)
      | in-Entry w ↦ rw w.in-Entry.is w.records-is
      | in-Word w ↦
          let same = rw w.in-Word.is at keep in
          rw w.in-Word.is (w.records-is ∙ w.fill_word.ensures ∙ ap (λ l. word_fill w.in-Word.w.left c.args.s.now l w.in-Word.k w.in-Word.w c.loop-st.records) same)
    ] in
    let b : c.match-effect.entries ≡ entries_after c.loop-st.entries c.turn-x.result.effect = elim c.match-effect.branch [
      | in-Nothing w ↦ rw w.in-Nothing.is w.entries-is
      | in-Record w ↦ rw w.in-Record.is w.entries-is
      | in-Entry w ↦ rw w.in-Entry.is (w.entries-is ∙ w.put-in-Entry.ensures)
      | in-Word w ↦ rw w.in-Word.is w.entries-is
    ] in
    record { stream = c.loop-st.invariant.stream; known = next_known _ _ _ _ _ kn c.loop-st-test.true _ _ t.0 t.1 _ _ a b }

pub returns : goal.returns
returns c = ended _ _ _ _ _ c.loop-st.invariant.known.1 c.loop-st-test.false
