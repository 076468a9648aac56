use Rattle.std.proofs.Common.{◌≡◌, ◌∙◌, ℕ}
use Rattle.read_model.specs.declared.State.{State}
use Rattle.read_setup.specs.Setup.{again_of}
use Rattle.read_twice.proofs.Twice.{pass_from, first-sound, judged_scratch, again_sound, last_fits, reads_as}
use Rattle.read.proofs.read.Goals as goal

-- the judging pass leaves the lengths of both rows, so the filling pass begins with their rooms
same_rooms : (x st : State) (n g e g' e' : ℕ) → x ≡ again_of st n g' e' 1 → g' ≡ g → e' ≡ e → x ≡ again_of st n g e 1
same_rooms x st n g e g' e' h a b = h ∙ rw (a, b)

pub pass-b-requires : goal.pass-b-requires
pass-b-requires c = first-sound _ _ _ _ _ _ c.start-a.ensures.0

pub again-c-requires : goal.again-c-requires
again-c-requires c = judged_scratch _ _ _ _ _ _ c.start-a.ensures.0 _ c.pass-b.ensures

pub pass-d-requires : goal.pass-d-requires
pass-d-requires c =
    let p = pass_from c.pass-b.result c.pass-b.new.ws c.pass-b.new.records c.pass-b.new.entries in
    let next = same_rooms c.again-c.result c.pass-b.result _ _ _ _ _ c.again-c.ensures.0 c.pass-b.auto.records c.pass-b.auto.entries in
    again_sound c.args.s.now c.args.list.now c.args.records.now c.args.entries.now c.start-a.result c.start-a.new.ws c.start-a.ensures.0 p c.pass-b.ensures c.again-c.result next c.again-c.new.ws c.again-c.ensures.1

pub answer-requires : goal.answer-requires
answer-requires c =
    let p = pass_from c.pass-b.result c.pass-b.new.ws c.pass-b.new.records c.pass-b.new.entries in
    let q = pass_from c.pass-d.result c.pass-d.new.ws c.pass-d.new.records c.pass-d.new.entries in
    let next = same_rooms c.again-c.result c.pass-b.result _ _ _ _ _ c.again-c.ensures.0 c.pass-b.auto.records c.pass-b.auto.entries in
    last_fits c.args.s.now c.args.list.now c.args.records.now c.args.entries.now c.start-a.result c.start-a.new.ws c.start-a.ensures.0 p c.pass-b.ensures c.again-c.result next c.again-c.new.ws c.again-c.ensures.1 q c.pass-d.ensures

pub returns : goal.returns
returns c =
    let p = pass_from c.pass-b.result c.pass-b.new.ws c.pass-b.new.records c.pass-b.new.entries in
    let q = pass_from c.pass-d.result c.pass-d.new.ws c.pass-d.new.records c.pass-d.new.entries in
    let next = same_rooms c.again-c.result c.pass-b.result _ _ _ _ _ c.again-c.ensures.0 c.pass-b.auto.records c.pass-b.auto.entries in
    let y = reads_as c.args.s.now c.args.list.now c.args.records.now c.args.entries.now c.start-a.result c.start-a.new.ws c.start-a.ensures.0 p c.pass-b.ensures c.again-c.result next c.again-c.new.ws c.again-c.ensures.1 q c.pass-d.ensures c.start-a.ensures.1 in
    record { answer = c.answer.ensures ∙ y.0; records = y.1; entries = y.2 }
