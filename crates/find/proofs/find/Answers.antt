-- What each call of the finder asks, and what it answers, by the laws of `find_twice`.
use Rattle.std.proofs.Common.{◌≡◌}
use Rattle.std.specs.Prelude.{Err}
use borrow.Author.Rules.{rules}
use Rattle.read_twice.proofs.Twice.{pass_from}
use Rattle.find_twice.proofs.Found.{start_sound, posed_as, asks_by, left_scratch, pass_sound, progress_sound, looking_ready, at_sizes, at_start, at_ask, at_room, at_again, at_end, finds_as}
use Rattle.find.proofs.find.Goals as goal

pub returns-in_err-in_size : goal.returns-in_err-in_size
returns-in_err-in_size c =
    let e : c.from_residual.result ≡ Err c.in_err-in_size.field-0.0 = search rules in
    rw e (finds_as c.args.s.now c.args.list.now c.args.fl.now c.args.q.now c.args.records.now c.args.hits.now _ _ _ (at_sizes c.in_err-in_size.field-0.0 c.in_err-in_size.ensures))

pub returns-in_err-a : goal.returns-in_err-a
returns-in_err-a c =
    let e : c.from_residual-in_err-a.result ≡ Err c.in_err-a.field-0.0 = search rules in
    rw e (finds_as c.args.s.now c.args.list.now c.args.fl.now c.args.q.now c.args.records.now c.args.hits.now _ _ _ (at_start c.in_ok-in_size.field-0 c.in_ok-in_size.ensures c.start.new.ws c.in_err-a.field-0.0 c.in_err-a.ensures))

pub returns-in_err-count : goal.returns-in_err-count
returns-in_err-count c =
    let e : c.from_residual-in_err-count.result ≡ Err c.in_err-count.field-0.0 = search rules in
    rw e (finds_as c.args.s.now c.args.list.now c.args.fl.now c.args.q.now c.args.records.now c.args.hits.now _ _ _ (at_ask c.in_ok-in_size.field-0 c.in_ok-in_size.ensures c.in_ok-a.a c.start.new.ws c.in_ok-a.ensures c.ask.new.table c.ask.new.glyphs c.in_err-count.field-0.0 c.in_err-count.ensures))

pub pass-b-requires : goal.pass-b-requires
pass-b-requires c = start_sound c.args.s.now c.args.list.now c.args.fl.now c.args.q.now c.in_ok-in_size.field-0 c.in_ok-in_size.ensures c.start.new.ws c.in_ok-a.a _ _ c.in_ok-a.ensures

pub returns-in_err-room : goal.returns-in_err-room
returns-in_err-room c =
    let e : c.from_residual-in_err-room.result ≡ Err c.in_err-room.field-0.0 = search rules in
    rw e (finds_as c.args.s.now c.args.list.now c.args.fl.now c.args.q.now c.args.records.now c.args.hits.now _ _ _ (at_room (record {
      order = record {
        unit = c.in_ok-in_size.field-0;
        sized = c.in_ok-in_size.ensures;
        first = c.in_ok-a.a;
        scratch = c.start.new.ws;
        begun = c.in_ok-a.ensures;
        table = c.ask.new.table;
        glyphs = c.ask.new.glyphs;
        count = c.in_ok-count.count;
        asked = c.in_ok-count.ensures;
        question = c.posed-question.result;
        poses = posed_as c.ask.new.table c.ask.new.glyphs c.in_ok-count.count c.posed-question.result c.posed-question.ensures.query c.posed-question.ensures.families c.posed-question.ensures.table c.posed-question.ensures.glyphs;
      };
      entries = _;
      pass = pass_from c.pass-b.result c.pass-b.new.ws c.pass-b.new.records c.pass-b.new.entries;
      is = c.pass-b.ensures;
    }) c.in_err-room.field-0.0 c.in_err-room.ensures))

pub again-requires : goal.again-requires
again-requires c = left_scratch c.args.s.now c.args.list.now c.args.fl.now c.args.q.now c.posed-question.result c.in_ok-count.count c.in_ok-a.a c.start.new.ws
    (asks_by c.args.s.now c.args.list.now c.args.fl.now c.args.q.now c.in_ok-in_size.field-0 c.in_ok-in_size.ensures c.in_ok-a.a c.start.new.ws c.in_ok-a.ensures c.ask.new.table c.ask.new.glyphs c.in_ok-count.count c.posed-question.result (posed_as c.ask.new.table c.ask.new.glyphs c.in_ok-count.count c.posed-question.result c.posed-question.ensures.query c.posed-question.ensures.families c.posed-question.ensures.table c.posed-question.ensures.glyphs) c.in_ok-count.ensures)
    c.args.records.now _ c.args.hits.now (pass_from c.pass-b.result c.pass-b.new.ws c.pass-b.new.records c.pass-b.new.entries) c.pass-b.ensures

pub returns-in_err-c : goal.returns-in_err-c
returns-in_err-c c =
    let e : c.from_residual-in_err-c.result ≡ Err c.in_err-c.field-0.0 = search rules in
    rw e (finds_as c.args.s.now c.args.list.now c.args.fl.now c.args.q.now c.args.records.now c.args.hits.now _ _ _ (at_again (record {
      order = record {
        unit = c.in_ok-in_size.field-0;
        sized = c.in_ok-in_size.ensures;
        first = c.in_ok-a.a;
        scratch = c.start.new.ws;
        begun = c.in_ok-a.ensures;
        table = c.ask.new.table;
        glyphs = c.ask.new.glyphs;
        count = c.in_ok-count.count;
        asked = c.in_ok-count.ensures;
        question = c.posed-question.result;
        poses = posed_as c.ask.new.table c.ask.new.glyphs c.in_ok-count.count c.posed-question.result c.posed-question.ensures.query c.posed-question.ensures.families c.posed-question.ensures.table c.posed-question.ensures.glyphs;
      };
      entries = _;
      pass = pass_from c.pass-b.result c.pass-b.new.ws c.pass-b.new.records c.pass-b.new.entries;
      is = c.pass-b.ensures;
    }) c.in_ok-room.field-0 c.in_ok-room.ensures c.in_err-c.field-0.0 c.in_err-c.ensures.0))

pub pass-d-requires : goal.pass-d-requires
pass-d-requires c = pass_sound c.args.s.now c.args.list.now c.args.fl.now c.args.q.now c.posed-question.result c.in_ok-count.count c.in_ok-a.a c.start.new.ws
    (asks_by c.args.s.now c.args.list.now c.args.fl.now c.args.q.now c.in_ok-in_size.field-0 c.in_ok-in_size.ensures c.in_ok-a.a c.start.new.ws c.in_ok-a.ensures c.ask.new.table c.ask.new.glyphs c.in_ok-count.count c.posed-question.result (posed_as c.ask.new.table c.ask.new.glyphs c.in_ok-count.count c.posed-question.result c.posed-question.ensures.query c.posed-question.ensures.families c.posed-question.ensures.table c.posed-question.ensures.glyphs) c.in_ok-count.ensures)
    c.args.records.now _ c.args.hits.now (pass_from c.pass-b.result c.pass-b.new.ws c.pass-b.new.records c.pass-b.new.entries) c.pass-b.ensures
    c.in_ok-room.field-0 c.in_ok-room.ensures c.in_ok-c.c c.in_ok-c.ensures.0 c.again.new.ws c.in_ok-c.ensures.1

pub progress-from-requires : goal.progress-from-requires
progress-from-requires c = λ z. progress_sound c.args.s.now c.args.list.now c.args.fl.now c.args.q.now c.posed-question.result c.in_ok-count.count c.in_ok-a.a c.start.new.ws
    (asks_by c.args.s.now c.args.list.now c.args.fl.now c.args.q.now c.in_ok-in_size.field-0 c.in_ok-in_size.ensures c.in_ok-a.a c.start.new.ws c.in_ok-a.ensures c.ask.new.table c.ask.new.glyphs c.in_ok-count.count c.posed-question.result (posed_as c.ask.new.table c.ask.new.glyphs c.in_ok-count.count c.posed-question.result c.posed-question.ensures.query c.posed-question.ensures.families c.posed-question.ensures.table c.posed-question.ensures.glyphs) c.in_ok-count.ensures)
    c.args.records.now _ c.args.hits.now (pass_from c.pass-b.result c.pass-b.new.ws c.pass-b.new.records c.pass-b.new.entries) c.pass-b.ensures
    c.in_ok-room.field-0 c.in_ok-room.ensures c.in_ok-c.c c.in_ok-c.ensures.0 c.again.new.ws c.in_ok-c.ensures.1
    (pass_from c.pass-d.result c.pass-d.new.ws c.pass-d.new.records c.pass-d.new.entries) c.pass-d.ensures

pub search-e-requires : goal.search-e-requires
search-e-requires c = rw c.progress-from.ensures (looking_ready c.args.s.now c.args.list.now c.args.fl.now c.args.q.now c.posed-question.result c.in_ok-count.count c.in_ok-a.a c.start.new.ws
    (asks_by c.args.s.now c.args.list.now c.args.fl.now c.args.q.now c.in_ok-in_size.field-0 c.in_ok-in_size.ensures c.in_ok-a.a c.start.new.ws c.in_ok-a.ensures c.ask.new.table c.ask.new.glyphs c.in_ok-count.count c.posed-question.result (posed_as c.ask.new.table c.ask.new.glyphs c.in_ok-count.count c.posed-question.result c.posed-question.ensures.query c.posed-question.ensures.families c.posed-question.ensures.table c.posed-question.ensures.glyphs) c.in_ok-count.ensures)
    c.args.records.now _ c.args.hits.now (pass_from c.pass-b.result c.pass-b.new.ws c.pass-b.new.records c.pass-b.new.entries) c.pass-b.ensures
    c.in_ok-room.field-0 c.in_ok-room.ensures c.in_ok-c.c c.in_ok-c.ensures.0 c.again.new.ws c.in_ok-c.ensures.1
    (pass_from c.pass-d.result c.pass-d.new.ws c.pass-d.new.records c.pass-d.new.entries) c.pass-d.ensures)

pub returns : goal.returns
returns c =
    finds_as c.args.s.now c.args.list.now c.args.fl.now c.args.q.now c.args.records.now c.args.hits.now _ _ _ (at_end (record {
      judged = record {
        order = record {
          unit = c.in_ok-in_size.field-0;
          sized = c.in_ok-in_size.ensures;
          first = c.in_ok-a.a;
          scratch = c.start.new.ws;
          begun = c.in_ok-a.ensures;
          table = c.ask.new.table;
          glyphs = c.ask.new.glyphs;
          count = c.in_ok-count.count;
          asked = c.in_ok-count.ensures;
          question = c.posed-question.result;
          poses = posed_as c.ask.new.table c.ask.new.glyphs c.in_ok-count.count c.posed-question.result c.posed-question.ensures.query c.posed-question.ensures.families c.posed-question.ensures.table c.posed-question.ensures.glyphs;
        };
        entries = _;
        pass = pass_from c.pass-b.result c.pass-b.new.ws c.pass-b.new.records c.pass-b.new.entries;
        is = c.pass-b.ensures;
      };
      unit = c.in_ok-room.field-0;
      roomy = c.in_ok-room.ensures;
      again = c.in_ok-c.c;
      scratch = c.again.new.ws;
      goes = c.in_ok-c.ensures.0;
      unmounted = c.in_ok-c.ensures.1;
      pass = pass_from c.pass-d.result c.pass-d.new.ws c.pass-d.new.records c.pass-d.new.entries;
      is = c.pass-d.ensures;
    })
    (record { state = c.search-e.result; hits = c.search-e.new.hits }) (rw c.progress-from.ensures at c.search-e.ensures))
