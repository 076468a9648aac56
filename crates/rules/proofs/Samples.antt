-- The claim of the table of samples (`specs/Samples.antt`): every row holds, by computation.
use Rattle.std.specs.Prelude.{refl}
use Rattle.rules.specs.Rules.{rules}
use Rattle.rules.specs.Samples.{All, Holds, table, list, stream, spelling, body, spelled_body, three, opening, villages, four}

pub claim : All Holds table
unfolding rules table list stream spelling body spelled_body three opening villages four
claim = (record { read = record { answer = refl; records = refl; entries = refl }; respelled = record { answer = refl; buffer = refl } }, (record { answer = refl; records = refl; hits = refl }, (record { answer = refl; records = refl; hits = refl }, ((record { read = record { answer = refl; records = refl; entries = refl }; respelled = record { answer = refl; buffer = refl } }, record { answer = refl; records = refl; hits = refl }), ((record { read = record { answer = refl; records = refl; entries = refl }; respelled = record { answer = refl; buffer = refl } }, record { answer = refl; records = refl; hits = refl }), (record { read = record { answer = refl; records = refl; entries = refl }; respelled = record { answer = refl; buffer = refl } }, (record { read = record { answer = refl; records = refl; entries = refl }; respelled = record { answer = refl; buffer = refl } }, (record { read = record { answer = refl; records = refl; entries = refl }; respelled = record { answer = refl; buffer = refl } }, ((record { read = record { answer = refl; records = refl; entries = refl }; respelled = record { answer = refl; buffer = refl } }, record { answer = refl; records = refl; hits = refl }), (refl, (record { read = record { answer = refl; records = refl; entries = refl }; respelled = record { answer = refl; buffer = refl } }, (record { answer = refl; records = refl; hits = refl }, (record { read = record { answer = refl; records = refl; entries = refl }; respelled = record { answer = refl; buffer = refl } }, ((record { read = record { answer = refl; records = refl; entries = refl }; respelled = record { answer = refl; buffer = refl } }, record { answer = refl; records = refl; hits = refl }), ((record { read = record { answer = refl; records = refl; entries = refl }; respelled = record { answer = refl; buffer = refl } }, record { answer = refl; records = refl; hits = refl }), ((record { read = record { answer = refl; records = refl; entries = refl }; respelled = record { answer = refl; buffer = refl } }, record { answer = refl; records = refl; hits = refl }), ((record { read = record { answer = refl; records = refl; entries = refl }; respelled = record { answer = refl; buffer = refl } }, record { answer = refl; records = refl; hits = refl }), ((record { read = record { answer = refl; records = refl; entries = refl }; respelled = record { answer = refl; buffer = refl } }, record { answer = refl; records = refl; hits = refl }), ((record { read = record { answer = refl; records = refl; entries = refl }; respelled = record { answer = refl; buffer = refl } }, record { answer = refl; records = refl; hits = refl }), ((record { read = record { answer = refl; records = refl; entries = refl }; respelled = record { answer = refl; buffer = refl } }, record { answer = refl; records = refl; hits = refl }), ((record { read = record { answer = refl; records = refl; entries = refl }; respelled = record { answer = refl; buffer = refl } }, record { answer = refl; records = refl; hits = refl }), (refl, ((record { read = record { answer = refl; records = refl; entries = refl }; respelled = record { answer = refl; buffer = refl } }, record { answer = refl; records = refl; hits = refl }), ((record { read = record { answer = refl; records = refl; entries = refl }; respelled = record { answer = refl; buffer = refl } }, record { answer = refl; records = refl; hits = refl }), ((record { read = record { answer = refl; records = refl; entries = refl }; respelled = record { answer = refl; buffer = refl } }, record { answer = refl; records = refl; hits = refl }), ((record { read = record { answer = refl; records = refl; entries = refl }; respelled = record { answer = refl; buffer = refl } }, record { answer = refl; records = refl; hits = refl }), ((record { read = record { answer = refl; records = refl; entries = refl }; respelled = record { answer = refl; buffer = refl } }, record { answer = refl; records = refl; hits = refl }), ((record { read = record { answer = refl; records = refl; entries = refl }; respelled = record { answer = refl; buffer = refl } }, record { answer = refl; records = refl; hits = refl }), ((record { read = record { answer = refl; records = refl; entries = refl }; respelled = record { answer = refl; buffer = refl } }, record { answer = refl; records = refl; hits = refl }), ((record { read = record { answer = refl; records = refl; entries = refl }; respelled = record { answer = refl; buffer = refl } }, record { answer = refl; records = refl; hits = refl }), ((record { read = record { answer = refl; records = refl; entries = refl }; respelled = record { answer = refl; buffer = refl } }, record { answer = refl; records = refl; hits = refl }), ((record { read = record { answer = refl; records = refl; entries = refl }; respelled = record { answer = refl; buffer = refl } }, record { answer = refl; records = refl; hits = refl }), ((record { read = record { answer = refl; records = refl; entries = refl }; respelled = record { answer = refl; buffer = refl } }, record { answer = refl; records = refl; hits = refl }), ((record { read = record { answer = refl; records = refl; entries = refl }; respelled = record { answer = refl; buffer = refl } }, record { answer = refl; records = refl; hits = refl }), ((record { read = record { answer = refl; records = refl; entries = refl }; respelled = record { answer = refl; buffer = refl } }, record { answer = refl; records = refl; hits = refl }), ((record { read = record { answer = refl; records = refl; entries = refl }; respelled = record { answer = refl; buffer = refl } }, record { answer = refl; records = refl; hits = refl }), ((record { read = record { answer = refl; records = refl; entries = refl }; respelled = record { answer = refl; buffer = refl } }, record { answer = refl; records = refl; hits = refl }), ((record { read = record { answer = refl; records = refl; entries = refl }; respelled = record { answer = refl; buffer = refl } }, record { answer = refl; records = refl; hits = refl }), ((record { read = record { answer = refl; records = refl; entries = refl }; respelled = record { answer = refl; buffer = refl } }, record { answer = refl; records = refl; hits = refl }), ((record { read = record { answer = refl; records = refl; entries = refl }; respelled = record { answer = refl; buffer = refl } }, record { answer = refl; records = refl; hits = refl }), ((record { read = record { answer = refl; records = refl; entries = refl }; respelled = record { answer = refl; buffer = refl } }, record { answer = refl; records = refl; hits = refl }), (record { read = record { answer = refl; records = refl; entries = refl }; respelled = record { answer = refl; buffer = refl } }, (record { answer = refl; records = refl; entries = refl }, (record { answer = refl; records = refl; entries = refl }, (record { answer = refl; records = refl; hits = refl }, (record { answer = refl; records = refl; hits = refl }, (record { answer = refl; records = refl; hits = refl }, (record { answer = refl; records = refl; hits = refl }, (record { answer = refl; records = refl; hits = refl }, (record { answer = refl; records = refl; hits = refl }, (record { answer = refl; records = refl; hits = refl }, (record { answer = refl; records = refl; hits = refl }, (record { answer = refl; records = refl; hits = refl }, (record { answer = refl; records = refl; hits = refl }, (record { answer = refl; records = refl; hits = refl }, (record { answer = refl; records = refl; hits = refl }, (record { answer = refl; records = refl; hits = refl }, (record { answer = refl; records = refl; hits = refl }, (record { answer = refl; records = refl; hits = refl }, (record { answer = refl; records = refl; hits = refl }, (record { answer = refl; records = refl; hits = refl }, (record { answer = refl; records = refl; hits = refl }, (record { answer = refl; records = refl; hits = refl }, (record { answer = refl; records = refl; hits = refl }, (record { answer = refl; records = refl; hits = refl }, (record { answer = refl; records = refl; hits = refl }, (record { answer = refl; records = refl; hits = refl }, (record { answer = refl; records = refl; hits = refl }, ((record { answer = refl }, record { part = refl }), ((record { answer = refl }, record { part = refl }), ((record { answer = refl }, record { part = refl }), ((record { answer = refl }, record { part = refl }), ((record { answer = refl }, record { part = refl }), ((record { answer = refl }, record { part = refl }), ((record { answer = refl }, record { part = refl }), tt)))))))))))))))))))))))))))))))))))))))))))))))))))))))))))))))))))))))))))
