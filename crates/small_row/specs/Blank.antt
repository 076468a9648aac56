-- The record and the entry of zeros, which a row holds before it is filled.
use Rattle.std.specs.Prelude.{pos}
use Rattle.rules.specs.declared.Record.{Record}
use Rattle.rules.specs.declared.Entry.{Entry}

abbrev pub blank_record : Record
blank_record = record { ordinal = 0; page = pos 0; h = pos 0; v = pos 0; font = 0; size = 0; place = 0; len = 0; index = 0; gap = 0 }

abbrev pub blank_entry : Entry
blank_entry = record { command = 0; letter = 0; scheme = 0; ordinal = 0; place = 0; len = 0; h = pos 0; v = pos 0 }
