use Rattle.std.proofs.Common.{inl, sym, ◌∙◌}
use Rattle.csv.specs.Records.{fields_of}
use Rattle.room_import.proofs.Taking.{took_none, took_not_text, took_text}
use Rattle.room_import.proofs.rows.next_row.Goals as goal

pub returns-in-Ok-true : goal.returns-in-Ok-true
returns-in-Ok-true c =
    let goes = c.requires in
    let said = c.in-Ok-true.ensures in
    let read = rw c.in-Ok-true.field-0-test at (said.reads goes.0 goes.1) in
    took_text c.args.reader.now c.read_record.new.self (fields_of c.read_record.new.row) goes
    (inl (said.ready goes.0)) said.flexible read (said.text goes.0)

pub returns-in-Ok-false : goal.returns-in-Ok-false
returns-in-Ok-false c =
    let goes = c.requires in
    let read = rw c.in-Ok-false.field-0-test at (c.in-Ok-false.ensures.reads goes.0 goes.1) in
    took_none c.args.reader.now c.read_record.new.self (fields_of c.read_record.new.row) goes read

pub returns-in-Utf8 : goal.returns-in-Utf8
returns-in-Utf8 c =
    let goes = c.requires in
    let why = rw (sym c.kind.ensures ∙ c.in-Utf8.is) at (c.in-Err.ensures.why goes.0 goes.1) in
    took_not_text c.args.reader.now c.read_record.new.self why.1
    (fields_of c.read_record.new.row) goes why.2 why.3
