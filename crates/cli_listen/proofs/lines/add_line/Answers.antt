use Rattle.std.proofs.Common.{ap, sym}
use Rattle.cli_listen.{specs.Lines.connection_line, proofs.Told.appended}
use Rattle.cli_listen.proofs.lines.add_line.Goals as goal

pub returns-in-Read : goal.returns-in-Read
returns-in-Read c =
    appended c.write.result c.args.text.now c.write.new.self _
    (connection_line c.args.number c.args.cause) (λ s. s.bytes) c.write.ensures.writes
    (sym (ap (connection_line c.args.number) c.in-Read.is))

pub returns-in-Write : goal.returns-in-Write
returns-in-Write c =
    appended c.write-in-Write.result c.args.text.now c.write-in-Write.new.self _
    (connection_line c.args.number c.args.cause) (λ s. s.bytes) c.write-in-Write.ensures.writes
    (sym (ap (connection_line c.args.number) c.in-Write.is))

pub returns-in-Memory : goal.returns-in-Memory
returns-in-Memory c =
    appended c.write-in-Memory.result c.args.text.now c.write-in-Memory.new.self _
    (connection_line c.args.number c.args.cause) (λ s. s.bytes) c.write-in-Memory.ensures.writes
    (sym (ap (connection_line c.args.number) c.in-Memory.is))
