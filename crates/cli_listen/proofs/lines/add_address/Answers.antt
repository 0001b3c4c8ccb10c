use Rattle.std.proofs.Common.{ap, sym}
use Rattle.cli_listen.{specs.Lines.listening_line, proofs.Told.appended}
use Rattle.cli_listen.proofs.lines.add_address.Goals as goal

pub returns-in-Port : goal.returns-in-Port
returns-in-Port c =
    appended c.write.result c.args.text.now c.write.new.self _ (listening_line c.args.address.now)
    (λ s. s.bytes) c.write.ensures.writes (sym (ap listening_line c.in-Port.is))

pub returns-in-Socket : goal.returns-in-Socket
returns-in-Socket c =
    appended c.write-in-Socket.result c.args.text.now c.write-in-Socket.new.self _
    (listening_line c.args.address.now) (λ s. s.bytes) c.write-in-Socket.ensures.writes
    (sym (ap listening_line c.in-Socket.is))
