use Rattle.std.proofs.{Common.{subst, w64, ℤ}, lemmas.Int.to_z-of_z}
use Rattle.cli_listen.specs.{Peers.wire, Visits.{Attends, Meeting}}
use Rattle.cli_listen.proofs.serving.serve_peer.Goals as goal

pub returns : goal.returns
returns g c =
    let left = g.L.Reader.Read.remaining in
    let sent = g.L.Writer.Write.contents in
    let peer = c.args.peer in
    let after = c.serve_stream-lost.new in
    let had = wire (left peer.reader) (sent peer.writer) in
    let has = wire (left after.reader) (sent after.writer) in (
      has,
      subst (λ (z : ℤ). Attends g.D.Desk z (Meeting.Met had has) c.serve_stream-lost.result
          c.args.desk.now after.desk) (to_z-of_z w64 c.args.moment c.ranges.moment)
          c.serve_stream-lost.ensures,
      c.part.ensures,
    )
