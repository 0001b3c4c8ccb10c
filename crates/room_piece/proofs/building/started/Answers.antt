use Rattle.room_piece.proofs.Built.{started_so}
use Rattle.room_piece.proofs.building.started.Goals as goal

pub returns-clause-started : goal.returns-clause-started
returns-clause-started c =
    started_so c.args.unread.now c.args.root.now c.args.pairs.now c.in_ok-keep.keep
    c.join_all.new.keep c.in_ok-piece_of.field-0 c.in_ok-keep.ensures.rows c.in_ok-keep.ensures.are
    c.in_ok-keep.ensures.within c.in_ok-keep.ensures.fits c.in_ok-join_all.ensures
    c.in_ok-piece_of.ensures
