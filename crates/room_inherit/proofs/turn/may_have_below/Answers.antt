use Rattle.std.proofs.Common.{sym, ◌∙◌}
use Rattle.room_inherit.proofs.Gathered.{document_asked}
use Rattle.room_inherit.proofs.turn.may_have_below.Goals as goal

pub returns-then-is_document-clause-asked : goal.returns-then-is_document-clause-asked
returns-then-is_document-clause-asked g c =
    document_asked g.K.Keep c.args.keep.now c.has_children.new.self c.args.object.now
    c.has_children.result (sym c.is_document.ensures ∙ c.if-is_document.true)
    c.has_children.ensures.read
