use Rattle.std.proofs.Common.{◌∙◌, ap}
use Rattle.room_memory.{specs.Places.places_under, proofs.Placing.{between, from}}
use Rattle.room_memory.proofs.places.Places.under.Goals as goal

pub returns-in_ok-end-in-Some-clause-listed : goal.returns-in_ok-end-in-Some-clause-listed
returns-in_ok-end-in-Some-clause-listed c =
    ap (places_under c.args.parent) (c.range.ensures.between tt)
    ∙ between c.args.parent c.in_ok-start.start c.in_ok-end-in-Some.end c.args.self.now.ids.entries
    c.in_ok-start.ensures.parent c.in_ok-start.ensures.name
    (c.in_ok-end-in-Some.ensures.parent ∙ c.in-Some.ensures.1)

pub returns-in-None-clause-listed : goal.returns-in-None-clause-listed
returns-in-None-clause-listed c =
    ap (places_under c.args.parent) (c.range-in-None.ensures.between tt)
    ∙ from c.args.parent c.in_ok-start.start c.args.self.now.ids.entries
    c.in_ok-start.ensures.parent c.in_ok-start.ensures.name
