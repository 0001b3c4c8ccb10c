use Rattle.std.proofs.{Common.{◌≡◌, Some, arith}, lemmas.Bool.Decides.nat_tests}
use Rattle.room_machine.specs.Rights.{last_of}
use Rattle.room_would.proofs.Last.{last_is}
use Rattle.room_would.proofs.looking.lost_by.Goals as goal

pub returns-then-is_document : goal.returns-then-is_document
returns-then-is_document c =
    let last : last_of c.args.found.now.chain ≡ Some c.in-Some.node.now =
    last_is c.as_slice.result.now c.args.found.now.chain c.in-Some.node.now c.as_slice.ensures
    c.in-Some.ensures.value in
    grind (arith, nat_tests, last, c.is_document.ensures, c.if-is_document.true)

pub returns-else-is_document : goal.returns-else-is_document
returns-else-is_document c =
    let last : last_of c.args.found.now.chain ≡ Some c.in-Some.node.now =
    last_is c.as_slice.result.now c.args.found.now.chain c.in-Some.node.now c.as_slice.ensures
    c.in-Some.ensures.value in
    grind (arith, nat_tests, last, c.is_document.ensures, c.if-is_document.false)
