use Rattle.std.proofs.Common.{◌≡◌, Some, true, rules, ◌∙◌}
use Rattle.room_rows.specs.Paths.{path_text}
use Rattle.room_machine.specs.Rights.{last_of}
use Rattle.room_would.{specs.Lists.is_told, proofs.{Last.last_is, Listed.list_pushed}}
use Rattle.room_would.proofs.lists.push_list_by.Goals as goal

pub returns-in_ok-text-in-Some : goal.returns-in_ok-text-in-Some
returns-in_ok-text-in-Some c =
    let found = c.args.found.now in
    let node = c.in-Some.node.now in
    let last : last_of found.chain ≡ Some node =
    last_is c.as_slice.result.now found.chain node c.as_slice.ensures c.in-Some.ensures.value in
    let told : is_told c.args.unknown.now found ≡ true =
    search (rules, c.is_told.ensures, c.if-not-is_told.false) in
    let text : c.as_str.result.now ≡ path_text c.args.path.now =
    c.as_str.ensures.value ∙ c.in_ok-text-in-Some.ensures in
    list_pushed c.args.unknown.now c.args.path.now found node told last c.as_str.result.now
    c.flags.result c.full.result.now text c.flags.ensures c.full.ensures c.push_list.result
    c.args.answer.now c.push_list.new.self c.push_list.ensures
