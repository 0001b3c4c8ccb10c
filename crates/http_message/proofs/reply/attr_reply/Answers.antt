use Rattle.std.proofs.Common.{arith}
use Rattle.http_message.{specs.Bodies.attr_data, proofs.Printed.printed}
use Rattle.http_message.proofs.reply.attr_reply.Goals as goal

pub returns : goal.returns
returns c =
    let value = attr_data c.args.kind c.args.owners.now in
    let body =
    printed value c.in_ok-out.out.before c.push_attr.new.out.before c.into_inner.result.items
    c.in_ok-out.out.tokens c.push_attr.new.out.tokens
    c.in_ok-out.ensures.before c.in_ok-out.ensures.tokens c.push_attr.ensures.before
    c.in_ok-push_attr.ensures.tokens c.into_inner.ensures.items in
    grind (arith, c.print_json.ensures)
