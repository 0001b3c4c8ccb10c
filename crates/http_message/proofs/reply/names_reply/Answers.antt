use Rattle.std.proofs.Common.{arith}
use Rattle.http_message.{specs.Bodies.names_data, proofs.Printed.printed}
use Rattle.http_message.proofs.reply.names_reply.Goals as goal

pub returns : goal.returns
returns c =
    let value = names_data c.args.children.now in
    let body =
    printed value c.in_ok-out.out.before c.push_names.new.out.before c.into_inner.result.items
    c.in_ok-out.out.tokens c.push_names.new.out.tokens
    c.in_ok-out.ensures.before c.in_ok-out.ensures.tokens c.push_names.ensures.before
    c.in_ok-push_names.ensures.tokens c.into_inner.ensures.items in
    grind (arith, c.print_json.ensures)
