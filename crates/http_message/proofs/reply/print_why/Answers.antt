use Rattle.std.proofs.Common.{arith}
use Rattle.http_message.{specs.Bodies.why_data, proofs.Printed.printed}
use Rattle.http_message.proofs.reply.print_why.Goals as goal

pub returns : goal.returns
returns c =
    let value = why_data c.args.why.now in
    let body =
    printed value c.in_ok-out.out.before c.push_why.new.out.before c.into_inner.result.items
    c.in_ok-out.out.tokens c.push_why.new.out.tokens
    c.in_ok-out.ensures.before c.in_ok-out.ensures.tokens c.push_why.ensures.before
    c.in_ok-push_why.ensures.tokens c.into_inner.ensures.items in
    grind (arith, c.print_json.ensures)
