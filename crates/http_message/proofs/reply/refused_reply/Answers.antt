use Rattle.std.proofs.Common.{arith}
use Rattle.http_message.{specs.Bodies.refused_data, proofs.Printed.printed}
use Rattle.http_message.proofs.reply.refused_reply.Goals as goal

pub returns : goal.returns
returns c =
    let value = refused_data c.args.path.now c.args.why.now in
    let body =
    printed value c.in_ok-out.out.before c.push_refused.new.out.before c.into_inner.result.items
    c.in_ok-out.out.tokens c.push_refused.new.out.tokens
    c.in_ok-out.ensures.before c.in_ok-out.ensures.tokens c.push_refused.ensures.before
    c.in_ok-push_refused.ensures.tokens c.into_inner.ensures.items in
    grind (arith, value, c.reason_status.ensures, c.print_json.ensures)
