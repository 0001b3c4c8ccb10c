use Rattle.std.proofs.Common.{arith}
use Rattle.http_message.{specs.Bodies.line_data, proofs.Printed.printed}
use Rattle.http_message.proofs.reply.print_line.Goals as goal

pub returns : goal.returns
returns c =
    let line = c.args.fault.line in
    let value = line_data line c.bad_text.result.now in
    let body =
    printed value c.in_ok-out.out.before c.push_line.new.out.before c.into_inner.result.items
    c.in_ok-out.out.tokens c.push_line.new.out.tokens
    c.in_ok-out.ensures.before c.in_ok-out.ensures.tokens c.push_line.ensures.before
    c.in_ok-push_line.ensures.tokens c.into_inner.ensures.items in
    grind (arith, line, c.bad_text.ensures, c.print_json.ensures)
