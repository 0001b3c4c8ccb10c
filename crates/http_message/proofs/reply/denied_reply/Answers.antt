use Rattle.std.{proofs.Common.arith, specs.Prelude.option_map}
use Rattle.http_message.{specs.Bodies.denied_data, proofs.Printed.printed}
use Rattle.http_message.proofs.reply.denied_reply.Goals as goal

pub returns : goal.returns
returns c =
    let value = denied_data c.args.path.now c.args.bits c.args.place
    (option_map (λ e. e.now) c.args.entry) in
    let body =
    printed value c.in_ok-out.out.before c.push_denied.new.out.before c.into_inner.result.items
    c.in_ok-out.out.tokens c.push_denied.new.out.tokens
    c.in_ok-out.ensures.before c.in_ok-out.ensures.tokens c.push_denied.ensures.before
    c.in_ok-push_denied.ensures.tokens c.into_inner.ensures.items in
    grind (arith, c.print_json.ensures)
