use Rattle.http_message.proofs.Printed.{before}
use Rattle.http_message.proofs.data.push_attr_texts.Goals as goal

pub returns-clause-tokens : goal.returns-clause-tokens
returns-clause-tokens c =
    let r = c.end_object.result in
    let end = c.end_object.new.self.tokens in
    before r c.args.out.now.tokens c.begin_object.new.self.tokens end _ _
    c.in_ok-begin_object.ensures.ok
    (before r c.begin_object.new.self.tokens c.push_member.new.out.tokens end _ _
    c.in_ok-push_member.ensures.tokens
    (before r c.push_member.new.out.tokens c.push_member-2.new.out.tokens end _ _
    c.in_ok-push_member-2.ensures.tokens
    (before r c.push_member-2.new.out.tokens c.push_member-3.new.out.tokens end _ _
    c.in_ok-push_member-3.ensures.tokens c.end_object.ensures.ok)))
