use Rattle.cli_would.proofs.Front.{reply_of}
use Rattle.cli_would.proofs.answering.reply_for.Goals as goal

pub returns-clause-reply : goal.returns-clause-reply
returns-clause-reply g c =
    reply_of (g.R.Read.remaining c.args.reader.now) c.in_ok-question.question.items _ _ _
    c.in_ok-question.ensures.front c.deref.ensures.value c.in_ok-reply_to.ensures
