use Rattle.http_message.proofs.reply.fault_bytes.Goals as goal

pub returns-in-UnknownMethod : goal.returns-in-UnknownMethod
returns-in-UnknownMethod c = rw c.in-UnknownMethod.is c.print_allow.ensures

pub returns-in-NoRoute : goal.returns-in-NoRoute
returns-in-NoRoute c = rw c.in-NoRoute.is c.print_why-in-NoRoute.ensures

pub returns-in-BadBody : goal.returns-in-BadBody
returns-in-BadBody c = rw c.in-BadBody.is c.print_why-in-BadBody.ensures
