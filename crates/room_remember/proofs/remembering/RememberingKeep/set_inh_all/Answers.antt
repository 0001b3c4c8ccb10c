use Rattle.std.proofs.Common.{refl}
use Rattle.room_remember.proofs.Passing.{wrote}
use Rattle.room_remember.proofs.remembering.RememberingKeep.set_inh_all.Goals as goal

pub returns-clause-written : goal.returns-clause-written
returns-clause-written g c =
    wrote g.K.Keep c.args.self.now _ c.forget.new.self c.forget.ensures refl refl refl
    c.set_inh_all.result c.set_inh_all.ensures.written
