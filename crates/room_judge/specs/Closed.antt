-- What carries out a request promises on sound rows and on any others.
use Rattle.std.specs.Prelude.{ℕ, ℤ, List, Option}
use Rattle.room_rows.specs.Rows.{Rows}
use Rattle.room_rows.specs.Sound.{AreSound}
use Rattle.room_machine.specs.declared.reply.Reply.{Reply}
use Rattle.room_machine.specs.declared.request.Request.{Request}
use Rattle.room_machine.specs.Closed.{FailsClosed, IsClosedFor}
use Rattle.room_judge.specs.declared.asker.Asker.{Asker}
use Rattle.room_judge.specs.Judged.{CarriesOut, IsStepOfRows}

-- on any rows it is judged by the stored lists
abbrev pub IsClosed : Asker → Request → Rows → Reply → Rows → Type 0
IsClosed asker request old reply new =
    IsClosedFor asker.caller asker.moment request old reply new

abbrev pub IsServed : Asker → Request → Rows → Reply → Rows → Type 0
IsServed asker request old reply new =
    CarriesOut asker request old reply new × IsClosed asker request old reply new

-- What `perform` promises: from sound rows a step of the room machine, and from any rows a
-- judgement by the lists as they are stored.
pub record Performs (user : Option (List ℕ)) (moment : ℤ) (request : Request) (old : Rows)
    (reply : Reply) (new : Rows) : Type 0 where
  pub step : AreSound old → IsStepOfRows user moment request old reply new
  pub closed : FailsClosed user moment request old reply new
