use Rattle.cli_runs.proofs.laws.programs_are_uses.Goals as goal

pub returns-clause-served : goal.returns-clause-served
returns-clause-served g c =
    λ address count clock after ports closed old new out printed err told status hosted.
    record {
      leaves = hosted.leaves;
      closed = hosted.closed;
      lasts = hosted.served.lasts;
      stays = hosted.stays;
    }

pub returns-clause-turned_down : goal.returns-clause-turned_down
returns-clause-turned_down g c =
    λ ports closed old new out printed err told status down. down.opens.adopts.crash

pub returns-clause-acted : goal.returns-clause-acted
returns-clause-acted g c =
    λ work old new out printed err told status acts outlasts lasts.
    record { does = acts.does; outlasts = outlasts; lasts = lasts }
