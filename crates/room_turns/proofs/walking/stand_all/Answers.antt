use Rattle.std.proofs.Common.{refl}
use Rattle.room_dump.proofs.Reading.{answered, fails, knows, learns, out_of_memory}
use Rattle.room_dump.proofs.Walks.{comes_first}
use Rattle.room_turns.proofs.Walked.{none_comes, stands_end, stands_next}
use Rattle.room_turns.proofs.walking.stand_all.Goals as goal

pub objects-init : goal.objects-init
objects-init g c =
    knows g.K.Keep g.met.K.Keep.laws c.args.keep.now (λ rows are. (
      λ goes. goes,
      λ view sites objects shows comes.
          record { sites = sites; objects = objects; comes = comes; told = refl },
    ))

pub objects-preserved : goal.objects-preserved
objects-preserved g c =
    let old = c.objects.walk in
    let new = c.next.new.self in
    let visit = c.in-Some.visit in
    learns g.K.Keep g.met.K.Keep.laws c.args.keep.now c.objects.keep c.next.new.keep
    c.in_ok-visit.field-0 c.objects.invariant c.in_ok-visit.ensures.read
    (λ rows are sofar next. (
      λ goes. (comes_first rows old new c.in_ok-visit.field-0 visit next c.in-Some.is
          (sofar.0 goes)).1,
      λ view sites objects shows comes.
          let stood = sofar.1 view sites objects shows comes in
          let came = comes_first rows old new c.in_ok-visit.field-0 visit next c.in-Some.is
          stood.comes.goes in
          stands_next c.args.asked.now c.args.scene.now view shows rows old new c.objects.stood
          c.stand_next-told.new.stood c.args.stood.now.all.items objects visit stood came.0 came.1
          c.in_ok-told.ensures,
    ))

pub returns-in_err-visit : goal.returns-in_err-visit
returns-in_err-visit g c = record {
  read =
      fails g.K.Keep g.met.K.Keep.laws c.args.keep.now c.objects.keep c.next.new.keep
      c.in_err-visit.field-0.0 c.from_residual.result
      (λ rows are sofar row blocked goes. blocked (sofar.0 goes))
      c.objects.invariant c.in_err-visit.ensures.read c.from_residual.ensures.1;
}

pub returns-in_err-told : goal.returns-in_err-told
returns-in_err-told g c =
    let k = g.K.Keep in
    let laws = g.met.K.Keep.laws in
    let a = c.args.keep.now in
    let d = c.next.new.keep in
    record {
      read =
          out_of_memory k laws a d c.from_residual-in_err-told.result
          (learns k laws a c.objects.keep d c.in_ok-visit.field-0 c.objects.invariant
          c.in_ok-visit.ensures.read (λ rows are _ _. are)) c.from_residual-in_err-told.ensures.1;
    }

pub returns : goal.returns
returns g c =
    let k = g.K.Keep in
    let laws = g.met.K.Keep.laws in
    let a = c.args.keep.now in
    let d = c.next.new.keep in
    let asked = c.args.asked.now in
    let scene = c.args.scene.now in
    let stood = c.objects.stood in
    record {
      read =
          answered k laws a d tt
          (learns k laws a c.objects.keep d c.in_ok-visit.field-0 c.objects.invariant
          c.in_ok-visit.ensures.read (λ rows are sofar next view sites objects shows comes.
          let standing = sofar.1 view sites objects shows comes in
          stands_end asked scene view rows c.objects.walk stood.way.items
          c.args.stood.now.all.items stood.all.items objects standing
          (none_comes rows c.objects.walk c.next.new.self c.in_ok-visit.field-0 next
          c.in_default.is standing.comes.goes)));
    }
