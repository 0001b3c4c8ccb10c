use Rattle.std.proofs.Common.{arith}
use Rattle.room_dump.proofs.{Reading.{fails, knows, learns, out_of_memory}, Walks.comes_first}
use Rattle.room_review.proofs.Told.{tells_next}
use Rattle.room_review.proofs.telling.push_all.Goals as goal

pub objects-init : goal.objects-init
objects-init g c = grind (arith, knows, g.K.Keep, g.met.K.Keep.laws)

pub objects-preserved : goal.objects-preserved
objects-preserved g c =
    let old = c.objects.walk in
    let new = c.next.new.self in
    let visit = c.in-Some.visit in
    learns g.K.Keep g.met.K.Keep.laws c.args.keep.now c.objects.keep c.next.new.keep
    c.in_ok-visit.field-0 c.objects.invariant c.in_ok-visit.ensures.read
    (λ rows are telling next sites objects comes.
    let told = telling sites objects comes in
    let came = comes_first rows old new c.in_ok-visit.field-0 visit next c.in-Some.is
    told.comes.goes in
    tells_next c.args.asked.now rows old new c.objects.way.items c.push_rows-told.new.way.items
    c.objects.all c.args.sheet.now c.objects.sheet c.push_rows-told.new.sheet objects visit told
    came.0 came.1 c.in_ok-told.ensures)

pub returns-in_err-visit : goal.returns-in_err-visit
returns-in_err-visit g c = record {
  read =
      fails g.K.Keep g.met.K.Keep.laws c.args.keep.now c.objects.keep c.next.new.keep
      c.in_err-visit.field-0.0 c.from_residual.result (grind arith)
      c.objects.invariant c.in_err-visit.ensures.read c.from_residual.ensures.1;
}

pub returns-in_err-told : goal.returns-in_err-told
returns-in_err-told g c =
    let k = g.K.Keep in
    let laws = g.met.K.Keep.laws in
    let a = c.args.keep.now in
    let d = c.next.new.keep in
    record {
      read =
          out_of_memory k laws a d c.from_residual-in_err-told.result
          (learns k laws a c.objects.keep d c.in_ok-visit.field-0 c.objects.invariant
          c.in_ok-visit.ensures.read (λ rows are _ _. are)) c.from_residual-in_err-told.ensures.1;
    }
