use Rattle.std.proofs.Common.{inl, refl, string_bytes}
use Rattle.room_dump.{specs.Visits.{GoesOn, IsThere}, proofs.Dumped.{Came, blamed, tells_on}}
use Rattle.room_dump.proofs.{Reading.{Knows, fails, knows, learns}, Walks.comes_first}
use Rattle.room_dump.proofs.dumping.push_all.Goals as goal

pub objects-init : goal.objects-init
objects-init g c =
    knows g.K.Keep g.met.K.Keep.laws c.args.keep.now
    (λ rows are goes. record { goes = goes; told = refl; filled = refl })

pub objects-preserved : goal.objects-preserved
objects-preserved g c =
    let k = g.K.Keep in
    let laws = g.met.K.Keep.laws in
    let a = c.args.keep.now in
    let d = c.next.new.keep in
    let first = c.args.walk.now in
    let old = c.objects.walk in
    let new = c.next.new.self in
    let visit = c.in-Some.visit in
    let before = string_bytes c.args.text.now in
    let text = string_bytes c.objects.text in
    let came : Knows k laws a d (λ rows. GoesOn rows first
    → Came rows first old new visit before text) =
    learns k laws a c.objects.keep d c.in_ok-visit.field-0 c.objects.invariant
    c.in_ok-visit.ensures.read (λ rows are telling next goes.
    let is = comes_first rows old new c.in_ok-visit.field-0 visit next c.in-Some.is
    (telling goes).goes in (telling goes, is.0, is.1, is.2)) in
    learns k laws a d c.push_one-told.new.keep c.in_ok-told.field-0 came c.in_ok-told.ensures.read
    (λ rows are came one goes. tells_on rows first old new visit before text
    (string_bytes c.push_one-told.new.text) (came goes) one)

pub returns-in_err-visit : goal.returns-in_err-visit
returns-in_err-visit g c = record {
  read =
      fails g.K.Keep g.met.K.Keep.laws c.args.keep.now c.objects.keep c.next.new.keep
      c.in_err-visit.field-0.0 c.from_residual.result
      (λ rows are telling row h goes. inl (inl (h (telling goes).goes))) c.objects.invariant
      c.in_err-visit.ensures.read c.from_residual.ensures.1;
}

pub returns-in_err-told : goal.returns-in_err-told
returns-in_err-told g c =
    let k = g.K.Keep in
    let laws = g.met.K.Keep.laws in
    let a = c.args.keep.now in
    let d = c.next.new.keep in
    let visit = c.in-Some.visit in
    let came : Knows k laws a d (λ rows.
    GoesOn rows c.args.walk.now → IsThere rows.read visit.node) =
    learns k laws a c.objects.keep d c.in_ok-visit.field-0 c.objects.invariant
    c.in_ok-visit.ensures.read (λ rows are telling next goes.
    let came = comes_first rows c.objects.walk c.next.new.self c.in_ok-visit.field-0 visit next
    c.in-Some.is (telling goes).goes in came.2) in
    record {
      read =
          fails k laws a d c.push_one-told.new.keep c.in_err-told.field-0.0
          c.from_residual-in_err-told.result
          (λ rows are came row h goes. blamed rows visit.node (came goes) row h)
          came c.in_err-told.ensures.read c.from_residual-in_err-told.ensures.1;
    }
