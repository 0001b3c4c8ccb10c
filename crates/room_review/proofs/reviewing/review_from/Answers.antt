use Rattle.std.proofs.Common.{◌≡◌, ◌<◌, arith}
use Rattle.room_dump.proofs.Reading.{answered, fails, knows, learns}
use Rattle.room_review.specs.declared.question.Reviewed.{TheVariants.Table}
use Rattle.room_review.proofs.Tabled.{lost_there, refusal_given, table_given}
use Rattle.room_review.proofs.reviewing.review_from.Goals as goal

pub returns-then-rest-gt0 : goal.returns-then-rest-gt0
returns-then-rest-gt0 g c =
    let k = g.K.Keep in
    let laws = g.met.K.Keep.laws in
    let a = c.args.keep.now in
    let question = c.args.question.now in
    let some : 0 < c.args.rest = let over = c.if-rest-gt0.true in omega (arith, over) in
    record {
      read =
          answered k laws a a c.in_ok-refused.refused
          (knows k laws a (grind (arith, question, c.in_ok-refused.ensures, refusal_given, some)));
    }

pub returns-in_err-table : goal.returns-in_err-table
returns-in_err-table g c =
    let k = g.K.Keep in
    let laws = g.met.K.Keep.laws in
    let a = c.args.keep.now in
    let question = c.args.question.now in
    let start = c.args.start.now in
    let none : c.args.rest ≡ 0 = let over = c.if-rest-gt0.false in omega (arith, over) in
    record {
      read = fails k laws a a c.table_at.new.keep c.in_err-table.field-0.0
          c.from_residual-in_err-table.result (grind (arith, lost_there, question, start, none))
          (knows k laws a (λ rows are. are)) c.in_err-table.ensures.read c.from_residual-in_err-table.ensures.1;
    }

pub returns : goal.returns
returns g c =
    let k = g.K.Keep in
    let laws = g.met.K.Keep.laws in
    let a = c.args.keep.now in
    let b = c.table_at.new.keep in
    let question = c.args.question.now in
    let start = c.args.start.now in
    let table = c.in_ok-table.table in
    let none : c.args.rest ≡ 0 = let over = c.if-rest-gt0.false in omega (arith, over) in
    record {
      read =
          answered k laws a b (Table table)
          (learns k laws a a b table (knows k laws a (λ rows are. are)) c.in_ok-table.ensures.read
          (grind (arith, table_given, question, start, table, none)));
    }
