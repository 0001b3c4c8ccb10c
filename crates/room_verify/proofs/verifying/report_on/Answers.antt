use Rattle.std.{proofs.Common.{sym, ap, ◌∙◌}, specs.Option.option_copied}
use Rattle.room_rows.proofs.Steps.{none_yet, seen, answered}
use Rattle.room_rows.specs.declared.report.Report.TheVariants.{Sound}
use Rattle.room_verify.proofs.Reported.{by_tree, by_body, by_law, by_none}
use Rattle.room_verify.proofs.verifying.report_on.Goals as goal

pub returns-in-Some : goal.returns-in-Some
returns-in-Some g c =
    let k = g.K.Keep in
    let m = g.met.K.Keep in
    record {
      read =
          answered k.rows k.failures k.writes k.Follows k.IsTrusted c.args.keep.now c.args.keep.now
          c.in-Some.report
          (none_yet k.rows k.failures k.writes k.Follows k.IsTrusted m.laws c.args.keep.now)
          (λ t are lists. by_tree c.args.holding
          (k.rows c.args.keep.now) c.args.objects.now are lists c.in-Some.report
          (sym c.in-Some.is ∙ c.in_ok-report.ensures));
    }

pub returns-in-Some-2 : goal.returns-in-Some-2
returns-in-Some-2 g c =
    let k = g.K.Keep in
    let all =
    seen k.rows k.failures k.writes k.Follows k.IsTrusted c.args.keep.now
    c.first_bad_body.new.keep c.in_ok-node.field-0 c.in_ok-node.ensures.read in
    record {
      read =
          answered k.rows k.failures k.writes k.Follows k.IsTrusted c.args.keep.now
          c.first_bad_body.new.keep c.in_ok-fault_of-in-Some-2.field-0 all
          (λ t are lists.
          c.in_ok-fault_of-in-Some-2.ensures
          ∙ by_body c.args.holding (k.rows c.args.keep.now) c.args.objects.now are lists
          (sym c.in-None.is ∙ c.in_ok-report.ensures) c.in-Some-2.node.now
          (sym (ap option_copied c.in-Some-2.is) ∙ c.in_ok-node.ensures.read.answers t));
    }

pub returns-in_ok-fault_of-in-Some-3 : goal.returns-in_ok-fault_of-in-Some-3
returns-in_ok-fault_of-in-Some-3 g c =
    let k = g.K.Keep in
    let all =
    seen k.rows k.failures k.writes k.Follows k.IsTrusted c.args.keep.now
    c.first_bad_body.new.keep c.in_ok-node.field-0 c.in_ok-node.ensures.read in
    record {
      read =
          answered k.rows k.failures k.writes k.Follows k.IsTrusted c.args.keep.now
          c.first_bad_body.new.keep c.in_ok-fault_of-in-Some-3.field-0 all
          (λ t are lists.
          c.in_ok-fault_of-in-Some-3.ensures
          ∙ by_law c.args.holding (k.rows c.args.keep.now) c.args.objects.now are lists
          (sym c.in-None.is ∙ c.in_ok-report.ensures)
          (sym (ap option_copied c.in-None-2.is) ∙ c.in_ok-node.ensures.read.answers t)
          c.in-Some-3.node.now (sym (ap option_copied c.in-Some-3.is) ∙ c.in_ok-node-2.ensures));
    }

pub returns-in-None-3 : goal.returns-in-None-3
returns-in-None-3 g c =
    let k = g.K.Keep in
    let all =
    seen k.rows k.failures k.writes k.Follows k.IsTrusted c.args.keep.now
    c.first_bad_body.new.keep c.in_ok-node.field-0 c.in_ok-node.ensures.read in
    record {
      read =
          answered k.rows k.failures k.writes k.Follows k.IsTrusted c.args.keep.now
          c.first_bad_body.new.keep Sound all
          (λ t are lists.
          by_none c.args.holding (k.rows c.args.keep.now) c.args.objects.now are lists
          (sym c.in-None.is ∙ c.in_ok-report.ensures)
          (sym (ap option_copied c.in-None-2.is) ∙ c.in_ok-node.ensures.read.answers t)
          (sym (ap option_copied c.in-None-3.is) ∙ c.in_ok-node-2.ensures));
    }
