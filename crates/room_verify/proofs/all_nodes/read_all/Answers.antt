use Rattle.std.proofs.Common.{arith, rules, Result, Ok, Err, List, sym, ap, subst, ◌∙◌}
use Rattle.std.{proofs.lemmas.List.{append-nil, drop_all}, specs.List.find}
use Rattle.room_rows.specs.declared.{keep.KeepFault.{KeepFault, TheVariants.Memory}, node.Node.Node}
use Rattle.room_rows.{specs.{Keep.IsRead, Sound.has_bad_list}, proofs.Steps.{handed_on, seen}}
use Rattle.room_rows.proofs.Steps.{read_on, answered, no_memory}
use Rattle.room_verify.{specs.Reading.{AreAll, IsFirstBad}, proofs.Blaming.blames_less}
use Rattle.room_verify.proofs.Whole.{bad_at, one_more_node, sound_here, whole}
use Rattle.room_verify.proofs.all_nodes.read_all.Goals as goal

pub returns-in_err-read_sound : goal.returns-in_err-read_sound
returns-in_err-read_sound g c =
    let k = g.K.Keep in
    let m = g.met.K.Keep in
    let a = c.args.keep.now in
    let b = c.ids.keep in
    let d = c.read_sound.new.keep in
    let items = c.as_slice-id-items.result.now in
    let e = c.in_err-read_sound.field-0.0 in
    let is =
    handed_on c.from_residual-in_err-read_sound.result e
    c.from_residual-in_err-read_sound.ensures.1 in
    let on = read_on k.rows k.failures k.writes k.Follows k.IsTrusted m.laws a b d
    (Err e) c.ids.invariant.read c.in_err-read_sound.ensures.read in
    record {
      read =
          subst (λ (r : Result (List Node) KeepFault).
          IsRead k.rows k.failures k.writes k.Follows k.IsTrusted a d r IsFirstBad AreAll) (sym is)
          (blames_less k.rows k.failures k.writes k.Follows k.IsTrusted a d e (λ t at bad.
          let before =
          m.laws.first a b d c.ids.invariant.read.follows
          c.in_err-read_sound.ensures.read.follows t in
          bad_at (k.rows a) items c.ids.id-index c.ids-test.true at (c.ids.invariant.numbers before)
          (c.ids.invariant.sound before) bad) on);
    }

pub returns-in_err-push : goal.returns-in_err-push
returns-in_err-push g c =
    let k = g.K.Keep in
    let m = g.met.K.Keep in
    let a = c.args.keep.now in
    let d = c.read_sound.new.keep in
    let node = c.in_ok-read_sound.field-0 in
    let is =
    handed_on c.from_residual-in_err-push.result Memory c.from_residual-in_err-push.ensures.1 in
    let on = read_on k.rows k.failures k.writes k.Follows k.IsTrusted m.laws a c.ids.keep d
    (Ok node) c.ids.invariant.read c.in_ok-read_sound.ensures.read in
    record {
      read =
          subst (λ (r : Result (List Node) KeepFault).
          IsRead k.rows k.failures k.writes k.Follows k.IsTrusted a d r IsFirstBad AreAll) (sym is)
          (search (rules, no_memory, seen, on));
    }

pub ids-preserved : goal.ids-preserved
ids-preserved g c =
    let k = g.K.Keep in
    let m = g.met.K.Keep in
    let a = c.args.keep.now in
    let d = c.read_sound.new.keep in
    let node = c.in_ok-read_sound.field-0 in
    let items = c.as_slice-id-items.result.now in
    let w = k.rows a in
    let on = read_on k.rows k.failures k.writes k.Follows k.IsTrusted m.laws a c.ids.keep d
    (Ok node) c.ids.invariant.read c.in_ok-read_sound.ensures.read in
    let before =
    m.laws.first a c.ids.keep d c.ids.invariant.read.follows
    c.in_ok-read_sound.ensures.read.follows in
    record {
      read = seen k.rows k.failures k.writes k.Follows k.IsTrusted a d node on;
      numbers = λ t. c.ids.invariant.numbers (before t);
      sound =
          λ t. sound_here w items c.ids.id-index c.ids-test.true (on.answers t).1
          ∙ c.ids.invariant.sound (before t);
      found =
          λ t. one_more_node w items c.ids.id-index c.ids-test.true c.ids.nodes c.push.new.self node
          (on.answers t).0 c.in_ok-push.ensures.ok ∙ c.ids.invariant.found (before t);
    }

pub returns : goal.returns
returns g c =
    let k = g.K.Keep in
    let m = g.met.K.Keep in
    let a = c.args.keep.now in
    let items = c.as_slice-id-items.result.now in
    let w = k.rows a in
    let over = drop_all c.ids.id-index items c.ids-test.false in
    let none = λ (t : k.IsTrusted a c.ids.keep). ap (find (has_bad_list w))
    (sym (c.ids.invariant.numbers t)) ∙ sym (c.ids.invariant.sound t)
    ∙ ap (find (has_bad_list w)) over in
    record {
      read =
          answered k.rows k.failures k.writes k.Follows k.IsTrusted a c.ids.keep c.ids.nodes
          c.ids.invariant.read (λ t. (
            none t,
            whole w (m.laws.are a c.ids.keep t) (none t) c.ids.nodes items
                (c.ids.invariant.numbers t)
                (grind (arith, append-nil, c.ids.nodes, w.read, over, c.ids.invariant.found)),
          ));
    }
