use Rattle.std.proofs.Common.{rules, ◌≡◌, ◌+◌, List, Some, None, sym, ap, subst, ◌∙◌, inl, length}
use Rattle.std.proofs.Common.{◌-◌, IfOk, arith, drop, ◌∷◌, ◌++◌, ◌<◌, []}
use Rattle.room_rows.specs.declared.{keep.KeepFault.TheVariants.Memory, node.{Node.Node, Walk.Walk}}
use Rattle.room_rows.specs.{Keep.{HasNoRoot, IsRead}, Content.child_of, Along.after_chain}
use Rattle.room_rows.specs.{Rooted.IsWalkFromRoot, Walk.walk_from}
use Rattle.room_rows.proofs.Steps.{handed_on, seen, read_on, answered, gives_up, no_memory}
use Rattle.room_rows.proofs.Walking.{walk_ends, walk_goes_on}
use Rattle.room_rows.proofs.chain.walk.Goals as goal

abbrev HasOne : Walk → Type 0
HasOne walk = 0 < length walk.chain

one_in : (nodes : List Node) (node : Node) → 0 < length (nodes ++ node ∷ [])
one_in [] node = omega arith
one_in (x ∷ nodes) node = omega arith

pub returns-in_err-child : goal.returns-in_err-child
returns-in_err-child g c =
    let k = g.K.Keep in
    let m = g.met.K.Keep in
    let is =
    handed_on c.from_residual-in_err-child.result c.in_err-child.field-0.0
    c.from_residual-in_err-child.ensures.1 in
    record {
      read =
          subst
          (λ r. IsRead k.rows k.failures k.writes k.Follows k.IsTrusted c.args.keep.now
          c.child.new.self r HasNoRoot (IsWalkFromRoot c.args.path.now)) (sym is)
          (gives_up k.rows k.failures k.writes k.Follows k.IsTrusted c.args.keep.now
          c.child.new.self _ (λ w at h. inl h)
          (read_on k.rows k.failures k.writes k.Follows k.IsTrusted m.laws c.args.keep.now
          c.names.keep c.child.new.self _ c.names.invariant.read c.in_err-child.ensures.read));
      some = subst (λ r. IfOk r HasOne) (sym is) tt;
      counted = omega (
        arith,
        c.names.invariant.few,
        c.in_err-child.ensures.counted,
        c.names-test.true,
        ap length c.names-names.ensures,
      );
    }

pub returns-in_err-push : goal.returns-in_err-push
returns-in_err-push g c =
    let k = g.K.Keep in
    let m = g.met.K.Keep in
    let is =
    handed_on c.from_residual-in_err-push.result Memory c.from_residual-in_err-push.ensures.1 in
    let all =
    seen k.rows k.failures k.writes k.Follows k.IsTrusted c.args.keep.now c.child.new.self _
    (read_on k.rows k.failures k.writes k.Follows k.IsTrusted m.laws c.args.keep.now
    c.names.keep c.child.new.self _ c.names.invariant.read c.in_ok-child.ensures.read) in
    record {
      read =
          subst
          (λ r. IsRead k.rows k.failures k.writes k.Follows k.IsTrusted c.args.keep.now
          c.child.new.self r HasNoRoot (IsWalkFromRoot c.args.path.now)) (sym is)
          (search (rules, no_memory, c.child.new.self));
      some = subst (λ r. IfOk r HasOne) (sym is) tt;
      counted = omega (
        arith,
        c.names.invariant.few,
        c.in_ok-child.ensures.counted,
        c.names-test.true,
        ap length c.names-names.ensures,
      );
    }

pub returns-in-None : goal.returns-in-None
returns-in-None g c =
    let k = g.K.Keep in
    let m = g.met.K.Keep in
    let on =
    read_on k.rows k.failures k.writes k.Follows k.IsTrusted m.laws c.args.keep.now c.names.keep
    c.child.new.self _ c.names.invariant.read c.in_ok-child.ensures.read in
    let all =
    seen k.rows k.failures k.writes k.Follows k.IsTrusted c.args.keep.now c.child.new.self _ on
    in
    record {
      read =
          answered k.rows k.failures k.writes k.Follows k.IsTrusted c.args.keep.now c.child.new.self
          _ all (λ t.
          let before =
          m.laws.first c.args.keep.now c.names.keep c.child.new.self
          c.names.invariant.read.follows c.in_ok-child.ensures.read.follows t in
          let w = (k.rows c.args.keep.now).read in
          let none : child_of w c.names.node.id c.index-names-index.result ≡ None = ap
          (child_of w c.names.node.id) (sym c.as_str.ensures) ∙ sym (on.answers t)
          ∙ c.in-None.is in
          let ends =
          walk_ends w c.names.node c.names.chain c.names-names.result.now c.names.index
          c.index-names-index.result c.names-test.true c.index-names-index.is none in (
            c.walked.ensures
                ∙ ap
                (λ (l : List Node).
                record { chain = l; rest = length c.names-names.result.now - c.names.index })
                c.in_ok-push.ensures.ok
                ∙ sym ends ∙ c.names.invariant.along before,
            c.names.invariant.rooted before,
          ));
      some =
          subst HasOne (sym c.walked.ensures)
          (grind (arith, c.in_ok-push.ensures.ok, one_in, c.names.chain, c.names.node));
      counted = omega (
        arith,
        c.names.invariant.few,
        c.in_ok-child.ensures.counted,
        c.names-test.true,
        ap length c.names-names.ensures,
      );
    }

pub names-preserved : goal.names-preserved
names-preserved g c =
    let k = g.K.Keep in
    let m = g.met.K.Keep in
    let on =
    read_on k.rows k.failures k.writes k.Follows k.IsTrusted m.laws c.args.keep.now c.names.keep
    c.child.new.self _ c.names.invariant.read c.in_ok-child.ensures.read in
    record {
      few = omega (arith, c.names.invariant.few, c.in_ok-child.ensures.counted);
      read = search (rules, seen, on);
      rooted = λ t.
          c.names.invariant.rooted (m.laws.first c.args.keep.now c.names.keep c.child.new.self
          c.names.invariant.read.follows c.in_ok-child.ensures.read.follows t);
      along = λ t.
          let before =
          m.laws.first c.args.keep.now c.names.keep c.child.new.self
          c.names.invariant.read.follows c.in_ok-child.ensures.read.follows t in
          let w = (k.rows c.args.keep.now).read in
          let found : child_of w c.names.node.id c.index-names-index.result ≡ Some c.in-Some.next =
          grind (arith, w, c.names.node.id, c.as_str.ensures, on.answers, c.in-Some.is) in
          let goes =
          walk_goes_on w c.names.node c.in-Some.next c.names.chain c.names-names.result.now
          c.names.index c.index-names-index.result c.names-test.true c.index-names-index.is
          found in
          ap (λ (l : List Node). after_chain l
          (walk_from w c.in-Some.next (drop (c.names.index + 1) c.names-names.result.now)))
          c.in_ok-push.ensures.ok
          ∙ sym goes ∙ c.names.invariant.along before;
    }
