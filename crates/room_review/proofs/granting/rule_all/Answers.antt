use Rattle.std.proofs.Common.{rules, ℕ, ◌+◌, ◌||◌, List, drop, filter, not, refl, sym, ap, ◌∙◌}
use Rattle.room_entry.specs.{Bits.{all_bits, has}, Valid.asks_records}
use Rattle.room_entry.specs.declared.entry.EntryKind.TheVariants.{Allow, Deny}
use Rattle.room_eval.{specs.Verdict.is_allowed, proofs.Steps.{bears_none, either_asks}}
use Rattle.room_review.{specs.Standing.is_denied, proofs.Ruled.{found_all, found_more, found_none}}
use Rattle.room_review.proofs.{Ruled.{found_passed, found_same}, granting.rule_all.Goals.in-Allow}
use Rattle.room_review.proofs.granting.rule_all.Goals.{in-Deny, in-Audit}
use Rattle.room_review.proofs.granting.rule_all.Goals as goal

pub loop-index-init : goal.loop-index-init
loop-index-init c =
    let entries = c.args.entries.now in
    let caller = c.args.caller.now in
    let owners = c.args.owners.now in
    record {
      allows =
          found_none is_allowed entries caller owners _ _ c.empty-allowed.ensures
          c.all-unruled.ensures;
      denies =
          search (rules, found_none, caller, owners, c.empty-denied.ensures, c.all-unruled.ensures);
    }

pub loop-index-preserved-then-not-bears_on : goal.loop-index-preserved-then-not-bears_on
loop-index-preserved-then-not-bears_on c =
    let entries = c.args.entries.now in
    let caller = c.args.caller.now in
    let owners = c.args.owners.now in
    let i = c.loop-index.index in
    let entry = c.index-entries-index.result in
    let isnt = sym c.bears_on.ensures ∙ c.if-not-bears_on.true in
    record {
      allows =
          found_passed is_allowed entries caller owners i entry c.loop-index-test.true
          c.index-entries-index.is c.loop-index.allowed c.loop-index.unruled
          c.loop-index.invariant.allows isnt;
      denies =
          found_passed is_denied entries caller owners i entry c.loop-index-test.true
          c.index-entries-index.is c.loop-index.denied c.loop-index.unruled
          c.loop-index.invariant.denies isnt;
    }

pub loop-index-preserved : goal.loop-index-preserved
loop-index-preserved c =
    let entries = c.args.entries.now in
    let caller = c.args.caller.now in
    let owners = c.args.owners.now in
    let i = c.loop-index.index in
    let entry = c.index-entries-index.result in
    let unruled = c.loop-index.unruled in
    let below = c.loop-index-test.true in
    let is = c.index-entries-index.is in
    let bears = sym c.bears_on.ensures ∙ c.if-not-bears_on.false in
    let ruled = c.shared_with-ruled.ensures
    ∙ ap (λ (m : List ℕ). filter (has m) unruled) c.mask.ensures in
    let less = c.without-unruled.ensures
    ∙ ap (λ (m : List ℕ). filter (λ bit. not (has m bit)) unruled) c.mask-in-loop-index.ensures in
    elim c.match-kind.branch [
      | in-Allow w ↦
          let kind = sym c.kind.ensures ∙ w.in-Allow.is in
          record {
            allows =
                found_more is_allowed entries caller owners i entry below is c.loop-index.allowed
                unruled c.loop-index.invariant.allows bears Allow kind (λ bit. refl) _ _
                (w.allowed-is ∙ w.union-allowed.ensures
                ∙ ap (λ (r : List ℕ). filter (λ bit. has c.loop-index.allowed bit || has r bit)
                all_bits) ruled) less;
            denies =
                found_same is_denied entries caller owners i entry below is c.loop-index.denied
                unruled c.loop-index.invariant.denies bears Allow kind (λ bit. refl) _ _
                w.denied-is less;
          }
      | in-Deny w ↦
          let kind = sym c.kind.ensures ∙ w.in-Deny.is in
          record {
            allows =
                found_same is_allowed entries caller owners i entry below is c.loop-index.allowed
                unruled c.loop-index.invariant.allows bears Deny kind (λ bit. refl) _ _
                w.allowed-is less;
            denies =
                found_more is_denied entries caller owners i entry below is c.loop-index.denied
                unruled c.loop-index.invariant.denies bears Deny kind (λ bit. refl) _ _
                (w.denied-is ∙ w.union-denied.ensures
                ∙ ap (λ (r : List ℕ). filter (λ bit. has c.loop-index.denied bit || has r bit)
                all_bits) ruled) less;
          }
      | in-Audit w ↦
          absurd (bears_none (i + 1) entry (drop (i + 1) entries) caller owners unruled bears
          (ap asks_records (sym c.kind.ensures) ∙ either_asks _ w.in-Audit.is))
    ]

pub returns : goal.returns
returns c =
    let entries = c.args.entries.now in
    let caller = c.args.caller.now in
    let owners = c.args.owners.now in
    let i = c.loop-index.index in
    record {
      allowed =
          found_all is_allowed entries caller owners c.loop-index.allowed c.loop-index.unruled i
          refl
          c.loop-index-test.false c.loop-index.invariant.allows c.is_known.ensures;
      denied =
          found_all is_denied entries caller owners c.loop-index.denied c.loop-index.unruled i refl
          c.loop-index-test.false c.loop-index.invariant.denies c.is_known-2.ensures;
    }
