use Rattle.std.proofs.Common.{◌≡◌, length, refl, sym, subst, arith}
use Rattle.room_rows.specs.Rows.{AreRows}
use Rattle.room_memory.specs.Memory.{rows_in}
use Rattle.room_would.specs.{Asking.state_of, Faults.Blames, Would.IsTooMuch}
use Rattle.room_would.specs.declared.fault.WouldFault.{WouldFault}
use Rattle.room_would.proofs.Told.{few_turns, many_turns, says_so}
use Rattle.room_would.proofs.answering.tell_found.Goals as goal

pub returns-then-is_too_much-clause-refused : goal.returns-then-is_too_much-clause-refused
returns-then-is_too_much-clause-refused c =
    let before = state_of c.args.before.now in
    let after = state_of c.args.after.now in
    let asked = c.in_ok-asked.asked in
    let callers : c.len.result ≡ length asked.parties.items =
    omega (arith, c.len.ensures, asked.parties.ok.0) in
    subst (Blames (λ (fault : WouldFault). AreRows before.rows → AreRows after.rows
    → IsTooMuch c.args.lines c.args.question.now c.args.free.now.stranger before after fault))
    (sym c.too_much.ensures)
    (λ are are'. record {
      asked = asked;
      is_asked = c.in_ok-asked.ensures.asked are;
      many = many_turns asked after.rows c.len.result c.in_ok-objects.objects callers
          (c.in_ok-objects.ensures are').0 c.is_too_much-is_too_much.result
          c.is_too_much-is_too_much.ensures c.if-is_too_much.true;
      fault_is = refl;
    })

pub returns-clause-told : goal.returns-clause-told
returns-clause-told c = λ are are'.
    let after = state_of c.args.after.now in
    let asked = c.in_ok-asked.asked in
    let callers : c.len.result ≡ length asked.parties.items =
    omega (arith, c.len.ensures, asked.parties.ok.0) in
    let counted = c.in_ok-objects.ensures are' in
    says_so c.args.question.now c.args.free.now.stranger (state_of c.args.before.now)
    (state_of c.asked_of.new.before) after (rows_in c.count_objects.new.keep) asked
    c.in_ok-rows_and_lists.field-0 (c.in_ok-asked.ensures.same are) counted.1
    (c.in_ok-asked.ensures.asked are)
    (few_turns asked after.rows c.len.result c.in_ok-objects.objects callers counted.0
    c.is_too_much-is_too_much.result c.is_too_much-is_too_much.ensures c.if-is_too_much.false)
    c.in_ok-rows_and_lists.ensures are are'
