-- One part of the exchange of pairs after another.
use Rattle.std.proofs.Common.{ℕ, List, [], Result, Ok, Err, ap, IsPermutation}
use Rattle.sqlite.specs.State.{State}
use Rattle.room_rows.specs.declared.keep.KeepFault.{KeepFault}
use Rattle.store_tables.specs.{Meaning.pairs_of, Paired.Pair, Statements.{OfAny, ExecutesSql}}
use Rattle.store_tables.specs.Trust.{stays_on, trusted_first, trusted_last}
use Rattle.store_tables.specs.Carries.{CallsInside, NoTables}
use Rattle.store_admin.specs.Operating.{Exchanges}
use Rattle.store_admin.{specs.Operating.{ExchangesMembers, Gathers}, proofs.Gathering.replaced}

pub exchanged : (pairs order : List Pair) (a b c : State) (count : ℕ)
    (r : Result (Unit {0}) KeepFault) → IsPermutation pairs order
    → ExecutesSql (OfAny (Exchanges [])) a b (Ok count)
    → CallsInside b c r NoTables (Gathers [] order)
    → CallsInside a c r NoTables (ExchangesMembers pairs)
exchanged pairs order a b c count (Ok done) moved w q = record {
  stays = stays_on a b c w.stays q.stays;
  becomes = λ trust.
      let first = trusted_first a b c w.stays q.stays trust in
      let gone = w.leaves first.clean first.now in
      let held = q.becomes (trusted_last a b c w.stays q.stays trust) (ap pairs_of gone.members) in
      replaced pairs order a.now b.now c.now moved gone held;
  blames = λ trust id is. absurd is;
}
exchanged pairs order a b c count (Err fault) moved w q = record {
  stays = stays_on a b c w.stays q.stays;
  becomes = λ _. tt;
  blames = λ trust id is. q.blames (trusted_last a b c w.stays q.stays trust) id is;
}
