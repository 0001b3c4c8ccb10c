-- What changes nothing but records: a request that only reads, or that isn't answered by a change.
use Rattle.std.proofs.Common.{ℕ, ℤ, ◌≡◌, ◌⊎◌, inl, inr, true, false, List, Option, Some, None, refl}
use Rattle.std.proofs.{Common.{arith}, lemmas.Bool.false≢true}
use Rattle.std.{proofs.lemmas.Bool.Decides.nat_tests, specs.Option.option_map_or}
use Rattle.room_entry.specs.declared.parties.Caller.{Caller}
use Rattle.room_rows.specs.Content.{Content}
use Rattle.room_machine.specs.{Closed.only_reads, Effect.{effect, put_bytes}, Run.{Asked}}
use Rattle.room_machine.specs.{Site.{Site, site_at, parent_at, sites_along}, Step.Step}
use Rattle.room_machine.specs.{Step.failure_or, declared.reply.Reply.{Reply, TheVariants.Done}}
use Rattle.room_machine.specs.declared.request.Request.{Request, TheVariants.Read}
use Rattle.room_machine.specs.declared.request.Request.TheVariants.{List as ListFolder, Put, Append}
use Rattle.room_machine.specs.declared.request.Request.TheVariants.{MakeFolder, Remove, Move}
use Rattle.room_machine.specs.declared.request.Request.TheVariants.{ReadList, SetList, ReadAttr}
use Rattle.room_machine.specs.declared.request.Request.TheVariants.{SetOwners, Can}
use Rattle.room_laws.specs.Laws.{ChangesNothing, StaysBehind, tells_change}
use Rattle.room_laws.proofs.{Behind.{behind_stays, numbers_stay}, Local.{IsLocal, itself_local}}
use Rattle.room_laws.proofs.Local.{local_outside, records_local}

-- the content is the one before, or the reply is that of a change
record IsQuiet (a : Content) (done : Reply × Content) : Type 0 where
  is : (done.1 ≡ a) ⊎ (tells_change done.0 ≡ true)

-- where the object is there, and where it isn't
quiet_on : (a : Content) (o : Option Site) (act : Site → Reply × Content)
    → ((s : Site) → IsQuiet a (act s)) → IsQuiet a (option_map_or act o (Done, a))
quiet_on a None act each = record { is = inl refl }
quiet_on a (Some s) act each = each s

told_quiet : (a c : Content) (reply : Reply) → tells_change reply ≡ true → IsQuiet a (reply, c)
told_quiet a c reply tells = record { is = inr tells }

reads_stay : (a : Content) (caller : Caller) (id : ℕ) (request : Request)
    → only_reads request ≡ true → (effect a caller id request).1 ≡ a
reads_stay a caller id (Read path) reads = grind (arith, nat_tests)
reads_stay a caller id (ListFolder path) reads = grind (arith, nat_tests)
reads_stay a caller id (ReadList path which) reads = grind (arith, nat_tests)
reads_stay a caller id (ReadAttr path) reads = grind (arith, nat_tests)
reads_stay a caller id (Can path mask) reads = grind (arith, nat_tests)
reads_stay a caller id (Put path bytes) reads = absurd (false≢true reads)
reads_stay a caller id (Append path bytes) reads = absurd (false≢true reads)
reads_stay a caller id (MakeFolder path) reads = absurd (false≢true reads)
reads_stay a caller id (Remove path) reads = absurd (false≢true reads)
reads_stay a caller id (Move path to) reads = absurd (false≢true reads)
reads_stay a caller id (SetList path which sent) reads = absurd (false≢true reads)
reads_stay a caller id (SetOwners path owners) reads = absurd (false≢true reads)

quiet_effect : (a : Content) (caller : Caller) (id : ℕ) (request : Request)
    → IsQuiet a (effect a caller id request)
quiet_effect a caller id (Read path) =
    record { is = inl (reads_stay a caller id (Read path) refl) }
quiet_effect a caller id (ListFolder path) =
    record { is = inl (reads_stay a caller id (ListFolder path) refl) }
quiet_effect a caller id (ReadList path which) =
    record { is = inl (reads_stay a caller id (ReadList path which) refl) }
quiet_effect a caller id (ReadAttr path) =
    record { is = inl (reads_stay a caller id (ReadAttr path) refl) }
quiet_effect a caller id (Can path mask) =
    record { is = inl (reads_stay a caller id (Can path mask) refl) }
quiet_effect a caller id (Put path bytes) =
    on (site_at (sites_along a path) path) (parent_at (sites_along a path) path)
  where
    on : (o p : Option Site) → IsQuiet a (put_bytes a caller id path bytes o p)
    on (Some s) p = record { is = inr refl }
    on None None = record { is = inl refl }
    on None (Some s) = record { is = inr refl }
quiet_effect a caller id (Append path bytes) = grind (arith, nat_tests, quiet_on, told_quiet)
quiet_effect a caller id (MakeFolder path) = grind (arith, nat_tests, quiet_on, told_quiet)
quiet_effect a caller id (Remove path) = grind (arith, nat_tests, quiet_on, told_quiet)
quiet_effect a caller id (Move path to) = grind (arith, nat_tests, quiet_on, told_quiet)
quiet_effect a caller id (SetList path which sent) = grind (arith, nat_tests, quiet_on, told_quiet)
quiet_effect a caller id (SetOwners path owners) = grind (arith, nat_tests, quiet_on, told_quiet)

-- a reply that isn't that of a change
still_quiet : (a : Content) (o : Option Reply) (done : Reply × Content) → IsQuiet a done
    → tells_change (failure_or o a done).0 ≡ false → (failure_or o a done).1 ≡ a
still_quiet a o done quiet is = grind (arith, nat_tests, quiet.is)

still_read : (a : Content) (o : Option Reply) (done : Reply × Content) → done.1 ≡ a
    → (failure_or o a done).1 ≡ a
still_read a o done same = grind (arith, nat_tests)

quiet_local : (f : List (List ℕ)) (a : Content) (user : Option (List ℕ)) (moment : ℤ)
    (request : Request) (reply : Reply) (after : Content)
    → ChangesNothing (Asked user moment request reply)
    → Step a user moment request reply after → IsLocal f a after
quiet_local f a user moment request reply after nothing s =
    grind (
      arith,
      nat_tests,
      itself_local,
      quiet_effect,
      reads_stay,
      records_local,
      still_quiet,
      still_read,
    )

pub stays_behind : StaysBehind
stays_behind f before event after numbered (inl behind) happens =
    behind_stays f before event after numbered behind happens
stays_behind f before (Asked user moment request reply) after numbered (inr nothing) happens = (
  local_outside f before numbered after
      (quiet_local f before user moment request reply after nothing happens),
  numbers_stay before (Asked user moment request reply) after numbered happens,
)
stays_behind f before event after numbered (inr nothing) happens = absurd nothing
