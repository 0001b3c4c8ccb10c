-- A message has a reply of the desk exactly where no test refuses it.
use Rattle.std.proofs.Common.{ℕ, List, [], ◌∷◌, Option, None, Some, All, subst, sym}
use Rattle.std.{proofs.lemmas.List.Elements.recursion_from_All, specs.List.AllByRecursion}
use Rattle.room_http.specs.{declared.ended.Cause.Cause, Message.{Message, asked}, Serve.IsNext}
use Rattle.room_http.specs.{Serve.{Next, next_exchange}, Stream.{EndsStream, Exchange, HasReply}}
use Rattle.room_http.specs.Stream.{IsOpen, Last, last_exchange}
use Rattle.cli_listen.specs.Visits.{IsServedVisit, Meeting, Talked, Visit}
use Rattle.cli_runs.proofs.Runs.{all_both}

abbrev pub IsAgreed : Exchange → Type 0
IsAgreed x = HasReply (asked x.message) x.reply

all_open : (xs : List Exchange) → AllByRecursion IsOpen xs → AllByRecursion IsAgreed xs
all_open [] all = tt
all_open (x ∷ xs) all = (all.0.is.agrees, all_open xs all.1)

of_last : (left : List ℕ) (n : ℕ) (last : Last) → EndsStream left n last
    → AllByRecursion IsAgreed (last_exchange last)
of_last left n Last.Clean ends = tt
of_last left n Last.Cut ends = tt
of_last left n (Last.Refused refusal) ends = tt
of_last left n (Last.Closing x) ends = (ends.0.agrees, tt)
of_last left n (Last.Failed m) ends = tt

of_next : (left : List ℕ) (n : ℕ) (next : Next) → IsNext left n next
    → AllByRecursion IsAgreed (next_exchange next)
of_next left n Next.Unknown is = tt
of_next left n (Next.Exchanging x close) is = (is.0.agrees, tt)
of_next left n (Next.Refusing refusal) is = tt
of_next left n (Next.Failing m) is = tt

of_talk : (meeting : Meeting) (fault : Option Cause) (exchanges : List Exchange)
    (failed : Option Message) → Talked meeting fault exchanges failed
    → AllByRecursion IsAgreed exchanges
of_talk Meeting.Lost fault exchanges failed is =
    subst (λ (xs : List Exchange). AllByRecursion IsAgreed xs) (sym is.1) tt
of_talk (Meeting.Met had has) None exchanges failed is =
    let stream = is.talks.stream in
    subst (λ (xs : List Exchange). AllByRecursion IsAgreed xs) (sym is.whole)
    (all_both IsAgreed is.before (last_exchange is.last)
    (all_open is.before (recursion_from_All IsOpen is.before stream.opens.each))
    (of_last _ _ is.last stream.ends))
of_talk (Meeting.Met had has) (Some cause) exchanges failed is =
    subst (λ (xs : List Exchange). AllByRecursion IsAgreed xs) (sym is.whole)
    (all_both IsAgreed is.before (next_exchange is.next)
    (all_open is.before (recursion_from_All IsOpen is.before is.talks.opens.each))
    (of_next _ _ is.next is.talks.is_next))

-- of each connection
abbrev pub AgreeAll : List Visit → Type 0
AgreeAll visits = AllByRecursion (λ v. AllByRecursion IsAgreed v.exchanges) visits

all_agree : (visits : List Visit) → AllByRecursion IsServedVisit visits → AgreeAll visits
all_agree [] all = tt
all_agree (v ∷ visits) all =
    (of_talk v.meeting v.fault v.exchanges v.failed all.0, all_agree visits all.1)

pub agreed : (visits : List Visit) → All IsServedVisit visits → AgreeAll visits
agreed visits each = all_agree visits (recursion_from_All IsServedVisit visits each)
