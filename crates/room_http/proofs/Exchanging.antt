-- One exchange.
use Rattle.std.proofs.Common.{rules, ◌≡◌, ℕ, ℤ, ◌+◌, ◌<◌, ◌||◌, ◌==◌, Bool, true, false, List, []}
use Rattle.std.proofs.Common.{◌∷◌, ◌++◌, length, drop, refl, sym, ap, subst, ◌∙◌, arith, Option}
use Rattle.std.proofs.{Common.{Some, None, Result, Ok, Err, IfOk, IfErr}, lemmas.List.append-nil}
use Rattle.std.proofs.lemmas.{Option.{same_Some, none-some}, Bool.Decides.nat_tests}
use Rattle.std.specs.{Prelude.is_some, List.slice_range, Io.KnownBytes.{Appends, IsAtEnd}}
use Rattle.room_machine.specs.{declared.{desk.Desk.Ghosts, reply.Reply.Reply}, Desk.DeskLaws}
use Rattle.http_message.specs.{declared.head.Head.Head, Asked.request_of, Close.asks_close}
use Rattle.room_http.proofs.{Runs.nothing-done, Telling.{Replies, answers-whole, fails-whole}}
use Rattle.room_http.proofs.Telling.{nothing-sent, refused-tells, replied-tells, replies-stepped}
use Rattle.room_http.proofs.{Telling.{within-fault, within-write}, Near.{near-message, near-rest}}
use Rattle.room_http.proofs.KnownBytes.{Came-then, Consumes-none}
use Rattle.room_http.specs.declared.{next.NextMessage.NextMessage, ended.{Ended.Ended, Cause.Cause}}
use Rattle.room_http.specs.declared.connection.{ExchangeFault.ExchangeFault, Connection.Connection}
use Rattle.room_http.specs.declared.{connection.Wrote.Wrote, refusal.Refusal.Refusal}
use Rattle.room_http.specs.declared.response.{Lost.Lost, Response.Response}
use Rattle.room_http.specs.{Limits.{max_messages, read_size}, Message.{Message, print_message}}
use Rattle.room_http.specs.{Message.{IsRefusedHead, IsPart, asked}, Text.refusal_reply}
use Rattle.room_http.specs.Stream.{DeskRuns, Last, answer_text, events_at, events_by, says_close}
use Rattle.room_http.specs.{Spans.Came, Serve.{Snapshot, Next, BlamesText, IsNearHead, seen}}
use Rattle.room_http.specs.Exchange.{ExchangesOpen, ExchangesLast, ExchangesStop, Exchanges}
use Rattle.room_http.specs.{Exchange.WholeNext, Answer.{ActedIf, Responds}}
use Rattle.room_http.specs.Tell.{StopsWithin, Tells}
use Rattle.room_entry.proofs.Facts.KnownBytes.{Appends-none}

-- the message asks what its copied head and its body ask
asks-the-same : (buf : List ℕ) (next : NextMessage) (w : WholeNext buf next)
    → request_of next.head (slice_range buf next.start next.end) ≡ asked w.message
asks-the-same buf next w = grind (arith, nat_tests)

pub responds-to : {D : Type 0} (d : Ghosts D) (moment : ℤ) (old new : D) (buf : List ℕ)
    (next : NextMessage) (w : WholeNext buf next) (bytes : List ℕ) (close : Bool)
    (response : Result Response Lost) → bytes ≡ buf
    → Responds d moment old new close
    (request_of next.head (slice_range bytes next.start next.end)) response
    → Responds d moment old new close (asked w.message) response
responds-to d moment old new buf next w bytes close response same responds =
    grind (arith, nat_tests, asks-the-same)

pub closes-the-same : (buf : List ℕ) (next : NextMessage) (w : WholeNext buf next) (n : ℕ)
    (close : Bool)
    → close ≡ (asks_close next.head || ((n + 1) == max_messages)) → says_close w.message n ≡ close
closes-the-same buf next w n close e =
    ap (λ (h : Head). asks_close h || ((n + 1) == max_messages)) (sym w.head) ∙ sym e

or-first : (a b : Bool) → (a || b) ≡ false → a ≡ false
or-first true b h = h
or-first false b h = refl

or-second : (a b : Bool) → (a || b) ≡ false → b ≡ false
or-second true true h = h
or-second true false h = refl
or-second false b h = h

not-last : (n : ℕ) → n < max_messages → ((n + 1) == max_messages) ≡ false → n + 1 < max_messages
not-last n few off = grind (arith, nat_tests)

-- one exchange of a run
did-one : {D : Type 0} (d : Ghosts D) (moment : ℤ) (old new : D) (m : Message)
    (reply : Option Reply) → DeskRuns d old [] (events_at moment (asked m) reply) new
    → DeskRuns d old [] (events_by moment (record { message = m; reply = reply } ∷ [])) new
did-one d moment old new m reply did = grind (arith, nat_tests, append-nil)

take-open : {D : Type 0} (d : Ghosts D) (moment : ℤ) (n : ℕ) (old new : Snapshot D)
    (buf : List ℕ) (connection : Connection)
    (next : NextMessage) (w : WholeNext buf next)
    (reply : Option Reply) → n < max_messages → length buf < next.end + read_size
    → new.left ≡ old.left → says_close w.message n ≡ false
    → connection.inbox.buf.items ≡ drop next.end buf → connection.answered ≡ n + 1
    → Replies d moment old.desk new.desk (asked w.message) reply
    → Appends old.sent new.sent (answer_text false (asked w.message) reply)
    → ExchangesOpen d moment n old new buf connection
take-open d moment n old new buf connection next w reply few near same stays rest counts r wrote =
    let m = w.message in
    let after = connection.inbox.buf.items in
    let L : Option (List ℕ) → Type 0 = λ l. Came old.left l buf (print_message m ++ after) in
    let whole : print_message m ++ after ≡ buf = search (rules, m, rest, w.whole) in
    let off : ((n + 1) == max_messages) ≡ false = search (rules, or-second, stays) in
    record {
      x = record { message = m; reply = reply };
      is_open = search (rules, w.is, r.agrees, stays, or-first);
      more = not-last n few off;
      counts = counts;
      came = subst L (sym same) ([], Consumes-none old.left, whole ∙ sym (append-nil buf));
      near = near-rest buf after next.end rest near;
      writes = wrote;
      did = did-one d moment old.desk new.desk m reply r.did;
      faults = r.faults;
    }

came-same : (u v : Option (List ℕ)) (buf : List ℕ) → v ≡ u → Came u v buf buf
came-same u v buf e = search (rules, e)

take-closing : {D : Type 0} (d : Ghosts D) (moment : ℤ) (n : ℕ) (old new : Snapshot D)
    (buf : List ℕ)
    (next : NextMessage) (w : WholeNext buf next)
    (reply : Option Reply) → length buf < next.end + read_size → new.left ≡ old.left
    → says_close w.message n ≡ true
    → Replies d moment old.desk new.desk (asked w.message) reply
    → Appends old.sent new.sent (answer_text true (asked w.message) reply)
    → ExchangesLast d moment n old new buf Ended.Closed
take-closing d moment n old new buf next w reply near same close r wrote =
    let m = w.message in
    record {
      last = Last.Closing (record { message = m; reply = reply });
      is = refl;
      rest = buf;
      came = came-same old.left new.left buf same;
      ends = (record { message = w.is; agrees = r.agrees }, close, (drop next.end buf, w.whole));
      near = near-message buf next w near;
      writes = wrote;
      at_end = tt;
      did = did-one d moment old.desk new.desk m reply r.did;
      faults = r.faults;
    }

-- a whole reply, whatever it says of the connection
pub take-answered : {D : Type 0} (d : Ghosts D) → DeskLaws d.Outlasts → (moment : ℤ) (n : ℕ)
    (old new : Snapshot D) (buf : List ℕ) (connection : Connection)
    (next : NextMessage) (w : WholeNext buf next)
    (close : Bool) (ended : Option Ended) (response : Result Response Lost) → n < max_messages
    → length buf < next.end + read_size → new.left ≡ old.left
    → says_close w.message n ≡ close
    → (close ≡ true → ended ≡ Some Ended.Closed)
    → (close ≡ false → (ended ≡ None) × (connection.inbox.buf.items ≡ drop next.end buf))
    → (close ≡ false → connection.answered ≡ n + 1)
    → Responds d moment old.desk new.desk close (asked w.message) response
    → Tells response old.sent new.sent (Ok Wrote.Answered)
    → Exchanges d moment n old new buf connection (Ok ended)
take-answered d laws moment n old new buf connection next w true ended response few near same says
    closing staying counts responds tells =
    let all = answers-whole d moment old.desk new.desk laws true (asked w.message) old.sent
    new.sent response responds tells in
    subst (λ (e : Option Ended). Exchanges d moment n old new buf connection (Ok e))
    (sym (closing refl))
    (take-closing d moment n old new buf next w all.0 near same says all.1 all.2)
take-answered d laws moment n old new buf connection next w false ended response few near same says
    closing staying counts responds tells =
    let stays = staying refl in
    let all = answers-whole d moment old.desk new.desk laws false (asked w.message) old.sent
    new.sent response responds tells in
    subst (λ (e : Option Ended). Exchanges d moment n old new buf connection (Ok e)) (sym stays.0)
    (take-open d moment n old new buf connection next w all.0 few near same says stays.1
    (counts refl) all.1 all.2)

pub take-failed : {D : Type 0} (d : Ghosts D) (moment : ℤ) (n : ℕ) (old new : Snapshot D)
    (buf : List ℕ)
    (next : NextMessage) (w : WholeNext buf next) (close : Bool) (response : Result Response Lost)
    → length buf < next.end + read_size → new.left ≡ old.left
    → Responds d moment old.desk new.desk close (asked w.message) response
    → Tells response old.sent new.sent (Ok Wrote.Failed)
    → ExchangesLast d moment n old new buf Ended.Closed
take-failed d moment n old new buf next w close response near same responds tells =
    let f = fails-whole d moment old.desk new.desk close (asked w.message) old.sent new.sent
    response responds tells in
    record {
      last = Last.Failed w.message;
      is = refl;
      rest = buf;
      came = came-same old.left new.left buf same;
      ends = (w.is, f.0.asks, (drop next.end buf, w.whole));
      near = near-message buf next w near;
      writes = f.1;
      at_end = tt;
      did = f.0.did;
      faults = f.0.faults;
    }

module _ {D : Type 0} (d : Ghosts D) (moment : ℤ) (n : ℕ) (old new : Snapshot D) (buf : List ℕ)
    (next : NextMessage) (w : WholeNext buf next) (close : Bool) (stop : ExchangeFault)
    (near : length buf < next.end + read_size) (same : new.left ≡ old.left)
    (says : says_close w.message n ≡ close) where
  -- the writer failed within a reply, or there was no memory for it
  stop-telling : (reply : Option Reply)
      → Replies d moment old.desk new.desk (asked w.message) reply
      → StopsWithin old.sent new.sent (answer_text close (asked w.message) reply) stop.cause
      → stop.acted ≡ is_some reply → ExchangesStop d moment n old new buf stop
  stop-telling reply r within acted =
      let m = w.message in
      record {
        next = Next.Exchanging (record { message = m; reply = reply }) close;
        rest = buf;
        came = came-same old.left new.left buf same;
        is_next = search (rules, r.agrees);
        near = near-message buf next w near;
        writes = within.0;
        acted = acted;
        cause = within.1;
        did = did-one d moment old.desk new.desk m reply r.did;
        faults = r.faults;
      }

  -- memory ran out, before the desk acted or after it
  stop-lost : DeskLaws d.Outlasts → (acted : Bool)
      → ActedIf d moment old.desk new.desk acted (asked w.message) → new.sent ≡ old.sent
      → stop.cause ≡ Cause.Memory → stop.acted ≡ acted → ExchangesStop d moment n old new buf stop
  stop-lost laws true a wrote why acted =
      let text = answer_text close (asked w.message) (Some a.0) in
      stop-telling (Some a.0)
      (replies-stepped d moment old.desk new.desk (asked w.message) a.0 a.1) (
        ([], text, refl, nothing-sent old.sent new.sent wrote),
        subst (λ (k : Cause). BlamesText k [] text) (sym why) refl,
      ) acted
  stop-lost laws false a wrote why acted =
      record {
        next = Next.Unknown;
        rest = buf;
        came = came-same old.left new.left buf same;
        is_next = tt;
        near = tt;
        writes = ([], [], refl, nothing-sent old.sent new.sent wrote);
        acted = acted;
        cause = search (rules, why);
        did = search (rules, a, nothing-done, laws);
        faults = ap d.faults a;
      }

  pub take-stop : DeskLaws d.Outlasts → (response : Result Response Lost)
      → Responds d moment old.desk new.desk close (asked w.message) response
      → Tells response old.sent new.sent (Err stop) → ExchangesStop d moment n old new buf stop
  take-stop laws (Ok (Response.Refused text)) responds t =
      let a =
      refused-tells d moment old.desk new.desk laws close (asked w.message) text.items responds in
      stop-telling None a.0 (within-write _ _ _ _ _ a.1 t.1 t.0) t.2
  take-stop laws (Ok (Response.Replied text)) responds t =
      let a = replied-tells d moment old.desk new.desk close (asked w.message) text responds in
      stop-telling (Some a.0) a.1 (within-write _ _ _ _ _ a.2 t.1 t.0) t.2
  take-stop laws (Ok Response.Fault) f t =
      let within = within-fault old.sent new.sent stop.cause t.1 t.0 in
      record {
        next = Next.Failing w.message;
        rest = buf;
        came = came-same old.left new.left buf same;
        is_next = (w.is, f.asks, (drop next.end buf, w.whole));
        near = near-message buf next w near;
        writes = within.0;
        acted = t.2;
        cause = within.1;
        did = f.did;
        faults = f.faults;
      }
  take-stop laws (Err lost) acted t = stop-lost laws lost.acted acted t.0 t.1 t.2

-- an exchange after more bytes came
pub shift : {D : Type 0} (d : Ghosts D) (moment : ℤ) (n : ℕ) (left mid sent : Option (List ℕ))
    (desk : D) (new : Snapshot D)
    (buf came : List ℕ) (connection : Connection) (result : Result (Option Ended) ExchangeFault)
    → Came left mid buf came
    → Exchanges d moment n (seen mid sent desk) new
    came connection result
    → Exchanges d moment n (seen left sent desk) new
    buf connection result
shift d moment n left mid sent desk new buf came connection (Ok None) more t = record {
  x = t.x;
  is_open = t.is_open;
  more = t.more;
  counts = t.counts;
  came =
      Came-then left mid new.left buf came
      (print_message t.x.message ++ connection.inbox.buf.items) more t.came;
  near = t.near;
  writes = t.writes;
  did = t.did;
  faults = t.faults;
}
shift d at n left mid sent desk new buf came connection (Ok (Some ended)) more t = record {
  last = t.last;
  is = t.is;
  rest = t.rest;
  came = Came-then left mid new.left buf came t.rest more t.came;
  ends = t.ends;
  near = t.near;
  writes = t.writes;
  at_end = t.at_end;
  did = t.did;
  faults = t.faults;
}
shift d at n left mid sent desk new buf came connection (Err stop) more t = record {
  next = t.next;
  rest = t.rest;
  came = Came-then left mid new.left buf came t.rest more t.came;
  is_next = t.is_next;
  near = t.near;
  writes = t.writes;
  acted = t.acted;
  cause = t.cause;
  did = t.did;
  faults = t.faults;
}

pub ends-refused : {D : Type 0} (d : Ghosts D) → DeskLaws d.Outlasts → (moment : ℤ) (n : ℕ)
    (left mid sent wrote : Option (List ℕ)) (desk : D)
    (buf came : List ℕ) (connection : Connection) (reason : Refusal)
    (result : Result (Option Ended) ExchangeFault)
    → Came left mid buf came → IsRefusedHead came reason → IsNearHead came
    → IfOk result (λ ended. (ended ≡ Some Ended.Closed) × Appends sent wrote (refusal_reply reason))
    → IfErr result (λ stop. (stop.acted ≡ false)
    × StopsWithin sent wrote (refusal_reply reason) stop.cause)
    → Exchanges d moment n (seen left sent desk)
    (seen mid wrote desk) buf connection result
ends-refused d laws moment n left mid sent wrote desk buf came connection reason
    (Ok None) more is near ok err =
    absurd (none-some _ ok.0)
ends-refused d laws moment n left mid sent wrote desk buf came connection reason
    (Ok (Some ended)) more is near ok err =
    record {
      last = Last.Refused reason;
      is = same_Some ended Ended.Closed ok.0;
      rest = came;
      came = more;
      ends = is;
      near = near;
      writes = ok.1;
      at_end = tt;
      did = nothing-done d laws desk;
      faults = refl;
    }
ends-refused d laws moment n left mid sent wrote desk buf came connection reason
    (Err stop) more is near ok err =
    record {
      next = Next.Refusing reason;
      rest = came;
      came = more;
      is_next = is;
      near = near;
      writes = err.1.0;
      acted = err.0;
      cause = err.1.1;
      did = nothing-done d laws desk;
      faults = refl;
    }

-- the input ended
pub ends-clean : {D : Type 0} (d : Ghosts D) → DeskLaws d.Outlasts → (moment : ℤ) (n : ℕ)
    (left mid sent : Option (List ℕ)) (desk : D)
    (buf came : List ℕ) → Came left mid buf came → IsAtEnd mid × (came ≡ [])
    → ExchangesLast d moment n (seen left sent desk)
    (seen mid sent desk) buf Ended.Clean
ends-clean d laws moment n left mid sent desk buf came more e = record {
  last = Last.Clean;
  is = refl;
  rest = came;
  came = more;
  ends = e.1;
  near = tt;
  writes = Appends-none sent;
  at_end = e.0;
  did = nothing-done d laws desk;
  faults = refl;
}

pub ends-cut : {D : Type 0} (d : Ghosts D) → DeskLaws d.Outlasts → (moment : ℤ) (n : ℕ)
    (left mid sent : Option (List ℕ)) (desk : D)
    (buf came : List ℕ) → Came left mid buf came → IsAtEnd mid × IsPart came
    → ExchangesLast d moment n (seen left sent desk)
    (seen mid sent desk) buf Ended.Cut
ends-cut d laws moment n left mid sent desk buf came more e = record {
  last = Last.Cut;
  is = refl;
  rest = came;
  came = more;
  ends = e.1;
  near = tt;
  writes = Appends-none sent;
  at_end = e.0;
  did = nothing-done d laws desk;
  faults = refl;
}
