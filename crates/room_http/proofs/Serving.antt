-- A connection, exchange by exchange.
use Rattle.std.proofs.Common.{rules, ◌≡◌, ℕ, ℤ, ◌+◌, ◌<◌, true, false, length, List, [], ◌∷◌, ◌++◌}
use Rattle.std.proofs.Common.{refl, sym, ap, subst, ◌∙◌, append_assoc, arith}
use Rattle.std.proofs.lemmas.List.{append-nil, length-append, Elements.{All-append, All-nil}}
use Rattle.std.proofs.lemmas.{List.Elements.All-from_recursion, Grind.flat_map-append}
use Rattle.std.specs.Io.KnownBytes.{Appends}
use Rattle.room_machine.specs.{declared.desk.Desk.Ghosts, Desk.DeskLaws, Run.Asking}
use Rattle.room_http.proofs.{Runs.{exchanged-then, nothing-done}, KnownBytes.Consumes-then}
use Rattle.room_http.proofs.KnownBytes.{Consumes-none}
use Rattle.room_http.specs.declared.ended.{Ended.Ended, ServeFault.ServeFault}
use Rattle.room_http.specs.declared.connection.{Connection.Connection, ExchangeFault.ExchangeFault}
use Rattle.room_http.specs.{Limits.max_messages, Message.print_message, Stream.{Exchange, IsOpen}}
use Rattle.room_http.specs.Stream.{exchange_text, bytes_of, texts_of, last_text, DeskRuns, Last}
use Rattle.room_http.specs.Stream.{events_by, last_asking, last_exchange, EndsStream}
use Rattle.room_http.specs.Serve.{Snapshot, FaultsRose, Serves, Stops, Connects, Next, next_asking}
use Rattle.room_http.specs.Serve.{next_exchange, next_text, IsNext, NextRose, NearLast, NearNext}
use Rattle.room_http.specs.Exchange.{Along, ExchangesOpen, ExchangesLast, ExchangesStop}
use Rattle.room_entry.proofs.Facts.KnownBytes.{Appends-then, Appends-none}

pub Along-begin : {D : Type 0} (d : Ghosts D) → DeskLaws d.Outlasts → (moment : ℤ)
    (old : Snapshot D) → Along d moment 0 old old []
Along-begin d laws moment old = record {
  read = [];
  exchanges = [];
  reads = Consumes-none old.left;
  opens = record { whole = refl; each = All-nil IsOpen };
  count = refl;
  few = omega arith;
  near = omega arith;
  writes = Appends-none old.sent;
  did = nothing-done d laws old.desk;
  faults = refl;
}

-- the bytes of one more exchange
bytes-then : (read buf more after : List ℕ) (xs : List Exchange) (x : Exchange)
    → read ≡ bytes_of xs ++ buf → print_message x.message ++ after ≡ buf ++ more
    → read ++ more ≡ bytes_of (xs ++ x ∷ []) ++ after
bytes-then read buf more after xs x whole came =
    grind (arith, x, flat_map-append, append-nil, whole, append_assoc, came)

-- the bytes of what ends the connection
bytes-last : (read buf more rest : List ℕ) (xs : List Exchange)
    → read ≡ bytes_of xs ++ buf → rest ≡ buf ++ more → read ++ more ≡ bytes_of xs ++ rest
bytes-last read buf more rest xs whole came = grind (arith, whole, append_assoc, came)

-- a connection so far, and what comes then
module _ {D : Type 0} (d : Ghosts D) (laws : DeskLaws d.Outlasts) (moment : ℤ) (n : ℕ)
    (old mid new : Snapshot D) (buf : List ℕ) (a : Along d moment n old mid buf) where
  did-then : (ys : List Exchange) (asked : List Asking)
      → DeskRuns d mid.desk asked (events_by moment ys) new.desk
      → DeskRuns d old.desk asked (events_by moment (a.exchanges ++ ys)) new.desk
  did-then ys asked then =
      exchanged-then d laws old.desk mid.desk new.desk moment a.exchanges ys asked a.did then

  pub Along-then : (connection : Connection) → ExchangesOpen d moment n mid new buf connection
      → Along d moment connection.answered old new connection.inbox.buf.items
  Along-then connection t =
      let after = connection.inbox.buf.items in
      let xs = a.exchanges in
      let x = t.x in
      let text : List ℕ = exchange_text false x in
      let one : texts_of (xs ++ x ∷ []) ≡ texts_of xs ++ text =
      grind (arith, flat_map-append, xs, x, append-nil, text) in
      let W : List ℕ → Type 0 = λ k. Appends old.sent new.sent k in
      let along : Along d moment (n + 1) old new after = record {
        read = a.read ++ t.came.0;
        exchanges = xs ++ x ∷ [];
        reads = Consumes-then old.left mid.left new.left a.read t.came.0 a.reads t.came.1;
        opens = record {
          whole = bytes-then a.read buf t.came.0 after xs x a.opens.whole t.came.2;
          each =
              All-append IsOpen xs (x ∷ []) a.opens.each
              (All-from_recursion IsOpen (x ∷ []) (t.is_open, tt));
        };
        few = t.more;
        near = t.near;
        count = ap (λ k. k + 1) a.count ∙ sym (length-append xs (x ∷ []));
        writes =
            subst W (sym one) (Appends-then old.sent mid.sent new.sent
            (texts_of xs) text a.writes t.writes);
        did = did-then (x ∷ []) [] t.did;
        faults = t.faults ∙ a.faults;
      } in
      subst (λ k. Along d moment k old new after) (sym t.counts) along

  pub Serves-from : (ended : Ended) → ExchangesLast d moment n mid new buf ended
      → Serves d moment old new ended
  Serves-from ended t =
      let F : ℕ → Type 0 = λ f. FaultsRose t.last f (d.faults new.desk) in
      let E : ℕ → Type 0 = λ k. EndsStream t.rest k t.last in
      record {
        exchanges = a.exchanges;
        last = t.last;
        talks = record {
          read = a.read ++ t.came.0;
          reads = Consumes-then old.left mid.left new.left a.read t.came.0 a.reads t.came.1;
          stream = grind (arith, t.rest, bytes-last, t.came.0, t.came.2, t.ends);
          near = t.near;
          writes =
              Appends-then old.sent mid.sent new.sent (texts_of a.exchanges)
              (last_text t.last) a.writes t.writes;
          at_end = t.at_end;
        };
        ended_is = t.is;
        did = did-then (last_exchange t.last) (last_asking moment t.last) t.did;
        faults = subst F a.faults t.faults;
      }

  pub Stops-from : (stop : ExchangeFault) (fault : ServeFault) → fault.answered ≡ n
      → fault.acted ≡ stop.acted → fault.cause ≡ stop.cause
      → ExchangesStop d moment n mid new buf stop
      → Stops d moment old new fault
  Stops-from stop fault answered acted cause t =
      let N : ℕ → Type 0 = λ k. IsNext t.rest k t.next in
      let F : ℕ → Type 0 = λ f. NextRose t.next f (d.faults new.desk) in
      record {
        connects = record {
          exchanges = a.exchanges;
          next = t.next;
          talks = record {
            read = a.read ++ t.came.0;
            rest = t.rest;
            reads = Consumes-then old.left mid.left new.left a.read t.came.0 a.reads t.came.1;
            opens = search (rules, bytes-last, t.came.2);
            few = subst (λ k. k < max_messages) a.count a.few;
            is_next = subst N a.count t.is_next;
            near = t.near;
            begun = t.writes.0;
            beginning = (t.writes.1, t.writes.2);
            writes =
                Appends-then old.sent mid.sent new.sent
                (texts_of a.exchanges) t.writes.0 a.writes t.writes.3;
          };
          did = did-then (next_exchange t.next) (next_asking moment t.next) t.did;
          faults = subst F a.faults t.faults;
        };
        answered = answered ∙ a.count;
        acted = acted ∙ t.acted;
        cause = search (rules, cause, t.cause);
      }

-- ---- however it ended

-- what came next where the connection ended so
abbrev next_of : Last → Next
next_of Last.Clean = Next.Unknown
next_of Last.Cut = Next.Unknown
next_of (Last.Refused refusal) = Next.Refusing refusal
next_of (Last.Closing x) = Next.Exchanging x true
next_of (Last.Failed m) = Next.Failing m

is-next-of : (last : Last) (rest : List ℕ) (n : ℕ) → EndsStream rest n last
    → IsNext rest n (next_of last)
is-next-of Last.Clean rest n e = tt
is-next-of Last.Cut rest n e = tt
is-next-of (Last.Refused refusal) rest n e = e
is-next-of (Last.Closing x) rest n e = e
is-next-of (Last.Failed m) rest n e = e

near-next-of : (last : Last) (rest : List ℕ) → NearLast last rest → NearNext (next_of last) rest
near-next-of Last.Clean rest e = tt
near-next-of Last.Cut rest e = tt
near-next-of (Last.Refused refusal) rest e = e
near-next-of (Last.Closing x) rest e = e
near-next-of (Last.Failed m) rest e = e

next-text-of : (last : Last) → next_text (next_of last) ≡ last_text last
next-text-of Last.Clean = refl
next-text-of Last.Cut = refl
next-text-of (Last.Refused refusal) = refl
next-text-of (Last.Closing x) = refl
next-text-of (Last.Failed m) = refl

next-exchange-of : (last : Last) → last_exchange last ≡ next_exchange (next_of last)
next-exchange-of Last.Clean = refl
next-exchange-of Last.Cut = refl
next-exchange-of (Last.Refused refusal) = refl
next-exchange-of (Last.Closing x) = refl
next-exchange-of (Last.Failed m) = refl

next-asking-of : (moment : ℤ) (last : Last)
    → last_asking moment last ≡ next_asking moment (next_of last)
next-asking-of moment Last.Clean = refl
next-asking-of moment Last.Cut = refl
next-asking-of moment (Last.Refused refusal) = refl
next-asking-of moment (Last.Closing x) = refl
next-asking-of moment (Last.Failed m) = refl

next-rose-of : (last : Last) (old new : ℕ) → FaultsRose last old new
    → NextRose (next_of last) old new
next-rose-of Last.Clean old new f = f
next-rose-of Last.Cut old new f = f
next-rose-of (Last.Refused refusal) old new f = f
next-rose-of (Last.Closing x) old new f = f
next-rose-of (Last.Failed m) old new f = f

pub served-connects : {D : Type 0} (d : Ghosts D) (moment : ℤ)
    (old new : Snapshot D) (ended : Ended)
    → Serves d moment old new ended → Connects d moment old new
served-connects d moment old new ended s =
    let O : List Asking → List Exchange → Type 0 = λ asked ys. DeskRuns d old.desk asked
    (events_by moment (s.exchanges ++ ys)) new.desk in
    let t = s.talks in
    record {
      exchanges = s.exchanges;
      next = next_of s.last;
      talks = record {
        read = t.read;
        rest = t.stream.rest;
        reads = t.reads;
        opens = t.stream.opens;
        few = t.stream.few;
        is_next = is-next-of s.last t.stream.rest (length s.exchanges) t.stream.ends;
        near = near-next-of s.last t.stream.rest t.near;
        begun = last_text s.last;
        beginning = ([], next-text-of s.last ∙ sym (append-nil (last_text s.last)));
        writes = t.writes;
      };
      faults = next-rose-of s.last (d.faults old.desk) (d.faults new.desk) s.faults;
      did = grind (arith, s.last, next-asking-of, next-exchange-of, s.did);
    }
