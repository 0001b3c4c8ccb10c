-- Connections one after another, up to one that leaves the desk shut.
use Rattle.std.proofs.Common.{◌≡◌, ℕ, ℤ, ◌+◌, ◌<◌, Bool, true, false, List, [], ◌∷◌, ◌++◌, length}
use Rattle.std.proofs.Common.{Ok, Err, IfErr, IsTrue, Option, Result, subst, sym, refl, inl, inr, ◌∙◌}
use Rattle.std.proofs.{Common.{add-one, arith}, lemmas.List.{length-append, Elements.All-nil}}
use Rattle.std.specs.{Io.KnownBytes.Appends, List.list_any}
use Rattle.cli_outcome.specs.{Written.WritesSome, declared.listen.ListenAddress.ListenAddress}
use Rattle.room_machine.specs.{declared.desk.Desk.Ghosts, Desk.{Agrees, DeskLaws}}
use Rattle.room_machine.proofs.Meeting.{closed_still}
use Rattle.room_rows.specs.{Content.Content, Rows.Rows}
use Rattle.room_http.{specs.{Stream.DeskRuns, declared.ended.Cause.Cause}, proofs.Runs.nothing-done}
use Rattle.cli_listen.specs.Lines.{TellsAddress, TellsEach, TellsFaults, TellsFirst, TellsOf}
use Rattle.cli_listen.specs.{Lines.{Writing, had_fault}, Peers.{Act, Adds}, Listening.{Deed, site_of}}
use Rattle.cli_listen.specs.Staying.{Passes, PassesEach}
use Rattle.cli_listen.specs.Staying.{PassesUntil, Served, ServedAt, ServedHere, TellsShut}
use Rattle.cli_listen.specs.Visits.{IsEnd, IsServedVisit, Receives, ReceivesAll, ReceivesOne}
use Rattle.cli_listen.specs.Visits.{Sources, acts_of, end_acts, sources, until}
use Rattle.cli_listen.{specs.declared.fault.ServingFault.ServingFault, proofs.Receiving.at_end}
use Rattle.cli_listen.proofs.Receiving.{fewer, no_more, nobody, one_more, others, told_on}
use Rattle.cli_listen.proofs.Told.{told_next, told_no_more}

-- of no connection nothing is told
none_told : (err : Option (List ℕ)) (fault : ServingFault) → TellsFaults [] err err (Err fault)
none_told err ServingFault.Memory = refl
none_told err ServingFault.File = (refl, inl refl)
none_told err ServingFault.Net = refl
none_told err ServingFault.Desk = refl

module _ {D : Type 0} (d : Ghosts D) (laws : DeskLaws d.Outlasts) where
  -- asking leaves what is kept
  pub rests : (old new : D) → (d.trusted new → d.trusted old)
      → (d.trusted new → (room : Content) → d.content old room → d.content new room)
      → (d.trusted new → d.sound old → d.sound new)
      → (d.trusted new → (rows : Rows) → d.stored old rows → d.stored new rows)
      → d.Outlasts old [] [] new → DeskRuns d old [] [] new
  rests old new trusted kept sound held outlasts = record {
    trusted = trusted;
    sound = sound;
    run = λ t s room is. (room, refl, kept t room is);
    closed = λ t. closed_still (d.stored old) (d.stored new) (held t);
    outlasts = outlasts;
  }

  -- what the desk has told of itself
  pub tells : (old new : D) (shut : Bool) → Agrees (d.trusted new) (d.shut new) shut
      → TellsShut d old new shut
  tells old new true is = is
  tells old new false is = inl is

  -- one connection more
  pub stays_on : (n : ℕ) (old mid new : D) (shut : Bool) → PassesEach d n old mid
      → Passes d mid new shut → shut ≡ false → PassesEach d (n + 1) old new
  stays_on n old mid new shut before leaves is =
      grind (arith, mid, new, is, leaves, old, add-one, before)

  -- no connection came, nothing was printed of one, and this was the end
  pub unserved : (address : ListenAddress) (count : ℕ) (from to : Sources) (desk : D)
      (fault : ServingFault)
      (out out' err : Option (List ℕ))
      → ((before : List ℤ) → from.told before → to.told (before ++ [])) → Adds from.did to.did []
      → end_acts (Err fault) ≡ [] → TellsFirst address 0 (Err fault) out out'
      → IsEnd count (Err fault) 0 → PassesUntil d 0 desk desk (Err fault)
      → ServedAt d address count from to desk desk out out' err err (Err fault)
  unfolding at_end nobody
  unserved address count from to desk fault out out' err moments acts none wrote says stays =
      record {
        served = record {
          receives =
              at_end d laws count from to desk desk (Err fault) none
              (nobody d laws count from to desk moments acts);
          end_says = says;
          stays = stays;
          faults = none_told err fault;
        };
        first = wrote;
      }

  -- the address couldn't be had
  pub refused_at : (address : ListenAddress) (count : ℕ) (told : List ℤ → Type 0)
      (did did' : List Deed → Type 0) (desk : D) (out err : Option (List ℕ))
      → Adds did did' (Deed.Refused (site_of address) ∷ [])
      → ServedHere d address count told told did did' desk desk out out err err
      (Err ServingFault.Net)
  refused_at address count told did did' desk out err asked = record {
    visits = [];
    few = omega arith;
    each = All-nil IsServedVisit;
    moments = no_more told;
    runs = nothing-done d laws desk;
    stays = refl;
    faults = refl;
    listens = inl (record { asked = asked; nobody = refl; end_is = refl; untold = refl });
  }

  module _ (number count : ℕ) (from via : Sources) (old mid : D)
      (first : ReceivesAll d number from via old mid) (stays : PassesEach d number old mid)
      (err err' : Option (List ℕ)) where
    -- as many came as were to come
    stays_all : (visits : ℕ) → number ≡ count → visits ≡ number → PassesEach d visits old mid
    stays_all visits is all = subst (λ (n : ℕ). PassesEach d n old mid) (sym all) stays

    pub all_served : number ≡ count → TellsEach Appends 0 first.0.visits err err'
        → Served d count from via old mid err err' (Ok tt)
    unfolding at_end fewer
    all_served is lines = record {
      receives =
          at_end d laws count from via old mid (Ok tt) refl
          (fewer d laws number count from via old mid (omega (arith, is)) first.0);
      end_says = first.1 ∙ is;
      stays = stays_all _ is first.1;
      faults = lines;
    }

    -- all came, and a line couldn't be printed
    pub untold : number ≡ count → TellsEach WritesSome 0 first.0.visits err err'
        → IsTrue (list_any had_fault first.0.visits)
        → Served d count from via old mid err err' (Err ServingFault.File)
    unfolding at_end fewer
    untold is lines due = record {
      receives =
          at_end d laws count from via old mid (Err ServingFault.File) refl
          (fewer d laws number count from via old mid (omega (arith, is)) first.0);
      end_says = inl (first.1 ∙ is);
      stays = stays_all _ is first.1;
      faults = (lines, inr due);
    }

    -- the listener failed before all connections came
    pub missing : (to : Sources) (new : D) (fault : ServingFault) → number < count
        → TellsEach WritesSome 0 first.0.visits err err'
        → (fault ≡ ServingFault.Net) × (new ≡ mid)
        × Receives d 0 via (until (Err ServingFault.Net) to) mid new
        → Served d count from to old new err err' (Err fault)
    unfolding fewer others
    missing to new fault more lines end =
        let last = until (Err ServingFault.Net) to in
        let all = others d laws number 0 from via last old mid new first.0 end.2 in
        let none = end.2.few in
        let visits : length all.visits ≡ number =
        omega (arith, length-append first.0.visits end.2.visits, first.1, none) in
        let here : PassesEach d (length all.visits) old new =
        subst (λ (n : ℕ). PassesEach d n old new) (sym visits)
        (subst (λ (desk : D). PassesEach d number old desk) (sym end.1) stays) in
        let net : Served d count from to old new err err' (Err ServingFault.Net) = record {
          receives = fewer d laws (number + 0) count from last old new (omega (arith, more)) all;
          end_says = omega (arith, visits, more);
          stays = here;
          faults = told_no_more WritesSome first.0.visits end.2.visits err err' none lines;
        } in
        subst (λ (f : ServingFault). Served d count from to old new err err' (Err f))
        (sym end.0) net

    -- the lines, with that of one connection more
    pub lines_then : (Tells : Writing) (to : Sources) (new : D) (fault : Option Cause)
        (err'' : Option (List ℕ)) (next : ReceivesOne d fault via to mid new)
        → TellsEach Tells 0 first.0.visits err err' → TellsOf Tells (number + 1) fault err' err''
        → TellsEach Tells 0 (one_more d laws number from via to old mid new fault first next).0.visits
        err err''
    unfolding one_more others
    lines_then Tells to new fault err'' next before now =
        told_next Tells 0 number first.0.visits next.receives.visits next.visit fault err err' err''
        before next.only next.ended (omega (arith, first.1)) now

    -- a connection left the desk shut
    pub left_shut : (to : Sources) (new : D) (fault : Option Cause) (shut : Bool)
        (err'' : Option (List ℕ)) → number < count
        → TellsEach WritesSome 0 first.0.visits err err'
        → TellsOf WritesSome (number + 1) fault err' err''
        → ReceivesOne d fault via to mid new → Passes d mid new shut → shut ≡ true
        → Served d count from to old new err err'' (Err ServingFault.Desk)
    unfolding at_end fewer
    left_shut to new fault shut err'' more before now next leaves is =
        let all = one_more d laws number from via to old mid new fault first next in
        record {
          receives =
              at_end d laws count from to old new (Err ServingFault.Desk) refl
              (fewer d laws (number + 1) count from to old new (omega (arith, more)) all.0);
          end_says = let visits = all.1 in omega (arith, visits);
          stays =
              (number, all.1, (mid, stays, subst (λ (b : Bool). Passes d mid new b) is leaves));
          faults = lines_then WritesSome to new fault err'' next before now;
        }

-- the whole line of the address is enough, unless memory ran out before it
pub first_told : (address : ListenAddress) (visits : ℕ) (end : Result (Unit {0}) ServingFault)
    (old new : Option (List ℕ)) → IfErr end (λ fault. fault ≡ ServingFault.Memory → ⊥)
    → TellsAddress address old new → TellsFirst address visits end old new
first_told address visits (Ok done) old new begun whole = whole
first_told address visits (Err ServingFault.Memory) old new begun whole = absurd (begun refl)
first_told address visits (Err ServingFault.File) old new begun whole = inr whole
first_told address visits (Err ServingFault.Net) old new begun whole = whole
first_told address visits (Err ServingFault.Desk) old new begun whole = whole

-- A listener that has done nothing yet served, and was given back: all that it did came of that.
pub by_listener : {D L : Type 0} (d : Ghosts D) (address : ListenAddress) (count : ℕ)
    (told told' : List ℤ → Type 0) (did : L → List Act → Type 0) (first last : L)
    (deeds bound closed : List Deed → Type 0) (old new : D)
    (out out' err err' : Option (List ℕ)) (end : Result (Unit {0}) ServingFault)
    → Adds deeds bound (Deed.Bound (site_of address) ∷ []) → did first []
    → ((acts : List Act) → did last acts → Adds bound closed (Deed.Closed acts ∷ []))
    → ServedAt d address count (sources told (did first)) (sources told' (did last)) old new
    out out' err err' end
    → ServedHere d address count told told' deeds closed old new out out' err err' end
by_listener d address count told told' did first last deeds bound closed old new out out' err err'
    end binds begins closes at =
    let r = at.served.receives in
    let acts = acts_of r.visits ++ end_acts end in
    record {
      visits = r.visits;
      few = r.few;
      each = r.each;
      moments = r.moments;
      runs = r.did;
      stays = at.served.stays;
      faults = at.served.faults;
      listens = inr (record {
        acts =
            told_on deeds bound closed (Deed.Bound (site_of address) ∷ []) (Deed.Closed acts ∷ []) _
            refl binds (closes acts (r.acts [] begins));
        end_says = at.served.end_says;
        first = at.first;
      });
    }
