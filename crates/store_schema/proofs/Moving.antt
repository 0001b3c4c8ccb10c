-- The steps of upgrading a room, one after the other.
use Rattle.std.proofs.Common.{rules, ◌≡◌, ◌≤◌, ℕ, ℤ, pos, List, [], ◌∷◌, ◌++◌, map, filter, Option}
use Rattle.std.proofs.Common.{Some, Result, Ok, IfOk, OnOk, IsErrAnd, IsTrue, refl, sym, ap, subst}
use Rattle.std.proofs.{Common.{subst₂, ◌∙◌, arith}, lemmas.List.{append_assoc, Elements.All-append}}
use Rattle.std.proofs.lemmas.Bool.Decides.{nat_tests}
use Rattle.sqlite_trees.specs.View.{doubt}
use Rattle.sqlite.specs.{Order.{Row, column}, Tree.Trees, Effect.Database, State.State}
use Rattle.sqlite.specs.State.{HasCleanDisk}
use Rattle.room_rows.specs.declared.{keep.KeepFault.KeepFault, report.Report.TheVariants.Sound}
use Rattle.store_tables.specs.{Meaning.{IsRecord, rows_of}, Tables.no_schema, RoomRows.room_rows}
use Rattle.store_tables.specs.{Shown.{IsRoom, Retains, Stays}, Trust.IsTrusted, Within.IsWithin}
use Rattle.store_tables.{specs.Within.within_on, proofs.Calls.{counted_on, retains_same}}
use Rattle.store_tables.{specs.Counters.AreCounted, proofs.Printed.keeps_on}
use Rattle.store_schema.specs.{NewRoom.{is_version, meta_of, number_shown}, Opening.Expects}
use Rattle.store_schema.specs.{Opening.ShowsVersion, Migrating.{AnswersMigration, AreMigrated}}
use Rattle.store_schema.specs.Migrating.{IsInside, IsNoRoom, IsMigrated, RetainsOthers}
use Rattle.store_schema.specs.Migrating.{MigratesTables, SpreadIsMigrated, Stamps}
use Rattle.store_schema.specs.declared.fault.{MigrateFault.MigrateFault, OpenFault.OpenFault}

-- the number that these rows of `meta` tell
abbrev number_in_meta : List Row → Option ℤ
number_in_meta rows = number_shown (map (λ r. column r 2 ∷ []) (filter is_version rows))

-- what calls of a keeper keep to, and then the number's writing, is kept to by both
others_on : (a b c : Trees) → Retains a b → RetainsOthers b c → RetainsOthers a c
others_on a b c p q =
    record {
      meta = search (rules, q.meta, p.meta);
      more = p.more ++ q.more;
      audits = q.audits ∙ ap (λ l. l ++ q.more) p.audits ∙ append_assoc (a 7) p.more q.more;
      records = All-append IsRecord p.more q.more p.records q.records;
      counters =
          counted_on (a 8) (a 7) p.more q.more (b 8) (c 8) p.counters
          (subst (λ l. AreCounted (b 8) l q.more (c 8)) p.audits q.counters);
      texts = keeps_on (a 0) (b 0) (c 0) p.texts q.texts;
    }

-- the tables are still a room's
abbrev StillRoom : State → State → Type 0
StillRoom old new = HasCleanDisk new → IsTrue new.is_open → IsRoom old.committed → IsRoom old.now
    → IsRoom new.now

clean_before : (a b : State) → doubt a.is_clean ≤ doubt b.is_clean → HasCleanDisk b → HasCleanDisk a
clean_before a b up h = omega arith

still_on : (a b c : State) → IsWithin a b → StillRoom a b → IsWithin b c → StillRoom b c
    → StillRoom a c
still_on a b c p still q more = grind (arith, nat_tests, clean_before)

module _ (begun : State) (inside : IsTrue begun.in_transaction) where
  module _ (asked : State) (expects : Expects (pos 1) begun asked (Ok tt)) where
    -- the database answered 1
    known : (mid : State) → doubt asked.is_clean ≤ doubt mid.is_clean → HasCleanDisk mid
        → ShowsVersion (Some (pos 1)) begun.now
    known mid up now = (expects.shown (clean_before asked mid up now)).0

    not_empty : (mid : State) (r : Result (Unit {0}) MigrateFault)
        → doubt asked.is_clean ≤ doubt mid.is_clean → HasCleanDisk mid
        → begun.now.schema ≡ no_schema → IsErrAnd r IsNoRoom
    not_empty mid r up now has = absurd (expects.empty (clean_before asked mid up now) has)

    by_steps : (mid : State) (r : Result (Unit {0}) MigrateFault)
        → doubt asked.is_clean ≤ doubt mid.is_clean → IsWithin begun mid
        → (HasCleanDisk mid → IsTrue mid.is_open → IsRoom begun.committed → IsRoom begun.now
        → MigratesTables begun.now mid.now r)
        → (HasCleanDisk mid → AnswersMigration begun.now r)
        → (HasCleanDisk mid → IsTrue mid.is_open → IsRoom begun.committed → IsRoom begun.now
        → begun.now ≡ begun.committed → OnOk r (RetainsOthers begun.now.trees mid.now.trees))
        → (HasCleanDisk mid → OnOk r (IsTrue mid.is_open)) → IsInside begun mid r
    by_steps mid r up within leads shown retains opens = grind (arith, nat_tests, not_empty)

    first : IsWithin begun asked
    first = expects.within inside

    first_room : StillRoom begun asked
    first_room now open' one two = subst IsRoom (sym (expects.told now two.schema).1) two

    module _ (migrated : State) (stays : Stays asked migrated) where
      second : IsWithin begun migrated
      second = within_on begun asked migrated first stays.within

      second_room : StillRoom begun migrated
      second_room = still_on begun asked migrated first first_room stays.within stays.room

      back : HasCleanDisk migrated → HasCleanDisk asked
      back = clean_before asked migrated stays.within.clean

      trusted : HasCleanDisk migrated → IsTrue migrated.is_open → IsRoom begun.committed
          → IsRoom begun.now → IsTrusted asked migrated
      trusted now open' one two = grind (arith, nat_tests, back, first, first_room)

      module _
          (becomes : IsTrusted asked migrated
          → IfOk {E = KeepFault} (Ok Sound)
          (λ report. IsMigrated (rows_of asked.now) report (rows_of migrated.now)))
          (stamped : State) where
        third : IsWithin migrated stamped → IsWithin begun stamped
        third within = within_on begun migrated stamped second within

        module _ (count : ℕ) (stamps : Stamps migrated stamped (Ok count)) where
          third_room : StillRoom begun stamped
          third_room = grind (arith, nat_tests, second, second_room, still_on)

          module _ (end : State) (r : Result (Unit {0}) OpenFault)
              (again : Expects (pos 2) stamped end r) where
            back' : HasCleanDisk end → HasCleanDisk stamped
            back' = clean_before stamped end again.clean

            last : IsWithin stamped end
            last = grind (arith, nat_tests, back')

            all : IsWithin begun end
            all = within_on begun stamped end (third stamps.within) last

            up : doubt asked.is_clean ≤ doubt end.is_clean
            up = omega (arith, stays.within.clean, stamps.within.clean, again.clean)

          pub all_done : SpreadIsMigrated → (end : State) → Expects (pos 2) stamped end (Ok tt)
              → IsInside begun end (Ok tt)
          all_done migrated_so end again =
              by_steps end (Ok tt) (up end (Ok tt) again) (all end (Ok tt) again) leads
              (known end (up end (Ok tt) again)) retains (λ now. (again.shown now).1.1)
            where
              retains : HasCleanDisk end → IsTrue end.is_open → IsRoom begun.committed
                  → IsRoom begun.now → begun.now ≡ begun.committed
                  → RetainsOthers begun.now.trees end.now.trees
              retains now open' one two same =
                  let now3 = clean_before stamped end again.clean now in
                  let open3 = (last end (Ok tt) again).was_open now open' in
                  let room3 = third_room now3 open3 one two in
                  let now2 = clean_before migrated stamped stamps.within.clean now3 in
                  let open2 = stamps.within.was_open now3 open3 in
                  let told = expects.told (back now2) two.schema in
                  let read = again.told now room3.schema in
                  let trust = trusted now2 open2 one two in
                  let first' = first.committed (back now2) (stays.within.was_open now2 open2) in
                  let was = retains_same asked.committed asked.now
                  (told.1 ∙ same ∙ sym first') in
                  let kept : Retains begun.now.trees migrated.now.trees =
                  search (rules, now2, open2, trust.committed, was) in
                  let number : meta_of migrated.now ≡ Some (pos 1) =
                  ap number_in_meta kept.meta ∙ told.0 in
                  subst (λ (d : Database). RetainsOthers begun.now.trees d.trees) (sym read.1)
                  (search (rules, others_on, kept, now3, second_room, now2, open2, pos, number))

              leads : HasCleanDisk end → IsTrue end.is_open → IsRoom begun.committed
                  → IsRoom begun.now → MigratesTables begun.now end.now (Ok tt)
              leads now open' one two =
                  let now3 = clean_before stamped end again.clean now in
                  let open3 = (last end (Ok tt) again).was_open now open' in
                  let room3 = third_room now3 open3 one two in
                  let now2 = clean_before migrated stamped stamps.within.clean now3 in
                  let open2 = stamps.within.was_open now3 open3 in
                  let told = expects.told (back now2) two.schema in
                  let read = again.told now room3.schema in
                  let made = becomes (trusted now2 open2 one two) in
                  let room2 = second_room now2 open2 one two in
                  let rows : rows_of end.now ≡ rows_of migrated.now = ap rows_of read.1
                  ∙ (stamps.keeps now3 room2).1 in (
                    told.0,
                    subst (λ d. meta_of d ≡ Some (pos 2)) (sym read.1) read.0,
                    subst IsRoom (sym read.1) room3,
                    subst₂ AreMigrated (ap rows_of told.1) (sym rows)
                        (migrated_so (rows_of asked.now) (rows_of migrated.now)
                        (room_rows asked.now
                        (first_room (back now2) (stays.within.was_open now2 open2) one two))
                        (sym made.0)
                        (made.1 refl)),
                  )
