-- What a change of some pairs is: some leave, others join.
use Rattle.std.specs.Prelude.{◌≡◌, ◌-◌, Bool, List, ◌++◌, Vec, filter, length, not}
use Rattle.std.specs.Global.{Global}
use Rattle.std.specs.List.{list_any}
use Rattle.std.specs.Ordering.{is_eq}
use Rattle.sqlite.specs.Effect.{Database}
use Rattle.room_rows.specs.Rows.{Rows}
use Rattle.store_tables.specs.Meaning.{rows_of}
use Rattle.store_tables.specs.Paired.{Pair, pair_cmp}
use Rattle.store_admin.specs.Operating.{AreMembers, ChangesPairsAlone, ExchangesMembers}
use Rattle.store_admin.specs.Operating.{ReplacesMembers}
use Rattle.store_admin.specs.declared.changing.Changed.{Changed}

-- the pair is one of these
abbrev pub is_among : Pair → List Pair → Bool
is_among pair others = list_any (λ other. is_eq (pair_cmp pair other)) others

-- the pairs without those that leave
abbrev pub staying : List Pair → List Pair → List Pair
staying leaves pairs = filter (λ pair. not (is_among pair leaves)) pairs

-- The pairs once some have left and others have joined. One that does both is there.
abbrev pub changed : List Pair → List Pair → List Pair → List Pair
changed joins leaves pairs = staying leaves pairs ++ joins

-- The pairs of the rows are changed so, and nothing else is. What is answered counts the pairs that
-- were there and left, and those that weren't and joined; and it has all pairs that are there now.
pub record ChangesMembers (joins leaves : List Pair) (old : Rows) (answer : Changed) (new : Rows)
    : Type 0 where
  pub replaces : ReplacesMembers (changed joins leaves old.read.members) old tt new
  pub left : answer.left
      ≡ length old.read.members - length (staying leaves old.read.members)
  pub joined : answer.joined
      ≡ length new.read.members - length (staying leaves old.read.members)
  pub pairs : answer.pairs.items ≡ new.read.members

-- The same of the tables, each of whose rows of members is a pair afterwards.
abbrev pub ChangesTables : List Pair → List Pair → Database → Changed → Database → Type 0
ChangesTables joins leaves old answer new =
    ChangesMembers joins leaves (rows_of old) answer (rows_of new) × ChangesPairsAlone old new

-- ---- how it is done

-- The pairs are replaced by these, and what is answered is what is there then.
abbrev pub PutsAndReads : List Pair → Database → Vec Pair Global → Database → Type 0
PutsAndReads pairs old answer new = ExchangesMembers pairs old tt new × AreMembers new answer.items

-- These pairs are there, and are changed so.
abbrev pub ChangesThese : List Pair → List Pair → List Pair → Database → Changed → Database → Type 0
ChangesThese joins leaves pairs old answer new =
    AreMembers old pairs → ChangesTables joins leaves old answer new
