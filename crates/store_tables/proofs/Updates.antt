-- The columns of a whole row, and what a row that is written by its number leaves.
use Rattle.std.proofs.Common.{◌≡◌, ℕ, ℤ, List, [], ◌∷◌, inl, inr, refl, sym, subst, true, false}
use Rattle.std.{proofs.Common.{Bool, cond}, specs.Prelude.string_bytes}
use Rattle.sqlite.specs.{declared.types.Value.{Value, TheVariants.{Null, Int, Text}}, Order.Row}
use Rattle.sqlite.specs.{Ops.unary, Cast.cast, Tree.Trees, Edit.{Edit, edit_of}}
use Rattle.sqlite.specs.{Rowids.TheVariants.Given, Values.bound_value}
use Rattle.sqlite_sql.specs.Ops.{binary}
use Rattle.sqlite_rules.specs.{Calls.ids_of, Action.works}
use Rattle.sqlite_schema.specs.declared.schema.Keys.TheVariants.{Enforced}
use Rattle.sqlite_tied.specs.Compute.{everything}
use Rattle.store_tables.{specs.{Columns.IsParent, Tables.room_schema}, proofs.Rowids.has_itself}
use Rattle.store_tables.proofs.Writes.{nodes_table}
use Rattle.sqlite.specs.Kind.TheVariants as kind
use Rattle.store_tables.specs.declared.columns.Columns as stored

-- ---- what a column makes of a value of its own type

pub either : (b : Bool) (x : Value) → cond b x x ≡ x
either true x = refl
either false x = refl

-- an INTEGER column stores NULL as it is
pub cast_null : cast kind.Integer Null ≡ Null
unfolding unary
cast_null = either _ Null

-- an INTEGER column stores an integer as it is
pub cast_int : (n : ℤ) → cast kind.Integer (Int n) ≡ Int n
unfolding unary
cast_int n = either _ (Int n)

-- a value that an INTEGER column keeps
abbrev pub IsWhole : Value → Type 0
IsWhole v = cast kind.Integer v ≡ v

-- ---- the columns after the number

-- the values of an object for the columns of `nodes` after the number, texts as their bytes
pub record Columns : Type 0 where
  pub parent : Value
  pub whole : IsWhole parent
  pub name : List ℕ
  pub kind : ℤ
  pub owner : List ℕ
  pub group : List ℕ
  pub dacl_flags : ℤ
  pub sacl_flags : ℤ
  pub dacl_own : List ℕ
  pub dacl_inh : List ℕ
  pub sacl_own : List ℕ
  pub sacl_inh : List ℕ

-- the cells of a row of `nodes` after its number, as they are bound to the INSERT of an object
abbrev pub values : Columns → Row
values c =
    c.parent ∷ Text c.name ∷ Int c.kind ∷ Text c.owner ∷ Text c.group ∷ Int c.dacl_flags
    ∷ Int c.sacl_flags ∷ Text c.dacl_own ∷ Text c.dacl_inh ∷ Text c.sacl_own ∷ Text c.sacl_inh ∷ []

-- the edit of an UPDATE of `nodes`: the rows found go, and come back under the same numbers
abbrev pub update_edit : Trees → List Row → Edit
update_edit db rows = edit_of db nodes_table (ids_of rows) Given 1 rows

-- a row that keeps its number has no child to spare
pub keeps_number : (id : ℤ) (old new : Row)
    → works room_schema Enforced 0 0 ((Int id ∷ old) ∷ []) ((Int id ∷ new) ∷ []) ≡ []
unfolding everything binary
keeps_number id old new = let same = has_itself id in rw same refl

-- ---- the columns as they are given

-- a parent as it is given, NULL or an integer, is stored unchanged in its column
pub parent_whole : (v : Value) → IsParent v → IsWhole v
parent_whole v (inl e) = subst IsWhole (sym e) cast_null
parent_whole v (inr (n, e)) = subst IsWhole (sym e) (cast_int n)

-- a parent as it is given, NULL or an integer, is bound unchanged as a parameter
pub bound_parent : (v : Value) → IsParent v → bound_value v ≡ v
bound_parent v (inl e) = subst (λ w. bound_value w ≡ w) (sym e) refl
bound_parent v (inr (n, e)) = subst (λ w. bound_value w ≡ w) (sym e) refl

-- the columns that the program has of an object, with each text as its bytes
abbrev pub columns_in : (c : stored.Columns) → IsParent c.parent → Columns
columns_in c is = record {
  parent = c.parent;
  whole = parent_whole c.parent is;
  name = string_bytes c.name;
  kind = c.kind;
  owner = string_bytes c.owner;
  group = string_bytes c.group;
  dacl_flags = c.dacl_flags;
  sacl_flags = c.sacl_flags;
  dacl_own = string_bytes c.dacl_own;
  dacl_inh = string_bytes c.dacl_inh;
  sacl_own = string_bytes c.sacl_own;
  sacl_inh = string_bytes c.sacl_inh;
}
