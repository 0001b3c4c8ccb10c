-- Worked examples of what callers could do and can do then, and of the rows that tell it.
use Rattle.std.proofs.Common.{◌≡◌, ℕ, ◌==◌, true, false, List, [], ◌∷◌, Option, Some, None, refl}
use Rattle.std.specs.Prelude.{codes, if◌then◌else◌}
use Rattle.room_entry.specs.{Ace.Ace, Bits.all_bits, Rights.{execute, read_data}}
use Rattle.room_entry.specs.declared.entry.{EntryKind.TheVariants.Allow, Who.TheVariants.Members}
use Rattle.room_entry.specs.declared.{entry.Who.TheVariants.Owner, parties.Caller.Caller}
use Rattle.room_entry.specs.declared.object.ObjKind.TheVariants.{Document, Folder}
use Rattle.room_rows.specs.declared.node.Node.{Node}
use Rattle.room_machine.{specs.{Site.Site, Stored.stored_site}, proofs.Worked.Worlds.entry}
use Rattle.room_machine.proofs.Worked.Worlds.{everyone_passes, held, inherited, none, object}
use Rattle.room_machine.proofs.Worked.Worlds.{root_folder}
use Rattle.room_review.specs.Table.{Place}
use Rattle.room_turns.specs.Turns.{View, is_known, is_said, turn_at}

-- ---- a folder `/f` in the root, and `/f/d` in it

abbrev kim : Caller
kim = record { user = Some (codes "kim"); groups = codes "sales" ∷ codes "staff" ∷ [] }

abbrev ann : Caller
ann = record { user = Some (codes "ann"); groups = codes "staff" ∷ [] }

-- the group may pass, or read
abbrev passes : List ℕ → Ace
passes group = entry Allow none (Members group) (execute ∷ [])

abbrev reads : List ℕ → Ace
reads group = entry Allow none (Members group) (read_data ∷ [])

abbrev root : Site
root = stored_site [] root_folder

abbrev folder : List Ace → Node
folder entries = object 2 1 (codes "f") Folder (held true false entries [])

abbrev document : List Ace → Node
document entries = object 3 2 (codes "d") Document (held true false entries [])

abbrev at_f : Node → Site
at_f node = stored_site (codes "f" ∷ []) node

abbrev path : List (List ℕ)
path = codes "f" ∷ codes "d" ∷ []

abbrev at_d : Node → Site
at_d node = stored_site path node

-- where the document stood, in a folder with this list
abbrev stood : List Ace → Node → Place × Node
stood entries node = (record { path = path; above = root ∷ at_f (folder entries) ∷ [] }, node)

abbrev beside : List ℕ → (ℕ → Option (Place × Node)) → View
beside own earlier = record {
  own = own;
  looks = false;
  hidden = [];
  hidden_earlier = [];
  earlier = earlier;
}

-- ---- who passes by one group and reads by another

abbrev opened : View
opened =
    beside [] (λ number. if number == 3 then Some (stood [] (document (reads (codes "sales") ∷ [])))
    else None)

-- staff may then pass the folder, and sales could read the document before: who is in both may then
-- read
in_both : turn_at opened kim (root ∷ at_f (folder (passes (codes "staff") ∷ [])) ∷ [])
    (at_d (document (reads (codes "sales") ∷ [])))
    ≡ record { had = ([], false); has = (read_data ∷ [], false) }
unfolding all_bits
in_both = refl

-- who is in one of them may not
in_one : turn_at opened ann (root ∷ at_f (folder (passes (codes "staff") ∷ [])) ∷ [])
    (at_d (document (reads (codes "sales") ∷ [])))
    ≡ record { had = ([], false); has = ([], false) }
unfolding all_bits
in_one = refl

-- ---- an entry that counts for documents alone

abbrev for_documents : Ace
for_documents =
    entry Allow (record none { file_inherit = true; inherit_only = true }) (Members (codes "sales"))
    (read_data ∷ [])

abbrev open_to_all : List Ace
open_to_all = everyone_passes ∷ []

-- before it was set, everyone passed the folder, and nobody read the document
abbrev was : ℕ → Option (Place × Node)
was number =
    if number == 2
    then Some (record { path = codes "f" ∷ []; above = root ∷ [] }, folder open_to_all)
    else (if number == 3 then Some (stood open_to_all (document [])) else None)

abbrev with_entry : Site
with_entry = at_f (folder (everyone_passes ∷ for_documents ∷ []))

abbrev inheriting : Site
inheriting =
    at_d (object 3 2 (codes "d") Document
    (held true false [] (inherited (reads (codes "sales")) ∷ [])))

-- at the folder nothing changes
at_folder : turn_at (beside [] was) kim (root ∷ []) with_entry
    ≡ record { had = (execute ∷ [], false); has = (execute ∷ [], false) }
unfolding all_bits
at_folder = refl

-- the document is opened to sales, and the folder's row doesn't say it
opened_to : turn_at (beside [] was) kim (root ∷ with_entry ∷ []) inheriting
    ≡ record { had = ([], false); has = (read_data ∷ [], false) }
unfolding all_bits
opened_to = refl

stands : is_said (beside [] was) kim (root ∷ with_entry ∷ []) inheriting ≡ false
unfolding all_bits
stands = refl

-- who is in staff alone has no row there: nothing changes at either
left_out : is_said (beside [] was) ann (root ∷ with_entry ∷ []) inheriting ≡ true
unfolding all_bits
left_out = refl

-- ---- an owner's line that goes

abbrev for_the_owner : List Ace
for_the_owner = entry Allow none Owner (read_data ∷ []) ∷ []

abbrev owner : Caller
owner = record { user = Some (codes "root"); groups = [] }

goes : turn_at (beside [] (λ number. Some (stood open_to_all (document for_the_owner)))) owner
    (root ∷ at_f (folder open_to_all) ∷ []) (at_d (document []))
    ≡ record { had = (read_data ∷ [], false); has = ([], false) }
unfolding all_bits
goes = refl

-- with a document that comes, and that each would have made, each has what the line says
made : turn_at (beside (3 ∷ []) (λ number. None)) kim (root ∷ at_f (folder open_to_all) ∷ [])
    (at_d (document for_the_owner))
    ≡ record { had = ([], false); has = (read_data ∷ [], false) }
unfolding all_bits
made = refl

-- with another that comes, its owner has
others : turn_at (beside [] (λ number. None)) kim (root ∷ at_f (folder open_to_all) ∷ [])
    (at_d (document for_the_owner))
    ≡ record { had = ([], false); has = ([], false) }
unfolding all_bits
others = refl

-- ---- a folder whose list isn't known

unknown_below : is_known (2 ∷ []) (root ∷ at_f (folder []) ∷ []) (at_d (document [])) ≡ false
unknown_below = refl

known_beside : is_known (4 ∷ []) (root ∷ at_f (folder []) ∷ []) (at_d (document [])) ≡ true
known_beside = refl
