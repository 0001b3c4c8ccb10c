-- A room of the root alone is sound.
use Rattle.std.proofs.Common.{◌≡◌, ℕ, true, List, [], ◌∷◌, None, refl, arith}
use Rattle.std.proofs.lemmas.Bool.Decides.{nat_tests}
use Rattle.room_entry.specs.declared.{object.ObjKind.TheVariants.Folder, parties.Owners.Owners}
use Rattle.room_entry.specs.declared.object.Which.TheVariants.{Dacl, Sacl}
use Rattle.room_rows.specs.{HeldList.Held, declared.node.Node.Node, Rows.Rows}
use Rattle.room_rows.specs.Sound.{AreSound, is_sound_held}
use Rattle.room_inherit.proofs.NoFault.{sound}

module _ (owners : Owners) (dacl sacl : Held) (members : List (List ℕ × List ℕ)) where
  abbrev root : Node
  root = record {
    id = 1;
    parent = None;
    name = [];
    kind = Folder;
    owners = owners;
    dacl = dacl;
    sacl = sacl;
  }

  abbrev rows : Rows
  rows = record {
    read = record { nodes = root ∷ []; bodies = []; members = members; audits = [] };
    unreadable = [];
  }

  pub root_sound : is_sound_held Dacl Folder dacl ≡ true → is_sound_held Sacl Folder sacl ≡ true
      → AreSound rows
  root_sound dacl_is sacl_is =
      sound rows (record {
        lists = grind (arith, nat_tests);
        root = refl;
        parents = refl;
        reach = refl;
        names = refl;
        bodies = refl;
        law = refl;
      })
