-- Worked examples of what is stored, refused and known.
use Rattle.std.proofs.Common.{◌≡◌, Bool, true, false, List, [], ◌∷◌, Some, None, refl}
use Rattle.std.specs.Prelude.{codes}
use Rattle.room_entry.specs.{Ace.Ace, Rights.execute, declared.entry.EntryKind.TheVariants.Allow}
use Rattle.room_entry.specs.declared.{entry.Who.TheVariants.Everyone, flags.EntryFlags.EntryFlags}
use Rattle.room_entry.specs.declared.object.ObjKind.TheVariants.{Document}
use Rattle.room_entry.specs.declared.fault.ListFault.TheVariants.{InheritanceOnDocument}
use Rattle.room_rows.specs.HeldList.{Held}
use Rattle.room_machine.specs.declared.reply.Reason.TheVariants.{BadList, Loop}
use Rattle.room_question.specs.declared.question.Listed.{Listed, TheVariants.Text}
use Rattle.room_piece.specs.{Refusing.why_text, Storing.misfit_of}
use Rattle.room_piece.specs.declared.refusal.RefusalWhy.TheVariants.{NotPassedDown, Room}

-- everybody passes; the folder hands it to documents, and a document has it from there
abbrev flags : Bool → Bool → EntryFlags
flags passed inherited = record {
  file_inherit = passed;
  directory_inherit = false;
  no_propagate_inherit = false;
  inherit_only = false;
  successful_access = false;
  failed_access = false;
  identifier_group = false;
  inherited = inherited;
}

abbrev entry : Bool → Bool → Ace
entry passed inherited =
    record { kind = Allow; flags = flags passed inherited; who = Everyone; mask = execute ∷ [] }

abbrev folder : Held
folder = record {
  flags = record { auto = true; protect = false };
  own = entry true false ∷ [];
  inh = [];
}

abbrev text : Bool → List Ace → Listed
text protect entries =
    Text (record { flags = record { auto = true; protect = protect }; entries = entries })

-- the document says that it has what its folder passes down
passed : misfit_of (text false (entry false true ∷ [])) Document folder ≡ None
passed = refl

-- it says that it has nothing: the texts were read at different moments
missing : misfit_of (text false []) Document folder ≡ Some NotPassedDown
missing = refl

-- a protected list follows nothing
apart : misfit_of (text true []) Document folder ≡ None
apart = refl

-- an entry that only a folder's list may have
misplaced : misfit_of (text true (entry true false ∷ [])) Document folder
    ≡ Some (Room (BadList 1 InheritanceOnDocument))
misplaced = refl

-- ---- the words

unpassed : why_text NotPassedDown ≡ codes "W5 not what is passed down"
unpassed = refl

looped : why_text (Room Loop) ≡ codes "N7 loop"
looped = refl
