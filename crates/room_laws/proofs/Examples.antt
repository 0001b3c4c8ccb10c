-- Worked examples of what is behind a folder: who is barred, and which requests tell.
use Rattle.std.proofs.Common.{ℕ, ◌≡◌, inl, inr, List, [], ◌∷◌, Some, None, refl, true, false, codes}
use Rattle.std.{proofs.Common.arith, specs.Prelude.pos}
use Rattle.room_entry.specs.declared.entry.{EntryKind.TheVariants.Allow, Who.TheVariants.User}
use Rattle.room_entry.specs.declared.object.ObjKind.TheVariants.{Document, Folder}
use Rattle.room_entry.specs.declared.object.Which.TheVariants.{Dacl}
use Rattle.room_ace.specs.Sent.{Sent}
use Rattle.room_rows.specs.{Content.{Content, with_members}, declared.node.Node.Node}
use Rattle.room_machine.specs.{Run.{Asked, Run}, Step.{reset, step}}
use Rattle.room_machine.specs.declared.reply.{Reason.TheVariants.{NotEmpty, Exists}, Reply.Reply}
use Rattle.room_machine.specs.declared.reply.Reply.TheVariants.{Bytes, Names, Done, Denied, Refused}
use Rattle.room_machine.specs.declared.reply.Reply.TheVariants.{Made}
use Rattle.room_machine.specs.declared.request.Request.TheVariants.{Read, List as ListFolder}
use Rattle.room_machine.specs.declared.request.Request.TheVariants.{MakeFolder, Remove, Move, Put}
use Rattle.room_machine.proofs.Worked.Worlds.{none, fd, entry, root, alice, everything, held, plain}
use Rattle.room_machine.proofs.Worked.Worlds.{object, world, root_may_all}
use Rattle.room_laws.specs.{Outside.{Barred, IsBehind, SameOutside}, Twins.{AnswersAlike, AreAlike}}
use Rattle.room_laws.specs.Twins.{Turn, InFirst, InBoth, InBothReset, InBothReplaced, first_events}
use Rattle.room_laws.specs.Twins.{second_events}

abbrev q : List (List ℕ)
q = codes "q" ∷ []

abbrev q_f : List (List ℕ)
q_f = codes "q" ∷ codes "f" ∷ []

abbrev p : List (List ℕ)
p = codes "p" ∷ []

-- alice may list and delete it, and root may do all, but she may not pass it
abbrev folder_q : Node
folder_q =
    object 2 1 (codes "q") Folder
    (held true false (entry Allow none (User alice) (0x1 ∷ 0x10000 ∷ []) ∷ root_may_all ∷ []) [])

abbrev document_f : Node
document_f = object 3 2 (codes "f") Document plain

abbrev document_p : Node
document_p = object 4 1 (codes "p") Document plain

-- with nothing behind q, and with a document behind it
abbrev bare : Content
bare = world (folder_q ∷ []) []

abbrev full : Content
full = world (folder_q ∷ document_f ∷ []) ((3, codes "hi") ∷ [])

alice_is_barred : Barred bare (Some alice) q
alice_is_barred = (Denied q (0x20 ∷ []) None None, refl)

-- ---- what doesn't tell: she gets one denial whether or not there is something

no_name_is_told : (step bare (Some alice) (pos 0) (MakeFolder q_f) 9).0
    ≡ Denied q (0x20 ∷ []) None None
no_name_is_told = refl

nor_that_one_is_taken : (step full (Some alice) (pos 0) (MakeFolder q_f) 9).0
    ≡ Denied q (0x20 ∷ []) None None
nor_that_one_is_taken = refl

-- ---- what tells

a_listing_tells_none : (step bare (Some alice) (pos 0) (ListFolder q) 9).0 ≡ Names []
a_listing_tells_none = refl

a_listing_tells_names : (step full (Some alice) (pos 0) (ListFolder q) 9).0
    ≡ Names ((codes "f", Document) ∷ [])
a_listing_tells_names = refl

a_removal_tells_none : (step bare (Some alice) (pos 0) (Remove q) 9).0 ≡ Done
a_removal_tells_none = refl

a_removal_tells_some : (step full (Some alice) (pos 0) (Remove q) 9).0 ≡ Refused q NotEmpty
a_removal_tells_some = refl

-- ---- a move into sight or out of it

abbrev bare_p : Content
bare_p = world (folder_q ∷ document_p ∷ []) ((4, codes "") ∷ [])

abbrev full_p : Content
full_p = world (folder_q ∷ document_f ∷ document_p ∷ []) ((3, codes "hi") ∷ (4, codes "") ∷ [])

a_move_goes_behind : (step bare_p (Some root) (pos 0) (Move p q_f) 9).0 ≡ Done
a_move_goes_behind = refl

a_move_stays_in_sight : (step full_p (Some root) (pos 0) (Move p q_f) 9).0 ≡ Refused q_f Exists
a_move_stays_in_sight = refl

-- ---- the front is taken to where its lists grant more

abbrev h : List (List ℕ)
h = codes "h" ∷ []

-- alice's own folder, whose entries go on to all that comes into it
abbrev folder_h : Node
folder_h =
    object 5 1 (codes "h") Folder
    (held true false (entry Allow fd (User alice) everything ∷ []) [])

abbrev both : Content
both = world (folder_q ∷ document_f ∷ folder_h ∷ []) ((3, codes "hi") ∷ [])

abbrev taken : Content
taken = (step both (Some alice) (pos 0) (Move q (codes "h" ∷ codes "q" ∷ [])) 9).1

she_may_not_read : (step both (Some alice) (pos 0) (Read q_f) 9).0 ≡ Denied q (0x20 ∷ []) None None
she_may_not_read = refl

she_moves_the_folder :
    (step both (Some alice) (pos 0) (Move q (codes "h" ∷ codes "q" ∷ [])) 9).0 ≡ Done
she_moves_the_folder = refl

she_reads_what_was_behind :
    (step taken (Some alice) (pos 0) (Read (codes "h" ∷ codes "q" ∷ codes "f" ∷ [])) 9).0
    ≡ Bytes (codes "hi")
she_reads_what_was_behind = refl

-- ---- two rooms that live alike

abbrev denied : Reply
denied = Denied q (0x20 ∷ []) None None

-- In the first room root makes a document behind q. Then alice asks the same in both.
abbrev turns : List Turn
turns =
    InFirst (Asked (Some root) (pos 0) (Put q_f (codes "hi")) Made)
    ∷ InBoth (Some alice) (pos 1) (pos 2) (MakeFolder q_f) denied denied ∷ []

they_were_asked : Run bare (first_events turns) full
they_were_asked = (
  full,
  (3, (omega arith, refl), refl),
  (full, (9, (omega arith, refl), refl), refl),
)

they_live_alike : AreAlike q turns bare full they_were_asked
unfolding they_were_asked
they_live_alike = (
  inl ((codes "f", [], refl), (codes "f", [], refl)),
  (((λ is. refl), (λ reaches. (denied, refl))), tt),
)

the_other_room : Run bare (second_events turns) bare
the_other_room = (bare, (9, (omega arith, refl), refl), refl)

-- ---- the operator's steps in both rooms: p's list is reset, and then bob joins the staff

abbrev sent : Sent
sent = record {
  flags = record { auto = true; protect = false };
  entries = entry Allow none (User alice) (0x1 ∷ []) ∷ [];
}

abbrev pairs : List (List ℕ × List ℕ)
pairs = (codes "staff", codes "bob") ∷ []

abbrev steps : List Turn
steps = InBothReset p Dacl sent Done Done ∷ InBothReplaced pairs ∷ []

abbrev reset_p : Content → Content
reset_p content = (reset content p Dacl sent).1

abbrev joined : Content → Content
joined content = with_members (reset_p content) pairs

p_is_reset : Run bare_p (first_events steps) (joined bare_p)
p_is_reset = (reset_p bare_p, refl, (joined bare_p, refl, refl))

p_is_reset_there : Run full_p (second_events steps) (joined full_p)
p_is_reset_there = (reset_p full_p, refl, (joined full_p, refl, refl))

p_isnt_behind : IsBehind q p → ⊥
p_isnt_behind (name, names, is) = absurd (let wrong : ⊥ = cc in wrong)

they_are_reset_alike : AreAlike q steps bare_p (joined bare_p) p_is_reset
unfolding p_is_reset
they_are_reset_alike = (p_isnt_behind, tt)

-- ---- names of another folder: two rooms that differ in these aren't the same outside

abbrev top : List (List ℕ)
top = []

the_top_isnt_behind : IsBehind q top → ⊥
the_top_isnt_behind (name, names, is) = absurd (let wrong : ⊥ = cc in wrong)

names_show : SameOutside q bare bare_p → ⊥
names_show same =
    let names = same.names top the_top_isnt_behind (λ (is : top ≡ q). let wrong : ⊥ = cc in wrong)
    in absurd (let wrong : ⊥ = cc in wrong)

-- and a listing of it that tells them apart is no reply that is alike
abbrev listed : List Turn
listed =
    InBoth (Some root) (pos 0) (pos 0) (ListFolder top) (Names ((codes "q", Folder) ∷ []))
    (Names ((codes "p", Document) ∷ (codes "q", Folder) ∷ [])) ∷ []

names_are_told : ((step bare (Some root) (pos 0) (ListFolder top) 9).0
    ≡ Names ((codes "q", Folder) ∷ []))
    × ((step bare_p (Some root) (pos 0) (ListFolder top) 9).0
    ≡ Names ((codes "p", Document) ∷ (codes "q", Folder) ∷ []))
names_are_told = (refl, refl)

they_dont_answer_alike : AnswersAlike q listed → ⊥
they_dont_answer_alike (inl same, rest) = absurd (let wrong : ⊥ = cc in wrong)
they_dont_answer_alike (inr told, rest) =
    absurd (let is = told.0 in let wrong : ⊥ = cc in wrong)
