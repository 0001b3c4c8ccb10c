-- Whether entries are the same.
use Rattle.std.specs.Prelude.{ℕ, ◌&&◌, Bool, true, false, List, [], ◌∷◌}
use Rattle.room_entry.specs.Pieces.{same_text}
use Rattle.room_entry.specs.Ace.{Ace}
use Rattle.room_entry.specs.Letters.{kind_text, flags_text}
use Rattle.room_entry.specs.declared.entry.Who.{Who}
use Rattle.room_entry.specs.declared.entry.Who.TheVariants.{Owner, Group, Everyone, Anonymous}
use Rattle.room_entry.specs.declared.entry.Who.TheVariants.{Authenticated, User, Members}

-- the who as numbers that no other who has
abbrev pub who_key : Who → List ℕ
who_key Owner = 0 ∷ []
who_key Group = 1 ∷ []
who_key Everyone = 2 ∷ []
who_key Anonymous = 3 ∷ []
who_key Authenticated = 4 ∷ []
who_key (User name) = 5 ∷ name
who_key (Members name) = 6 ∷ name

-- no two types have the same letter, and no two sets of flags the same letters
abbrev pub same_entry : Ace → Ace → Bool
same_entry a b =
    same_text (kind_text a.kind) (kind_text b.kind)
    && (same_text (flags_text a.flags) (flags_text b.flags)
    && (same_text (who_key a.who) (who_key b.who) && same_text a.mask b.mask))

abbrev pub same_entries : List Ace → List Ace → Bool
same_entries [] [] = true
same_entries [] (b ∷ bs) = false
same_entries (a ∷ others) [] = false
same_entries (a ∷ others) (b ∷ bs) = same_entry a b && same_entries others bs
