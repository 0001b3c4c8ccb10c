-- Names of objects and the paths to them (own).
use Rattle.std.specs.Prelude.{ℕ, ◌==◌, ◌&&◌, Bool, not, List, [], ◌∷◌, length, Result, Ok, Err}
use Rattle.std.specs.Prelude.{if◌then◌else◌, nat_lt, nat_le, codes}
use Rattle.std.specs.List.{list_all, flat_map}
use Rattle.room_entry.specs.Bytes.{slash}
use Rattle.room_entry.specs.Pieces.{pieces, same_text}
use Rattle.room_entry.specs.Utf8.{is_utf8}
use Rattle.room_rows.specs.declared.fault.PathFault.{PathFault}
use Rattle.room_rows.specs.declared.fault.PathFault.TheVariants.{BadName, TooLong, NotUtf8}

-- neither a control character nor `/`
abbrev pub is_name_byte : ℕ → Bool
is_name_byte byte = nat_le 0x20 byte && not (byte == 0x7F) && not (byte == slash)

abbrev pub is_object_name : List ℕ → Bool
is_object_name name =
    nat_lt 0 (length name) && nat_le (length name) 255 && list_all is_name_byte name
    && not (same_text name (codes ".")) && not (same_text name (codes "..")) && is_utf8 name

-- a `/` before each name; the root's path is `/` alone
abbrev pub path_text : List (List ℕ) → List ℕ
path_text [] = codes "/"
path_text (name ∷ names) = flat_map (λ n. slash ∷ n) (name ∷ names)

-- the names of a path
abbrev pub is_path : List (List ℕ) → Bool
is_path names = list_all is_object_name names && nat_le (length (path_text names)) 4096

-- the names, each of which has to be an object name
abbrev pub object_names : List (List ℕ) → Result (List (List ℕ)) PathFault
object_names names = if list_all is_object_name names then Ok names else Err BadName

-- the names in the parts of a text: there is nothing before the first `/`, and at the root nothing
-- after it
abbrev pub names_in : List (List ℕ) → Result (List (List ℕ)) PathFault
names_in ([] ∷ [] ∷ []) = Ok []
names_in ([] ∷ name ∷ names) = object_names (name ∷ names)
names_in _ = Err BadName

-- The names of the path that the bytes spell, or the first fault: its length, its bytes, its names.
abbrev pub path_of : List ℕ → Result (List (List ℕ)) PathFault
path_of bytes =
    if nat_lt 4096 (length bytes) then Err TooLong else
    if is_utf8 bytes then names_in (pieces slash bytes) else Err NotUtf8
