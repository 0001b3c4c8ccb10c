-- Laws of methods, routes, targets and rulings (own).
use Rattle.std.specs.Prelude.{◌≡◌, ℕ, false, List, [], ◌∷◌, ◌++◌, Some, None, is_some, filter}
use Rattle.std.specs.Prelude.{map, nat_eq, codes, ⊤, IsTrue, Ok}
use Rattle.std.specs.List.{starts_with}
use Rattle.std.specs.Cmp.Lexicographic.{slice_cmp}
use Rattle.std.specs.List.Sorted.{IsStrictlySortedBy}
use Rattle.std.specs.Ordering.{nat_cmp}
use Rattle.percent_encoding.specs.AsciiSet.{contains}
use Rattle.percent_encoding.specs.Percent.{percent_encode}
use Rattle.percent_encoding.specs.declared.ascii_set.AsciiSet.{AsciiSet}
use Rattle.serde_json.specs.Data.{Members, no_members, member, string}
use Rattle.serde_json.specs.Find.{get_member}
use Rattle.room_entry.specs.Bytes.{slash}
use Rattle.room_entry.specs.Utf8.{is_utf8}
use Rattle.room_entry.specs.Letters.{mask_text}
use Rattle.room_eval.specs.declared.outcome.Ruling.{Ruling}
use Rattle.room_rows.specs.Paths.{is_path, path_text}
use Rattle.http_message.specs.declared.route.Verb.{Verb}
use Rattle.http_message.specs.declared.route.Route.{Route}
use Rattle.http_message.specs.Asked.{target_of, target_path}
use Rattle.http_message.specs.Route.{allow_text, action_of, every_method, verb_of, route_text}
use Rattle.http_message.specs.Router.{route_of}
use Rattle.http_message.specs.Target.{path_part, query_part}
use Rattle.http_message.specs.Bodies.{ruling_text, with_rulings}

-- ---- methods

abbrev pub verb_text : Verb → List ℕ
verb_text Verb.Get = codes "GET"
verb_text Verb.Put = codes "PUT"
verb_text Verb.Post = codes "POST"
verb_text Verb.Delete = codes "DELETE"

-- in order of their texts
abbrev pub every_verb : List Verb
every_verb = Verb.Delete ∷ Verb.Get ∷ Verb.Post ∷ Verb.Put ∷ []

-- texts with a comma and a space between them
abbrev pub comma_list : List (List ℕ) → List ℕ
comma_list [] = []
comma_list (text ∷ []) = text
comma_list (text ∷ next ∷ texts) = text ++ codes ", " ++ comma_list (next ∷ texts)

-- The field Allow of a route lists the methods that ask something of it, in order.
abbrev pub AllowsWhatIsAsked : Type 0
AllowsWhatIsAsked =
    (route : Route)
    → allow_text route
    ≡ comma_list (map verb_text (filter (λ verb. is_some (action_of route verb)) every_verb))

-- The field Allow of an unknown method lists all methods, and each of them is known by its text.
abbrev pub EveryMethodIsListed : Type 0
EveryMethodIsListed =
    (every_method ≡ comma_list (map verb_text every_verb))
    × ((verb : Verb) → verb_of (verb_text verb) ≡ Some verb)

-- ---- routes

-- what a path begins with that has this route
abbrev pub route_start : Route → List ℕ
route_start route = slash ∷ route_text route ++ codes "/"

-- A path has a route exactly where it begins with a slash, the route and a slash.
abbrev pub RoutesBeginPaths : Type 0
RoutesBeginPaths =
    ((route : Route) (rest : List ℕ) → route_of (route_start route ++ rest) ≡ Some route)
    × ((path : List ℕ)
    → ((route : Route) → starts_with nat_eq path (route_start route) ≡ false)
    → route_of path ≡ None)

-- ---- targets

-- The target of a path: a slash, the route, and the text of the path. In its names a byte stands as
-- `%` and two hexadecimal digits where it is outside ASCII or in the set, and else as itself.
abbrev pub target_to : AsciiSet → Route → List (List ℕ) → List ℕ
target_to set route names = slash ∷ route_text route ++ path_text (map (percent_encode set) names)

-- A target passes its test, and is read as this route, path and query.
pub record IsReadAs (target : List ℕ) (route : Route) (names : List (List ℕ)) (query : List ℕ)
    : Type 0 where
  pub passes : target_of target ≡ Ok target
  pub has_route : route_of (path_part target) ≡ Some route
  pub has_path : target_path route (path_part target) ≡ Ok names
  pub has_query : query_part target ≡ query

-- Every path has a target under every route, with and without a query, whichever bytes of its names
-- are escaped, as long as `%` and `?` are.
abbrev pub EveryPathHasATarget : Type 0
EveryPathHasATarget =
    (set : AsciiSet) (route : Route) (names : List (List ℕ))
    → IsTrue (contains set 37) → IsTrue (contains set 63) → IsTrue (is_path names)
    → IsReadAs (target_to set route names) route names []
    × ((query : List ℕ) → IsTrue (is_utf8 query)
    → IsReadAs (target_to set route names ++ 63 ∷ query) route names query)

-- ---- rulings

-- the keys of an object, in their order
abbrev pub keys_in : Members → List (List ℕ)
keys_in no_members = []
keys_in (member key value members) = key ∷ keys_in members

-- none of the rulings is of these letters
abbrev pub Lacks : List ℕ → List (List ℕ × Ruling) → Type 0
Lacks letters [] = ⊤
Lacks letters (ruling ∷ rulings) = (letters ≡ mask_text ruling.0 → ⊥) × Lacks letters rulings

-- Of rulings each letter is a key, with the text of its ruling, the last where there are several;
-- there is no other key; and the keys are in order of their bytes.
abbrev pub RulingsAreKeys : Type 0
RulingsAreKeys =
    ((rulings others : List (List ℕ × Ruling)) (ruling : List ℕ × Ruling)
    → Lacks (mask_text ruling.0) others
    → get_member (mask_text ruling.0) (with_rulings no_members (rulings ++ ruling ∷ others))
    ≡ Some (string (ruling_text ruling.1)))
    × ((letters : List ℕ) (rulings : List (List ℕ × Ruling)) → Lacks letters rulings
    → get_member letters (with_rulings no_members rulings) ≡ None)
    × ((rulings : List (List ℕ × Ruling))
    → IsStrictlySortedBy (slice_cmp nat_cmp) (keys_in (with_rulings no_members rulings)))
