-- What a message asks, or the first of its tests that fails (own). Tests 1 to 4 work on the stream.
use Rattle.std.specs.Prelude.{ℕ, List, [], ◌∷◌, Option, Some, None, Result, Ok, Err, if◌then◌else◌}
use Rattle.std.specs.Prelude.{codes}
use Rattle.serde_json.specs.Data.{Data}
use Rattle.room_entry.specs.Gives.{told}
use Rattle.room_entry.specs.Names.{is_name, name_of}
use Rattle.room_entry.specs.Letters.{read_mask_of}
use Rattle.room_ace.specs.Lists.{sent_of}
use Rattle.room_ace.specs.Sent.{Sent}
use Rattle.room_entry.specs.declared.parties.Owners.{Owners}
use Rattle.room_rows.specs.Paths.{path_of}
use Rattle.room_machine.specs.declared.request.Request.{Request}
use Rattle.http_message.specs.declared.head.Head.{Head}
use Rattle.http_message.specs.declared.head.Field.{Field}
use Rattle.http_message.specs.declared.fault.HttpFault.{HttpFault}
use Rattle.http_message.specs.declared.route.Verb.{Verb}
use Rattle.http_message.specs.declared.route.Route.{Route}
use Rattle.http_message.specs.declared.route.Action.{Action}
use Rattle.http_message.specs.Route.{verb_of, action_of}
use Rattle.http_message.specs.Target.{is_target, path_part, query_part, named_path}
use Rattle.http_message.specs.Router.{route_of}
use Rattle.http_message.specs.Fields.{field_values, trimmed}
use Rattle.http_message.specs.Json.{json_of, text_under}

-- a test, and those after it
abbrev pub and_then : {A B F : Type 0} → Result A F → (A → Result B F) → Result B F
and_then (Err fault) rest = Err fault
and_then (Ok value) rest = rest value

-- a value, or the fault where there is none
abbrev pub or_fault : {A F : Type 0} → Option A → F → Result A F
or_fault (Some value) fault = Ok value
or_fault None fault = Err fault

-- 7 and 8: the route, and the methods that it has
abbrev pub asked_action : Verb → List ℕ → Result (Route × Action) HttpFault
asked_action verb path =
    and_then (or_fault (route_of path) HttpFault.NoRoute) (λ route.
    and_then (or_fault (action_of route verb) (HttpFault.OtherMethod route)) (λ action.
    Ok (route, action)))

-- 9: the path that the target names
abbrev pub target_path : Route → List ℕ → Result (List (List ℕ)) HttpFault
target_path route path = told HttpFault.BadPath (path_of (named_path route path))

-- 10: the mask, which /can/ alone has
abbrev pub asked_bits : List ℕ → Result (List ℕ) HttpFault
asked_bits query = told (λ fault. HttpFault.BadMask) (read_mask_of query)

abbrev pub asked_mask : Action → List ℕ → Result (List ℕ) HttpFault
asked_mask Action.Can query = asked_bits query
asked_mask action query = Ok []

-- 11: at most one caller, who has a name
abbrev pub asked_user : List ℕ → Result (Option (List ℕ)) HttpFault
asked_user text = if is_name text then Ok (Some text) else Err HttpFault.BadUser

abbrev pub asked_caller : List (List ℕ) → Result (Option (List ℕ)) HttpFault
asked_caller [] = Ok None
asked_caller (value ∷ []) = asked_user (trimmed value)
asked_caller (value ∷ other ∷ values) = Err HttpFault.BadUser

abbrev pub caller_of : List Field → Result (Option (List ℕ)) HttpFault
caller_of fields = asked_caller (field_values (codes "room-user") fields)

-- 12: the body. A text under a key of a JSON body is a path or a name.
abbrev pub asked_path : List ℕ → Result (List (List ℕ)) HttpFault
asked_path text = told (λ fault. HttpFault.BadBody) (path_of text)

abbrev pub asked_name : List ℕ → Result (List ℕ) HttpFault
asked_name text = told (λ fault. HttpFault.BadBody) (name_of text)

abbrev pub path_under : List ℕ → Option Data → Result (List (List ℕ)) HttpFault
path_under key value = and_then (or_fault (text_under key value) HttpFault.BadBody) asked_path

abbrev pub name_under : List ℕ → Option Data → Result (List ℕ) HttpFault
name_under key value = and_then (or_fault (text_under key value) HttpFault.BadBody) asked_name

abbrev pub asked_owners : Option Data → Result Owners HttpFault
asked_owners value =
    and_then (name_under (codes "owner") value) (λ owner.
    and_then (name_under (codes "group") value) (λ group.
    Ok (record { owner = owner; group = group })))

abbrev pub list_in : List ℕ → Result Sent HttpFault
list_in body = told HttpFault.BadList (sent_of body)

abbrev pub request_in : Action → List (List ℕ) → List ℕ → List ℕ → Result Request HttpFault
request_in Action.Read path mask body = Ok (Request.Read path)
request_in Action.List path mask body = Ok (Request.List path)
request_in Action.Put path mask body = Ok (Request.Put path body)
request_in Action.Append path mask body = Ok (Request.Append path body)
request_in Action.MakeFolder path mask body = Ok (Request.MakeFolder path)
request_in Action.Remove path mask body = Ok (Request.Remove path)
request_in Action.Move path mask body =
    and_then (path_under (codes "to") (json_of body)) (λ to. Ok (Request.Move path to))
request_in (Action.ReadList which) path mask body = Ok (Request.ReadList path which)
request_in (Action.SetList which) path mask body =
    and_then (list_in body) (λ list. Ok (Request.SetList path which list))
request_in Action.ReadAttr path mask body = Ok (Request.ReadAttr path)
request_in Action.SetOwners path mask body =
    and_then (asked_owners (json_of body)) (λ owners. Ok (Request.SetOwners path owners))
request_in Action.Can path mask body = Ok (Request.Can path mask)

-- 11 and 12, once there are a path and a mask
abbrev pub UserRequest : Type 0
UserRequest = Option (List ℕ) × Request

abbrev pub asked_on :
    Action → List (List ℕ) → List ℕ → List Field → List ℕ → Result UserRequest HttpFault
asked_on action path mask fields body =
    and_then (caller_of fields) (λ caller.
    and_then (request_in action path mask body) (λ request. Ok (caller, request)))

-- 9 to 12
abbrev pub asked_at :
    Route → Action → List ℕ → List ℕ → List Field → List ℕ → Result UserRequest HttpFault
asked_at route action path query fields body =
    and_then (target_path route path) (λ names.
    and_then (asked_mask action query) (λ mask. asked_on action names mask fields body))

-- 7 to 12
abbrev pub asked_by : Verb → List ℕ → List ℕ → List Field → List ℕ → Result UserRequest HttpFault
asked_by verb path query fields body =
    and_then (asked_action verb path) (λ asked. asked_at asked.0 asked.1 path query fields body)

-- 5: a method that some route has. 6: a target that begins with a slash and is text
abbrev pub method_of : List ℕ → Result Verb HttpFault
method_of method = or_fault (verb_of method) HttpFault.UnknownMethod

abbrev pub target_of : List ℕ → Result (List ℕ) HttpFault
target_of target = if is_target target then Ok target else Err HttpFault.BadTarget

-- Who asks, and what, or the first test that fails.
unfoldable pub request_of : Head → List ℕ → Result UserRequest HttpFault
request_of head body =
    and_then (method_of head.method) (λ verb.
    and_then (target_of head.target) (λ target.
    asked_by verb (path_part target) (query_part target) head.fields body))
