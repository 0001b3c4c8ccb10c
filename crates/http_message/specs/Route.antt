-- The routes, the methods that each has, and what they ask (own).
use Rattle.std.specs.Prelude.{ℕ, List, Option, Some, None, if◌then◌else◌, codes}
use Rattle.room_entry.specs.Pieces.{same_text}
use Rattle.room_entry.specs.declared.object.Which.{Which}
use Rattle.http_message.specs.declared.route.Verb.{Verb}
use Rattle.http_message.specs.declared.route.Route.{Route}
use Rattle.http_message.specs.declared.route.Action.{Action}

abbrev pub verb_of : List ℕ → Option Verb
verb_of method =
    if same_text method (codes "GET") then Some Verb.Get else
    if same_text method (codes "PUT") then Some Verb.Put else
    if same_text method (codes "POST") then Some Verb.Post else
    if same_text method (codes "DELETE") then Some Verb.Delete else None

abbrev pub route_text : Route → List ℕ
route_text Route.Doc = codes "doc"
route_text Route.Folder = codes "folder"
route_text Route.Object = codes "object"
route_text Route.Move = codes "move"
route_text Route.Dacl = codes "dacl"
route_text Route.Sacl = codes "sacl"
route_text Route.Attr = codes "attr"
route_text Route.Can = codes "can"

-- the methods of a route, as the field Allow says them
abbrev pub allow_text : Route → List ℕ
allow_text Route.Doc = codes "GET, POST, PUT"
allow_text Route.Folder = codes "GET, POST"
allow_text Route.Object = codes "DELETE"
allow_text Route.Move = codes "POST"
allow_text Route.Dacl = codes "GET, PUT"
allow_text Route.Sacl = codes "GET, PUT"
allow_text Route.Attr = codes "GET, PUT"
allow_text Route.Can = codes "GET"

-- the methods of all routes
abbrev pub every_method : List ℕ
every_method = codes "DELETE, GET, POST, PUT"

-- what a route and a method ask, if the route has the method
abbrev pub action_of : Route → Verb → Option Action
action_of Route.Doc Verb.Get = Some Action.Read
action_of Route.Doc Verb.Post = Some Action.Append
action_of Route.Doc Verb.Put = Some Action.Put
action_of Route.Doc Verb.Delete = None
action_of Route.Folder Verb.Get = Some Action.List
action_of Route.Folder Verb.Post = Some Action.MakeFolder
action_of Route.Folder Verb.Put = None
action_of Route.Folder Verb.Delete = None
action_of Route.Object Verb.Get = None
action_of Route.Object Verb.Post = None
action_of Route.Object Verb.Put = None
action_of Route.Object Verb.Delete = Some Action.Remove
action_of Route.Move Verb.Get = None
action_of Route.Move Verb.Post = Some Action.Move
action_of Route.Move Verb.Put = None
action_of Route.Move Verb.Delete = None
action_of Route.Dacl Verb.Get = Some (Action.ReadList Which.Dacl)
action_of Route.Dacl Verb.Post = None
action_of Route.Dacl Verb.Put = Some (Action.SetList Which.Dacl)
action_of Route.Dacl Verb.Delete = None
action_of Route.Sacl Verb.Get = Some (Action.ReadList Which.Sacl)
action_of Route.Sacl Verb.Post = None
action_of Route.Sacl Verb.Put = Some (Action.SetList Which.Sacl)
action_of Route.Sacl Verb.Delete = None
action_of Route.Attr Verb.Get = Some Action.ReadAttr
action_of Route.Attr Verb.Post = None
action_of Route.Attr Verb.Put = Some Action.SetOwners
action_of Route.Attr Verb.Delete = None
action_of Route.Can Verb.Get = Some Action.Can
action_of Route.Can Verb.Post = None
action_of Route.Can Verb.Put = None
action_of Route.Can Verb.Delete = None
