-- The table of patterns, and the route of a path, by `matchit`'s definitions.
use Rattle.std.specs.Prelude.{◌≡◌, ℕ, List, [], ◌∷◌, ◌++◌, Option, None, option_map, Result, Ok}
use Rattle.std.specs.Prelude.{Err, codes, ⊤}
use Rattle.room_entry.specs.Bytes.{slash}
use Rattle.matchit.specs.Rows.{RowsOf}
use Rattle.matchit.specs.Order.{placed}
use Rattle.matchit.specs.Route.{Scan, parse_route}
use Rattle.matchit.specs.Router.{RouteOf, nearest, route_from}
use Rattle.matchit.specs.Seek.{first}
use Rattle.matchit.specs.declared.error.InsertError.{InsertError}
use Rattle.http_message.specs.declared.route.Route.{Route}
use Rattle.http_message.specs.Route.{route_text}

-- the rows of a router
abbrev pub Table : Type 0
Table = RowsOf (RouteOf Route)

-- the rows, and the pattern that was read for the route
abbrev pub with_scan : Result Scan InsertError → Route → Table → Table
with_scan (Ok scan) route table = placed (scan.pattern, route_from scan route) table
with_scan (Err fault) route table = table

-- the rows, and the pattern of this text for the route
unfoldable pub with_pattern : List ℕ → Route → Table → Table
with_pattern text route table = with_scan (parse_route text) route table

-- each route R has the patterns /R/ and /R/{*path}
abbrev pub folder_pattern : Route → List ℕ
folder_pattern route = slash ∷ route_text route ++ codes "/"

abbrev pub below_pattern : Route → List ℕ
below_pattern route = slash ∷ route_text route ++ codes "/{*path}"

abbrev pub with_route : Table → Route → Table
with_route table route =
    with_pattern (below_pattern route) route (with_pattern (folder_pattern route) route table)

abbrev pub with_routes : Table → List Route → Table
with_routes table [] = table
with_routes table (route ∷ others) = with_routes (with_route table route) others

abbrev pub every_route : List Route
every_route =
    Route.Doc ∷ Route.Folder ∷ Route.Object ∷ Route.Move
    ∷ Route.Dacl ∷ Route.Sacl ∷ Route.Attr ∷ Route.Can ∷ []

-- the table of routes
unfoldable pub routes : Table
routes = with_routes [] every_route

-- the route that the path has
abbrev pub route_of : List ℕ → Option Route
route_of path = option_map (λ (row : RouteOf Route). row.value) (first routes path)

-- ---- which patterns can be added

-- a pattern that reads well, and conflicts with none of the rows
abbrev pub TakesScan : Result Scan InsertError → Table → Type 0
TakesScan (Ok scan) table = nearest scan.pattern table ≡ None
TakesScan (Err fault) table = ⊥

unfoldable pub TakesPattern : List ℕ → Table → Type 0
TakesPattern text table = TakesScan (parse_route text) table

-- two patterns of a route, one after the other
abbrev pub TakesBoth : List ℕ → List ℕ → Route → Table → Type 0
TakesBoth first second route table =
    TakesPattern first table × TakesPattern second (with_pattern first route table)

abbrev pub TakesRoute : Table → Route → Type 0
TakesRoute table route = TakesBoth (folder_pattern route) (below_pattern route) route table

abbrev pub TakesRoutes : Table → List Route → Type 0
TakesRoutes table [] = ⊤
TakesRoutes table (route ∷ others) =
    TakesRoute table route × TakesRoutes (with_route table route) others
