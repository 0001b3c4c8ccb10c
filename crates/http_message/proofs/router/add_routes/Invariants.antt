use Rattle.std.proofs.Common.{◌≡◌, drop}
use Rattle.http_message.specs.Router.{TakesRoutes, with_routes}
use Rattle.http_message.proofs.router.add_routes.Given as goal

abbrev pub invariant-routes : goal.invariant-routes
invariant-routes l =
    (with_routes l.initial.router l.routes ≡ with_routes l.router (drop l.route-index l.routes))
    × TakesRoutes l.router (drop l.route-index l.routes)
