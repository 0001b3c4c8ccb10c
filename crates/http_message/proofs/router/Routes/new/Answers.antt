use Rattle.std.proofs.Common.{◌∙◌, ap, subst, sym}
use Rattle.http_message.specs.Router.{Table, TakesRoutes, routes, with_routes, every_route}
use Rattle.http_message.proofs.Adding.{takes-every}
use Rattle.http_message.proofs.router.Routes.new.Goals as goal

pub add_routes-requires : goal.add_routes-requires
add_routes-requires c =
    subst (λ (table : Table). TakesRoutes table every_route) (sym c.new-router.ensures) takes-every

pub invariant_of-result : goal.invariant_of-result
unfolding routes
invariant_of-result c =
    c.in_ok-add_routes.ensures ∙ ap (λ table. with_routes table every_route) c.new-router.ensures
