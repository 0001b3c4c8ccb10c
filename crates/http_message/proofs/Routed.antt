-- Worked examples: the routes of paths, and the paths after them.
use Rattle.std.proofs.Common.{◌≡◌, Some, None, refl, codes}
use Rattle.matchit.proofs.OnLiterals.{matchit_on_literals}
use Rattle.percent_encoding.proofs.OnLiterals.{percent_encoding_on_literals}
use Rattle.http_message.specs.{declared.route.Route.Route, Router.{route_of, routes, with_pattern}}
use Rattle.http_message.specs.Target.{named_path}

document : route_of (codes "/doc/a%2Ff") ≡ Some Route.Doc
unfolding routes with_pattern matchit_on_literals
document = refl

root : route_of (codes "/can/") ≡ Some Route.Can
unfolding routes with_pattern matchit_on_literals
root = refl

no_route : route_of (codes "/nope") ≡ None
unfolding routes with_pattern matchit_on_literals
no_route = refl

no_slash : route_of (codes "/doc") ≡ None
unfolding routes with_pattern matchit_on_literals
no_slash = refl

escaped_slash : named_path Route.Doc (codes "/doc/a%2Ff") ≡ codes "/a/f"
unfolding percent_encoding_on_literals
escaped_slash = refl
