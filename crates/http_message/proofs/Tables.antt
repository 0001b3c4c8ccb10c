-- The tables of methods, route by route.
use Rattle.std.proofs.Common.{◌≡◌, Some, refl}
use Rattle.http_message.specs.{declared.route.{Route.Route, Verb.Verb}, Laws.AllowsWhatIsAsked}
use Rattle.http_message.specs.{Laws.{EveryMethodIsListed, verb_text}, Route.verb_of}

pub allows : AllowsWhatIsAsked
allows Route.Doc = refl
allows Route.Folder = refl
allows Route.Object = refl
allows Route.Move = refl
allows Route.Dacl = refl
allows Route.Sacl = refl
allows Route.Attr = refl
allows Route.Can = refl

known : (verb : Verb) → verb_of (verb_text verb) ≡ Some verb
known Verb.Get = refl
known Verb.Put = refl
known Verb.Post = refl
known Verb.Delete = refl

pub lists_all : EveryMethodIsListed
lists_all = (refl, known)
