use Rattle.std.proofs.Common.{None, Some, arith, lit<}
use Rattle.std.proofs.lemmas.{Bool.eqb-false, Str.Pattern.strip_prefix_char}
use Rattle.room_rows.proofs.Cutting.{no_slash_first, slash_first}
use Rattle.room_rows.proofs.path.read_names.Goals as goal

pub returns-in_default : goal.returns-in_default
returns-in_default c =
    no_slash_first c.args.text.now
    (strip_prefix_char 47 c.args.text.now None c.in_default.ensures.cases (lit< tt))

pub returns : goal.returns
returns c =
    let rest = c.in-Some.rest.now in
    let is = strip_prefix_char 47 c.args.text.now (Some c.in-Some.rest) c.in-Some.ensures.cases
    (lit< tt) in
    grind (arith, rest, eqb-false, c.if-is_empty.ensures, is, slash_first, c.read_rest.ensures)
