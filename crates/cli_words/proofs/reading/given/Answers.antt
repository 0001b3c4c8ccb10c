use Rattle.std.proofs.Common.{◌∙◌, ap, map, None, Some, arith}
use Rattle.std.proofs.lemmas.Result.{IfOk-weaker}
use Rattle.clap.specs.Words.{found_of}
use Rattle.cli_words.proofs.Given.{words_given}
use Rattle.cli_words.proofs.reading.given.Goals as goal

pub returns-in-Some : goal.returns-in-Some
returns-in-Some c =
    let is = words_given (found_of c.args.words.now) c.args.id.now _ (Some c.in-Some.texts)
    c.in-Some.is c.get_strs.ensures in
    IfOk-weaker c.from_slice.result _ _ (λ copy same. ap (map (λ text. text.now)) same ∙ is)
    c.from_slice.ensures.items

pub returns-in-None : goal.returns-in-None
returns-in-None c =
    let is = words_given (found_of c.args.words.now) c.args.id.now _ None c.in-None.is
    c.get_strs.ensures in
    grind (arith, is, c.new.ensures)
