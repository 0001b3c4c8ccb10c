use Rattle.std.{proofs.Common.{◌∙◌, ap, sym}, specs.Prelude.option_map}
use Rattle.cli_words.proofs.reading.address.Goals as goal

pub returns-in-Some : goal.returns-in-Some
returns-in-Some c = sym c.socket.ensures ∙ ap (option_map (λ text. text.now)) c.in-Some.is

pub returns-in-None : goal.returns-in-None
returns-in-None c =
    (sym c.socket.ensures ∙ ap (option_map (λ text. text.now)) c.in-None.is, c.port.ensures)
