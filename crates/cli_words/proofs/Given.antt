-- Where the value of an option came from, and all words that were given for one, by the rows of the
-- matches.
use Rattle.std.proofs.Common.{◌≡◌, ◌∙◌, ap, sym, refl, Option, Some, None, List, [], map}
use Rattle.std.specs.{Prelude.{find, option_and_then, option_map}, Str.bytes_eq}
use Rattle.clap.specs.{Facts.Entry, Matches.matched_of, Walk.{Row, Text, row_of, rows_of}}
use Rattle.clap.specs.declared.parser.matches.{Found.Found, MatchedArg.MatchedArg}
use Rattle.clap.proofs.WalkLemmas.{find_row, raw_values-rows}
use Rattle.clap.specs.Matches.{raw_values}
use Rattle.std.{specs.Borrow.Bor, specs.Prelude.unwrap_or}
use Rattle.cli_words.specs.Command.{given}

source_at : (found : Option Entry)
    → option_and_then (λ (a : MatchedArg). a.source) (option_map (λ e. e.1) found)
    ≡ option_and_then (λ (r : Row). r.source) (option_map row_of found)
source_at None = refl
source_at (Some e) = refl

pub source_rows : (f : Found) (id : Text)
    → option_and_then (λ (a : MatchedArg). a.source) (matched_of f id)
    ≡ option_and_then (λ (r : Row). r.source) (find (λ r. bytes_eq r.id id) (rows_of f))
source_rows f id =
    source_at (find (λ (e : Entry). bytes_eq e.0.now id) f.entries.items)
    ∙ ap (option_and_then (λ (r : Row). r.source)) (sym (find_row f.entries.items id))

-- the words of these texts
abbrev pub words_in : Option (Bor (List (Bor Text))) → Option (List Text)
words_in = option_map (λ s. map (λ v. v.now) s.now)

pub words_given : (f : Found) (id : Text) (found texts : Option (Bor (List (Bor Text))))
    → found ≡ texts → words_in found ≡ option_map raw_values (matched_of f id)
    → unwrap_or (words_in texts) [] ≡ given id (rows_of f)
words_given f id found texts is told =
    ap (λ o. unwrap_or o []) (sym (ap words_in is) ∙ told ∙ raw_values-rows f id)
