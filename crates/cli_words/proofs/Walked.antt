-- A walk without fault keeps what holds of rows, word by word and then default by default.
use Rattle.std.proofs.Common.{◌≡◌, true, false, Bool, cond, List, [], ◌∷◌, ◌||◌, Option, Some, None}
use Rattle.std.{proofs.Common.{ℕ, zero, suc, length, is_some, arith, rules}, specs.Prelude.IfSome}
use Rattle.std.specs.{Prelude.{find, fold, slice_get}, Option.option_map_or, Str.{bytes_eq, chars}}
use Rattle.std.specs.List.{AllByRecursion as Each}
use Rattle.clap.specs.Faults.{bundle_fault, bundle_step_fault, check_fault, default_fault}
use Rattle.clap.specs.Faults.{defaults_fault, flag_word_fault, flags_fault, given_default_fault}
use Rattle.clap.specs.Faults.{level_fault, long_fault, option_fault, positional_fault, react_fault}
use Rattle.clap.specs.Faults.{settle_fault, short_fault, step_fault, stray_fault, turn_fault}
use Rattle.clap.specs.{Faults.{use_fault, walk_fault, word_fault, other_fault}, Kinds.Kinds}
use Rattle.clap.specs.{Kinds.or_else, Lexer.{long_of, short_of}, Simple.Shape, Walk.{Held, Names}}
use Rattle.clap.specs.Walk.{Outcome, Row, Rule, Step, Text, Waiting, Walk, action_of, after_flag}
use Rattle.clap.specs.Walk.{after_step, arg_by_id, arg_by_index, arg_by_long, arg_by_short, at_row}
use Rattle.clap.specs.Walk.{attached_value, bundle, bundle_met, bundle_step, default_rows, done}
use Rattle.clap.specs.Walk.{finished, first_of, flag_met, has_row, idle, is_empty, is_pending}
use Rattle.clap.specs.Walk.{long_met, long_or_other, more_values, most_values, next, nothing_held}
use Rattle.clap.specs.Walk.{one_of, option, row_text, option_met, option_word, plain, plain_word}
use Rattle.clap.specs.Walk.{positional, positional_held, reacted, reading_by, refused, rows_after}
use Rattle.clap.specs.Walk.{settled, settled_rows, short_met, subcommand, subcommand_met}
use Rattle.clap.specs.Walk.{subcommand_or_other, takes_several, takes_values, to_positional}
use Rattle.clap.specs.Walk.{trailing, used, used_as, used_by_id, value, values_or_missing, waits}
use Rattle.clap.specs.Walk.{walk, walk_from, walked, walked_from, with_default, with_values}
use Rattle.clap.specs.{Walk.{without, word_met}, declared.error.kind.ErrorKind.ErrorKind}
use Rattle.room_entry.proofs.Facts.Members.{each_weaker}
use Rattle.cli_words.proofs.Filled.{found_each, not_empty, first, second, values_pass, AreGood}
use Rattle.cli_words.proofs.Filled.{good_with, IsFine, used_found, good_used}

module _ (c : List Rule) (fine : Each (IsFine c) c) (again : Bool) where
  fine_found : (test : Rule → Bool) → IfSome (find test c) (IsFine c)
  fine_found test = found_each (IsFine c) test c fine

  good_settled_rows : (pending : Option (Text × List Text)) (rows : List Row)
      → option_map_or (λ p. option_map_or (λ a. use_fault again a p.1 rows) (arg_by_id c p.0) [])
      pending [] ≡ []
      → AreGood c rows → AreGood c (settled_rows c pending rows)
  good_settled_rows None rows none good = good
  good_settled_rows (Some p) rows none good =
      used_found c again (arg_by_id c p.0) p.1 rows (fine_found (λ a. bytes_eq a.id p.0)) none good

  good_settled : (h : Held) → settle_fault c again h ≡ [] → AreGood c h.rows
      → AreGood c (settled c h).rows
  good_settled h none good = good_settled_rows h.pending h.rows none good

  good_reacted : (a : Rule) (values : List Text) (h : Held) → IsFine c a
      → react_fault c again a values h ≡ [] → AreGood c h.rows
      → AreGood c (reacted c a values h).rows
  good_reacted a values h is none good =
      grind (arith, good_used, second, good_settled, first, is, none, good)

  good_option : (a : Rule) (attached : Option Text) (h : Held) → IsFine c a
      → option_fault c again a attached h ≡ [] → AreGood c h.rows
      → AreGood c (option_met c a attached h).0.rows
  good_option a (Some v) h is none good = good_reacted a (v ∷ []) h is none good
  good_option a None h is none good = good_settled h none good

  long_by : (takes : Bool) (a : Rule) (attached : Option Text) (h : Held) → IsFine c a
      → cond takes (option_fault c again a attached h)
      (cond (is_some attached) (ErrorKind.TooManyValues ∷ []) (react_fault c again a [] h)) ≡ []
      → AreGood c h.rows
      → AreGood c (cond takes (option_met c a attached h) (flag_met c a attached h)).0.rows
  long_by true a attached h is none good = good_option a attached h is none good
  long_by false a (Some v) h is none good = good
  long_by false a None h is none good = good_reacted a [] h is none good

  good_long : (found : Option Rule) (attached : Option Text) (h : Held) → IfSome found (IsFine c)
      → long_fault c again found attached h ≡ [] → AreGood c h.rows
      → AreGood c (long_met c found attached h).0.rows
  good_long None attached h is none good = good
  good_long (Some a) attached h is none good = long_by (takes_values a) a attached h is none good

  short_by : (takes : Bool) (a : Rule) (rest : Text) (h : Held) (fails : Held → Kinds)
      (meets : Held → Held × Outcome) → IsFine c a
      → cond takes (option_fault c again a (attached_value rest) h)
      (or_else (react_fault c again a [] h) (fails (reacted c a [] h))) ≡ []
      → ((h : Held) → fails h ≡ [] → AreGood c h.rows → AreGood c (meets h).0.rows)
      → AreGood c h.rows
      → AreGood c
      (cond takes (option_met c a (attached_value rest) h) (meets (reacted c a [] h))).0.rows
  short_by true a rest h fails meets is none go good =
      good_option a (attached_value rest) h is none good
  short_by false a rest h fails meets is none go good =
      search (rules, second, good_reacted, first, is, none, go, good)

  good_short : (found : Option Rule) (rest : Text) (h : Held) (fails : Held → Kinds)
      (meets : Held → Held × Outcome) → IfSome found (IsFine c)
      → short_fault c again found rest h fails ≡ []
      → ((h : Held) → fails h ≡ [] → AreGood c h.rows → AreGood c (meets h).0.rows)
      → AreGood c h.rows → AreGood c (short_met c found rest h meets).0.rows
  good_short None rest h fails meets is none go good = good
  good_short (Some a) rest h fails meets is none go good =
      short_by (takes_values a) a rest h fails meets is none go good

  bundle_by : (x : Option ℕ) (flags : Text) (skip : ℕ) (so_far : Outcome) (h : Held)
      (fails : Text → ℕ → Held → Kinds) (meets : Text → ℕ → Outcome → Held → Held × Outcome)
      → bundle_step_fault c again x flags skip h fails ≡ []
      → ((flags : Text) (skip : ℕ) (so_far : Outcome) (h : Held) → fails flags skip h ≡ []
      → AreGood c h.rows → AreGood c (meets flags skip so_far h).0.rows)
      → AreGood c h.rows → AreGood c (bundle_step c x flags skip so_far h meets).0.rows
  bundle_by None flags skip so_far h fails meets none go good = good
  bundle_by (Some x) flags zero so_far h fails meets none go good =
      grind (arith, good_short, fine_found, none, go, good)
  bundle_by (Some x) flags (suc skip) so_far h fails meets none go good =
      go _ skip so_far h none good

  good_bundle : (k : ℕ) (flags : Text) (skip : ℕ) (so_far : Outcome) (h : Held)
      → flags_fault c again k flags skip h ≡ [] → AreGood c h.rows
      → AreGood c (bundle_met c k flags skip so_far h).0.rows
  unfolding flags_fault bundle_met
  good_bundle zero flags skip so_far h none good = good
  good_bundle (suc k) flags skip so_far h none good =
      bundle_by (slice_get (chars flags) 0) flags skip so_far h (flags_fault c again k)
      (bundle_met c k) none (good_bundle k) good

  option_rows : (found : Option Rule) (id word : Text) (h : Held) → AreGood c h.rows
      → AreGood c (option_word found id word h).0.rows
  option_rows None id word h good = good
  option_rows (Some a) id word h good = good

  good_plain : (waiting : Waiting) (word : Text) (h : Held) → AreGood c h.rows
      → AreGood c (plain_word c waiting word h).0.rows
  good_plain idle word h good = good
  good_plain (option id) word h good = option_rows (arg_by_id c id) id word h good
  good_plain positional word h good = good

  good_after : (waiting : Waiting) (word : Text) (h : Held) (outcome : Outcome) → AreGood c h.rows
      → AreGood c (after_flag c waiting word h outcome).0.rows
  good_after waiting word h done good = good
  good_after waiting word h (waits id) good = good
  good_after waiting word h plain good = good_plain waiting word h good
  good_after waiting word h refused good = good_plain waiting word h good

  short_word_by : (flags : Option Text) (waiting : Waiting) (word : Text) (h : Held)
      → option_map_or (λ flags. bundle_fault c again flags h) flags [] ≡ [] → AreGood c h.rows
      → AreGood c (Rattle.clap.specs.Walk.short_or_plain c waiting word flags h).0.rows
  short_word_by None waiting word h none good = good_plain waiting word h good
  short_word_by (Some flags) waiting word h none good =
      good_after waiting word (bundle c flags h).0 (bundle c flags h).1
      (good_bundle (length flags) flags h.skip plain (record h { skip = 0 }) none good)

  good_flag_word : (long : Option (Text × Option Text)) (waiting : Waiting) (word : Text) (h : Held)
      → flag_word_fault c again long word h ≡ [] → AreGood c h.rows
      → AreGood c (long_or_other c waiting word long h).0.rows
  good_flag_word (Some p) waiting word h none good =
      grind (arith, good_after, good_long, fine_found, none, good)
  good_flag_word None waiting word h none good =
      short_word_by (short_of word) waiting word h none good

  dashes_by : (dashes : Bool) (waiting : Waiting) (position : ℕ) (word : Text) (h : Held)
      → cond dashes [] (flag_word_fault c again (long_of word) word h) ≡ [] → AreGood c h.rows
      → AreGood c (cond dashes (h, trailing position)
      (long_or_other c waiting word (long_of word) h)).0.rows
  dashes_by true waiting position word h none good = good
  dashes_by false waiting position word h none good =
      good_flag_word (long_of word) waiting word h none good

  to_positional_by : (found : Option Rule) (stray : Kinds) (word : Text) (w : Walk) (h : Held)
      → option_map_or (λ a. positional_fault c again a h) found stray ≡ []
      → AreGood c h.rows → AreGood c (to_positional c found word w h).held.rows
  to_positional_by None stray word w h none good = good
  to_positional_by (Some a) stray word w h none good =
      grind (arith, good_settled, none, good)

module _ (s : Shape) (fine : Each (IsFine s.rules) s.rules) (names : Names) where
  good_other : (name : Option Text) (waiting : Waiting) (position : ℕ) (word : Text) (h : Held)
      → other_fault s name word h ≡ [] → AreGood s.rules h.rows
      → AreGood s.rules (subcommand_or_other s.rules name waiting position word h).0.rows
  good_other (Some name) waiting position word h none good = good
  good_other None waiting position word h none good =
      grind (arith, dashes_by, fine, none, good)

  good_word : (trails : Bool) (waiting : Waiting) (position : ℕ) (word : Text) (h : Held)
      → word_fault s names trails waiting word h ≡ [] → AreGood s.rules h.rows
      → AreGood s.rules (word_met s.rules names trails waiting position word h).0.rows
  good_word true waiting position word h none good = good
  good_word false waiting position word h none good =
      good_other (subcommand_met names waiting word) waiting position word h none good

  good_step : (step : Step) (word : Text) (w : Walk) (h : Held)
      → step_fault s w.position h step ≡ [] → AreGood s.rules h.rows
      → AreGood s.rules (after_step s.rules word w h step).held.rows
  good_step (next waiting) word w h none good = good
  good_step (trailing position) word w h none good = good
  good_step (subcommand name) word w h none good = good
  good_step value word w h none good =
      to_positional_by s.rules fine s.args_override_self (arg_by_index s.rules w.position)
      (stray_fault s) word w h none good

  turn_by : (stop : Option (Text × List Text)) (w : Walk) (word : Text)
      → (
      let met = word_met s.rules names w.is_trailing w.waiting w.position word w.held in
      cond (is_some stop) [] (or_else (word_fault s names w.is_trailing w.waiting word w.held)
      (step_fault s w.position met.0 met.1)) ≡ [])
      → AreGood s.rules w.held.rows
      → AreGood s.rules (walked_from s.rules names stop w word).held.rows
  turn_by (Some p) w word none good = good
  turn_by None w word none good =
      grind (arith, good_step, second, good_word, first, none, good)

  good_walk : (words : List Text) (w : Walk) → walk_fault s names w words ≡ []
      → AreGood s.rules w.held.rows
      → AreGood s.rules (fold (walked s.rules names) w words).held.rows
  unfolding walk_fault walked
  good_walk [] w none good = good
  good_walk (word ∷ words) w none good =
      let turn = turn_fault s names w word in
      let rest = walk_fault s names (walked s.rules names w word) words in
      good_walk words (walked s.rules names w word) (second turn rest none)
      (turn_by w.stopped w word (first turn rest none) good)

  default_by : (has : Bool) (a : Rule) (values : List Text) (rows : List Row) → IsFine s.rules a
      → cond (has || is_empty values) [] (given_default_fault a values) ≡ []
      → AreGood s.rules rows
      → AreGood s.rules (cond has rows (default_rows a.id (reading_by a) values rows))
  default_by true a values rows is none good = good
  default_by false a [] rows is none good = good
  default_by false a (v ∷ values) rows is none good =
      let given : given_default_fault a (v ∷ values) ≡ [] = rw (not_empty v values) at none in
      search (rules, second, good_with, each_weaker, values_pass, good, given, is.1, is.2)

  good_defaults : (rules : List Rule) (rows : List Row) → Each (IsFine s.rules) rules
      → defaults_fault rows rules ≡ [] → AreGood s.rules rows
      → AreGood s.rules (fold with_default rows rules)
  unfolding defaults_fault
  good_defaults [] rows each none good = good
  good_defaults (a ∷ rules) rows each none good =
      let here = default_fault rows a in
      let rest = defaults_fault (with_default rows a) rules in
      good_defaults rules (with_default rows a) each.1 (second here rest none)
      (default_by (has_row a.id rows) a a.defaults rows each.0 (first here rest none) good)

  -- what the last test has of a subcommand's own level
  pub level_rows : (words : List Text) → level_fault s names nothing_held words false [] ≡ []
      → AreGood s.rules (rows_after s.rules names words)
      × (check_fault s (rows_after s.rules names words) false ≡ [])
  level_rows words none =
      let end = (walk s.rules names nothing_held words).held in
      let walks = walk_fault s names (walk_from nothing_held) words in
      let settles = settle_fault s.rules s.args_override_self end in
      let defaults = defaults_fault (settled s.rules end).rows s.rules in
      let checks = check_fault s (rows_after s.rules names words) false in
      let later = second walks (or_else settles (or_else defaults checks)) none in
      let last = second settles (or_else defaults checks) later in
      let good = good_walk words (walk_from nothing_held)
      (first walks (or_else settles (or_else defaults checks)) none) tt in (
        good_defaults s.rules (settled s.rules end).rows fine (first defaults checks last)
            (good_settled s.rules fine s.args_override_self end
            (first settles (or_else defaults checks) later) good),
        second defaults checks last,
      )
