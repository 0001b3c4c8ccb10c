use Rattle.std.proofs.Common.{◌≡◌, ◌<◌, ◌++◌, ◌∷◌, [], ℕ, length, map, sym, subst, ap, ◌∙◌, arith}
use Rattle.room_rows.specs.{Rows.{Rows, numbers_of}, Walk.walk_of}
use Rattle.room_dump.proofs.Reading.{Knows, answered, knows, learns, tail}
use Rattle.room_turns.specs.Stands.{entry_of}
use Rattle.room_turns.proofs.Walked.{all_from, none_from, starts_there, way}
use Rattle.room_turns.proofs.walking.spots_behind.Goals as goal

pub returns-then-rest-gt0 : goal.returns-then-rest-gt0
returns-then-rest-gt0 g c =
    let k = g.K.Keep in
    let laws = g.met.K.Keep.laws in
    let a = c.args.keep.now in
    let some : 0 < c.args.rest = let over = c.if-rest-gt0.true in omega (arith, over) in
    record {
      read =
          answered k laws a a c.new.result
          (knows k laws a (λ rows are walked view shows. c.new.ensures.items
          ∙ ap (map (entry_of view c.args.asked.now.parties.items))
          (sym (none_from rows c.args.start.now c.args.rest some walked))));
    }

pub returns : goal.returns
returns g c =
    let k = g.K.Keep in
    let laws = g.met.K.Keep.laws in
    let a = c.args.keep.now in
    let b = c.ids.new.self in
    let d = c.spots_at.new.keep in
    let most = c.len-most.result in
    let start = c.args.start.now in
    let counted : Knows k laws a b (λ rows. most ≡ length (numbers_of rows)) =
    learns k laws a a b c.in_ok-ids.field-0 (knows k laws a (λ rows are. are))
    c.in_ok-ids.ensures.read (λ rows are _ is. c.len-most.ensures ∙ ap length is) in
    let none : c.args.rest ≡ 0 = let over = c.if-rest-gt0.false in omega (arith, over) in
    let at_end : (rows : Rows)
    → record { chain = start.above ++ start.node ∷ []; rest = c.args.rest }
    ≡ walk_of rows.read start.path
    → record { chain = start.above ++ start.node ∷ []; rest = 0 } ≡ walk_of rows.read start.path =
    λ rows walked. subst (λ (n : ℕ). record { chain = start.above ++ start.node ∷ []; rest = n }
    ≡ walk_of rows.read start.path) none walked in
    record {
      read =
          tail k laws a b d c.spots_at.result counted
          (λ rows are many row astray walked.
          astray (way rows start) (starts_there rows start most many (at_end rows walked)))
          (λ rows are many all gives walked view shows.
          gives view shows (way rows start) (starts_there rows start most many (at_end rows walked))
          ∙ ap (map (entry_of view c.args.asked.now.parties.items))
          (sym (all_from rows start (at_end rows walked))))
          c.spots_at.ensures.read;
    }
