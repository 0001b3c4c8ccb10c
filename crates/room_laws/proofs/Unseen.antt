-- What happens behind a folder isn't seen outside, over runs.
use Rattle.std.proofs.{Common.{ℕ, ◌≡◌, ◌⊎◌, List, [], ◌∷◌, arith}, lemmas.Bool.Decides.nat_tests}
use Rattle.room_machine.specs.{Run.{Asked, WasReset, Replaced}, declared.reply.Reply.Reply}
use Rattle.room_machine.specs.declared.request.Request.{Request, TheVariants.Remove}
use Rattle.room_laws.specs.{Laws.{IsTold, TellsNames, front_after}, Twins.{Unseen, InBoth}}
use Rattle.room_laws.specs.Twins.{InFirst, InBothReplaced, InBothReset, InSecond}
use Rattle.room_laws.proofs.{Behind.{numbers_stay, same_back, same_on}, Quiet.stays_behind}
use Rattle.room_laws.proofs.OperatorAlike.{replaced_alike, reset_replies, reset_stays}
use Rattle.room_laws.proofs.{StaysAlike.outside_stays, TidySteps.tidy_stays}
use Rattle.room_laws.proofs.Told.{nothing_else_tells}

-- whether the front could be removed isn't told where it is removed in both or in neither
replies_alike : (f : List (List ℕ)) (request : Request) (first second : Reply)
    → (request ≡ Remove f → first ≡ second)
    → (first ≡ second) ⊎ IsTold f request first second
    → (first ≡ second) ⊎ TellsNames f request first second
replies_alike f request first second removes given = grind (arith, nat_tests)

pub unseen : Unseen
unseen f [] a b c d same content_a content_b one two is_c is_d alike = grind (arith, nat_tests)
unseen f (InBoth user moment later request first second ∷ turns) a b c d same content_a content_b
    one two (mid, s, run) (other, t, others) ((removes, barred), alike) =
    let content_mid = tidy_stays a (Asked user moment request first) mid one content_a s in
    let content_other = tidy_stays b (Asked user later request second) other two content_b t in
    let on = unseen (front_after f request first) turns mid other c d
    (search (outside_stays)) content_mid content_other
    (numbers_stay a (Asked user moment request first) mid one s)
    (numbers_stay b (Asked user later request second) other two t) run others alike in
    search (nothing_else_tells, replies_alike)
unseen f (InBothReset path which sent first second ∷ turns) a b c d same content_a content_b one two
    (mid, s, run) (other, t, others) (outside, alike) =
    let content_mid = tidy_stays a (WasReset path which sent first) mid one content_a s in
    let content_other = tidy_stays b (WasReset path which sent second) other two content_b t in
    let on = unseen f turns mid other c d
    (search (reset_stays)) content_mid content_other
    (numbers_stay a (WasReset path which sent first) mid one s)
    (numbers_stay b (WasReset path which sent second) other two t) run others alike in
    search (reset_replies)
unseen f (InBothReplaced pairs ∷ turns) a b c d same content_a content_b one two
    (mid, is_mid, run) (other, is_other, others) alike =
    let content_mid = tidy_stays a (Replaced pairs) mid one content_a is_mid in
    let content_other = tidy_stays b (Replaced pairs) other two content_b is_other in
    unseen f turns mid other c d
    (replaced_alike f a b mid other pairs same is_mid is_other content_mid content_other)
    content_mid content_other
    (numbers_stay a (Replaced pairs) mid one is_mid)
    (numbers_stay b (Replaced pairs) other two is_other) run others alike
unseen f (InFirst event ∷ turns) a b c d same content_a content_b one two (mid, happens, run) others
    (unseen_here, alike) =
    let content_mid = tidy_stays a event mid one content_a happens in
    let stays = stays_behind f a event mid one unseen_here happens in
    unseen f turns mid b c d (same_on f mid a b (same_back f a mid stays.0) same) content_mid
    content_b stays.1 two run others alike
unseen f (InSecond event ∷ turns) a b c d same content_a content_b one two run
    (other, happens, others) (unseen_here, alike) =
    let content_other = tidy_stays b event other two content_b happens in
    let stays = stays_behind f b event other two unseen_here happens in
    unseen f turns a other c d (same_on f a b other same stays.0) content_a content_other one
    stays.1 run others alike
