use Rattle.room_question.proofs.draft.Draft.with_object.Goals as goal

pub invariant_of-result : goal.invariant_of-result
invariant_of-result c =
    rw c.in_ok-push.ensures.ok
    (c.in_ok-seen.ensures c.self.inside.question.objects c.self.invariant)
