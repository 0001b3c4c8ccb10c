use Rattle.std.proofs.Common.{ℕ, List, ap, inl, subst, ◌∙◌}
use Rattle.room_rows.specs.{Keep.IsUnreadable, Rows.Rows}
use Rattle.room_judge.specs.Halted.{replied}
use Rattle.room_desk.specs.Written.{HasNoBytes, IsAppended, sized_reply}
use Rattle.room_judge.proofs.{Calls.{done, none_done, of_read, tail}, Halts.{faults, memory_out}}
use Rattle.room_desk.proofs.Bytes.Appending.{answers, if_ok, no_bytes_more, put_joined, put_kept}
use Rattle.room_desk.proofs.writing.append_at.Goals as goal

pub returns-in_err-before-clause-done : goal.returns-in_err-before-clause-done
returns-in_err-before-clause-done g c =
    let m = g.met.K.Keep in
    faults m.laws (none_done m.laws c.args.keep.now) (of_read c.in_err-before.ensures.read)
    (λ old mid at are same h. subst (λ (r : Rows). HasNoBytes c.args.id r at) same h)
    c.from_residual.result c.from_residual.ensures.1

pub returns-then-are_none-clause-done : goal.returns-then-are_none-clause-done
returns-then-are_none-clause-done g c =
    let path = c.args.ask.now.path.now in
    let bytes = c.args.bytes.now in
    let before : List ℕ = c.in_ok-before.before in
    let none =
    no_bytes_more bytes c.as_slice.result.now c.is_empty-are_none.result c.as_slice.ensures
    c.is_empty-are_none.ensures c.if-are_none.true in
    answers g.met.K.Keep.laws (IsAppended path c.args.id bytes)
    (done (of_read c.in_ok-before.ensures.read)) c.sized_reply.result
    (sized_reply path c.len.result) c.sized_reply.ensures
    (λ old new are both.
    record {
      before = before;
      were = both.0;
      put =
          put_kept path c.args.id before bytes old new _ are both.0 none
          (ap (sized_reply path) c.len.ensures) both.1;
    })

pub returns-then-are_none-clause-quiet : goal.returns-then-are_none-clause-quiet
returns-then-are_none-clause-quiet g c =
    λ none. if_ok c.sized_reply.result c.in_ok-before.ensures.read.unwritten

pub returns-in_err-joined-clause-done : goal.returns-in_err-joined-clause-done
returns-in_err-joined-clause-done g c =
    memory_out g.met.K.Keep.laws (done (of_read c.in_ok-before.ensures.read))
    c.from_residual-in_err-joined.result c.from_residual-in_err-joined.ensures.1

pub returns-clause-done : goal.returns-clause-done
returns-clause-done g c =
    let path = c.args.ask.now.path.now in
    let bytes = c.args.bytes.now in
    let before : List ℕ = c.in_ok-before.before in
    tail g.met.K.Keep.laws (done (of_read c.in_ok-before.ensures.read)) c.put_bytes.ensures.done
    (λ old mid at both h. inl (subst (λ (r : Rows). IsUnreadable r at) both.1 h))
    (λ old mid outcome new both put.
    record {
      before = before;
      were = both.0;
      put =
          put_joined path c.args.id before bytes c.as_slice-2.result.now old mid new
          (replied outcome) (c.as_slice-2.ensures.value ∙ c.in_ok-joined.ensures) both.1 put;
    })
