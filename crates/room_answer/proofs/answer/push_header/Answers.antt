use Rattle.room_answer.proofs.answer.push_header.Goals as goal

pub returns-clause-text : goal.returns-clause-text
returns-clause-text c =
    simp (
      c.as_bytes.ensures.value,
      c.as_bytes-2.ensures.value,
      c.as_bytes-3.ensures.value,
      c.as_bytes-4.ensures.value,
      c.as_bytes-5.ensures.value,
      c.as_bytes-6.ensures.value,
      c.as_bytes-7.ensures.value,
    ) at c.push_row.ensures.text
