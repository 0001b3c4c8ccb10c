use Rattle.std.proofs.Common.{◌≡◌, ◌∙◌, sym, ap, arith, refl}
use Rattle.room_rows.specs.Content.{put_body}
use Rattle.room_memory.{specs.Memory.memory_rows, proofs.Changed.filled_rows}
use Rattle.room_memory.proofs.memory.MemKeepKeep.set_body.Goals as goal

pub returns-clause-written : goal.returns-clause-written
returns-clause-written c =
    let k = c.args.self.now in
    let fills : c.put.new.self ≡ put_body c.args.id c.args.bytes.now k.bodies =
    c.in_ok-put.ensures.ok
    ∙ ap (λ b. put_body c.args.id b k.bodies)
    (c.from_vec-bytes.ensures ∙ c.in_ok-from_slice.ensures.items) in
    record {
      follows = (
        omega arith,
        c.count_one.ensures.no_less,
        filled_rows k.nodes k.bodies c.put.new.self k.members k.notes c.args.id
            c.args.bytes.now (sym c.has_document.ensures ∙ c.if-not-has_document.false) fills,
      );
      written = c.count_one.ensures.capped;
      becomes = λ t is. ap (λ bs. memory_rows k.nodes bs k.members k.notes) fills;
      unfailed = refl;
      fault = tt;
    }
