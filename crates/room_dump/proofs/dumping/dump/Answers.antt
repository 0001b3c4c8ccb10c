use Rattle.std.proofs.Common.{◌≡◌, Some, length, ap, subst, string_bytes, ◌∙◌}
use Rattle.room_rows.specs.{Content.root_of, Rows.numbers_of}
use Rattle.room_dump.specs.{Dump.IsDumpText, declared.visiting.Visit.Visit, Visits.{GoesOn, IsFrom}}
use Rattle.room_dump.proofs.{Dumped.{dumped, goes}, Reading.{Knows, answered, fails, knows, learns}}
use Rattle.room_dump.proofs.dumping.dump.Goals as goal

pub returns-in_err-push_all : goal.returns-in_err-push_all
returns-in_err-push_all g c =
    let k = g.K.Keep in
    let laws = g.met.K.Keep.laws in
    let a = c.args.keep.now in
    let b = c.ids.new.self in
    let d = c.root.new.self in
    let most = c.len-most.result in
    let root = c.in_ok-root.root in
    let walk = c.in_ok-walk.walk in
    let counted : Knows k laws a b (λ rows. most ≡ length (numbers_of rows)) =
    learns k laws a a b c.in_ok-ids.field-0 (knows k laws a (λ rows are. are))
    c.in_ok-ids.ensures.read (λ rows are _ is. c.len-most.ensures ∙ ap length is) in
    let found : Knows k laws a d (λ rows. GoesOn rows walk) =
    learns k laws a b d root counted c.in_ok-root.ensures.read (λ rows are many is.
    goes rows are most root walk many is
    (subst (λ (v : Visit). IsFrom most v walk) c.first.ensures c.in_ok-walk.ensures)) in
    record {
      read =
          fails k laws a d c.push_all.new.keep c.in_err-push_all.field-0.0
          c.from_residual-in_err-push_all.result (λ rows are goes row hole. hole goes) found
          c.in_err-push_all.ensures.read c.from_residual-in_err-push_all.ensures.1;
    }

pub returns : goal.returns
returns g c =
    let k = g.K.Keep in
    let laws = g.met.K.Keep.laws in
    let a = c.args.keep.now in
    let b = c.ids.new.self in
    let d = c.root.new.self in
    let e = c.push_all.new.keep in
    let most = c.len-most.result in
    let root = c.in_ok-root.root in
    let text = string_bytes c.push_all.new.text in
    let counted : Knows k laws a b (λ rows. most ≡ length (numbers_of rows)) =
    learns k laws a a b c.in_ok-ids.field-0 (knows k laws a (λ rows are. are))
    c.in_ok-ids.ensures.read (λ rows are _ is. c.len-most.ensures ∙ ap length is) in
    let found : Knows k laws a d (λ rows.
    (most ≡ length (numbers_of rows)) × (root_of rows.read ≡ Some root)) =
    learns k laws a b d root counted c.in_ok-root.ensures.read (λ rows are many is. (many, is)) in
    let told : Knows k laws a e (λ rows. IsDumpText rows text) =
    learns k laws a d e c.in_ok-push_all.field-0 found c.in_ok-push_all.ensures.read
    (λ rows are is adds. dumped rows are most root c.in_ok-walk.walk is.0 is.1
    (subst (λ (v : Visit). IsFrom most v c.in_ok-walk.walk) c.first.ensures c.in_ok-walk.ensures)
    (string_bytes c.new-text.result) text c.new-text.ensures.bytes adds) in
    record { read = answered k laws a e c.push_all.new.text told }
