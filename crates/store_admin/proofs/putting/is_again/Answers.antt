use Rattle.std.proofs.Common.{sym, ◌∙◌, arith}
use Rattle.store_admin.proofs.Gathering.{is_again_by}
use Rattle.store_admin.proofs.putting.is_again.Goals as goal

pub returns : goal.returns
returns c =
    let h = is_again_by c.args.order.now c.args.index c.index-order-index-2.result
    c.index-order-index.result
    (omega arith) c.requires c.index-order-index-2.is c.index-order-index.is in
    (λ same. h.0 (sym c.is_same.ensures ∙ same), λ stands. c.is_same.ensures ∙ h.1 stands)
