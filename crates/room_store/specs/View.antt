-- What a contract sees of a store.
use Rattle.std.specs.Prelude.{ℕ, refl}
use Rattle.std.specs.Coded.{Coded, code_by, coded×, coded_ℕ}
use Rattle.sqlite.specs.Held.{Held, held_code}

-- its connection, and how often it has answered a fault as a desk
pub record StoreView (S : Type 0) : Type 0 where
  pub conn : Held S
  pub faults : ℕ

abbrev pub view_code : {S : Type 0} → Coded S → Coded (StoreView S)
view_code {S} store =
    code_by (Held S × ℕ) (coded× (held_code store) coded_ℕ) (λ v. (v.conn, v.faults))
    (λ p. record { conn = p.0; faults = p.1 }) (λ _. refl)
