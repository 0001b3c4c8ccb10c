-- The values of the fields of one name.
use Rattle.std.specs.Prelude.{◌≡◌, ℕ, List, [], ◌∷◌, ⊤}
use Rattle.http_message.specs.declared.fields.Values.{Values}

-- none, one, or several
abbrev pub AreValues : List (List ℕ) → Values → Type 0
AreValues [] Values.Zero = ⊤
AreValues [] (Values.One w) = ⊥
AreValues [] Values.Many = ⊥
AreValues (v ∷ []) Values.Zero = ⊥
AreValues (v ∷ []) (Values.One w) = w.now ≡ v
AreValues (v ∷ []) Values.Many = ⊥
AreValues (u ∷ v ∷ vs) Values.Zero = ⊥
AreValues (u ∷ v ∷ vs) (Values.One w) = ⊥
AreValues (u ∷ v ∷ vs) Values.Many = ⊤
