use Rattle.std.proofs.Common.{List, ℕ, [], ◌∷◌, ◌++◌, ◌≡◌, ◌∙◌, ap, append_assoc, arith}
use Rattle.std.proofs.Common.{string_bytes}
use Rattle.room_entry.specs.Letters.{kind_text}
use Rattle.room_ace.specs.Text.{who_text}
use Rattle.room_ace.proofs.entry_text.write_entry.Goals as goal

-- what is added part by part, put together
joined : (before kind flags who mask colon a b d e f g h : List ℕ) → colon ≡ 58 ∷ []
    → a ≡ before ++ kind → b ≡ a ++ colon → d ≡ b ++ flags → e ≡ d ++ colon → f ≡ e ++ who
    → g ≡ f ++ colon → h ≡ g ++ mask
    → h ≡ before ++ (kind ++ 58 ∷ flags ++ 58 ∷ who ++ 58 ∷ mask)
joined before kind flags who mask colon a b d e f g h at_colon at_a at_b at_d at_e at_f at_g at_h =
    rw (at_h, at_g, at_f, at_e, at_d, at_b, at_a, at_colon) (simp append_assoc)

pub returns : goal.returns
returns c =
    joined _ _ _ _ _ _ _ _ _ _ _ _ _
    (c.in_ok-push.ensures.ascii (omega arith))
    (c.in_ok-push_str.ensures.bytes
    ∙ ap (λ part. string_bytes c.args.text.now ++ part)
    (c.kind_letter.ensures ∙ ap kind_text c.kind.ensures))
    c.in_ok-push.ensures.bytes
    (grind (arith, c.in_ok-push_flags.ensures, string_bytes, c.push.new.self, c.flags.ensures))
    c.in_ok-push-2.ensures.bytes
    (c.in_ok-push_str-2.ensures.bytes
    ∙ ap (λ part. string_bytes c.push-2.new.self ++ part)
    (c.who_str.ensures ∙ ap who_text c.who.ensures))
    c.in_ok-push-3.ensures.bytes
    (grind (arith, c.in_ok-push_letters.ensures, string_bytes, c.push-3.new.self, c.mask.ensures))
