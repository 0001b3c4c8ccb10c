use Rattle.std.proofs.Common.{sym, ◌∙◌}
use Rattle.room_http.proofs.Digits.{refused-text, too-large, whole-number, next-number}
use Rattle.room_http.proofs.fields.length_in.Goals as goal

pub returns-then-not-is_digits-clause-value : goal.returns-then-not-is_digits-clause-value
returns-then-not-is_digits-clause-value c =
    refused-text _ (sym c.is_digits.ensures ∙ c.if-not-is_digits.true)

pub returns-then-number-gt-MAX_BODY-clause-value : goal.returns-then-number-gt-MAX_BODY-clause-value
returns-then-number-gt-MAX_BODY-clause-value c =
    let number = sym c.is_digits.ensures ∙ c.if-not-is_digits.false in
    too-large _ _ _ number
    (next-number _ _ _ _ c.loop-digit-test.true number c.loop-digit.invariant.0
    c.from-value.ensures) c.if-number-gt-MAX_BODY.true

pub loop-digit-preserved : goal.loop-digit-preserved
loop-digit-preserved c =
    let number = sym c.is_digits.ensures ∙ c.if-not-is_digits.false in (
      next-number _ _ _ _ c.loop-digit-test.true number c.loop-digit.invariant.0
          c.from-value.ensures,
      c.if-number-gt-MAX_BODY.false,
    )

pub returns-clause-value : goal.returns-clause-value
returns-clause-value c =
    whole-number _ _ _ (sym c.is_digits.ensures ∙ c.if-not-is_digits.false) c.loop-digit.invariant.0
    c.loop-digit.invariant.1 c.loop-digit-test.false
