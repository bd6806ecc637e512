use Rattle.std.proofs.Common.{sym, ap, ◌+◌, ◌*◌, ◌∙◌, arith}
use Rattle.base_words.proofs.NumberLemmas.{few-digits, digits-more}
use Rattle.base_words.proofs.named.number_of_digits.Goals as goal

pub overflow_mul-number : goal.overflow_mul-number
overflow_mul-number c =
    let few = few-digits c.args.digits.now c.loop-digit.digit-index c.loop-digit.invariant.0 c.loop-digit-test.true c.loop-digit.invariant.1 in
    omega (arith, c.loop-digit.invariant.2)

pub overflow_add-number : goal.overflow_add-number
overflow_add-number c =
    let few = few-digits c.args.digits.now c.loop-digit.digit-index c.loop-digit.invariant.0 c.loop-digit-test.true c.loop-digit.invariant.1 in
    let fits = c.type_inv.digits c.loop-digit.digit-index in
    omega (arith, c.loop-digit.invariant.2)

pub loop-digit-preserved : goal.loop-digit-preserved
loop-digit-preserved c =
    let s = c.args.digits.now in
    let more = digits-more s c.loop-digit.digit-index c.loop-digit.number c.loop-digit-test.true
    (sym c.is_ascii_digit.ensures.value ∙ c.if-not-is_ascii_digit.false) c.loop-digit.invariant.1 c.loop-digit.invariant.2 in
    (c.loop-digit.invariant.0, more.0, ap (λ d. c.loop-digit.number * 10 + d) c.from.ensures ∙ more.1)
