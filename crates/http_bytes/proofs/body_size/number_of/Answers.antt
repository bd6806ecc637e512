use Rattle.std.proofs.Common.{◌≡◌, true}
use Rattle.std.specs.Char.{is_ascii_digit}
use Rattle.std.proofs.Common.{get_or}
use Rattle.std.proofs.lemmas.List.Folds.{list_all_more}
use Rattle.http_bytes.proofs.HeaderLemmas.{number-more, below-ten}
use Rattle.http_bytes.proofs.body_size.number_of.Goals as goal

pub loop-digit-preserved : goal.loop-digit-preserved
loop-digit-preserved c =
    let text = c.args.text.now in
    let i = c.loop-digit.digit-index in
    let digit : is_ascii_digit (get_or text i 0) ≡ true = cc (c.is_ascii_digit.ensures.value) in
    record {
      digits = rw (list_all_more is_ascii_digit text i 0 c.loop-digit-test.true, c.loop-digit.invariant.digits, digit);
      same = number-more text i _ _ c.loop-digit-test.true digit c.from.ensures c.loop-digit.invariant.same;
      small = below-ten _ _ _ (get_or text i 0) digit c.from.ensures c.loop-digit.invariant.small;
    }
