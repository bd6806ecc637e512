use Rattle.std.proofs.Common.{rules, sym, ◌∙◌, ap}
use Rattle.std.specs.List.{list_all}
use Rattle.std.specs.Char.{is_ascii_digit}
use Rattle.program_options.specs.Numbers.{number_in}
use Rattle.program_options.proofs.NumberLemmas.{number_in-unparsed}
use Rattle.program_options.proofs.numbers.number_in.Goals as goal

pub returns-in_default-3 : goal.returns-in_default-3
returns-in_default-3 c =
    sym (number_in-unparsed c.args.least c.args.most c.args.text.now c.parse.result c.in_default.field-0 c.parse.ensures.value.0 c.in_default.is
    (sym (c.all_digits.ensures ∙ ap (list_all is_ascii_digit) c.as_bytes.ensures.value) ∙ c.if-not-all_digits.false)
    c.ranges.most.fits)

pub returns-in-Ok : goal.returns-in-Ok
unfolding number_in
returns-in-Ok c = search rules
