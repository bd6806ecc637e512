use Rattle.std.proofs.Common.{◌∙◌, ap, codes, map}
use Rattle.clap.specs.Words.{first_of, found_of}
use Rattle.clap.proofs.WalkLemmas.{first_value-rows}
use Rattle.program_options.specs.Options.{value_in}
use Rattle.program_options.proofs.OptionLemmas.{same_given}
use Rattle.program_options.proofs.options.read_values.Goals as goal

pub returns-clause-values : goal.returns-clause-values
unfolding value_in
returns-clause-values c =
    let words = map (λ s. s.now) c.args.words.now in
    let found = found_of c.in_ok-matches.matches in
    let rows = c.in_ok-matches.ensures.rows in
    same_given _ words
    (c.get_str.ensures ∙ first_value-rows found (codes "store") ∙ ap (first_of (codes "store")) rows)
    (c.get_str-2.ensures ∙ first_value-rows found (codes "from") ∙ ap (first_of (codes "from")) rows)
    (c.get_str-3.ensures ∙ first_value-rows found (codes "id") ∙ ap (first_of (codes "id")) rows)
    (c.get_str-4.ensures ∙ first_value-rows found (codes "port") ∙ ap (first_of (codes "port")) rows)
    (c.get_str-5.ensures ∙ first_value-rows found (codes "count") ∙ ap (first_of (codes "count")) rows)
    (c.get_str-6.ensures ∙ first_value-rows found (codes "first") ∙ ap (first_of (codes "first")) rows)
