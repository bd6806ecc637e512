use Rattle.std.proofs.Common.{◌≤◌, length, subst, sym}
use Rattle.std.proofs.lemmas.List.Sums.{prefix_len-le-length}
use Rattle.program_options.specs.Cut.{is_option}
use Rattle.program_options.proofs.CutLemmas.{front-map, back-map}
use Rattle.program_options.proofs.cut.cut.Goals as goal

pub split_at-requires : goal.split_at-requires
split_at-requires c =
    subst (λ n. n ≤ length c.args.words.now) (sym c.option_count.ensures) (prefix_len-le-length (λ word. is_option word.now) c.args.words.now)

pub returns-clause-options : goal.returns-clause-options
returns-clause-options c =
    front-map is_option (λ s. s.now) c.option_count.result c.split_at.result.0.now c.args.words.now c.option_count.ensures c.split_at.ensures.front

pub returns-clause-command : goal.returns-clause-command
returns-clause-command c =
    back-map is_option (λ s. s.now) c.option_count.result c.split_at.result.1.now c.args.words.now c.option_count.ensures c.split_at.ensures.back
