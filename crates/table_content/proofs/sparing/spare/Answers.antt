use Rattle.std.proofs.Common.{rules}
use Rattle.std.specs.Prelude.{not}
use Rattle.std.proofs.lemmas.Fn.{filter_same}
use Rattle.table_content.specs.Sparing.{is_spared}
use Rattle.table_content.proofs.sparing.spare.Goals as goal

pub returns : goal.returns
returns c = filter_same _ (λ e. not (is_spared c.args.same e)) _ (λ x b f' k. search rules) _ _ c.retain.ensures
