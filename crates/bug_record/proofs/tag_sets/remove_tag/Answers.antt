use Rattle.std.proofs.Common.{rules}
use Rattle.std.specs.Prelude.{not}
use Rattle.std.proofs.lemmas.Fn.{filter_same}
use Rattle.bug_record.specs.Tags.{same_tag}
use Rattle.bug_record.proofs.tag_sets.remove_tag.Goals as goal

pub returns : goal.returns
returns c = filter_same _ (λ u. not (same_tag c.args.tag u)) _ (λ x b f' k. search rules) _ _ c.retain.ensures
