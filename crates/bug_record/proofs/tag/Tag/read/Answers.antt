use Rattle.std.proofs.Common.{◌∙◌, ap}
use Rattle.std.specs.List.{find}
use Rattle.base_words.specs.AnyCase.{is_word}
use Rattle.bug_record.specs.Tags.{tag_name}
use Rattle.bug_record.proofs.tag.Tag.read.Goals as goal

pub returns : goal.returns
returns c = c.find_spelled.ensures ∙ ap (find (λ tag. is_word c.args.word.now (tag_name tag))) c.as_slice.ensures
