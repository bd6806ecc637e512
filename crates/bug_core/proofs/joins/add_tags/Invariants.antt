use Rattle.std.proofs.Common.{◌≡◌, drop}
use Rattle.bug_record.specs.Tags.{tag_place}
use Rattle.bug_record.specs.Sets.{with_items}
use Rattle.bug_core.proofs.joins.add_tags.Given as goal

abbrev pub invariant-loop-tag : goal.invariant-loop-tag
invariant-loop-tag l = with_items tag_place l.set (drop l.tag-index l.tags) ≡ with_items tag_place l.fn.set l.tags
