use Rattle.std.proofs.Common.{◌≡◌, drop}
use Rattle.bug_record.specs.Tags.{has_tag}
use Rattle.table_encodings.proofs.encodings.has_tag.Given as goal

abbrev pub invariant-loop-other : goal.invariant-loop-other
invariant-loop-other l = has_tag (drop l.other-index l.tags) l.tag ≡ has_tag l.tags l.tag
