use Rattle.std.proofs.Common.{◌≡◌, take}
use Rattle.bug_record.specs.Images.{numbers_of}
use Rattle.bug_record.specs.Merges.{others_merged}
use Rattle.desk_text.proofs.pages.other_numbers.Given as goal

abbrev pub invariant-loop-member : goal.invariant-loop-member
invariant-loop-member l = l.others ≡ others_merged l.number (numbers_of (take l.member-index l.members))
