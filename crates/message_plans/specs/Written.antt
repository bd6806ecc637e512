-- What is written of a change.
-- This project's own rule.
use Rattle.std.specs.Prelude.{ℕ, nat_lt, List, length, filter, if◌then◌else◌}
use Rattle.bug_record.specs.Sets.{has}
use Rattle.bug_record.specs.declared.bug.SetImage.{SetImage}
use Rattle.bug_record.specs.declared.command.Change.{Change}
use Rattle.message_plans.specs.Images.{meets}

-- the images that have one of these bugs
abbrev pub images_with : List ℕ → List SetImage → List SetImage
images_with numbers images = filter (λ i. meets (has numbers) i.members) images

-- Of a change that changes these bugs: of more than one image, those that have such a bug.
abbrev pub written : List ℕ → Change → Change
written numbers c = record c { images = if nat_lt (length c.images) 2 then c.images else images_with numbers c.images }
