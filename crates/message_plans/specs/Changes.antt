-- When a change may be made on a desk.
use Rattle.std.specs.Prelude.{ℕ, ◌≡◌, List, Option}
use Rattle.bug_record.specs.Desk.{Desk}
use Rattle.base_words.specs.Texts.{IfGiven}
use Rattle.bug_record.specs.Images.{AreApart, FitsDesk}
use Rattle.bug_record.specs.Changed.{Replaces}
use Rattle.bug_record.specs.declared.bug.SetImage.{SetImage}
use Rattle.bug_record.specs.declared.command.Change.{Change}

-- the change may be made on the desk with this next number, and stands in the place of these images
pub record MayBeMade (d : Desk) (images : List SetImage) (next : ℕ) (change : Change) : Type 0 where
  pub next_is : d.next ≡ next
  pub fits : FitsDesk d change
  pub replaces : Replaces d images change.images change.next

-- the change, if there is one, may be made on the desk: no bug is in two of its images
pub record Fits (d : Desk) (change : Option Change) : Type 0 where
  pub apart : IfGiven (λ c. AreApart c.images) change
  pub fits : IfGiven (FitsDesk d) change
