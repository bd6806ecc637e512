-- What a change makes of a content: the rows of all its images are cleared, and then those of each
-- image are put.
-- This project's own rule.
use Rattle.std.specs.Prelude.{Bool, List, [], ◌∷◌}
use Rattle.std.specs.List.{list_all}
use Rattle.bug_record.specs.Sets.{Each}
use Rattle.bug_record.specs.Images.{AreApart, HasMember, FitsDesk}
use Rattle.bug_record.specs.declared.bug.SetImage.{SetImage}
use Rattle.bug_record.specs.declared.command.Change.{Change}
use Rattle.store_keys.specs.Keys.{key_of}
use Rattle.table_content.specs.Content.{Content}
use Rattle.table_content.specs.View.{desk_in}
use Rattle.table_content.specs.Images.{same_marks, without_image, with_image}

-- whether the image's marks stand under its key already
abbrev pub keeps_marks : Content → SetImage → Bool
keeps_marks c i = same_marks i (c.found (key_of i)) (c.fixed (key_of i))

-- whether the marks of all images do
abbrev pub all_stay : Content → List SetImage → Bool
all_stay c is = list_all (keeps_marks c) is

-- without the images' rows; the marks that stay are those that stood before
abbrev pub without_images : Content → List SetImage → Content → Content
without_images before [] c = c
without_images before (i ∷ is) c = without_images before is (without_image (keeps_marks before i) i c)

abbrev pub with_images : List SetImage → Content → Content
with_images [] c = c
with_images (i ∷ is) c = with_images is (with_image i c)

abbrev pub cleared_for : Content → Change → Content
cleared_for c change = without_images c change.images c

abbrev pub changed : Content → Change → Content
changed c change = record (with_images change.images (cleared_for c change)) { next = change.next }

-- the change may be made: each image has a bug, no bug is in two, and it fits the desk that is
-- shown
pub record FitsContent (c : Content) (change : Change) : Type 0 where
  pub members : Each HasMember change.images
  pub apart : AreApart change.images
  pub fits : FitsDesk (desk_in c) change
