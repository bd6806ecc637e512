-- What differs between the bugs of two lists of images.
use Rattle.std.specs.Prelude.{ℕ, ◌≡◌, ◌==◌, Bool, not, ◌&&◌, List, Some, slice_get}
use Rattle.std.specs.Str.{bytes_eq}
use Rattle.std.specs.Cmp.Lexicographic.{pointwise}
use Rattle.bug_record.specs.Images.{numbers_of, bug_in}
use Rattle.bug_record.specs.Changed.{same_shared, same_at}
use Rattle.bug_record.specs.declared.bug.Member.{Member}
use Rattle.bug_record.specs.declared.bug.SetImage.{SetImage}
use Rattle.bug_images.specs.declared.changes.Compared.{Compared}

-- whether the bug n differs
abbrev pub differs : List SetImage → List SetImage → ℕ → Bool
differs old new n = not (same_at (bug_in old n) (bug_in new n))

-- whether the titles and the submitters are equal
abbrev pub same_texts : Member → Member → Bool
same_texts a b = bytes_eq a.title b.title && bytes_eq a.submitter b.submitter

-- whether the sets are the same bugs, with equal shared fields
abbrev pub same_set : SetImage → SetImage → Bool
same_set a b = same_shared a.shared b.shared && bytes_eq (numbers_of a.members) (numbers_of b.members)

-- whether the members are equal, place by place
abbrev pub same_member : Member → Member → Bool
same_member a b = (a.number == b.number) && same_texts a b

abbrev pub same_members : List Member → List Member → Bool
same_members ms ns = pointwise same_member ms ns

-- whether the images are equal, place by place
abbrev pub same_image : SetImage → SetImage → Bool
same_image i j = same_shared i.shared j.shared && same_members i.members j.members

abbrev pub same_images : List SetImage → List SetImage → Bool
same_images is js = pointwise same_image is js

-- the answer is that of the sets at the two positions, if there are such
abbrev pub IsRight : List SetImage → List SetImage → Compared → Type 0
IsRight olds news c =
    (i j : SetImage) → slice_get olds c.before ≡ Some i → slice_get news c.after ≡ Some j → c.same ≡ same_set i j
