-- The image of a bug's set, the images of some bugs' sets, and those of other sets.
use Rattle.std.specs.Prelude.{ℕ, Bool, true, false, not, ◌&&◌, List, [], ◌∷◌, filter}
use Rattle.std.specs.List.{list_any}
use Rattle.bug_record.specs.Sets.{has}
use Rattle.bug_record.specs.Images.{numbers_of}
use Rattle.bug_record.specs.declared.bug.Member.{Member}
use Rattle.bug_record.specs.declared.bug.SetImage.{SetImage}

abbrev pub is_any : List Member → Bool
is_any [] = false
is_any (m ∷ ms) = true

-- whether one of the numbers ns is in the list
abbrev pub has_any : List ℕ → List ℕ → Bool
has_any xs ns = list_any (has xs) ns

-- whether the image has one of the bugs ns
abbrev pub is_meant : List ℕ → SetImage → Bool
is_meant ns i = has_any (numbers_of i.members) ns

-- the images that have one of the bugs ns
abbrev pub those_meant : List ℕ → List SetImage → List SetImage
those_meant ns is = filter (is_meant ns) is

-- whether the image has a member, and none of the bugs ns
abbrev pub is_other : List ℕ → SetImage → Bool
is_other ns i = is_any i.members && not (is_meant ns i)

-- the images that have a member, and none of the bugs ns
abbrev pub others : List ℕ → List SetImage → List SetImage
others ns is = filter (is_other ns) is
