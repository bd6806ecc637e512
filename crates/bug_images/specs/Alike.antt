-- Images of which the first have the same members.
use Rattle.std.specs.Prelude.{◌≡◌, List, ◌∷◌}
use Rattle.bug_record.specs.declared.bug.SetImage.{SetImage}

-- the first images of both lists, where both have one, have the same members
abbrev pub BeginAlike : List SetImage → List SetImage → Type 0
BeginAlike olds news = (o n : SetImage) (os ns : List SetImage) → olds ≡ o ∷ os → news ≡ n ∷ ns → o.members ≡ n.members
