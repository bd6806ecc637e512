-- The parts of a script as its lines are gathered, one after another.
use Rattle.std.specs.Prelude.{ℕ, List, [], ◌∷◌, ◌++◌, if◌then◌else◌}
use Rattle.desk_run.specs.Script.{Part, Message, DirectiveLine, is_directive}

-- the parts of a script of which these lines are left, where the lines `gathered` are those of the
-- message so far
abbrev pub parts_from : List (List ℕ) → List (List ℕ) → List Part
parts_from gathered [] = Message gathered ∷ []
parts_from gathered (line ∷ lines) =
    if is_directive line then Message gathered ∷ DirectiveLine line ∷ parts_from [] lines
    else parts_from (gathered ++ line ∷ []) lines
