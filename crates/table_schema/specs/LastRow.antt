-- The last row that passes a test, if one does.
use Rattle.std.specs.Prelude.{Bool, List, [], ◌∷◌, Option, Some, None, if◌then◌else◌}

-- the one, or else the other
abbrev pub or_else : {A : Type 0} → Option A → Option A → Option A
or_else (Some x) other = Some x
or_else None other = other

abbrev pub last_row : {T : Type 0} → (T → Bool) → List T → Option T
last_row p [] = None
last_row p (x ∷ xs) = or_else (last_row p xs) (if p x then Some x else None)
