-- The keys of marks of a kind.
use Rattle.std.specs.Prelude.{ℕ, ◌==◌, List, [], ◌∷◌, if◌then◌else◌}
use Rattle.version_nodes.specs.declared.statuses.MarkKind.{MarkKind}
use Rattle.table_encodings.specs.Encodings.{kind_number}
use Rattle.table_sets.specs.declared.node_marks.SetMark.{SetMark}

-- the keys of the marks of a kind
abbrev pub keys_of_kind : MarkKind → List SetMark → List ℕ
keys_of_kind kind [] = []
keys_of_kind kind (m ∷ ms) = if kind_number m.kind == kind_number kind then m.key ∷ keys_of_kind kind ms else keys_of_kind kind ms
