-- The marks of a set as an answer has them, in any order.
-- This project's own rule.
use Rattle.std.specs.Prelude.{◌≡◌, ℕ, pos, List, [], ◌∷◌}
use Rattle.std.specs.List.{AllByRecursion}
use Rattle.sqlite.specs.Order.{Row}
use Rattle.sqlite.specs.declared.types.Value.TheVariants.{Int, Text}
use Rattle.version_nodes.specs.Nodes.{Node, IsNode}
use Rattle.version_nodes.specs.declared.statuses.MarkKind.{MarkKind}
use Rattle.version_nodes.specs.declared.statuses.MarkKind.TheVariants.{Found, Fixed}
use Rattle.bug_record.specs.Marks.{with_node}
use Rattle.table_content.specs.Content.{Content}
use Rattle.table_encodings.specs.Encodings.{kind_number}
use Rattle.table_sets.specs.declared.marks.Marks.{Marks}

pub record Mark : Type 0 where
  pub kind : MarkKind
  pub node : Node

-- a row of a mark, as an answer has it
abbrev pub mark_row : Mark → Row
mark_row m = Int (pos (kind_number m.kind)) ∷ Text m.node.source ∷ Text m.node.version ∷ []

-- its texts are a node's
abbrev pub IsMark : Mark → Type 0
IsMark m = IsNode m.node

-- no node is marked
abbrev pub no_marks : Marks
no_marks = record { found = []; fixed = [] }

-- the marks with one more
abbrev pub with_marked : Marks → MarkKind → Node → Marks
with_marked s Found v = record s { found = with_node s.found v }
with_marked s Fixed v = record s { fixed = with_node s.fixed v }

-- the marks with these, which come one after another
abbrev pub all_marked : Marks → List Mark → Marks
all_marked s [] = s
all_marked s (m ∷ ms) = all_marked (with_marked s m.kind m.node) ms

-- They are the marks of a key's set, in any order.
pub record AreMarksOf (k : ℕ) (c : Content) (ms : List Mark) : Type 0 where
  pub valid : AllByRecursion IsMark ms
  pub all : all_marked no_marks ms ≡ record { found = c.found k; fixed = c.fixed k }
