use Rattle.table_nodes.proofs.Imports.{link_row, IsLink}
use Rattle.table_schema.proofs.Exports.{◌≡◌, take, map, AllByRecursion, Ancestry}
use Rattle.table_nodes.proofs.family.links_of.Given as goal

abbrev pub invariant-loop-row : goal.invariant-loop-row
invariant-loop-row l = (ls : Ancestry) → AllByRecursion IsLink ls → l.rows ≡ map link_row ls → l.links.items ≡ take l.row-index ls
