-- The edits of a branch, one after another.
use Rattle.std.specs.Prelude.{List, [], ◌∷◌, map, flat_map}
use Rattle.version_nodes.specs.Nodes.{Node}
use Rattle.version_nodes.specs.Trees.{Ancestry, parent_of}
use Rattle.table_content.specs.declared.branches.SetNear.{SetNear}
use Rattle.table_content.specs.declared.edit.Edit.{Edit}
use Rattle.table_content.specs.declared.edit.Edit.TheVariants.{DropLink, PutLink, PutNear}

abbrev pub link_puts : Ancestry → List Node → List Edit
link_puts t vs = flat_map (λ v. DropLink v ∷ PutLink v (parent_of t v) ∷ []) vs

abbrev pub set_near_puts : List SetNear → List Edit
set_near_puts rows = map (λ r. PutNear r.key r.row.node r.row.near) rows
