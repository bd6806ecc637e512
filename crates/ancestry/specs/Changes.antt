-- What may have changed while a branch is taken, so that it can be put back.
-- This project's own rule.
use Rattle.std.specs.Prelude.{◌≡◌, ⊤, Option, Some, None, Result, Ok, Err}
use Rattle.version_nodes.specs.Nodes.{Node}
use Rattle.version_nodes.specs.Trees.{Ancestry}
use Rattle.ancestry.specs.declared.branch.Past.{Past}
use Rattle.ancestry.specs.declared.branch.Past.TheVariants.{Unknown, Root, Based}
use Rattle.version_nodes.specs.declared.fault.BranchFault.{BranchFault}
use Rattle.version_nodes.specs.declared.fault.BranchFault.TheVariants.{Memory}

-- a part of the work gives what it is to give, or refuses as it is to; out of memory leaves this
-- open
abbrev pub Makes : Result Ancestry BranchFault → Result (Unit {0}) BranchFault → Ancestry → Type 0
Makes r (Ok _) t' = r ≡ Ok t'
Makes r (Err Memory) t' = ⊤
Makes r (Err fault) t' = r ≡ Err fault

-- in a word, what is known of a node
abbrev pub past_of : Option (Option Node) → Past
past_of None = Unknown
past_of (Some None) = Root
past_of (Some (Some p)) = Based
