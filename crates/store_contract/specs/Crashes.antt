-- What a crash leaves of what a store holds.
use Rattle.std.specs.Prelude.{◌≡◌, ◌⊎◌, List, Result, Ok, Err}
use Rattle.version_nodes.specs.Branches.{branched}
use Rattle.version_nodes.specs.declared.fault.BranchFault.{BranchFault}
use Rattle.version_nodes.specs.Nodes.{Node}
use Rattle.version_nodes.specs.Trees.{Ancestry}
use Rattle.bug_record.specs.Desk.{Desk}
use Rattle.base_faults.specs.declared.store_fault.StoreFault.{StoreFault}
use Rattle.store_contract.specs.Kept.{Keeping}

-- what a store holds: a desk, and what is kept of messages
abbrev pub Holding : Type 0
Holding = Desk × Keeping

-- one of these two
abbrev pub IsEither : Holding → Holding → Holding → Type 0
IsEither x a b = (x ≡ a) ⊎ (x ≡ b)

-- After a call that was to lead to this holding: where it answered, a crash leaves it and no other;
-- where it failed, a crash leaves it, or the one that alone could have been left before.
abbrev pub LeavesAfter : {S T : Type 0} → (S → Holding → Holding → Type 0) → S → S → Holding
    → Result T StoreFault → Type 0
LeavesAfter leaves old new after (Ok done) = leaves new after after
LeavesAfter leaves old new after (Err fault) = (before : Holding) → leaves old before before → leaves new before after

-- the same of a branch; after a refused one a crash leaves what it could have left before
abbrev pub LeavesBranched : {S : Type 0} → (S → Holding → Holding → Type 0) → S → S → Holding
    → Result (Result (Unit {0}) BranchFault) StoreFault → Type 0
LeavesBranched leaves old new after (Ok (Ok done)) = leaves new after after
LeavesBranched leaves old new after (Ok (Err refusal)) = (a b : Holding) → leaves old a b → leaves new a b
LeavesBranched leaves old new after (Err fault) = (before : Holding) → leaves old before before → leaves new before after

-- the desk with this ancestry, where there is one
abbrev pub with_tree : Desk → Result Ancestry BranchFault → Desk
with_tree d (Ok tree) = record d { tree = tree }
with_tree d (Err refusal) = d

-- the desk after a branch: as it was, where the branch is refused
abbrev pub after_branch : Desk → List Node → Desk
after_branch d nodes = with_tree d (branched d.tree nodes)
