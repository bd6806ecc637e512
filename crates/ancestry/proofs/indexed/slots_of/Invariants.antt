use Rattle.std.proofs.Common.{◌≤◌, drop, length}
use Rattle.ancestry.specs.Slots.{HasSlots}
use Rattle.ancestry.proofs.indexed.slots_of.Given as goal

-- the slots are those of the nodes from here on
abbrev pub invariant-loop-place : goal.invariant-loop-place
invariant-loop-place l =
    (l.place ≤ length l.line) × HasSlots l.slots.items (drop l.place l.line)

abbrev pub decreases-loop-place : goal.decreases-loop-place
decreases-loop-place l = l.place
