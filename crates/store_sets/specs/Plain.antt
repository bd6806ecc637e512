-- A desk in memory: its bugs by sets, an ancestry and the next number.
use Rattle.std.specs.Prelude.{ℕ}
use Rattle.version_nodes.specs.Trees.{Ancestry}
use Rattle.bug_record.specs.Desk.{Desk}
use Rattle.store_keys.specs.Keys.{Keyed, keyed_desk}
use Rattle.store_sets.specs.Places.{keys, sets}
use Rattle.store_sets.specs.declared.bug_sets.BugSets.{BugSets}

-- the key of each bug, and the image of each key
abbrev pub keyed_of : BugSets → Keyed
keyed_of bugs = record { key = keys bugs.places; set = sets bugs.places }

-- the desk of these bugs and this ancestry
abbrev pub desk_of : BugSets → Ancestry → ℕ → Desk
desk_of bugs tree next = keyed_desk (keyed_of bugs).key (keyed_of bugs).set tree next
