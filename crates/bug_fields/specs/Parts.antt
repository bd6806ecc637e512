-- The parts of a change: what commands with a version make of the shared fields (the BTS page
-- 'control and manipulation').
use Rattle.std.specs.Prelude.{Option, Some, None}
use Rattle.bug_record.specs.Commands.{node_meant}
use Rattle.bug_record.specs.Steps.{marked_fixed, found_at, opened, closed}
use Rattle.bug_record.specs.declared.bug.Shared.{Shared}
use Rattle.bug_record.specs.declared.command.VersionArg.{VersionArg}

-- found in the version, if there is one, and otherwise open and nowhere fixed
abbrev pub found_in : Option VersionArg → Shared → Shared
found_in None f = opened f
found_in (Some version) f = found_at (node_meant f.package version) f

-- closed, as a bug that the version, if there is one, does not have
abbrev pub closed_in : Option VersionArg → Shared → Shared
closed_in None f = closed f
closed_in (Some version) f = closed (marked_fixed (node_meant f.package version) f)
