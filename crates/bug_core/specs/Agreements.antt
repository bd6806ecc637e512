-- What has to agree before bugs are merged: of `merge` four fields, of `forcemerge` the package
-- alone.
use Rattle.std.specs.Prelude.{Option}
use Rattle.bug_record.specs.Differences.{first_difference, package_difference}
use Rattle.bug_record.specs.declared.bug.Shared.{Shared}
use Rattle.bug_record.specs.declared.command.Field.{Field}
use Rattle.bug_core.specs.declared.merges.Agreement.{Agreement}
use Rattle.bug_core.specs.declared.merges.Agreement.TheVariants.{FourFields, PackageAlone}

abbrev pub difference_of : Agreement → Shared → Shared → Option Field
difference_of FourFields first s = first_difference first s
difference_of PackageAlone first s = package_difference first s
