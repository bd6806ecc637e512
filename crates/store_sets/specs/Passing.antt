-- What is asked of bugs, as a test of their shared fields, and the rows of those that pass.
use Rattle.std.specs.Prelude.{ℕ, Bool, List, [], Option, Some, None, map, if◌then◌else◌}
use Rattle.bug_record.specs.Images.{numbers_of, bug_of}
use Rattle.bug_record.specs.Sets.{has}
use Rattle.bug_record.specs.declared.bug.Member.{Member}
use Rattle.bug_record.specs.declared.bug.SetImage.{SetImage}
use Rattle.bug_record.specs.declared.bug.Shared.{Shared}
use Rattle.bug_record.specs.Rows.{row_of}
use Rattle.bug_record.specs.declared.row.ListRow.{ListRow}
use Rattle.store_keys.specs.Listing.{is_listed_on}
use Rattle.store_sets.specs.declared.places.Place.{Place}
use Rattle.store_sets.specs.declared.places.Place.TheVariants.{First, After}
use Rattle.store_sets.specs.declared.passing.Question.{Question}
use Rattle.store_sets.specs.declared.passing.Question.TheVariants.{WaitsOn, IsListed}

-- the test of shared fields
abbrev pub test_of : Question → Shared → Bool
test_of (WaitsOn n) f = has f.blockers n
test_of (IsListed package_name line) f = is_listed_on line.now package_name.now f

-- the image that stands at a place, where its set passes the test
abbrev pub image_passing : (Shared → Bool) → Place → Option SetImage
image_passing test (First i) = if test i.shared then Some i else None
image_passing test (After k) = None

-- the bugs of a set, if there is one
abbrev pub bugs_of : Option SetImage → List ℕ
bugs_of None = []
bugs_of (Some i) = numbers_of i.members

-- the bugs of the set whose image stands at a place, where they pass the test
abbrev pub passing_there : (Shared → Bool) → Place → List ℕ
passing_there test p = bugs_of (image_passing test p)

-- the row of a bug of a set
abbrev pub member_row : SetImage → Member → ListRow
member_row i m = row_of m.number (bug_of i m)

-- the rows of the bugs of a set, if there is one
abbrev pub set_rows : Option SetImage → List ListRow
set_rows None = []
set_rows (Some i) = map (member_row i) i.members

-- the rows of the bugs of the set whose image stands at a place, where they pass the test
abbrev pub rows_there : (Shared → Bool) → Place → List ListRow
rows_there test p = set_rows (image_passing test p)

-- the numbers of rows
abbrev pub row_numbers : List ListRow → List ℕ
row_numbers rows = map (λ row. row.number) rows
