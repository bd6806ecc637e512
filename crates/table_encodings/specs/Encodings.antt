-- The numbers that stand for severities, flags, tags and kinds of marks in the tables.
-- This project's own rule.
use Rattle.std.specs.Prelude.{ℕ, ◌==◌, ◌+◌, ◌*◌, ◌/◌, ◌%◌, Bool, true, false, List, [], ◌∷◌, map, slice_get, Option, Some, None, if◌then◌else◌}
use Rattle.version_nodes.specs.declared.statuses.MarkKind.{MarkKind}
use Rattle.version_nodes.specs.declared.statuses.MarkKind.TheVariants.{Found, Fixed}
use Rattle.bug_record.specs.Severities.{all_severities}
use Rattle.bug_record.specs.Tags.{all_tags, has_tag}
use Rattle.bug_record.specs.declared.severity.Severity.{Severity}
use Rattle.bug_record.specs.declared.tag.Tag.{Tag}

-- a severity is its place: 0 for critical to 6 for wishlist
abbrev pub severity_in : ℕ → Option Severity
severity_in number = slice_get all_severities number

-- a flag is 0 or 1
abbrev pub flag : Bool → ℕ
flag b = if b then 1 else 0

abbrev pub flag_in : ℕ → Option Bool
flag_in number = if number == 0 then Some false else if number == 1 then Some true else None

-- a mark is 0 for found, 1 for fixed
abbrev pub kind_number : MarkKind → ℕ
kind_number Found = 0
kind_number Fixed = 1

abbrev pub kind_in : ℕ → Option MarkKind
kind_in number = if number == 0 then Some Found else if number == 1 then Some Fixed else None

-- the number that these binary digits write, the lowest first
abbrev pub binary : List Bool → ℕ
binary [] = 0
binary (b ∷ bs) = flag b + 2 * binary bs

-- tags are the binary number whose digit at a tag's place says whether the tag is there
unfoldable pub tags_number : List Tag → ℕ
tags_number tags = binary (map (has_tag tags) all_tags)

-- those of the tags whose digits are 1, from the lowest on
abbrev pub chosen : ℕ → List Tag → List Tag
chosen number [] = []
chosen number (t ∷ ts) = if number % 2 == 1 then t ∷ chosen (number / 2) ts else chosen (number / 2) ts

unfoldable pub tags_in : ℕ → List Tag
tags_in number = chosen number all_tags
