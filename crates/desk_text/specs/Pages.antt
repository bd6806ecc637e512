-- The text of a bug's page.
-- This project's own rule.
use Rattle.std.specs.Prelude.{ℕ, Bool, List, [], ◌∷◌, ◌++◌, flat_map, Option, Some, None, codes, if◌then◌else◌}
use Rattle.std.specs.Fmt.{decimal}
use Rattle.version_nodes.specs.Nodes.{node_text}
use Rattle.bug_record.specs.Severities.{severity_name}
use Rattle.bug_record.specs.Tags.{tag_name}
use Rattle.bug_record.specs.Merges.{others_merged}
use Rattle.bug_record.specs.Images.{bug_of}
use Rattle.bug_record.specs.declared.bug.Bug.{Bug}
use Rattle.bug_record.specs.declared.bug.Shared.{Shared}
use Rattle.bug_record.specs.declared.bug.Member.{Member}
use Rattle.bug_record.specs.declared.bug.SetImage.{SetImage}
use Rattle.desk_text.specs.Texts.{as_line}
use Rattle.desk_text.specs.Lists.{state_word}

-- a line of a page: what it tells of, and what is told
unfoldable pub page_line : List ℕ → List ℕ → List ℕ
page_line label text = as_line (label ++ text)

-- a text, or `-` where there is none
abbrev pub text_or_dash : Option (List ℕ) → List ℕ
text_or_dash None = codes "-"
text_or_dash (Some text) = text

abbrev pub yes_or_no : Bool → List ℕ
yes_or_no answer = if answer then codes "yes" else codes "no"

-- the names of items, each after a space, or `-` where there is no item
abbrev pub names_or_dash : {T : Type 0} → (T → List ℕ) → List T → List ℕ
names_or_dash name [] = codes " -"
names_or_dash name (item ∷ items) = flat_map (λ x. 32 ∷ name x) (item ∷ items)

-- what the bug n is
abbrev pub bug_lines : ℕ → Bug → List ℕ
bug_lines n b =
    page_line (codes "Bug ") (decimal n) ++ page_line (codes "Title: ") b.title
    ++ page_line (codes "Package: ") b.shared.«package» ++ page_line (codes "Severity: ") (severity_name b.shared.severity)
    ++ page_line (codes "State: ") (state_word b.shared.closed) ++ page_line (codes "Archived: ") (yes_or_no b.shared.archived)

-- who has to do with it
abbrev pub people_lines : Bug → List ℕ
people_lines b =
    page_line (codes "Submitter: ") b.submitter ++ page_line (codes "Owner: ") (text_or_dash b.shared.owner)
    ++ page_line (codes "Forwarded: ") (text_or_dash b.shared.forwarded)

-- its tags, the packages that it affects, and its marks
abbrev pub mark_lines : Shared → List ℕ
mark_lines f =
    page_line (codes "Tags:") (names_or_dash tag_name f.tags) ++ page_line (codes "Affects:") (names_or_dash (λ name. name) f.affects)
    ++ page_line (codes "Found:") (names_or_dash node_text f.found)
    ++ page_line (codes "Fixed:") (names_or_dash node_text f.fixed)

-- the bugs on which it waits, those that wait on it, and those that are merged with it
abbrev pub relation_lines : List ℕ → List ℕ → List ℕ → List ℕ
relation_lines blockers waiting others =
    page_line (codes "Blocked by:") (names_or_dash decimal blockers) ++ page_line (codes "Blocks:") (names_or_dash decimal waiting)
    ++ page_line (codes "Merged with:") (names_or_dash decimal others)

-- the page of the bug n, on which these bugs wait
abbrev pub page_text : ℕ → Bug → List ℕ → List ℕ
page_text n b waiting =
    bug_lines n b ++ people_lines b ++ mark_lines b.shared
    ++ relation_lines b.shared.blockers waiting (others_merged n b.merged)

-- the page of the bug n, which is this member of the image; nothing where it is none
abbrev pub page_in : SetImage → ℕ → List ℕ → Option Member → List ℕ
page_in i n waiting None = []
page_in i n waiting (Some m) = page_text n (bug_of i m) waiting
