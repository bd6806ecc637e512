-- The bugs of a package, and those that affect it, that are listed at a version.
-- This project's own rule.
use Rattle.std.specs.Prelude.{ℕ, ◌==◌, ◌&&◌, ◌||◌, Bool, not, List, flat_map}
use Rattle.std.specs.Str.{bytes_eq}
use Rattle.version_nodes.specs.Nodes.{Node}
use Rattle.version_nodes.specs.Trees.{Ancestry}
use Rattle.version_nodes.specs.Statuses.{status}
use Rattle.bug_record.specs.Severities.{all_severities, rank}
use Rattle.bug_record.specs.Heads.{is_found}
use Rattle.bug_record.specs.Desk.{Desk}
use Rattle.bug_record.specs.Asked.{numbers_where}
use Rattle.bug_record.specs.PackageSets.{has_name}
use Rattle.bug_record.specs.declared.bug.Shared.{Shared}
use Rattle.bug_record.specs.declared.severity.Severity.{Severity}

-- whether a bug with these shared fields is one of a package or affects it
abbrev pub concerns : Shared → List ℕ → Bool
concerns f package_name = bytes_eq f.package package_name || has_name f.affects package_name

-- whether a bug with these shared fields is listed for a package at a node: it is a bug of that
-- package or affects it, is not archived, and is found at the node
abbrev pub is_listed : Ancestry → List ℕ → Node → Shared → Bool
is_listed tree package_name node f =
    concerns f package_name && not f.archived && is_found (status tree f.found f.fixed f.closed node)

-- whether it is, and of this severity
abbrev pub is_listed_as : Ancestry → List ℕ → Node → Severity → Shared → Bool
is_listed_as tree package_name node severity f = is_listed tree package_name node f && (rank f.severity == rank severity)

-- the bugs that are listed, by severity, from critical to wishlist, and then by number
abbrev pub listed : Desk → List ℕ → Node → List ℕ
listed d package_name node = flat_map (λ severity. numbers_where (is_listed_as d.tree package_name node severity) d) all_severities
