-- The image of a new report: a set of one bug, which is open.
use Rattle.std.specs.Prelude.{ℕ, false, List, [], ◌∷◌, Option, None}
use Rattle.version_nodes.specs.Nodes.{Node}
use Rattle.bug_record.specs.Steps.{found_first}
use Rattle.bug_record.specs.declared.bug.Member.{Member}
use Rattle.bug_record.specs.declared.bug.SetImage.{SetImage}
use Rattle.bug_record.specs.declared.bug.Shared.{Shared}
use Rattle.bug_record.specs.declared.severity.Severity.{Severity}

abbrev pub only_member : ℕ → List ℕ → List ℕ → List Member
only_member number title sender = record { number = number; title = title; submitter = sender } ∷ []

abbrev pub shared_of_report : List ℕ → Severity → List Node → Shared
shared_of_report package_name severity found =
    record {
      «package» = package_name;
      severity = severity;
      closed = false;
      forwarded = None;
      owner = None;
      tags = [];
      affects = [];
      found =
          found;
      fixed = [];
      blockers = [];
      archived = false;
    }

abbrev pub image_of_report : List ℕ → List ℕ → Severity → List ℕ → Option Node → ℕ → SetImage
image_of_report sender package_name severity title node number = record {
  shared = shared_of_report package_name severity (found_first node);
  members = only_member number title sender;
}
