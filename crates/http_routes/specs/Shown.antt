-- The texts that the members and the parts handed out stand for.
use Rattle.std.specs.Prelude.{ℕ, List, map, option_map, Vec}
use Rattle.std.specs.Borrow.{Bor}
use Rattle.std.specs.declared.alloc.Global.{Global}
use Rattle.http_routes.specs.Members.{Report, Control}
use Rattle.http_routes.specs.declared.members.ReportMembers.{ReportMembers}
use Rattle.http_routes.specs.declared.members.ControlMembers.{ControlMembers}
use Rattle.http_routes.specs.Routes.{Found, FoundBugs, FoundControl, FoundBranches}
use Rattle.http_routes.specs.Routes.{FoundBug, FoundList}
use Rattle.http_routes.specs.declared.found.Found.{Found as FoundMade}
use Rattle.http_routes.specs.declared.found.Found.TheVariants as made

abbrev pub report_shown : ReportMembers → Report
report_shown r = record {
  from = r.from.now;
  «package» = r.«package».now;
  severity = r.severity.now;
  title = r.title.now;
  version = option_map (λ s. s.now) r.version;
}

abbrev pub control_shown : ControlMembers → Control
control_shown r = record { from = r.from.now; message = r.message.now }

abbrev pub texts_shown : Vec (Bor (List ℕ)) Global → List (List ℕ)
texts_shown texts = map (λ s. s.now) texts.items

abbrev pub found_shown : FoundMade → Found
found_shown made.Bugs = FoundBugs
found_shown made.Control = FoundControl
found_shown made.Branches = FoundBranches
found_shown (made.Bug number) = FoundBug number.now
found_shown (made.List parts) = FoundList parts.«package».now parts.version.now
