use Rattle.std.proofs.Common.{◌≡◌, Option, subst}
use Rattle.std.specs.Prelude.{IfOk}
use Rattle.version_nodes.specs.Nodes.{Node}
use Rattle.bug_record.specs.Images.{put, AreApart, FitsDesk, HasMember}
use Rattle.bug_record.specs.Sets.{Each}
use Rattle.bug_record.specs.Steps.{reported}
use Rattle.message_directives.proofs.ReportLemmas.{of_ok}
use Rattle.message_directives.proofs.reporting.change_of.Goals as goal

pub returns-in-Ok : goal.returns-in-Ok
returns-in-Ok g c =
    let r = c.report_change.result in
    let same = c.ok.ensures.value in
    let says = c.report_change.ensures in
    record {
      right = λ d sound next.
          of_ok r c.ok.result _ same
          (subst (λ (n : Option Node). IfOk r (λ change. put d change ≡ reported d c.args.from.now c.args.package.now c.args.severity c.args.title.now n))
          c.in-Ok.ensures.node (says.right d sound next));
      fits = λ d sound next. of_ok r c.ok.result (FitsDesk d) same (says.fits d sound next);
      apart = of_ok r c.ok.result (λ change. AreApart change.images) same says.apart;
      members = of_ok r c.ok.result (λ change. Each HasMember change.images) same says.members;
    }

pub returns-in-Err : goal.returns-in-Err
returns-in-Err g c = record { right = λ d sound next. tt; fits = λ d sound next. tt; apart = tt; members = tt }
