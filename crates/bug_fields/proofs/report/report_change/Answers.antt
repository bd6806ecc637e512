use Rattle.std.proofs.Common.{rules, ◌≡◌, ◌+◌, List, ◌∷◌, [], sym, ap, ◌∙◌, subst, arith}
use Rattle.std.proofs.lemmas.Grind.{common_steps}
use Rattle.std.specs.Str.{IsUtf8}
use Rattle.std.proofs.lemmas.Str.{is_utf8-from_IsUtf8}
use Rattle.bug_record.specs.Images.{put, FitsDesk}
use Rattle.bug_record.specs.declared.bug.SetImage.{SetImage}
use Rattle.bug_fields.proofs.ReportLemmas.{put-report, fits-report}
use Rattle.bug_fields.proofs.report.report_change.Goals as goal

-- the one image
one : (made : List SetImage) (i j : SetImage) → made ≡ i ∷ [] → i ≡ j → made ≡ j ∷ []
one made i j p q = p ∙ ap (λ z. z ∷ []) q

pub returns-clause-right : goal.returns-clause-right
returns-clause-right c = λ d sound same. ap (λ (z : List SetImage). put d (record { images = z; next = c.args.next + 1 })) (one _ _ _ c.one.ensures c.in_ok-image.ensures)
    ∙ put-report d c.args.from.now c.args.package.now c.args.severity c.args.title.now c.args.node c.args.next same

pub returns-clause-fits : goal.returns-clause-fits
returns-clause-fits c =
    λ d sound same. subst (λ (z : List SetImage). FitsDesk d (record { images = z; next = c.args.next + 1 })) (sym (one _ _ _ c.one.ensures c.in_ok-image.ensures))
    (fits-report d c.args.from.now c.args.package.now c.args.severity c.args.title.now c.args.node c.args.next sound same
    c.requires.some_left
    (record {
      sender = (c.requires.sender, is_utf8-from_IsUtf8 c.args.from.now (subst IsUtf8 c.as_str.ensures c.as_str.utf8));
      package_name =
          c.requires.name;
      title = (c.requires.title, is_utf8-from_IsUtf8 c.args.title.now c.utf8.title);
      node = c.requires.node;
    }))

pub returns-in_err-image : goal.returns-in_err-image
returns-in_err-image c = search rules

pub returns-clause-members : goal.returns-clause-members
returns-clause-members c = grind (arith, common_steps)

pub returns-clause-apart : goal.returns-clause-apart
returns-clause-apart c = grind (arith, common_steps)
