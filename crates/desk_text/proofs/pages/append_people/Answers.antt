use Rattle.std.proofs.Common.{codes, ◌++◌, ◌∙◌}
use Rattle.desk_text.specs.Pages.{page_line, text_or_dash}
use Rattle.desk_text.proofs.PageLemmas.{three}
use Rattle.desk_text.proofs.pages.append_people.Goals as goal

pub returns : goal.returns
returns c =
    three c.args.out.now.items (page_line (codes "Submitter: ") c.args.member.now.submitter)
    (page_line (codes "Owner: ") (text_or_dash c.args.image.now.shared.owner))
    (page_line (codes "Forwarded: ") (text_or_dash c.args.image.now.shared.forwarded))
    (c.in_ok-append_line.ensures ∙ (λ j. c.args.out.now.items ++ page_line (codes "Submitter: ") (c.as_str.ensures j)))
    (c.in_ok-append_line-2.ensures
    ∙ (λ j. c.append_line.new.out.items ++ page_line (codes "Owner: ")
    ((c.text_or_dash.ensures ∙ (λ k. text_or_dash (c.fields-shared.ensures k).owner)) j)))
    (c.in_ok-append_line-3.ensures
    ∙ (λ j. c.append_line-2.new.out.items ++ page_line (codes "Forwarded: ")
    ((c.text_or_dash-2.ensures ∙ (λ k. text_or_dash (c.fields-shared.ensures k).forwarded)) j)))
