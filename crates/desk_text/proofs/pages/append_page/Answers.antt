use Rattle.std.proofs.Common.{ap, ◌++◌, ◌∙◌}
use Rattle.bug_record.specs.Images.{bug_of}
use Rattle.desk_text.specs.Pages.{bug_lines, people_lines, mark_lines, relation_lines}
use Rattle.desk_text.proofs.PageLemmas.{four}
use Rattle.desk_text.proofs.pages.append_page.Goals as goal

pub returns : goal.returns
returns c =
    let page = c.args.page.now in
    let b = bug_of page.image c.args.member.now in
    let shared = c.fields-shared.ensures in
    let marked = c.append_people.new.out.items in
    four c.append_relations.result c.args.out.now.items (bug_lines page.number b) (people_lines b)
    (mark_lines page.image.shared) (relation_lines page.image.shared.blockers page.waiting c.args.others.now)
    c.append_bug.new.out.items c.append_people.new.out.items c.append_marks.new.out.items
    c.append_relations.new.out.items c.in_ok-append_bug.ensures c.in_ok-append_people.ensures
    (c.in_ok-append_marks.ensures ∙ ap (λ s. marked ++ mark_lines s) shared)
    (rw (c.as_slice.ensures, c.as_slice-2.ensures, shared) at c.append_relations.ensures)
