use Rattle.std.proofs.Common.{codes}
use Rattle.std.specs.Fmt.{decimal}
use Rattle.desk_text.specs.Pages.{page_line, names_or_dash}
use Rattle.desk_text.proofs.PageLemmas.{three}
use Rattle.desk_text.proofs.pages.append_relations.Goals as goal

pub returns : goal.returns
returns c =
    three c.args.out.now.items (page_line (codes "Blocked by:") (names_or_dash decimal c.args.blockers.now))
    (page_line (codes "Blocks:") (names_or_dash decimal c.args.waiting.now))
    (page_line (codes "Merged with:") (names_or_dash decimal c.args.others.now))
    c.in_ok-append_number_line.ensures c.in_ok-append_number_line-2.ensures c.in_ok-append_number_line-3.ensures
