use Rattle.std.specs.Fmt.{decimal}
use Rattle.desk_text.proofs.PageLemmas.{dash_line, names_line}
use Rattle.desk_text.proofs.pages.append_number_line.Goals as goal

pub returns-then-is_empty : goal.returns-then-is_empty
returns-then-is_empty c =
    dash_line c.append_line.result decimal c.args.numbers.now c.args.label.now c.args.out.now.items
    c.append_line.new.out.items c.if-is_empty.ensures c.append_line.ensures

pub returns : goal.returns
returns c =
    names_line c.append_text-2.result decimal c.args.numbers.now c.args.label.now c.args.out.now.items
    c.append_text.new.out.items c.append_numbers.new.out.items c.append_text-2.new.out.items c.if-is_empty.ensures
    c.in_ok-append_text.ensures.ok c.in_ok-append_numbers.ensures.ok c.append_text-2.ensures.ok
