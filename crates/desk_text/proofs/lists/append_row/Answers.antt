use Rattle.std.proofs.Common.{◌≡◌, ◌++◌, List, ℕ, codes, ap, ◌∙◌}
use Rattle.std.proofs.lemmas.List.{append_assoc}
use Rattle.std.specs.Fmt.{decimal}
use Rattle.bug_record.specs.Severities.{severity_name}
use Rattle.desk_text.specs.Lists.{left_aligned, right_aligned, row_text, state_word}
use Rattle.desk_text.proofs.Appends.{stopped_within, then_written, told_as}
use Rattle.desk_text.proofs.lists.append_row.Goals as goal

pub returns-in_err-append_right : goal.returns-in_err-append_right
returns-in_err-append_right c =
    stopped_within c.from_residual.result c.args.out.now.items (row_text c.args.row.now) c.append_right.new.out.items
    c.from_residual.ensures.0 c.in_err-append_right.ensures.err

regrouped : (r g l s t n : List ℕ) → r ++ (g ++ l ++ g ++ s ++ g ++ (t ++ n)) ≡ r ++ g ++ l ++ g ++ s ++ g ++ t ++ n
regrouped r g l s t n = simp append_assoc

pub returns : goal.returns
returns c =
    let a = c.args.out.now.items in
    let row = c.args.row.now in
    let number = right_aligned 9 (decimal row.number) in
    let middle = codes "  " ++ left_aligned 9 (severity_name row.severity) ++ codes "  " ++ state_word row.closed ++ codes "  " in
    let end = row.title ++ codes "\n" in
    told_as c.append_three.result a (number ++ (middle ++ end)) (row_text row) c.append_three.new.out.items
    (regrouped number (codes "  ") (left_aligned 9 (severity_name row.severity)) (state_word row.closed) row.title (codes "\n"))
    (then_written c.append_three.result a number c.append_right.new.out.items (middle ++ end)
    c.append_three.new.out.items
    (c.in_ok-append_right.ensures.ok ∙ ap (λ w. a ++ right_aligned 9 w) c.format.ensures.text)
    (rw (c.severity_and_state.ensures, c.as_str.ensures) at c.append_three.ensures.ok) c.append_three.ensures.err)
