use Rattle.std.proofs.Common.{◌≡◌, ◌++◌, List, ℕ, codes, sym, ◌∙◌}
use Rattle.std.proofs.lemmas.List.{append_assoc}
use Rattle.std.specs.Fmt.{decimal}
use Rattle.version_nodes.specs.Nodes.{node_text}
use Rattle.desk_text.specs.Lists.{list_head}
use Rattle.desk_text.proofs.Appends.{stopped_within, then_written, told_as}
use Rattle.desk_text.proofs.lists.append_head.Goals as goal

pub returns-in_err-append_subject : goal.returns-in_err-append_subject
returns-in_err-append_subject c =
    stopped_within c.from_residual.result c.args.out.now.items
    (list_head c.args.«package».now c.args.node.now c.args.count) c.append_subject.new.out.items
    c.from_residual.ensures.0 c.in_err-append_subject.ensures.err

regrouped : (x y z w : List ℕ) → x ++ (y ++ (z ++ w)) ≡ ((x ++ y) ++ z) ++ w
regrouped x y z w = sym (append_assoc (x ++ y) z w ∙ append_assoc x y (z ++ w))

pub returns : goal.returns
returns c =
    let a = c.args.out.now.items in
    let x = codes "Bugs in " ++ c.args.«package».now ++ codes " at " ++ node_text c.args.node.now in
    let n = decimal c.args.count in
    told_as c.append_between.result a (x ++ (codes ": " ++ (n ++ codes "\n")))
    (list_head c.args.«package».now c.args.node.now c.args.count) c.append_between.new.out.items
    (regrouped x (codes ": ") n (codes "\n"))
    (then_written c.append_between.result a x c.append_subject.new.out.items (codes ": " ++ (n ++ codes "\n"))
    c.append_between.new.out.items c.in_ok-append_subject.ensures.ok c.append_between.ensures.ok
    c.append_between.ensures.err)
