use Rattle.std.proofs.Common.{◌≡◌, true, List, sym, subst, All, arith}
use Rattle.std.proofs.lemmas.Grind.{common_steps}
use Rattle.std.proofs.lemmas.List.Elements.{All-weaker}
use Rattle.std.proofs.lemmas.Result.{on_ok_weaker}
use Rattle.version_nodes.specs.Nodes.{Node}
use Rattle.version_nodes.specs.Trees.{Ancestry, knows, IsForest}
use Rattle.version_nodes.specs.Branches.{learn_all, AreBased}
use Rattle.ancestry.proofs.AncestorLemmas.{Keeps, Course, learn_all_known, learn_all_keeps}
use Rattle.ancestry.proofs.TakeLemmas.{course_made}
use Rattle.ancestry.proofs.tree.Tree.take_all.Goals as goal

-- the nodes are known once they are learnt
all_known : (t u : Ancestry) (nodes : List Node) → u ≡ learn_all t nodes → All (λ n. knows u n ≡ true) nodes
all_known t u nodes e = subst (λ w. All (λ n. knows w n ≡ true) nodes) (sym e) (learn_all_known t nodes)

-- and no proper ancestor is lost by it
all_kept : (t u : Ancestry) (nodes : List Node) → u ≡ learn_all t nodes → IsForest t → IsForest u → Keeps t u
all_kept t u nodes e forest after = subst (Keeps t) (sym e) (learn_all_keeps t nodes forest (subst IsForest e after))

pub base_all-requires : goal.base_all-requires
base_all-requires c = record { knows_all = all_known c.args.self.now c.learn_all.new.self c.args.nodes.now c.in-Ok.ensures.ok }

pub returns-in-Ok-clause-based : goal.returns-in-Ok-clause-based
returns-in-Ok-clause-based c =
    let t = c.learn_all.new.self in
    let nodes = c.args.nodes.now in
    let u = c.base_all.new.self in
    let made = course_made t nodes c.base_all.result u c.learn_all.ensures.forest
    (all_known c.args.self.now t nodes c.in-Ok.ensures.ok) c.base_all.ensures.exact in
    on_ok_weaker {P = Course t nodes u} {Q = AreBased u nodes} c.base_all.result (λ h. h.based) made

pub returns-in-Ok-clause-keeps : goal.returns-in-Ok-clause-keeps
returns-in-Ok-clause-keeps c =
    let t = c.learn_all.new.self in
    let nodes = c.args.nodes.now in
    let u = c.base_all.new.self in
    let made = course_made t nodes c.base_all.result u c.learn_all.ensures.forest
    (all_known c.args.self.now t nodes c.in-Ok.ensures.ok) c.base_all.ensures.exact in
    let kept = all_kept c.args.self.now t nodes c.in-Ok.ensures.ok c.learn_all.ensures.was_forest c.learn_all.ensures.forest in
    on_ok_weaker {P = Course t nodes u} {Q = Keeps c.args.self.now u} c.base_all.result (λ h n p g. h.keeps n p (kept n p g)) made

pub returns-in-Ok-clause-known : goal.returns-in-Ok-clause-known
returns-in-Ok-clause-known c =
    let t = c.learn_all.new.self in
    let nodes = c.args.nodes.now in
    let u = c.base_all.new.self in
    let known = all_known c.args.self.now t nodes c.in-Ok.ensures.ok in
    let made = course_made t nodes c.base_all.result u c.learn_all.ensures.forest known c.base_all.ensures.exact in
    on_ok_weaker {P = Course t nodes u} {Q = All (λ n. knows u n ≡ true) nodes} c.base_all.result
    (λ h. All-weaker (λ n. knows t n ≡ true) (λ n. knows u n ≡ true) h.known nodes known) made

pub returns-in-Ok-clause-extends : goal.returns-in-Ok-clause-extends
returns-in-Ok-clause-extends c = grind (arith, common_steps)
