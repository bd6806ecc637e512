use Rattle.std.proofs.Common.{IsSome, refl, sym, ap, subst}
use Rattle.version_marks.proofs.ChildLemmas.{in_set, removed}
use Rattle.version_marks.proofs.children.remove_child.Goals as goal

pub returns-in-Some : goal.returns-in-Some
returns-in-Some c =
    let h = sym c.in-Some.ensures.value in
    removed c.args.children.now (c.get_mut.follows.lender c.remove.new.self) c.args.parent.now c.in-Some.own.now c.remove.new.self
    (λ q. ap (in_set q) h) ((c.get_mut.follows.holds c.remove.new.self).3 (subst IsSome (sym h) refl)).0 c.args.child.now
    c.remove.ensures.updates.0
