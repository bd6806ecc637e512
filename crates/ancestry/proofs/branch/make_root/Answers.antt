use Rattle.std.proofs.Common.{None, IsSome, refl, sym, subst}
use Rattle.ancestry.proofs.ChangeLemmas.{emptied}
use Rattle.ancestry.proofs.branch.make_root.Goals as goal

pub returns-in-Some-clause-links : goal.returns-in-Some-clause-links
returns-in-Some-clause-links c =
    let h = sym c.in-Some.ensures.value in
    emptied c.args.links.now.entries (c.get_mut.follows.lender None).entries c.args.node.now c.in-Some.parent.now h
    ((c.get_mut.follows.holds None).3 (subst IsSome (sym h) refl)).0
