use Rattle.std.proofs.lemmas.Result.{on_ok_weaker, on_err_weaker}
use Rattle.version_nodes.specs.Trees.{no_nodes}
use Rattle.std.specs.Prelude.{nat_eq}
use Rattle.std.specs.HashSet.{contains}
use Rattle.store_sets.specs.Places.{sets}
use Rattle.store_sets.proofs.NamedLemmas.{named_put, named_within}
use Rattle.store_sets.proofs.AfterLemmas.{keyed_by, same_sets, sets_after, fit-put, bugs-after}
use Rattle.store_sets.proofs.bug_sets.BugSets.put.Goals as goal

pub invariant_of-self-2 : goal.invariant_of-self-2
invariant_of-self-2 c =
    let old = c.args.self.now in
    record {
      keyed =
          fit-put old.places c.put_images.new.bugs c.args.images.now c.requires.apart (c.requires.whole no_nodes 0) old.keyed
          c.put_images.result c.put_images.ensures.ok c.put_images.ensures.err;
      named =
          named_put (keyed_by old.places) (keyed_by c.put_images.new.bugs) c.args.images.now (contains nat_eq old.blockers)
          (contains nat_eq c.add_blockers.new.named) c.put_images.result old.named c.add_blockers.ensures.keeps
          c.in_ok-add_blockers.ensures.adds
          (on_ok_weaker c.put_images.result (sets_after old.places c.put_images.new.bugs c.args.images.now) c.put_images.ensures.ok)
          (on_err_weaker c.put_images.result (same_sets c.put_images.new.bugs old.places) c.put_images.ensures.err);
    }

pub invariant_of-self : goal.invariant_of-self
invariant_of-self c =
    let old = c.args.self.now in
    record {
      keyed = old.keyed;
      named =
          named_within (sets old.places) (contains nat_eq old.blockers) (contains nat_eq c.add_blockers.new.named)
          c.add_blockers.ensures.keeps old.named;
    }

pub returns-clause-ok : goal.returns-clause-ok
returns-clause-ok c =
    on_ok_weaker c.put_images.result (sets_after c.args.self.now.places c.put_images.new.bugs c.args.images.now)
    c.put_images.ensures.ok

pub returns-clause-bugs : goal.returns-clause-bugs
returns-clause-bugs c =
    let old = c.args.self.now in
    on_ok_weaker c.put_images.result
    (λ h tree next. bugs-after old.places c.put_images.new.bugs c.args.images.now c.requires.apart (c.requires.whole no_nodes 0)
    old.keyed h)
    c.put_images.ensures.ok

pub returns-clause-err : goal.returns-clause-err
returns-clause-err c =
    on_err_weaker c.put_images.result (same_sets c.put_images.new.bugs c.args.self.now.places) c.put_images.ensures.err
