use Rattle.std.proofs.Common.{arith, sym, subst}
use Rattle.sqlite_trees.specs.Tree.{Trees}
use Rattle.table_crashes.proofs.left.crash.Goals as goal

pub returns-in-Ok-clause-left : goal.returns-in-Ok-clause-left
returns-in-Ok-clause-left g c clean =
    let store = c.into_store-store.result in
    let came = c.crash_and_reopen.new.self in
    let quiet = c.into_store-store.ensures.quiet in (
      omega (arith, clean, quiet.clean, c.in-Ok.ensures.clean),
      quiet.outcomes (g.S.Store.view came).trees
          (subst (λ (t : Trees). g.S.Store.recovers store t) (sym c.in-Ok.ensures.fresh.clean) (c.in-Ok.ensures.found clean)),
    )
