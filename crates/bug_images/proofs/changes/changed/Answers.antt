use Rattle.std.proofs.lemmas.Result.{IfOk-weaker}
use Rattle.bug_images.proofs.ChangedLemmas.{changed-listed}
use Rattle.bug_images.proofs.changes.changed.Goals as goal

pub returns-clause-desks : goal.returns-clause-desks
returns-clause-desks c =
    IfOk-weaker c.changed_bugs.result _ _ (λ r are d next h. changed-listed d c.args.old.now c.args.new.now next r h are)
    c.changed_bugs.ensures
