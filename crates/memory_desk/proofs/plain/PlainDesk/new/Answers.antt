use Rattle.std.proofs.Common.{◌≡◌, ◌∙◌, ap, sym, subst, rules}
use Rattle.version_nodes.specs.Trees.{Ancestry}
use Rattle.bug_record.specs.Desk.{IsSound}
use Rattle.store_keys.specs.Keys.{no_bugs, keyed_desk}
use Rattle.store_sets.specs.Plain.{desk_of}
use Rattle.store_keys.specs.Keys.{empty_desk}
use Rattle.store_contract.specs.Kept.{AreGoodKept}
use Rattle.store_contract.proofs.KeepLemmas.{none-good}
use Rattle.memory_desk.proofs.PlainLemmas.{desk_of-keyed}
use Rattle.memory_desk.proofs.plain.PlainDesk.new.Goals as goal

pub invariant_of-result : goal.invariant_of-result
invariant_of-result c =
    let is : desk_of c.new.result c.new-2.result c.args.first ≡ empty_desk c.args.first =
    desk_of-keyed c.new.result no_bugs c.new-2.result c.args.first c.new.ensures
    ∙ ap (λ (tree : Ancestry). keyed_desk no_bugs.key no_bugs.set tree c.args.first) c.new-2.ensures in
    let sound : IsSound (empty_desk c.args.first) = search rules in
    record { sound = subst IsSound (sym is) sound; good = subst AreGoodKept (sym c.new-3.ensures) none-good }

pub returns-clause-desk : goal.returns-clause-desk
returns-clause-desk c =
    desk_of-keyed c.new.result no_bugs c.new-2.result c.args.first c.new.ensures
    ∙ ap (λ (tree : Ancestry). keyed_desk no_bugs.key no_bugs.set tree c.args.first) c.new-2.ensures
