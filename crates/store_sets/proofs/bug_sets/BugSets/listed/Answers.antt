use Rattle.std.proofs.Common.{List, ap, ◌∙◌}
use Rattle.std.proofs.lemmas.Result.{IfOk-weaker}
use Rattle.version_nodes.specs.Nodes.{Node}
use Rattle.bug_record.specs.Asked.{numbers_where}
use Rattle.bug_record.specs.Rows.{rows_of}
use Rattle.store_sets.specs.Plain.{desk_of}
use Rattle.store_keys.specs.Listing.{is_listed_on}
use Rattle.store_keys.proofs.ListLemmas.{rows-listed}
use Rattle.store_sets.proofs.bug_sets.BugSets.listed.Goals as goal

pub returns : goal.returns
returns c = λ next sound.
    let d = desk_of c.args.self.now c.args.tree.now next in
    let package_name = c.args.package.now in
    let shown = c.in_ok-rows.ensures c.args.tree.now next sound
    ∙ ap (λ (nodes : List Node). rows_of d.bug (numbers_where (is_listed_on nodes package_name) d))
    (c.in_ok-line.ensures ∙ c.in_ok-nodes.ensures.value) in
    IfOk-weaker c.by_severity.result _ _
    (λ sorted e. rows-listed d package_name c.args.node.now c.in_ok-rows.rows.items sorted shown e)
    c.by_severity.ensures
