use Rattle.std.proofs.Common.{◌≡◌, rules}
use Rattle.table_content.specs.KeptOutcomeLists.{keep_puts}
use Rattle.table_content.proofs.KeepEditLemmas.{edits_put, edits_free}
use Rattle.table_content.proofs.keeping.keep_edits.Goals as goal

pub returns-clause-put : goal.returns-clause-put
returns-clause-put c =
    let are : c.put_outcome.new.edits ≡ keep_puts c.args.id.now c.args.from.now c.args.message.now c.args.place c.args.outcome.now = search rules in
    edits_put c.put_outcome.new.edits c.args.id.now c.args.from.now c.args.message.now c.args.place c.args.outcome.now are

pub returns-clause-free : goal.returns-clause-free
returns-clause-free c =
    let are : c.put_outcome.new.edits ≡ keep_puts c.args.id.now c.args.from.now c.args.message.now c.args.place c.args.outcome.now = search rules in
    edits_free c.put_outcome.new.edits c.args.id.now c.args.from.now c.args.message.now c.args.place c.args.outcome.now are
