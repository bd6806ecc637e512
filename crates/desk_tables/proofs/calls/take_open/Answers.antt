use Rattle.desk_tables.proofs.Imports.{IsGrown, changed_of}
use Rattle.table_schema.proofs.Exports.{◌≡◌, Err, rules, state}
use Rattle.desk_tables.proofs.BranchLemmas.{taken_ok, taken_fault}
use Rattle.desk_tables.proofs.calls.take_open.Goals as goal

pub returns-in-Ok-clause-taken : goal.returns-in-Ok-clause-taken
returns-in-Ok-clause-taken g c =
    let t = c.args.family.now in
    let u = c.take_branch.new.self in
    let nodes = c.args.nodes.now in
    let grown : IsGrown t u (changed_of u c.args.before.unknown.items c.args.before.roots.items) =
    rw c.requires.unknown (rw c.requires.roots (c.branches_grow.ensures t u nodes c.requires.forest c.in-Ok.ensures.forest c.in-Ok.ensures.extends c.in-Ok.ensures.known)) in
    taken_ok t u nodes (changed_of u c.args.before.unknown.items c.args.before.roots.items) (state g.S.Store c.args.conn.now) (state g.S.Store c.put_open.new.conn) c.in-Ok.ensures.exact grown c.in_ok-put_open-in-Ok.ensures.changed

pub returns-in_err-put_open-in-Ok-clause-taken : goal.returns-in_err-put_open-in-Ok-clause-taken
returns-in_err-put_open-in-Ok-clause-taken g c =
    let t = c.args.family.now in
    let u = c.take_branch.new.self in
    let nodes = c.args.nodes.now in
    let grown : IsGrown t u (changed_of u c.args.before.unknown.items c.args.before.roots.items) =
    rw c.requires.unknown (rw c.requires.roots (c.branches_grow.ensures t u nodes c.requires.forest c.in-Ok.ensures.forest c.in-Ok.ensures.extends c.in-Ok.ensures.known)) in
    let fault = c.in_err-put_open-in-Ok.field-0.0 in
    let is : c.from_residual.result ≡ Err fault = search rules in
    rw is (taken_fault t u nodes (changed_of u c.args.before.unknown.items c.args.before.roots.items) (state g.S.Store c.args.conn.now) (state g.S.Store c.put_open.new.conn) fault c.in-Ok.ensures.exact grown c.in_err-put_open-in-Ok.ensures.changed)
