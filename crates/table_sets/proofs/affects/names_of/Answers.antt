use Rattle.table_sets.proofs.Imports.{text_row}
use Rattle.table_schema.proofs.Exports.{◌≡◌, ℕ, List, Err, ◌+◌, drop, sym, ap, ◌∙◌, rules, with_each, name_cmp, IsUtf8, next_at}
use Rattle.table_sets.proofs.affects.names_of.Goals as goal

pub returns-in_err-add_row-clause-memory : goal.returns-in_err-add_row-clause-memory
returns-in_err-add_row-clause-memory c ns valid are =
    let told : c.from_residual.result ≡ Err c.in_err-add_row.field-0.0 = search rules in
    let h = next_at text_row IsUtf8 c.args.rows.now ns c.loop-row.row-index c.row-item.result valid are c.loop-row-test.true c.row-item.is in
    rw told (c.in_err-add_row.ensures.memory h.0 h.2 h.1)

pub loop-row-preserved : goal.loop-row-preserved
loop-row-preserved c ns valid are =
    let h = next_at text_row IsUtf8 c.args.rows.now ns c.loop-row.row-index c.row-item.result valid are c.loop-row-test.true c.row-item.is in
    ap (λ (s : List (List ℕ)). with_each name_cmp s (drop (c.loop-row.row-index + 1) ns)) (c.in_ok-add_row.ensures.value h.0 h.2 h.1)
    ∙ sym (ap (with_each name_cmp c.loop-row.names) h.3) ∙ c.loop-row.invariant ns valid are
