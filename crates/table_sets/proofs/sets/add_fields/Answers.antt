use Rattle.table_schema.proofs.Exports.{subst, IsUtf8, state, IsSetRow, acts_write, serves_write, maybe_bound}
use Rattle.table_encodings.proofs.TagLemmas.{number_below}
use Rattle.table_sets.proofs.SetStatements.{new_row, add_is}
use Rattle.table_sets.proofs.sets.add_fields.Goals as goal

pub returns-clause-plays : goal.returns-clause-plays
returns-clause-plays g c =
    let fine : IsSetRow (new_row c.args.key c.args.fields.now) = record { «package» = subst IsUtf8 c.as_str.ensures c.as_str.utf8; forwarded = c.str_of.ensures.utf8; owner = c.str_of-2.ensures.utf8; tags = number_below c.args.fields.now.tags } in
    rw c.written.ensures.told (acts_write _ _ _ _ (add_is c.args.key c.args.fields.now fine) (state g.S.Store c.args.tx.now.conn.now) (state g.S.Store c.execute.new.self.conn.now) c.execute.result c.execute.ensures.survives
    (rw (
      c.params-to_sql.ensures,
      c.params-to_sql-2.ensures,
      c.params-to_sql-3.ensures,
      c.params-to_sql-4.ensures,
      c.params-to_sql-5.ensures,
      c.params-to_sql-6.ensures,
      c.params-to_sql-7.ensures,
      c.params-to_sql-8.ensures,
      c.as_str.ensures,
      c.from.ensures,
      c.rank.ensures,
      c.number_of_flag.ensures,
      maybe_bound c.str_of.result c.args.fields.now.forwarded c.str_of.ensures.value,
      maybe_bound c.str_of-2.result c.args.fields.now.owner c.str_of-2.ensures.value,
      c.number_of_tags.ensures,
      c.number_of_flag-2.ensures,
    ) at c.execute.ensures.runs))

pub returns-clause-serves : goal.returns-clause-serves
returns-clause-serves g c =
    rw c.written.ensures.told (serves_write _ _ (state g.S.Store c.args.tx.now.conn.now) (state g.S.Store c.execute.new.self.conn.now) c.execute.result c.execute.ensures.runs)
