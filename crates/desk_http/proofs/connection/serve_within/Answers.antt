use Rattle.std.proofs.Common.{None, refl, sym, ap}
use Rattle.store_contract.proofs.HoldsLemmas.{holds_none}
use Rattle.desk_http.proofs.CrashLemmas.{none_tried}
use Rattle.desk_http.proofs.ExchangeLemmas.{none_taken, wrong_ends}
use Rattle.desk_http.proofs.connection.serve_within.Goals as goal

pub returns-in_default-clause-crash : goal.returns-in_default-clause-crash
returns-in_default-clause-crash g c =
    holds_none g.S.Records.is_kept g.S.Records.is_honest c.args.store.now (
      None,
      refl,
      none_tried g.S.Records.leaves c.args.store.now
          (g.R.Read.remaining c.args.connection.reader) None (g.S.Records.desk c.args.store.now, g.S.Records.keeping c.args.store.now),
    )

pub returns-in_default-clause-taken : goal.returns-in_default-clause-taken
returns-in_default-clause-taken g c = none_taken (g.R.Read.remaining c.args.connection.reader)

pub returns-clause-wrong : goal.returns-clause-wrong
returns-clause-wrong g c =
    let reader = g.R.Read.remaining in
    let writer = g.W.Write.contents in
    wrong_ends _ c.serve_one-served.result (reader c.new-reader.result.inner) (reader c.args.connection.reader)
    (writer c.new-writer.result.inner) (writer c.args.connection.writer) (writer c.serve_one-served.new.writer.inner)
    (writer c.into_inner-2.result) (ap reader c.new-reader.ensures) (ap writer c.new-writer.ensures)
    (ap writer (sym c.into_inner-2.ensures)) c.serve_one-served.ensures.wrong
