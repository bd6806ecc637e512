use Rattle.std.proofs.lemmas.List.{take_all}
use Rattle.std.proofs.Common.{rules, arith, length, length-drop, ◌-◌, ◌++◌, drop, ap}
use Rattle.http_bytes.specs.Body.{body_of_length}
use Rattle.http_bytes.proofs.HadLemmas.{had_any}
use Rattle.http_bytes.proofs.BodyLemmas.{body-asked, refused-read}
use Rattle.http_bytes.proofs.body.read_body.Goals as goal

pub returns-clause-body : goal.returns-clause-body
returns-clause-body g c =
    body-asked c.read_whole.result (g.R.Read.remaining c.args.reader.now) _ c.in_ok-size.size _ (drop c.args.start c.args.buf.now) c.in_ok-size.ensures
    (take_all (length c.args.buf.now - c.args.start) (drop c.args.start c.args.buf.now) (omega (arith, length-drop c.args.start c.args.buf.now)))
    c.read_whole.ensures.whole

pub returns-clause-taken : goal.returns-clause-taken
returns-clause-taken g c = search rules

pub returns-clause-cut : goal.returns-clause-cut
returns-clause-cut g c = search rules

pub returns-in_err-size-clause-body : goal.returns-in_err-size-clause-body
returns-in_err-size-clause-body g c =
    refused-read c.from_residual.result c.in_err-size.field-0.0 _ c.from_residual.ensures.1
    (had_any (g.R.Read.remaining c.args.reader.now) _ (λ more.
    ap (λ size. body_of_length size (drop c.args.start c.args.buf.now ++ more)) c.in_err-size.ensures))
