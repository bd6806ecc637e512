use Rattle.std.proofs.lemmas.Bool.{false≢true}
use Rattle.http_routes.proofs.BodyLemmas.{json_of-utf8, json_of-refused}
use Rattle.http_routes.proofs.body.parse.Goals as goal

pub returns-in-Ok : goal.returns-in-Ok
returns-in-Ok c = json_of-utf8 _ _ c.in-Ok.ensures.ok.0 c.in-Ok.ensures.ok.1

pub returns-else-is_memory : goal.returns-else-is_memory
returns-else-is_memory c =
    json_of-refused c.args.body.now (c.in-Err.ensures.err (λ m. false≢true (c.if-is_memory.ensures.1 m)))
