use Rattle.http_routes.proofs.MatchLemmas.{bytes_of, is_match, match_texts, match_there, match_route, no_match}
use Rattle.http_routes.proofs.router.found_in.Goals as goal

pub with_parts-requires-clause-text : goal.with_parts-requires-clause-text
with_parts-requires-clause-text c =
    match_texts c.args.path.now c.in-Ok.found.value.now c.in-Ok.found.params c.utf8.path
    (is_match _ c.args.router.now _ _ (bytes_of _ c.type_inv.path) c.requires c.in-Ok.ensures.found c.in-Ok.ensures.path)

pub with_parts-requires-clause-there : goal.with_parts-requires-clause-there
with_parts-requires-clause-there c =
    match_there c.args.path.now c.in-Ok.found.value.now c.in-Ok.found.params
    (is_match _ c.args.router.now _ _ (bytes_of _ c.type_inv.path) c.requires c.in-Ok.ensures.found c.in-Ok.ensures.path)

pub returns-in-Ok : goal.returns-in-Ok
returns-in-Ok c =
    match_route c.args.path.now c.in-Ok.found.value.now c.in-Ok.found.params _
    (is_match _ c.args.router.now _ _ (bytes_of _ c.type_inv.path) c.requires c.in-Ok.ensures.found c.in-Ok.ensures.path)
    c.with_parts.ensures

pub returns-in-Err : goal.returns-in-Err
returns-in-Err c =
    no_match c.args.path.now c.args.router.now (bytes_of c.args.path.now c.type_inv.path) c.requires c.in-Err.ensures.missing
