use Rattle.std.proofs.Common.{◌≡◌, ◌∙◌, ◌++◌, List, ℕ, subst, codes, decimal}
use Rattle.std.proofs.KnownBytes.{Appends-kept}
use Rattle.std.specs.Io.KnownBytes.{Appends}
use Rattle.desk_http.specs.Port.{place_line}
use Rattle.desk_http.proofs.ExchangeLemmas.{on_any, went_well}
use Rattle.desk_http.proofs.port.write_place.Goals as goal

pub returns-clause-all : goal.returns-clause-all
returns-clause-all g c =
    let before = g.W.Write.contents c.args.writer.now in
    let after = g.W.Write.contents c.write_three.new.writer in
    let last = g.W.Write.contents c.flush.new.self in
    let bytes : c.as_bytes-number.result.now ≡ decimal c.args.port = c.as_bytes-number.ensures.value ∙ c.format-number.ensures.text in
    let written : Appends before after (codes "Listening on 127.0.0.1:" ++ (c.as_bytes-number.result.now ++ codes "\n")) =
    went_well c.write_three.result c.map_err.result c.in_ok-map_err.field-0 _ c.in_ok-map_err.was c.map_err.ensures.variant
    c.write_three.ensures.all in
    on_any c.map_err-2.result _ (Appends-kept before after last (place_line c.args.port)
    (subst (λ (n : List ℕ). Appends before after (codes "Listening on 127.0.0.1:" ++ (n ++ codes "\n"))) bytes written)
    c.flush.ensures.bytes)
