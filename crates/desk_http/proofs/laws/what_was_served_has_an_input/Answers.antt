use Rattle.desk_http.proofs.ExchangeLemmas.{served_by}
use Rattle.desk_http.proofs.laws.what_was_served_has_an_input.Goals as goal

pub returns : goal.returns
returns c = served_by
