use Rattle.std.proofs.Common.{refl}
use Rattle.http_requests.proofs.RequestLemmas.{any_rest}
use Rattle.http_requests.proofs.asking.ask_at.Goals as goal

pub returns-in-Bug-clause-asks : goal.returns-in-Bug-clause-asks
returns-in-Bug-clause-asks g c =
    any_rest c.ask_page.result (g.R.Read.remaining c.args.reader.now) _ _ c.ask_page.ensures.asks
    (λ more. rw c.in-Bug.is refl)

pub returns-in-List-clause-asks : goal.returns-in-List-clause-asks
returns-in-List-clause-asks g c =
    any_rest c.ask_list.result (g.R.Read.remaining c.args.reader.now) _ _ c.ask_list.ensures.asks
    (λ more. rw c.in-List.is refl)
