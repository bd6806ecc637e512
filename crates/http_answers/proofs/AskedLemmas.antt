-- What is asked that is no message with an id: it is answered, and what is kept of messages stays.
use Rattle.std.proofs.Common.{◌≡◌, Option, sym, subst}
use Rattle.store_contract.specs.Store.{Holds}
use Rattle.store_contract.proofs.HoldsLemmas.{holds_where}
use Rattle.base_faults.specs.declared.store_fault.StoreFault.{StoreFault}
use Rattle.http_requests.specs.Answer.{Answer}
use Rattle.http_answers.specs.Faults.{IsAnswer}
use Rattle.http_answers.specs.Repeats.{IsAskedAnswer}
use Rattle.http_requests.specs.Requests.{Request, Asked, Always}
use Rattle.http_answers.specs.Stored.{Stored}

pub always_right : {S : Type 0} {k h : S → Type 0} {a b : S} (asked : Asked) (request : Request) (old new : Stored)
    (fault : Option StoreFault) (answer : Answer) → asked ≡ Always request
    → Holds k h a b (IsAnswer request old.desk fault answer new.desk) → Holds k h a b (new.kept ≡ old.kept)
    → Holds k h a b (IsAskedAnswer asked old fault answer new)
always_right {k} {h} {a} {b} asked request old new fault answer is x stays =
    subst (λ (any : Asked). Holds k h a b (IsAskedAnswer any old fault answer new)) (sym is)
    (holds_where x (λ u w p. (p, stays.fact u w)))
