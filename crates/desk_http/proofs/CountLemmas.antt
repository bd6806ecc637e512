-- The count of a store's faults never falls.
use Rattle.std.proofs.Common.{◌≡◌, ℕ, ◌+◌, ◌<◌, ◌≤◌, List, [], ◌∷◌, ◌++◌, length, length-append, Option, Some, None, Result, Ok, Err, arith, sym, subst}
use Rattle.base_faults.specs.declared.store_fault.StoreFault.{StoreFault}
use Rattle.base_faults.specs.declared.store_fault.StoreFault.TheVariants.{Memory, Device, Full, Foreign}
use Rattle.store_contract.specs.Store.{Faults, counted, total}
use Rattle.http_answers.specs.Faults.{counted_with}
use Rattle.desk_http.specs.declared.serve.Served.TheVariants.{Answered, Closed}
use Rattle.desk_http.specs.declared.serve.ServeFault.TheVariants.{Read, Write}
use Rattle.desk_http.specs.declared.serve.Served.{Served}
use Rattle.desk_http.specs.declared.serve.ServeFault.{ServeFault}
use Rattle.desk_http.specs.Exchange.{IsCounted}
use Rattle.desk_http.specs.Serving.{Turn, Counts}

counted_grows : (fault : StoreFault) (faults : Faults) → total faults ≤ total (counted fault faults)
counted_grows Memory faults = omega (arith)
counted_grows Device faults = omega (arith)
counted_grows Full faults = omega (arith)
counted_grows Foreign faults = omega (arith)

same_grows : (a b : Faults) → b ≡ a → total a ≤ total b
same_grows a b is = subst (λ (f : Faults). total a ≤ total f) (sym is) (omega (arith))

met_grows : (fault : Option StoreFault) (a b : Faults) → b ≡ counted_with fault a → total a ≤ total b
met_grows None a b is = same_grows a b is
met_grows (Some fault) a b is = subst (λ (f : Faults). total a ≤ total f) (sym is) (counted_grows fault a)

exchange_grows : (result : Result Served ServeFault) (a b : Faults) → IsCounted result a b → total a ≤ total b
exchange_grows (Ok (Answered status)) a b h = met_grows h.0 a b h.1
exchange_grows (Ok Closed) a b h = same_grows a b h
exchange_grows (Err Read) a b h = same_grows a b h
exchange_grows (Err Write) a b h = met_grows h.0 a b h.1

pub turn_grows : (turn : Turn) (a b : Faults) → Counts turn a b → total a ≤ total b
turn_grows None a b h = same_grows a b h
turn_grows (Some e) a b h = exchange_grows e.result a b h.0

pub stays_same : (start between now asked again : ℕ) → asked ≡ start → again ≡ now → again ≤ asked → between ≡ start
    → between ≤ now → now ≡ start
stays_same start between now asked again p q r s t = omega (arith, p, q, r, s, t)

pub has_risen : (start now asked again : ℕ) → asked ≡ start → again ≡ now → asked < again → start < now
has_risen start now asked again p q r = omega (arith, p, q, r)

-- one turn more, and all of them
pub one_longer : (course : List Turn) (last : Turn) (n : ℕ) → length course ≡ n
    → length (course ++ last ∷ []) ≡ n + 1
one_longer course last n long = omega (arith, length-append course (last ∷ []), long)

pub within_count : (course : List Turn) (last : Turn) (n count : ℕ) → length course ≡ n → n < count
    → length (course ++ last ∷ []) ≤ count
within_count course last n count long more = omega (arith, one_longer course last n long, more)

pub all_served : (course : List Turn) (n count : ℕ) → length course ≡ n → n ≤ count → count ≤ n → length course ≡ count
all_served course n count long most least = omega (arith, long, most, least)
