-- What a crash leaves of a store, as a connection is served.
-- This project's own rule.
use Rattle.std.specs.Prelude.{ℕ, ◌≡◌, ◌≢◌, ◌⊎◌, List, ◌++◌, Option, Some, None, Result, Ok, Err, ⊤}
use Rattle.httparse.specs.Grammar.{RequestHead}
use Rattle.base_faults.specs.declared.store_fault.StoreFault.{StoreFault}
use Rattle.http_bytes.specs.Found.{HadBytes}
use Rattle.http_bytes.specs.Head.{BeginsWithHead}
use Rattle.http_requests.specs.Answer.{Answer}
use Rattle.http_requests.specs.Asking.{asked_of}
use Rattle.http_requests.specs.Requests.{Asked}
use Rattle.http_requests.specs.declared.reply.Reply.{Reply}
use Rattle.http_answers.specs.Crashes.{IsTried}
use Rattle.store_contract.specs.Crashes.{Holding}
use Rattle.desk_http.specs.declared.serve.Served.{Served}
use Rattle.desk_http.specs.declared.serve.Served.TheVariants.{Answered, Closed}
use Rattle.desk_http.specs.declared.serve.ServeFault.{ServeFault}
use Rattle.desk_http.specs.declared.serve.ServeFault.TheVariants.{Read, Write}

-- what was tried as a request was answered, or, of one that is refused, nothing
abbrev pub IsTriedBy : Result Asked Answer → Option StoreFault → Holding → Holding → Holding → Type 0
IsTriedBy (Ok asked) fault before now tried = IsTried asked fault before now tried
IsTriedBy (Err refusal) fault before now tried = tried ≡ now

-- what was tried as an input was answered: nothing, or what its head asks
abbrev pub IsTriedFor : List ℕ → Option StoreFault → Holding → Holding → Holding → Type 0
IsTriedFor input fault before now tried =
    (tried ≡ now) ⊎ ((head : RequestHead) × (rest : List ℕ) × BeginsWithHead input head rest
    × IsTriedBy (asked_of head rest) fault before now tried)

-- Where a crash as a connection began left what the store held and no other, a crash once it is
-- served leaves what is held now, or what was tried for its input, and no other.
pub record LeavesFor {S : Type 0} (leaves : S → Holding → Holding → Type 0) (old new : S) (input : Option (List ℕ))
    (fault : Option StoreFault) (before now : Holding) : Type 0 where
  pub tried : Holding
  pub is_tried : HadBytes input (λ bytes. IsTriedFor bytes fault before now tried)
  pub left : leaves old before before → leaves new now tried

-- The same once a head is answered, with the bytes after it: those that came with it, and those
-- that a reader has.
pub record LeavesHead {S : Type 0} (leaves : S → Holding → Holding → Type 0) (old new : S) (head : RequestHead) (here : List ℕ)
    (known : Option (List ℕ)) (fault : Option StoreFault) (before now : Holding) : Type 0 where
  pub tried : Holding
  pub is_tried : HadBytes known (λ more. (tried ≡ now) ⊎ IsTriedBy (asked_of head (here ++ more)) fault before now tried)
  pub left : leaves old before before → leaves new now tried

-- the fault that a reply tells, if there is one
abbrev pub fault_told : Result Reply ServeFault → Option StoreFault
fault_told (Ok reply) = reply.fault
fault_told (Err fault) = None

-- no fault was met where a connection was served so: only a 500 tells one, and an answer that could
-- not be written may have been to tell one
abbrev pub MayTell : Result Served ServeFault → Option StoreFault → Type 0
MayTell (Ok (Answered status)) fault = status ≢ 500 → fault ≡ None
MayTell (Ok Closed) fault = fault ≡ None
MayTell (Err Read) fault = fault ≡ None
MayTell (Err Write) fault = ⊤

-- the same of a connection that was served so
abbrev pub LeavesServed : {S : Type 0} → (S → Holding → Holding → Type 0) → S → S → Option (List ℕ) → Result Served ServeFault
    → Holding → Holding → Type 0
LeavesServed leaves old new input result before now =
    (fault : Option StoreFault) × MayTell result fault × LeavesFor leaves old new input fault before now

-- the same of an answer that is not written yet
abbrev pub LeavesExchanged : {S : Type 0} → (S → Holding → Holding → Type 0) → S → S → Option (List ℕ)
    → Result (Option Reply) ServeFault → Holding → Holding → Type 0
LeavesExchanged leaves old new input (Ok (Some reply)) before now = LeavesFor leaves old new input reply.fault before now
LeavesExchanged leaves old new input (Ok None) before now = LeavesFor leaves old new input None before now
LeavesExchanged leaves old new input (Err fault) before now = LeavesFor leaves old new input None before now
