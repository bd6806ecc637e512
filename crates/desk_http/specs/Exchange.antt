-- One exchange: what an input is answered, whatever the pieces in which its bytes come.
-- This project's own rule.
use Rattle.std.specs.Prelude.{ℕ, ◌≡◌, ◌≢◌, ◌⊎◌, Bool, List, [], Option, Some, None, Result, Ok, Err, IfSome, IsTrue, take, ⊤}
use Rattle.std.specs.Io.KnownBytes.{Appends}
use Rattle.httparse.specs.Grammar.{RequestHead}
use Rattle.base_faults.specs.declared.store_fault.StoreFault.{StoreFault}
use Rattle.base_faults.specs.declared.store_fault.StoreFault.TheVariants.{Memory}
use Rattle.http_bytes.specs.Head.{BeginsWithHead, HasNoHead}
use Rattle.http_bytes.specs.Found.{HadBytes}
use Rattle.store_contract.specs.Store.{Faults}
use Rattle.http_requests.specs.Answer.{Answer, answer_bytes, store_fault}
use Rattle.http_requests.specs.Requests.{Asked}
use Rattle.http_requests.specs.Told.{IsTold}
use Rattle.http_answers.specs.Faults.{counted_with}
use Rattle.http_answers.specs.Repeats.{IsAskedAnswer}
use Rattle.http_answers.specs.Stored.{Stored}
use Rattle.http_requests.specs.Asking.{asked_of, bad_request}
use Rattle.http_requests.specs.Memory.{takes_memory}
use Rattle.desk_http.specs.declared.serve.Served.{Served}
use Rattle.desk_http.specs.declared.serve.Served.TheVariants.{Answered, Closed}
use Rattle.desk_http.specs.declared.serve.ServeFault.{ServeFault}
use Rattle.desk_http.specs.declared.serve.ServeFault.TheVariants.{Read, Write}

-- What is answered to what was asked, where this fault was met or none, and what the store holds
-- after it: a request that is refused changes nothing, and only 'out of memory' can come before its
-- refusal, where reading the request takes memory.
abbrev pub IsReply : Bool → Result Asked Answer → Stored → Option StoreFault → Answer → Stored → Type 0
IsReply takes (Ok request) old fault answer new = IsAskedAnswer request old fault answer new
IsReply takes (Err refusal) old None answer new = (answer ≡ refusal) × (new ≡ old)
IsReply takes (Err refusal) old (Some fault) answer new =
    IsTrue takes × (fault ≡ Memory) × (answer ≡ store_fault) × (new ≡ old)

-- The same of a head and the bytes after it, once the table of the routes is made.
-- What takes no memory is refused as it has to be, and never answered 500: 404 for want of a route,
-- 405, 411, 413, 501, and 400 for a wrong length.
abbrev pub IsReplyTo : RequestHead → List ℕ → Stored → Option StoreFault → Answer → Stored → Type 0
IsReplyTo head rest old fault answer new =
    IsReply (takes_memory head) (asked_of head rest) old fault answer new

-- there was no memory for the table of the routes
pub record LacksRoutes (old : Stored) (fault : Option StoreFault) (answer : Answer) (new : Stored) :
    Type 0 where
  pub met : fault ≡ Some Memory
  pub is : answer ≡ store_fault
  pub same : new ≡ old

-- the input begins with a head, and what it asks is answered, or there was no memory for the table
-- of the routes
pub record AnswersHead (input : List ℕ) (old : Stored) (fault : Option StoreFault) (answer : Answer)
    (new : Stored) : Type 0 where
  pub head : RequestHead
  pub rest : List ℕ
  pub begins : BeginsWithHead input head rest
  pub gives : IsReplyTo head rest old fault answer new ⊎ LacksRoutes old fault answer new

-- the input is not empty and begins with no head within the limits
pub record RefusesHead (input : List ℕ) (old : Stored) (fault : Option StoreFault) (answer : Answer)
    (new : Stored) : Type 0 where
  pub not_empty : input ≢ []
  pub none : HasNoHead input
  pub no_fault : fault ≡ None
  pub is : answer ≡ bad_request
  pub same : new ≡ old

-- what an input is answered, where this fault was met or none, and what the store holds after it
abbrev pub Answers : List ℕ → Stored → Option StoreFault → Answer → Stored → Type 0
Answers input old fault answer new =
    AnswersHead input old fault answer new ⊎ RefusesHead input old fault answer new

-- The input has this answer, and the fault that was met is counted.
-- The input is that of the reader, where its bytes are known, and else some bytes.
pub record IsRight (input : Option (List ℕ)) (old new : Stored) (before after : Faults)
    (fault : Option StoreFault) (answer : Answer) : Type 0 where
  pub answers : HadBytes input (λ bytes. Answers bytes old fault answer new)
  pub counts : after ≡ counted_with fault before

-- What serving one connection leaves and has written: at `Answered` the bytes of the input's
-- answer, whose status it names; at `Closed` and `Read` nothing, and no change; at `Write` a
-- beginning of that answer, and the store holds what it holds after it.
-- Over a reader whose bytes no contract knows, as a socket, this is so of some input.
abbrev pub IsServed : Option (List ℕ) → Stored → Stored → Faults → Faults → Option (List ℕ)
    → Option (List ℕ) → Result Served ServeFault → Type 0
IsServed input old new n0 n1 c0 c1 (Ok (Answered status)) =
    (fault : Option StoreFault) × (answer : Answer) × IsRight input old new n0 n1 fault answer
    × (status ≡ answer.status) × Appends c0 c1 (answer_bytes answer)
IsServed input old new n0 n1 c0 c1 (Ok Closed) =
    IfSome input (λ bytes. bytes ≡ []) × (new ≡ old) × (c1 ≡ c0)
IsServed input old new n0 n1 c0 c1 (Err Read) = (new ≡ old) × (c1 ≡ c0)
IsServed input old new n0 n1 c0 c1 (Err Write) =
    (fault : Option StoreFault) × (answer : Answer) × IsRight input old new n0 n1 fault answer
    × (k : ℕ) × Appends c0 c1 (take k (answer_bytes answer))

-- the store's faults after a connection, whatever the store is: one more at most
abbrev pub IsCounted : Result Served ServeFault → Faults → Faults → Type 0
IsCounted (Ok (Answered status)) before after = (fault : Option StoreFault) × (after ≡ counted_with fault before)
IsCounted (Ok Closed) before after = after ≡ before
IsCounted (Err Read) before after = after ≡ before
IsCounted (Err Write) before after = (fault : Option StoreFault) × (after ≡ counted_with fault before)

-- What was written is an answer of this status that tells the fault which was met, if one was,
-- whatever the store is; that fault is counted, and no other.
abbrev pub TellsFault : Result Served ServeFault → Faults → Faults → Option (List ℕ) → Option (List ℕ) → Type 0
TellsFault (Ok (Answered status)) n0 n1 c0 c1 =
    (fault : Option StoreFault) × (answer : Answer) × (n1 ≡ counted_with fault n0) × IsTold fault answer
    × (status ≡ answer.status) × Appends c0 c1 (answer_bytes answer)
TellsFault _ n0 n1 c0 c1 = ⊤
