-- What reading and carrying out a request leaves, before its answer is written.
use Rattle.std.specs.Prelude.{ℕ, ◌≡◌, List, [], ◌++◌, Option, Some, None, Result, Ok, Err, IfSome}
use Rattle.httparse.specs.Grammar.{RequestHead}
use Rattle.http_bytes.specs.Found.{HadBytes}
use Rattle.store_contract.specs.Store.{Faults}
use Rattle.http_requests.specs.Answer.{Answer}
use Rattle.http_requests.specs.Told.{IsTold}
use Rattle.http_answers.specs.Faults.{counted_with}
use Rattle.http_requests.specs.Shown.{shown}
use Rattle.http_requests.specs.Steps.{Gives}
use Rattle.http_answers.specs.Stored.{Stored}
use Rattle.http_requests.specs.declared.reply.Reply.{Reply}
use Rattle.desk_http.specs.Exchange.{IsReplyTo, IsRight}
use Rattle.desk_http.specs.declared.serve.ServeFault.{ServeFault}

-- What a head is answered, over a table of the routes that is made, with the bytes after it: those
-- that came with it, and those that a reader has.
abbrev pub IsHeadAnswered : RequestHead → List ℕ → Option (List ℕ) → Stored → Stored → Result Reply ServeFault → Type 0
IsHeadAnswered head here known old new (Ok reply) =
    HadBytes known (λ more. IsReplyTo head (here ++ more) old reply.fault (shown reply) new)
IsHeadAnswered head here known old new (Err fault) = new ≡ old

-- the store's faults, and that the reply tells the one that was met
abbrev pub IsHeadCounted : Result Reply ServeFault → Faults → Faults → Type 0
IsHeadCounted (Ok reply) before after = (after ≡ counted_with reply.fault before) × IsTold reply.fault (shown reply)
IsHeadCounted (Err fault) before after = after ≡ before

-- the input's answer, or none where it is empty
abbrev pub IsExchanged : Option (List ℕ) → Stored → Stored → Faults → Faults → Result (Option Reply) ServeFault → Type 0
IsExchanged input old new n0 n1 (Ok (Some reply)) = IsRight input old new n0 n1 reply.fault (shown reply)
IsExchanged input old new n0 n1 (Ok None) = IfSome input (λ bytes. bytes ≡ []) × (new ≡ old)
IsExchanged input old new n0 n1 (Err fault) = new ≡ old

-- the store's faults, and that the reply, if there is one, tells the one that was met
abbrev pub IsExchangeCounted : Result (Option Reply) ServeFault → Faults → Faults → Type 0
IsExchangeCounted (Ok (Some reply)) before after = (after ≡ counted_with reply.fault before) × IsTold reply.fault (shown reply)
IsExchangeCounted (Ok None) before after = after ≡ before
IsExchangeCounted (Err fault) before after = after ≡ before

-- there is a reply, which is this answer
abbrev pub IsGiven : Answer → Option Reply → Type 0
IsGiven answer None = ⊥
IsGiven answer (Some reply) = Gives answer reply
