-- What a crash leaves of a store, as a connection is served.
use Rattle.std.specs.Prelude.{◌⊎◌}
use Rattle.std.proofs.Common.{◌≡◌, ◌≢◌, inl, inr, ℕ, ◌++◌, List, take, drop, Option, Some, None, Result, Ok, Err, IsErrAnd, refl, ap, subst}
use Rattle.httparse.specs.Grammar.{RequestHead}
use Rattle.httparse.specs.declared.spans.HeaderSpan.{HeaderSpan}
use Rattle.httparse.specs.declared.spans.RequestSpans.{RequestSpans}
use Rattle.base_faults.specs.declared.store_fault.StoreFault.{StoreFault}
use Rattle.base_faults.specs.declared.store_fault.StoreFault.TheVariants.{Memory, Device, Full, Foreign}
use Rattle.http_bytes.specs.Head.{BeginsWithHead}
use Rattle.http_bytes.specs.Found.{HadBytes, IsComplete}
use Rattle.http_bytes.proofs.HeadLemmas.{begins-more}
use Rattle.http_bytes.proofs.HadLemmas.{had_any, had_then, had_before}
use Rattle.http_requests.specs.Answer.{Answer}
use Rattle.http_requests.specs.Asking.{asked_of}
use Rattle.http_requests.specs.Requests.{Asked}
use Rattle.http_requests.specs.Told.{IsTold}
use Rattle.http_requests.specs.declared.reply.Reply.{Reply}
use Rattle.http_answers.specs.Crashes.{IsTried, LeavesAnswered}
use Rattle.store_contract.specs.Crashes.{Holding}
use Rattle.desk_http.specs.Crashes.{IsTriedBy, IsTriedFor, LeavesFor, LeavesHead, LeavesExchanged, MayTell}
use Rattle.desk_http.specs.declared.serve.Served.TheVariants.{Answered}
use Rattle.desk_http.specs.declared.serve.ServeFault.{ServeFault}

-- nothing was tried
pub none_tried : {S : Type 0} (leaves : S → Holding → Holding → Type 0) (s : S) (input : Option (List ℕ)) (fault : Option StoreFault)
    (held : Holding) → LeavesFor leaves s s input fault held held
none_tried leaves s input fault held = record {
  tried = held;
  is_tried = had_any input (λ bytes. IsTriedFor bytes fault held held held) (λ bytes. inl refl);
  left = λ l. l;
}

-- nothing was tried for a head
pub head_untried : {S : Type 0} (leaves : S → Holding → Holding → Type 0) (s : S) (head : RequestHead) (here : List ℕ)
    (known : Option (List ℕ)) (fault : Option StoreFault) (held : Holding) → LeavesHead leaves s s head here known fault held held
head_untried leaves s head here known fault held = record {
  tried = held;
  is_tried = had_any known _ (λ more. inl refl);
  left = λ l. l;
}

-- what a crash leaves of the store once a head is answered, out of what it leaves of that of its
-- request
pub head_tried : {S : Type 0} (leaves : S → Holding → Holding → Type 0) (s t : S) (head : RequestHead) (here : List ℕ)
    (known : Option (List ℕ)) (asked : Asked) (fault : Option StoreFault) (before now : Holding)
    → HadBytes known (λ more. Ok asked ≡ asked_of head (here ++ more)) → LeavesAnswered leaves s t asked before fault now
    → LeavesHead leaves s t head here known fault before now
head_tried leaves s t head here known asked fault before now asks l = record {
  tried = l.tried;
  is_tried = had_then known (λ more. Ok asked ≡ asked_of head (here ++ more)) _
      (λ more is. inr (subst (λ (r : Result Asked Answer). IsTriedBy r fault before now l.tried) is l.is_tried)) asks;
  left = l.left;
}

tried_for : (input : List ℕ) (head : RequestHead) (rest : List ℕ) (fault : Option StoreFault) (before now tried : Holding)
    → BeginsWithHead input head rest → (tried ≡ now) ⊎ IsTriedBy (asked_of head rest) fault before now tried
    → IsTriedFor input fault before now tried
tried_for input head rest fault before now tried begins (inl same) = inl same
tried_for input head rest fault before now tried begins (inr did) = inr (head, rest, begins, did)

-- what a crash leaves of the store of an exchange, out of what it leaves once its head is answered
pub exchange_tried : {S : Type 0} (leaves : S → Holding → Holding → Type 0) (s t : S) (old new : Option (List ℕ)) (buf : List ℕ)
    (headers : List HeaderSpan) (spans : RequestSpans) (filled : ℕ) (c : IsComplete old new buf headers spans filled)
    → (fault : Option StoreFault) (before now : Holding)
    → LeavesHead leaves s t c.head (drop spans.len (take filled buf)) new fault before now → LeavesFor leaves s t old fault before now
exchange_tried leaves s t old new buf headers spans filled c fault before now l =
    let front = take filled buf in
    let rest = drop spans.len front in
    record {
      tried = l.tried;
      is_tried = had_before old new front l.is_tried.bytes (λ bytes. IsTriedFor bytes fault before now l.tried) c.took l.is_tried.are
          (tried_for (front ++ l.is_tried.bytes) c.head (rest ++ l.is_tried.bytes) fault before now l.tried
          (begins-more front l.is_tried.bytes c.head rest c.begins) l.is_tried.holds);
      left = l.left;
    }

pub failed_tried : {S : Type 0} (leaves : S → Holding → Holding → Type 0) (s t : S) (input : Option (List ℕ)) (before now : Holding)
    (r : Result (Option Reply) ServeFault) (Is : ServeFault → Type 0) → IsErrAnd r Is → LeavesFor leaves s t input None before now
    → LeavesExchanged leaves s t input r before now
failed_tried leaves s t input before now (Ok reply) Is is left = absurd is
failed_tried leaves s t input before now (Err fault) Is is left = left

-- an answer of another status than 500 tells no fault
pub told_none : (fault : Option StoreFault) (answer : Answer) → IsTold fault answer → MayTell (Ok (Answered answer.status)) fault
told_none None answer told = λ other. refl
told_none (Some Memory) answer told = λ other. absurd (other (ap (λ (a : Answer). a.status) told))
told_none (Some Device) answer told = λ other. absurd (other told)
told_none (Some Full) answer told = λ other. absurd (other told)
told_none (Some Foreign) answer told = λ other. absurd (other told)
