-- What an input is answered, out of what was read of it.
use Rattle.std.proofs.Common.{◌≡◌, ◌≢◌, inl, inr, ℕ, ◌++◌, List, [], take, drop, Option, Some, None, IfSome, Result, Ok, Err, IsErr, IsErrAnd, IfOk, OnOk, true, false, refl, arith, sym, ap, subst}
use Rattle.std.specs.Bool.{⊤}
use Rattle.std.specs.Prelude.{◌⊎◌, Bool, IsTrue}
use Rattle.std.specs.Result.{is_ok}
use Rattle.std.specs.Io.KnownBytes.{Appends}
use Rattle.httparse.specs.Grammar.{RequestHead}
use Rattle.httparse.specs.declared.spans.HeaderSpan.{HeaderSpan}
use Rattle.httparse.specs.declared.spans.RequestSpans.{RequestSpans}
use Rattle.base_faults.specs.declared.store_fault.StoreFault.{StoreFault}
use Rattle.base_faults.specs.declared.store_fault.StoreFault.TheVariants.{Memory}
use Rattle.http_bytes.specs.Head.{BeginsWithHead, HasNoHead}
use Rattle.http_bytes.specs.Found.{HadBytes, IsWrong, IsComplete}
use Rattle.http_bytes.proofs.HeadLemmas.{begins-more}
use Rattle.http_bytes.proofs.HadLemmas.{had_any, had_then, had_before}
use Rattle.http_requests.specs.Answer.{Answer, answer_bytes}
use Rattle.http_requests.specs.Requests.{Asked, Always, Once, PostBug, PostControl, PostBranch, GetBug, GetList}
use Rattle.http_answers.specs.Stored.{Stored}
use Rattle.http_answers.specs.Repeats.{IsAskedAnswer}
use Rattle.http_requests.specs.Shown.{shown}
use Rattle.http_requests.specs.Steps.{Fails, Gives}
use Rattle.http_requests.specs.declared.reply.Reply.{Reply}
use Rattle.http_answers.proofs.AnswerLemmas.{wants_memory}
use Rattle.http_requests.specs.Asking.{asked_of, bad_request}
use Rattle.http_requests.specs.Memory.{takes_memory}
use Rattle.http_requests.specs.Refused.{refused}
use Rattle.http_answers.specs.Faults.{counted_with}
use Rattle.http_requests.specs.Taken.{TakesRequest}
use Rattle.http_bytes.proofs.TakenLemmas.{unfinished-empty}
use Rattle.std.proofs.KnownBytes.{Consumes-nil, Keeps-refl}
use Rattle.http_requests.specs.declared.refusal.RequestRefusal.{RequestRefusal}
use Rattle.store_contract.specs.Store.{Faults}
use Rattle.desk_http.specs.Exchange.{IsReply, IsReplyTo, LacksRoutes, Answers, IsRight, IsServed}
use Rattle.desk_http.specs.Steps.{IsGiven, IsExchanged, IsHeadAnswered}
use Rattle.desk_http.specs.declared.serve.Served.{Served}
use Rattle.desk_http.specs.declared.serve.Served.TheVariants.{Answered, Closed}
use Rattle.desk_http.specs.declared.serve.ServeFault.{ServeFault}
use Rattle.desk_http.specs.declared.serve.ServeFault.TheVariants.{Read, Write}

-- memory ran out before anything was carried out
memory_answers : (request : Asked) (d : Stored) (reply : Reply) → Fails Memory reply
    → IsAskedAnswer request d (Some Memory) (shown reply) d
memory_answers (Always (PostBug report)) d reply f = (wants_memory (PostBug report) d.desk d.desk reply refl f, refl)
memory_answers (Always (PostControl c)) d reply f = (inr (f.0, (0, refl)), refl)
memory_answers (Once id c) d reply f = inr (f.0, inl refl)
memory_answers (Always (PostBranch words)) d reply f = (wants_memory (PostBranch words) d.desk d.desk reply refl f, refl)
memory_answers (Always (GetBug n)) d reply f = (wants_memory (GetBug n) d.desk d.desk reply refl f, refl)
memory_answers (Always (GetList name version)) d reply f = (wants_memory (GetList name version) d.desk d.desk reply refl f, refl)

-- memory ran out where a request was read that takes memory
memory_replies : (takes : Bool) (made : Result Asked Answer) (d : Stored) (reply : Reply) → IsTrue takes → Fails Memory reply
    → IsReply takes made d (Some Memory) (shown reply) d
memory_replies takes (Ok request) d reply t f = memory_answers request d reply f
memory_replies takes (Err refusal) d reply t f = (t, refl, f.0, refl)

pub memory_right : (known : Option (List ℕ)) (here : List ℕ) (d : Stored) (reply : Reply) (head : RequestHead)
    → IsTrue (takes_memory head) → Fails Memory reply → IsHeadAnswered head here known d d (Ok reply)
memory_right known here d reply head t f = had_any known _ (λ more.
    subst (λ (o : Option StoreFault). IsReplyTo head (here ++ more) d o (shown reply) d) (sym f.1)
    (memory_replies (takes_memory head) (asked_of head (here ++ more)) d reply t f))

-- what a request asks that was read, answered
pub asked_right : (known : Option (List ℕ)) (here : List ℕ) (head : RequestHead) (made : Result Asked Answer) (d e : Stored)
    (reply : Reply) → HadBytes known (λ more. made ≡ asked_of head (here ++ more))
    → IsReply (takes_memory head) made d reply.fault (shown reply) e → IsHeadAnswered head here known d e (Ok reply)
asked_right known here head made d e reply asks h = had_then known (λ more. made ≡ asked_of head (here ++ more)) _
    (λ more is. subst (λ (r : Result Asked Answer). IsReply (takes_memory head) r d reply.fault (shown reply) e) is h) asks

-- a request that is refused
refused_replies : (takes : Bool) (refusal : Answer) (d : Stored) (reply : Reply) → Gives refusal reply
    → IsReply takes (Err refusal) d reply.fault (shown reply) d
refused_replies takes refusal d reply g =
    subst (λ (o : Option StoreFault). IsReply takes (Err refusal) d o (shown reply) d) (sym g.1) (g.0, refl)

pub refused_right : (known : Option (List ℕ)) (here : List ℕ) (head : RequestHead) (refusal : RequestRefusal) (d : Stored) (reply : Reply)
    → HadBytes known (λ more. Err (refused refusal) ≡ asked_of head (here ++ more)) → Gives (refused refusal) reply
    → IsHeadAnswered head here known d d (Ok reply)
refused_right known here head refusal d reply asks g =
    asked_right known here head (Err (refused refusal)) d d reply asks (refused_replies (takes_memory head) (refused refusal) d reply g)

-- the answer to an input that begins with a head, out of that to its head
pub complete_right : (old new : Option (List ℕ)) (buf : List ℕ) (headers : List HeaderSpan) (spans : RequestSpans) (filled : ℕ)
    → (c : IsComplete old new buf headers spans filled) → (d e : Stored) (fault : Option StoreFault) (answer : Answer)
    → HadBytes new (λ more. IsReplyTo c.head (drop spans.len (take filled buf) ++ more) d fault answer e ⊎ LacksRoutes d fault answer e)
    → HadBytes old (λ bytes. Answers bytes d fault answer e)
complete_right old new buf headers spans filled c d e fault answer had =
    let front = take filled buf in
    had_before old new front had.bytes (λ bytes. Answers bytes d fault answer e) c.took had.are (inl (record {
      head = c.head;
      rest = drop spans.len front ++ had.bytes;
      begins = begins-more front had.bytes c.head (drop spans.len front) c.begins;
      gives = had.holds;
    }))

pub made_right : (old new : Option (List ℕ)) (buf : List ℕ) (headers : List HeaderSpan) (spans : RequestSpans) (filled : ℕ)
    → (c : IsComplete old new buf headers spans filled) → (d e : Stored) (n0 n1 : Faults) (reply : Reply)
    → IsHeadAnswered c.head (drop spans.len (take filled buf)) new d e (Ok reply) → n1 ≡ counted_with reply.fault n0
    → IsRight old d e n0 n1 reply.fault (shown reply)
made_right old new buf headers spans filled c d e n0 n1 reply had counts = record {
  answers = complete_right old new buf headers spans filled c d e reply.fault (shown reply) (had_then new _ _ (λ more h. inl h) had);
  counts = counts;
}

-- there was no memory for the table of the routes
pub lacking_right : (old new : Option (List ℕ)) (buf : List ℕ) (headers : List HeaderSpan) (spans : RequestSpans) (filled : ℕ)
    → (c : IsComplete old new buf headers spans filled) → (d : Stored) (n : Faults) (reply : Reply) → Fails Memory reply
    → IsRight old d d n n reply.fault (shown reply)
lacking_right old new buf headers spans filled c d n reply f = record {
  answers = complete_right old new buf headers spans filled c d d reply.fault (shown reply)
      (had_any new _ (λ more. inr (record { met = f.1; is = f.0; same = refl })));
  counts = subst (λ (o : Option StoreFault). n ≡ counted_with o n) (sym f.1) refl;
}

-- a read failed once the head was found
pub failed_exchange : (input : Option (List ℕ)) (old new : Stored) (n0 n1 : Faults) (r : Result (Option Reply) ServeFault) (Is : ServeFault → Type 0)
    → IsErrAnd r Is → new ≡ old → IsExchanged input old new n0 n1 r
failed_exchange input old new n0 n1 (Ok reply) Is is same = absurd is
failed_exchange input old new n0 n1 (Err fault) Is is same = same

-- an input with a wrong head
pub wrong_right : (old : Option (List ℕ)) (d : Stored) (reply : Reply) → HadBytes old IsWrong → Gives bad_request reply
    → HadBytes old (λ bytes. Answers bytes d reply.fault (shown reply) d)
wrong_right old d reply w g = had_then old IsWrong _
    (λ bytes wrong. inr (record { not_empty = wrong.0; none = wrong.1; no_fault = g.1; is = g.0; same = refl })) w

-- what holds in any case
pub on_any : {T E : Type 0} (r : Result T E) (P : Type 0) → P → OnOk r P
on_any (Ok x) P h = h
on_any (Err fault) P h = tt

true_is_false : true ≡ false → ⊥
true_is_false e = cc

-- what holds where a call went well holds where its error, if there was one, was put in other words
on_mapped : {T E F : Type 0} (r : Result T E) (m : Result T F) (P : Type 0) → is_ok m ≡ is_ok r → OnOk r P → OnOk m P
on_mapped r (Err fault) P e h = tt
on_mapped (Ok x) (Ok y) P e h = h
on_mapped (Err fault) (Ok y) P e h = absurd (true_is_false e)

pub went_well : {T E F : Type 0} (r : Result T E) (m : Result T F) (x : T) (P : Type 0) → m ≡ Ok x → is_ok m ≡ is_ok r
    → OnOk r P → P
went_well {T} {E} {F} r m x P is e h = subst (λ (q : Result T F). OnOk q P) is (on_mapped r m P e h)

-- an input that begins with a head has no wrong one
pub not_wrong : (old new : Option (List ℕ)) (buf : List ℕ) (headers : List HeaderSpan) (spans : RequestSpans) (filled : ℕ)
    → IsComplete old new buf headers spans filled → (P : Type 0) → IfSome old (λ input. input ≢ [] → HasNoHead input → P)
not_wrong None new buf headers spans filled c P = tt
not_wrong (Some x) None buf headers spans filled c P = absurd c.took
not_wrong (Some x) (Some y) buf headers spans filled c P = λ some none.
    let front = take filled buf in
    let rest = drop spans.len front in
    absurd (none c.head (rest ++ y) (subst (λ l. BeginsWithHead l c.head (rest ++ y)) (sym c.took)
    (begins-more front y c.head rest c.begins)))

-- a wrong head whose answer was written
pub wrong_served : (input : Option (List ℕ)) (same : Type 0) (made : Option Reply) (reply : Reply) (c0 c1 : Option (List ℕ))
    → made ≡ Some reply
    → IfSome input (λ bytes. bytes ≢ [] → HasNoHead bytes → same × IsGiven bad_request made)
    → Appends c0 c1 (answer_bytes (shown reply))
    → IfSome input (λ bytes. bytes ≢ [] → HasNoHead bytes
    → same × ((Answered reply.status ≡ Answered 400) × Appends c0 c1 (answer_bytes bad_request)))
wrong_served None same made reply c0 c1 is w written = tt
wrong_served (Some x) same made reply c0 c1 is w written = λ some none.
    let found = w some none in
    let g : Gives bad_request reply = subst (λ (o : Option Reply). IsGiven bad_request o) is found.1 in
    (found.0, (ap (λ (a : Answer). Answered a.status) g.0, subst (λ (a : Answer). Appends c0 c1 (answer_bytes a)) g.0 written))

-- a wrong head, whatever was written
pub wrong_unwritten : (input : Option (List ℕ)) (same given : Type 0)
    → IfSome input (λ bytes. bytes ≢ [] → HasNoHead bytes → same × given)
    → IfSome input (λ bytes. bytes ≢ [] → HasNoHead bytes → same × ⊤)
wrong_unwritten None same given w = tt
wrong_unwritten (Some x) same given w = λ some none. ((w some none).0, tt)

pub wrong_failed : {T E : Type 0} (input : Option (List ℕ)) (same given : Type 0) (r : Result T E) (Is : T → Type 0) → IsErr r
    → IfSome input (λ bytes. bytes ≢ [] → HasNoHead bytes → same × given)
    → IfSome input (λ bytes. bytes ≢ [] → HasNoHead bytes → same × IfOk r Is)
wrong_failed input same given (Ok x) Is is w = absurd (true_is_false (sym is))
wrong_failed input same given (Err fault) Is is w = wrong_unwritten input same given w

-- the input of what is right
right_by : (known : Option (List ℕ)) (old new : Stored) (n0 n1 : Faults) (fault : Option StoreFault) (answer : Answer)
    → (r : IsRight known old new n0 n1 fault answer) → IsRight (Some r.answers.bytes) old new n0 n1 fault answer
right_by known old new n0 n1 fault answer r = record {
  answers = record { bytes = r.answers.bytes; are = refl; holds = r.answers.holds };
  counts = r.counts;
}

-- the input of what was served
pub served_by : (known : Option (List ℕ)) (old new : Stored) (n0 n1 : Faults) (c0 c1 : Option (List ℕ)) (result : Result Served ServeFault)
    → IsServed known old new n0 n1 c0 c1 result → HadBytes known (λ input. IsServed (Some input) old new n0 n1 c0 c1 result)
served_by known old new n0 n1 c0 c1 (Ok (Answered status)) h = record {
  bytes = h.2.answers.bytes;
  are = h.2.answers.are;
  holds = (h.0, h.1, right_by known old new n0 n1 h.0 h.1 h.2, h.3, h.4);
}
served_by None old new n0 n1 c0 c1 (Ok Closed) h = record { bytes = []; are = tt; holds = (refl, h.1, h.2) }
served_by (Some x) old new n0 n1 c0 c1 (Ok Closed) h = record { bytes = x; are = refl; holds = h }
served_by known old new n0 n1 c0 c1 (Err Read) h = had_any known _ (λ input. h)
served_by known old new n0 n1 c0 c1 (Err Write) h = record {
  bytes = h.2.answers.bytes;
  are = h.2.answers.are;
  holds = (h.0, h.1, right_by known old new n0 n1 h.0 h.1 h.2, h.3, h.4);
}

-- nothing is taken where nothing is read
pub none_taken : (known : Option (List ℕ)) → TakesRequest known known
none_taken known = record {
  taken = [];
  mid = known;
  gave = record { took = Consumes-nil known; before = []; piece = []; are = refl; room = omega (arith); unfinished = unfinished-empty };
  behind = inl (Keeps-refl known);
}

-- a wrong head at two ends, and at the ends that stand before them
abbrev IsWrongAt : Type 0 → Result Served ServeFault → Option (List ℕ) → Option (List ℕ) → Option (List ℕ) → Type 0
IsWrongAt same r input c0 c1 = IfSome input (λ bytes. bytes ≢ [] → HasNoHead bytes
    → same × IfOk r (λ served. (served ≡ Answered 400) × Appends c0 c1 (answer_bytes bad_request)))

pub wrong_ends : (same : Type 0) (r : Result Served ServeFault) (i j a b c d : Option (List ℕ)) → i ≡ j → a ≡ b → c ≡ d
    → IfSome i (λ bytes. bytes ≢ [] → HasNoHead bytes
    → same × IfOk r (λ served. (served ≡ Answered 400) × Appends a c (answer_bytes bad_request)))
    → IfSome j (λ bytes. bytes ≢ [] → HasNoHead bytes
    → same × IfOk r (λ served. (served ≡ Answered 400) × Appends b d (answer_bytes bad_request)))
wrong_ends same r i j a b c d p q s h =
    subst (λ (x : Option (List ℕ)). IsWrongAt same r x b d) p (subst (λ (x : Option (List ℕ)). IsWrongAt same r i b x) s
    (subst (λ (x : Option (List ℕ)). IsWrongAt same r i x c) q h))
