-- What a message with an id is answered, out of what it came to.
use Rattle.std.proofs.Common.{◌≡◌, ◌-◌, inl, inr, ℕ, Bool, true, false, List, length, drop, Option, Some, None}
use Rattle.std.proofs.Common.{Ok, refl, sym, ap, ◌∙◌, subst, arith, Decides, ◌&&◌}
use Rattle.std.proofs.lemmas.Bool.{cond-true, cond-false}
use Rattle.std.proofs.lemmas.List.{take_all}
use Rattle.std.proofs.lemmas.Slice.Eq.{bytes_eq-Decides}
use Rattle.std.specs.Str.{bytes_eq}
use Rattle.bug_record.specs.Desk.{Desk}
use Rattle.http_routes.specs.Members.{Control}
use Rattle.control_lines.specs.Lines.{lines_of}
use Rattle.store_contract.specs.declared.outcomes_so_far.Received.{Received}
use Rattle.message_receiving.specs.Once.{IsOnce}
use Rattle.base_faults.specs.declared.store_fault.StoreFault.{StoreFault}
use Rattle.base_faults.specs.declared.store_fault.End.{End}
use Rattle.base_faults.specs.declared.store_fault.End.TheVariants as ends
use Rattle.store_contract.specs.Message.{Entry, Machine}
use Rattle.store_contract.specs.Kept.{Keeping, outcomes_kept, outcomes_in, told, lines_told, kept_with, IsOfMessage, IsResumed}
use Rattle.store_contract.specs.Kept.{GoesOn}
use Rattle.store_contract.specs.declared.kept.Kept.{Kept}
use Rattle.http_requests.specs.Answer.{Answer, json_answer}
use Rattle.http_answers.specs.Answers.{message_json}
use Rattle.http_answers.specs.Repeats.{id_in_use, is_of_message, answered_resumed, answered_once, IsOnceAnswer}
use Rattle.http_answers.specs.Stored.{Stored}
use Rattle.http_requests.specs.Shown.{shown}
use Rattle.http_answers.specs.Cases.{GivesOrFails, AnswersEnd}
use Rattle.http_requests.specs.Steps.{Fails, Gives}
use Rattle.http_requests.specs.declared.reply.Reply.{Reply}
use Rattle.http_answers.proofs.AnswerLemmas.{pair}

both : {P Q : Type 0} (a b : Bool) → Decides a P → Decides b Q → Decides (a && b) (P × Q)
both true true p q = (λ e. (p.0 refl, q.0 refl), λ t. refl)
both true false p q = (λ e. absurd (cc), λ t. q.1 t.1)
both false b p q = (λ e. absurd (cc), λ t. p.1 t.0)

is_of_message-Decides : (sender message : List ℕ) (k : Option Kept)
    → Decides (is_of_message sender message k) (IsOfMessage sender message k)
is_of_message-Decides sender message None = (λ e. tt, λ t. refl)
is_of_message-Decides sender message (Some k) =
    both (bytes_eq k.from sender) (bytes_eq k.message message) (bytes_eq-Decides k.from sender) (bytes_eq-Decides k.message message)

is_not : {P : Type 0} (b : Bool) → Decides b P → ¬ P → b ≡ false
is_not true d none = absurd (none (d.0 refl))
is_not false d none = refl

-- what a store holds, both parts equal
pub stored_same : {d e : Desk} {k l : Keeping} → d ≡ e → k ≡ l
    → ◌≡◌ {A = Stored} (record { desk = d; kept = k }) (record { desk = e; kept = l })
stored_same p q = λ i. record { desk = p i; kept = q i }

-- this answer, where no fault was met
once_given : (id : List ℕ) (c : Control) (old new : Stored) (answer : Answer) (reply : Reply)
    → answered_once id c old ≡ (answer, new) → Gives answer reply → IsOnceAnswer id c old reply.fault (shown reply) new
once_given id c old new answer reply e g =
    subst (λ (f : Option StoreFault). IsOnceAnswer id c old f (shown reply) new) (sym g.1) (e ∙ pair (sym g.0) refl)

-- the id is in use
pub once_reused : (id : List ℕ) (c : Control) (old new : Stored) (reply : Reply) → ¬ IsOfMessage c.from c.message (old.kept id)
    → new ≡ old → Gives id_in_use reply → IsOnceAnswer id c old reply.fault (shown reply) new
once_reused id c old new reply other same g =
    once_given id c old new id_in_use reply
    (cond-false (is_of_message c.from c.message (old.kept id)) _ _
    (is_not (is_of_message c.from c.message (old.kept id)) (is_of_message-Decides c.from c.message (old.kept id)) other)
    ∙ pair refl (sym same)) g

-- a fault at which nothing has changed
pub once_faulted : (id : List ℕ) (c : Control) (old new : Stored) (fault : StoreFault) (reply : Reply) → new ≡ old
    → Fails fault reply → IsOnceAnswer id c old reply.fault (shown reply) new
once_faulted id c old new fault reply same f =
    subst (λ (o : Option StoreFault). IsOnceAnswer id c old o (shown reply) new) (sym f.1) (inr (f.0, inl same))

-- a message that came to its end
once_whole : (id : List ℕ) (c : Control) (old new : Stored) (outcomes : List Entry) (end : End) (reply : Reply)
    → IsOfMessage c.from c.message (old.kept id)
    → GoesOn c.from (drop (length (outcomes_kept (old.kept id))) (lines_told (lines_of c.message))) old.desk
    (told (lines_of c.message) (outcomes_kept (old.kept id))) outcomes end new.desk
    → new.kept ≡ kept_with id c.from c.message (outcomes_in outcomes) old.kept
    → GivesOrFails (json_answer 200 (message_json outcomes end (lines_of c.message))) reply
    → IsOnceAnswer id c old reply.fault (shown reply) new
once_whole id c old new outcomes end reply same h kept (inl g) =
    once_given id c old new _ reply
    (cond-true (is_of_message c.from c.message (old.kept id)) _ _ ((is_of_message-Decides c.from c.message (old.kept id)).1 same)
    ∙ ap (λ (m : Machine). answered_resumed m id c old) h.after
    ∙ pair (λ i. json_answer 200 (message_json outcomes (h.end_is i) (lines_of c.message))) (stored_same refl (sym kept))) g
once_whole id c old new outcomes end reply same h kept (inr f) =
    let own = lines_of c.message in
    subst (λ (o : Option StoreFault). IsOnceAnswer id c old o (shown reply) new) (sym f.1)
    (inr (
      f.0,
      inr (record {
        count = length own;
        outcomes = outcomes;
        end = end;
        same = same;
        goes = subst (λ (lines : List (List ℕ)). GoesOn c.from (drop (length (outcomes_kept (old.kept id))) (lines_told lines)) old.desk
            (told own (outcomes_kept (old.kept id))) outcomes end new.desk)
            (sym (take_all (length own) own (omega arith))) h;
        kept = kept;
      }),
    ))

-- a message that ended so
once_ended : (id : List ℕ) (c : Control) (old new : Stored) (outcomes : List Entry) (end : End) (reply : Reply)
    → IsOfMessage c.from c.message (old.kept id)
    → IsResumed c.from (lines_of c.message) (outcomes_kept (old.kept id)) old.desk outcomes end new.desk
    → new.kept ≡ kept_with id c.from c.message (outcomes_in outcomes) old.kept
    → AnswersEnd outcomes end (lines_of c.message) reply → IsOnceAnswer id c old reply.fault (shown reply) new
once_ended id c old new outcomes ends.All reply same h kept a = once_whole id c old new outcomes ends.All reply same h kept a
once_ended id c old new outcomes ends.Stopped reply same h kept a =
    once_whole id c old new outcomes ends.Stopped reply same h kept a
once_ended id c old new outcomes ends.TooManyUnreadable reply same h kept a =
    once_whole id c old new outcomes ends.TooManyUnreadable reply same h kept a
once_ended id c old new outcomes (ends.Store fault k) reply same h kept (inl t) =
    subst (λ (o : Option StoreFault). IsOnceAnswer id c old o (shown reply) new) (sym t.2)
    (inl (record { outcomes = outcomes; line = k; not_memory = t.0; same = same; resumed = h; kept = kept; is = t.1 }))
once_ended id c old new outcomes (ends.Store fault k) reply same h kept (inr f) =
    subst (λ (o : Option StoreFault). IsOnceAnswer id c old o (shown reply) new) (sym f.1)
    (inr (
      f.0,
      inr (record {
        count = k - 1;
        outcomes = outcomes;
        end = ends.All;
        same = same;
        goes = h.3;
        kept = kept;
      }),
    ))

-- what a message that was taken is answered
pub once_right : (id : List ℕ) (c : Control) (old new : Stored) (received : Received) (reply : Reply)
    → IsOnce id c.from c.message old.desk old.kept (Ok received) new.desk new.kept
    → AnswersEnd received.outcomes received.end (lines_of c.message) reply → IsOnceAnswer id c old reply.fault (shown reply) new
once_right id c old new received reply h a =
    once_ended id c old new received.outcomes received.end reply h.1 h.2 h.3 a
