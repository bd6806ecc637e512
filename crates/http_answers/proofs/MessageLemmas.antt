-- What a control message is answered, out of what it came to.
use Rattle.std.proofs.Common.{◌≡◌, inl, inr, ℕ, ◌-◌, List, [], length, Option, refl, sym, ap, ◌∙◌, subst, arith}
use Rattle.std.proofs.lemmas.List.{take_all}
use Rattle.bug_record.specs.Desk.{Desk}
use Rattle.base_faults.specs.declared.store_fault.StoreFault.{StoreFault}
use Rattle.base_faults.specs.declared.store_fault.End.{End}
use Rattle.base_faults.specs.declared.store_fault.End.TheVariants as ends
use Rattle.control_lines.specs.Lines.{lines_of}
use Rattle.http_routes.specs.Members.{Control}
use Rattle.message_directives.specs.Transcripts.{received_text}
use Rattle.store_contract.specs.Message.{Entry, Machine, Comes, IsReceived, at_start, after_lines}
use Rattle.http_requests.specs.Answer.{json_answer}
use Rattle.http_requests.specs.Requests.{PostControl}
use Rattle.http_answers.specs.Answers.{answered_message, message_json}
use Rattle.http_answers.specs.Faults.{IsAnswer}
use Rattle.http_requests.specs.Shown.{shown}
use Rattle.http_answers.specs.Cases.{GivesOrFails, AnswersEnd}
use Rattle.http_requests.specs.declared.reply.Reply.{Reply}
use Rattle.http_answers.proofs.AnswerLemmas.{given}

-- a message that came to its end
whole : (c : Control) (old new : Desk) (outcomes : List Entry) (end : End) (reply : Reply)
    → Comes c.from (lines_of c.message) old outcomes end new
    → GivesOrFails (json_answer 200 (message_json outcomes end (lines_of c.message))) reply
    → IsAnswer (PostControl c) old reply.fault (shown reply) new
whole c old new outcomes end reply h (inl g) =
    given (PostControl c) old new _ reply
    (ap (λ (m : Machine). answered_message m (lines_of c.message)) h.after
    ∙ (λ i. (json_answer 200 (message_json outcomes (h.end_is i) (lines_of c.message)), new))) g
whole c old new outcomes end reply h (inr f) =
    subst (λ (o : Option StoreFault). IsAnswer (PostControl c) old o (shown reply) new) (sym f.1)
    (inr (
      f.0,
      (
        length (lines_of c.message),
        sym (ap (λ (lines : List (List ℕ)). (after_lines c.from (at_start old) lines).desk)
            (take_all (length (lines_of c.message)) (lines_of c.message) (omega arith))
            ∙ ap (λ (m : Machine). m.desk) h.after),
      ),
    ))

-- what a message is answered that ended so
pub message_right : (c : Control) (old new : Desk) (outcomes : List Entry) (end : End) (reply : Reply)
    → IsReceived c.from (lines_of c.message) old outcomes end new → AnswersEnd outcomes end (lines_of c.message) reply
    → IsAnswer (PostControl c) old reply.fault (shown reply) new
message_right c old new outcomes ends.All reply h a = whole c old new outcomes ends.All reply h a
message_right c old new outcomes ends.Stopped reply h a = whole c old new outcomes ends.Stopped reply h a
message_right c old new outcomes ends.TooManyUnreadable reply h a = whole c old new outcomes ends.TooManyUnreadable reply h a
message_right c old new outcomes (ends.Store fault k) reply h (inl t) =
    subst (λ (o : Option StoreFault). IsAnswer (PostControl c) old o (shown reply) new) (sym t.2)
    (inl (record { outcomes = outcomes; line = k; not_memory = t.0; received = h; is = t.1 }))
message_right c old new outcomes (ends.Store fault k) reply h (inr f) =
    subst (λ (o : Option StoreFault). IsAnswer (PostControl c) old o (shown reply) new) (sym f.1)
    (inr (f.0, (k - 1, sym (ap (λ (m : Machine). m.desk) h.2.after))))

-- a message that came to its end, whose transcript names no line
pub told_end : (outcomes : List Entry) (end : End) (lines : List (List ℕ)) (reply : Reply)
    → ((fault : StoreFault) (k : ℕ) → end ≡ ends.Store fault k → ⊥)
    → GivesOrFails (json_answer 200 (message_json outcomes end [])) reply → AnswersEnd outcomes end lines reply
unfolding message_json received_text
told_end outcomes ends.All lines reply none h = h
told_end outcomes ends.Stopped lines reply none h = h
told_end outcomes ends.TooManyUnreadable lines reply none h = h
told_end outcomes (ends.Store fault k) lines reply none h = absurd (none fault k refl)
