-- What requests are answered, out of what was done.
use Rattle.std.proofs.Common.{◌≡◌, inl, inr, ℕ, List, Option, Some, None, Result, Ok, Err, refl, sym, ap, ◌∙◌, subst, codes}
use Rattle.std.specs.Prelude.{if◌then◌else◌}
use Rattle.version_nodes.specs.Nodes.{Node}
use Rattle.version_nodes.specs.Trees.{Ancestry}
use Rattle.version_nodes.specs.Branches.{branched}
use Rattle.version_nodes.specs.declared.fault.BranchFault.{BranchFault}
use Rattle.bug_record.specs.Desk.{Desk}
use Rattle.base_faults.specs.declared.store_fault.StoreFault.{StoreFault}
use Rattle.base_faults.specs.declared.store_fault.StoreFault.TheVariants.{Memory}
use Rattle.http_routes.specs.Answers.{ok_json}
use Rattle.store_contract.specs.Store.{Branches}
use Rattle.message_directives.specs.Questions.{Told, list_told, AsksForList, IsTold}
use Rattle.message_directives.specs.declared.told.Told.{Told as ToldBytes}
use Rattle.message_directives.specs.declared.told.QuestionFault.{QuestionFault}
use Rattle.message_directives.specs.declared.told.QuestionFault.TheVariants as questions
use Rattle.message_directives.specs.Branches.{BranchRefusal, nodes_of, branched_by, or_refused, branch_of}
use Rattle.message_directives.proofs.BranchLemmas.{branch_of_none}
use Rattle.http_requests.specs.Answer.{Answer, json_answer, page_answer, not_found}
use Rattle.http_requests.specs.Requests.{Request, PostBranch, GetList}
use Rattle.http_answers.specs.Answers.{answer_to, answered_branch, answered_question, refused_answer}
use Rattle.desk_text.specs.Answers.{nodes_refusal}
use Rattle.http_answers.specs.Faults.{AsksStore, IsFixed, IsAnswer}
use Rattle.http_requests.specs.Shown.{shown}
use Rattle.http_answers.specs.Cases.{GivesOrFails, AnswersQuestion}
use Rattle.http_requests.specs.Steps.{Fails, Gives}
use Rattle.http_requests.specs.declared.reply.Reply.{Reply}

-- an answer and what is left, each equal to another
pub pair : {D : Type 0} {a b : Answer} {d e : D} → a ≡ b → d ≡ e → ◌≡◌ {A = Answer × D} (a, d) (b, e)
pair p q = λ i. (p i, q i)

-- this answer and this desk, where no fault was met
pub given : (request : Request) (old new : Desk) (answer : Answer) (reply : Reply) → answer_to request old ≡ (answer, new)
    → Gives answer reply → IsAnswer request old reply.fault (shown reply) new
given request old new answer reply e g =
    subst (λ (f : Option StoreFault). IsAnswer request old f (shown reply) new) (sym g.1)
    (e ∙ pair (sym g.0) refl)

-- the fixed answer where memory ran out
pub wants_memory : (request : Request) (old new : Desk) (reply : Reply) → new ≡ old → Fails Memory reply
    → IsFixed request old Memory (shown reply) new
wants_memory request old new reply same f = record { is = f.0; same = same; asked = λ differs. absurd (differs refl) }

-- the fixed answer to a fault of a store that was asked
pub store_failed : (request : Request) (old new : Desk) (fault : StoreFault) (reply : Reply) → new ≡ old → AsksStore request
    → Fails fault reply → IsFixed request old fault (shown reply) new
store_failed request old new fault reply same asks f = record { is = f.0; same = same; asked = λ differs. asks }

-- what a question is told, as an answer
told_is : (told : Told) (answer : ToldBytes) (old new : Desk) → answer.text.items ≡ told.text → answer.refused ≡ told.refused
    → new ≡ old
    → answered_question told old ≡ (if answer.refused then not_found else page_answer answer.text.items, new)
told_is told answer old new t r same =
    pair (λ i. if sym r i then not_found else page_answer (sym t i)) (sym same)

-- a list
pub list_right : (name version : List ℕ) (old new : Desk) (answer : Result ToldBytes QuestionFault) (reply : Reply)
    → IsTold (list_told old name version) (AsksForList name version) old answer new → AnswersQuestion answer reply
    → IsAnswer (GetList name version) old reply.fault (shown reply) new
list_right name version old new (Ok told) reply h a =
    given (GetList name version) old new _ reply (told_is (list_told old name version) told old new h.0 h.1 h.2) a
list_right name version old new (Err questions.Memory) reply h a =
    subst (λ (f : Option StoreFault). IsAnswer (GetList name version) old f (shown reply) new) (sym a.1)
    (wants_memory (GetList name version) old new reply h a)
list_right name version old new (Err (questions.Store fault)) reply h a =
    subst (λ (f : Option StoreFault). IsAnswer (GetList name version) old f (shown reply) new) (sym a.1)
    (store_failed (GetList name version) old new fault reply h.1 h.0 a)

-- what a branch of these nodes comes to
branch_is : (words : List (List ℕ)) (nodes : List Node) (d : Desk) (r : Result Ancestry BranchFault)
    → nodes_of words ≡ Some nodes → branched d.tree nodes ≡ r → branch_of d.tree words ≡ or_refused r
unfolding branch_of
branch_is words nodes d r n h = ap (branched_by d.tree) n ∙ ap or_refused h

-- a branch that was taken
pub branch_taken : (words : List (List ℕ)) (nodes : List Node) (old new : Desk) (reply : Reply) → nodes_of words ≡ Some nodes
    → Branches old new (Ok (Ok tt)) nodes → Gives (json_answer 200 ok_json) reply
    → IsAnswer (PostBranch words) old reply.fault (shown reply) new
branch_taken words nodes old new reply n h g =
    given (PostBranch words) old new _ reply
    (ap (λ (r : Result Ancestry BranchRefusal). answered_branch r old) (branch_is words nodes old (Ok new.tree) n h.0)
    ∙ pair refl (sym h.1)) g

-- a branch that was refused, or there was no memory for its answer
pub branch_refused : (words : List (List ℕ)) (nodes : List Node) (old new : Desk) (fault : BranchFault) (reply : Reply)
    → nodes_of words ≡ Some nodes → Branches old new (Ok (Err fault)) nodes
    → GivesOrFails (refused_answer (nodes_refusal fault)) reply
    → IsAnswer (PostBranch words) old reply.fault (shown reply) new
branch_refused words nodes old new fault reply n h (inl g) =
    given (PostBranch words) old new _ reply
    (ap (λ (r : Result Ancestry BranchRefusal). answered_branch r old) (branch_is words nodes old (Err fault) n h.0)
    ∙ pair refl (sym h.1)) g
branch_refused words nodes old new fault reply n h (inr f) =
    subst (λ (o : Option StoreFault). IsAnswer (PostBranch words) old o (shown reply) new) (sym f.1)
    (wants_memory (PostBranch words) old new reply h.1 f)

-- words of which one is no node, or there was no memory for the answer
pub branch_unread : (words : List (List ℕ)) (d : Desk) (reply : Reply) → nodes_of words ≡ None
    → GivesOrFails (refused_answer (codes "bad version")) reply → IsAnswer (PostBranch words) d reply.fault (shown reply) d
branch_unread words d reply n (inl g) =
    given (PostBranch words) d d _ reply
    (ap (λ (r : Result Ancestry BranchRefusal). answered_branch r d) (branch_of_none d.tree words n)) g
branch_unread words d reply n (inr f) =
    subst (λ (o : Option StoreFault). IsAnswer (PostBranch words) d o (shown reply) d) (sym f.1)
    (wants_memory (PostBranch words) d d reply refl f)
