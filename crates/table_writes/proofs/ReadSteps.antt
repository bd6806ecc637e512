-- What the questions after a message come to together.
use Rattle.std.proofs.Common.{◌≡◌, ℕ, List, Option, Some, option_map, Result, Ok, sym, ap, subst, ◌∙◌}
use Rattle.std.specs.Prelude.{⊤}
use Rattle.sqlite.specs.State.{State}
use Rattle.bug_record.specs.declared.outcome.Outcome.{Outcome}
use Rattle.base_faults.specs.declared.store_fault.StoreFault.{StoreFault}
use Rattle.store_contract.specs.declared.kept.Kept.{Kept}
use Rattle.table_content.specs.Content.{Content}
use Rattle.table_content.specs.View.{with_their_numbers, outcomes_of, keeping_in}
use Rattle.table_content.specs.declared.edit.SentMessage.{SentMessage}
use Rattle.table_content.specs.declared.edit.ToldOutcome.{ToldOutcome}
use Rattle.table_schema.specs.Steps.{Reads}
use Rattle.table_schema.proofs.StepLemmas.{acts_then}

-- one question after another
pub reads_then : {A B : Type 0} (old mid new : State) (a : A) (r : Result B StoreFault) (P : Content → A → Type 0) (Q R : Content → B → Type 0)
    → ((c : Content) (b : B) → P c a → Q c b → R c b) → Reads P old mid (Ok a) → Reads Q mid new r → Reads R old new r
reads_then old mid new a r P Q R join one two =
    acts_then old mid new a (λ _. ⊤) (λ _. ⊤) (λ _. ⊤) (λ c d a. (d ≡ c) × P c a) (λ d e b. (e ≡ d) × Q d b) (λ c e b. (e ≡ c) × R c b) r
    (λ c _. tt) (λ c d p _. tt) (λ c d e b p q. (q.0 ∙ p.0, join c b p.1 (subst (λ k. Q k b) p.0 q.1))) one two

-- the outcomes with their numbers are those of the message
pub told_read : (id : List ℕ) (old mid new : State) (told : List ToldOutcome) (r : Result (List Outcome) StoreFault) → Reads (λ c ts. ts ≡ c.outcomes id) old mid (Ok told)
    → Reads (λ c os. os ≡ with_their_numbers (c.outcome_numbers id) told) mid new r → Reads (λ c os. os ≡ outcomes_of c id) old new r
told_read id old mid new told r one two =
    reads_then old mid new told r (λ c ts. ts ≡ c.outcomes id) (λ c os. os ≡ with_their_numbers (c.outcome_numbers id) told) (λ c os. os ≡ outcomes_of c id)
    (λ c os p q. q ∙ ap (with_their_numbers (c.outcome_numbers id)) p) one two

-- what is kept of the message that was found
abbrev kept_of : Content → List ℕ → SentMessage → Kept
kept_of c id m = record { from = m.from; message = m.message; outcomes = outcomes_of c id }

pub kept_read : (id : List ℕ) (old mid new : State) (found : Option SentMessage) (sent : SentMessage) (r : Result (Option Kept) StoreFault) → found ≡ Some sent
    → Reads (λ c m. m ≡ c.messages id) old mid (Ok found) → Reads (λ c kept. kept ≡ Some (kept_of c id sent)) mid new r → Reads (λ c kept. kept ≡ keeping_in c id) old new r
kept_read id old mid new found sent r is one two =
    reads_then old mid new found r (λ c m. m ≡ c.messages id) (λ c kept. kept ≡ Some (kept_of c id sent)) (λ c kept. kept ≡ keeping_in c id)
    (λ c kept p q. q ∙ ap (option_map (kept_of c id)) (sym is ∙ p)) one two
