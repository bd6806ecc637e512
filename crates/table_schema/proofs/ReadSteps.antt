-- What several questions inside a transaction come to together.
-- Nothing here speaks of a statement.
use Rattle.table_schema.proofs.Imports.{◌≡◌, Result, Ok, Err, IfOk, IfErr, refl, subst, ◌∙◌, ⊤, State, StoreFault, Memory, Content, Acts, Reads}
use Rattle.table_schema.proofs.StepLemmas.{done, none, acts_none, acts_stop, acts_then, acts_work, reads_work}

-- nothing was changed, and this is known of what the tables say
abbrev pub Known : State → State → (Content → Type 0) → Type 0
Known old new P = Acts old new done (λ _. ⊤) (λ c d _. (d ≡ c) × P c)

pub known_none : (s : State) (P : Content → Type 0) → ((c : Content) → P c) → Known s s P
known_none s P all = acts_none s none (λ _. ⊤) (λ c d _. (d ≡ c) × P c) (λ c. (refl, all c))

pub known_first : {A : Type 0} (old new : State) (a : A) (Q : Content → A → Type 0) → Reads Q old new (Ok a) → Known old new (λ c. Q c a)
known_first old new a Q one = acts_work old new a done (λ _. ⊤) (λ c d b. (d ≡ c) × Q c b) (λ c d _. (d ≡ c) × Q c a) (λ c d p. (p, tt)) one

pub known_then : {A : Type 0} (old mid new : State) (a : A) (P : Content → Type 0) (Q : Content → A → Type 0) → Known old mid P → Reads Q mid new (Ok a) → Known old new (λ c. P c × Q c a)
known_then {A = A} old mid new a P Q one two =
    let answer : Result A StoreFault = Ok a in
    acts_work old new a done (λ _. ⊤) (λ c e b. (e ≡ c) × (P c × Q c b)) (λ c e _. (e ≡ c) × (P c × Q c a)) (λ c e p. (p, tt))
    (acts_then old mid new none (λ _. ⊤) (λ _. ⊤) (λ _. ⊤) (λ c d _. (d ≡ c) × P c) (λ d e b. (e ≡ d) × Q d b) (λ c e b. (e ≡ c) × (P c × Q c b)) answer
    (λ c _. tt) (λ c d p _. tt) (λ c d e b p q. (q.0 ∙ p.0, (p.1, subst (λ k. Q k b) p.0 q.1))) one two)

-- one of them failed
pub reads_stop : {A B : Type 0} (old new : State) (fault : StoreFault) (Q : Content → A → Type 0) (R : Content → B → Type 0) → Reads Q old new (Err fault) → Reads R old new (Err fault)
reads_stop old new fault Q R one = acts_stop old new fault (λ _. ⊤) (λ _. ⊤) _ _ (λ c g. g) one

pub known_stop : {A B : Type 0} (old mid new : State) (fault : StoreFault) (P : Content → Type 0) (Q : Content → A → Type 0) (R : Content → B → Type 0) → Known old mid P → Reads Q mid new (Err fault) → Reads R old new (Err fault)
known_stop {A = A} old mid new fault P Q R one two =
    let answer : Result A StoreFault = Err fault in
    acts_stop old new fault (λ _. ⊤) (λ _. ⊤) (λ c e (_ : A). ⊤) _ (λ c g. g)
    (acts_then old mid new none (λ _. ⊤) (λ _. ⊤) (λ _. ⊤) (λ c d _. (d ≡ c) × P c) (λ d e b. (e ≡ d) × Q d b) (λ c e b. ⊤) answer
    (λ c _. tt) (λ c d p _. tt) (λ c d e b p q. tt) one two)

-- pure work on what is known
pub known_answer : {B : Type 0} (old new : State) (r : Result B StoreFault) (P : Content → Type 0) (R : Content → B → Type 0)
    → ((c : Content) → P c → IfOk r (R c) × IfErr r (λ fault. fault ≡ Memory)) → Known old new P → Reads R old new r
known_answer old new r P R work one = reads_work old new none r (λ _. ⊤) (λ c _. P c) R work one

pub known_weaker : (old new : State) (P Q : Content → Type 0) → ((c : Content) → P c → Q c) → Known old new P → Known old new Q
known_weaker old new P Q weaker one = acts_work old new none done (λ _. ⊤) (λ c d _. (d ≡ c) × P c) (λ c d _. (d ≡ c) × Q c) (λ c d p. ((p.0, weaker c p.1), tt)) one
