-- What is made of the rows that a call answered.
use Rattle.table_schema.proofs.Exports.{◌≡◌, Result, Ok, Err, IfOk, IfErr, ⊤, State, StoreFault, Memory, memory_faults, Content, seen, Goes, Acts, Serves}

-- ---- pure work on what a call answered, which may ask that what the tables say is free for it

goes_on : {A : Type 0} (old new : State) (r : Result A StoreFault) (P : Content → Content → Type 0) (Q : Content → Content → A → Type 0) → Goes old new P → IfOk r (Q (seen old) (seen new)) → IfOk r (λ a. Goes old new (λ c d. Q c d a))
goes_on old new (Ok a) P Q g q = record { inside = g.inside; serves = g.serves; changed = q }
goes_on old new (Err e) P Q g q = tt

pub acts_served : {A B : Type 0} (old new : State) (a : A) (r : Result B StoreFault) (F : Content → Type 0) (P : Content → Content → A → Type 0) (Q : Content → Content → B → Type 0)
    → ((c d : Content) → P c d a → IfOk r (Q c d)) → ((c d : Content) → F c → P c d a → IfErr r (λ fault. fault ≡ Memory))
    → Serves {A = A} old new (Ok a) → Acts old new (Ok a) (λ _. ⊤) P → Acts old new r F Q
acts_served old new a r F P Q work memory serves h = record {
  survives = h.survives;
  keeps = h.keeps;
  ok = λ clean inside. let g = h.ok clean inside in goes_on old new r (λ c d. P c d a) Q g (work _ _ g.changed);
  cause = λ clean inside free. memory_faults old new r (memory _ _ (free (serves clean inside)) (h.ok clean inside).changed);
}

-- what holds of the answer where something holds of the tables
pub if_ok : {A X G : Type 0} (r : Result A StoreFault) (Q : A → Type 0) → X → (G → IfOk r Q) → IfOk r (λ a. X × (G → Q a))
if_ok (Ok a) Q x h = (x, h)
if_ok (Err e) Q x h = tt
