-- What questions inside a transaction come to together, where something holds of what the tables
-- say.
-- Nothing here speaks of a statement.
use Rattle.std.proofs.Common.{◌≡◌, Result, Ok, Err, IfOk, IfErr, subst, ◌∙◌}
use Rattle.std.specs.Prelude.{⊤}
use Rattle.sqlite.specs.State.{State}
use Rattle.base_faults.specs.declared.store_fault.StoreFault.{StoreFault}
use Rattle.base_faults.specs.declared.store_fault.StoreFault.TheVariants.{Memory}
use Rattle.table_schema.proofs.Exports.{memory_faults}
use Rattle.table_content.specs.Content.{Content}
use Rattle.table_schema.specs.Steps.{seen, Goes, Reads, Serves}
use Rattle.table_schema.proofs.StepLemmas.{acts_then, acts_weaker}
use Rattle.table_reads.specs.Asked.{ReadsWhere}

-- one question after another
pub where_then : {A B : Type 0} (old mid new : State) (a : A) (r : Result B StoreFault) (F : Content → Type 0) (P : Content → A → Type 0) (Q R : Content → B → Type 0)
    → ((c : Content) (b : B) → F c → P c a → Q c b → R c b) → ReadsWhere F P old mid (Ok a) → Reads Q mid new r → ReadsWhere F R old new r
where_then old mid new a r F P Q R join one two =
    acts_then old mid new a F (λ _. ⊤) F (λ c d a. (d ≡ c) × (F c → P c a)) (λ d e b. (e ≡ d) × Q d b) (λ c e b. (e ≡ c) × (F c → R c b)) r
    (λ c f. f) (λ c d p f. tt) (λ c d e b p q. (q.0 ∙ p.0, λ f. join c b f (p.1 f) (subst (λ k. Q k b) p.0 q.1))) one two

-- a question of any tables is one of those
pub where_any : {A : Type 0} (old new : State) (r : Result A StoreFault) (F : Content → Type 0) (P Q : Content → A → Type 0)
    → ((c : Content) (a : A) → F c → P c a → Q c a) → Reads P old new r → ReadsWhere F Q old new r
where_any old new r F P Q is one =
    acts_weaker old new r (λ _. ⊤) F (λ c d a. (d ≡ c) × P c a) (λ c d a. (d ≡ c) × (F c → Q c a)) (λ c f. tt) (λ c d a p. (p.0, λ f. is c a f p.1)) one

-- where more holds, more is known
pub where_more : {A : Type 0} (old new : State) (r : Result A StoreFault) (F G : Content → Type 0) (P Q : Content → A → Type 0)
    → ((c : Content) → G c → F c) → ((c : Content) (a : A) → G c → P c a → Q c a) → ReadsWhere F P old new r → ReadsWhere G Q old new r
where_more old new r F G P Q free is one =
    acts_weaker old new r F G (λ c d a. (d ≡ c) × (F c → P c a)) (λ c d a. (d ≡ c) × (G c → Q c a)) free (λ c d a p. (p.0, λ g. is c a g (p.1 (free c g)))) one

-- pure work on what an open store answered
pub where_work : {A B : Type 0} (old new : State) (a : A) (r : Result B StoreFault) (F : Content → Type 0) (P : Content → A → Type 0) (Q : Content → B → Type 0)
    → ((c : Content) → F c → P c a → IfOk r (Q c) × IfErr r (λ fault. fault ≡ Memory)) → Serves old new (Ok a) → Reads P old new (Ok a) → ReadsWhere F Q old new r
where_work {A = A} {B = B} old new a r F P Q work serves one = record {
  survives = one.survives;
  keeps = one.keeps;
  ok = λ clean inside. let g = one.ok clean inside in goes r g (λ f. (work (seen old) f g.changed.1).0);
  cause = λ clean inside free. memory_faults old new r (work (seen old) (free (serves clean inside)) (one.ok clean inside).changed.1).1;
}
  where
    goes : (r : Result B StoreFault) → Goes old new (λ c d. (d ≡ c) × P c a) → (F (seen old) → IfOk r (Q (seen old)))
        → IfOk r (λ b. Goes old new (λ c d. (d ≡ c) × (F c → Q c b)))
    goes (Ok b) g q = record { inside = g.inside; serves = g.serves; changed = (g.changed.0, q) }
    goes (Err e) g q = tt
