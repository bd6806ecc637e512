-- What questions inside a transaction come to together, where the tables may be kept.
-- Nothing here speaks of a statement.
use Rattle.std.proofs.Common.{◌≡◌, Result, Ok, Err, IfOk, IfErr, refl, sym, subst, ◌∙◌}
use Rattle.std.specs.Prelude.{⊤}
use Rattle.sqlite.specs.State.{State}
use Rattle.base_faults.specs.declared.store_fault.StoreFault.{StoreFault}
use Rattle.base_faults.specs.declared.store_fault.StoreFault.TheVariants.{Memory}
use Rattle.table_schema.proofs.Exports.{memory_faults}
use Rattle.table_content.specs.Content.{Content}
use Rattle.table_content.specs.Kept.{IsKeptContent}
use Rattle.table_schema.specs.Steps.{seen, Goes, Reads, Serves}
use Rattle.table_schema.proofs.StepLemmas.{acts_none, acts_then, acts_weaker}
use Rattle.table_reads.specs.Kept.{ReadsKept}

-- ---- one question after another

pub reads_then : {A B : Type 0} (old mid new : State) (a : A) (r : Result B StoreFault) (P : Content → A → Type 0) (Q R : Content → B → Type 0)
    → ((c : Content) (b : B) → P c a → Q c b → R c b) → Reads P old mid (Ok a) → Reads Q mid new r → Reads R old new r
reads_then old mid new a r P Q R join one two =
    acts_then old mid new a (λ _. ⊤) (λ _. ⊤) (λ _. ⊤) (λ c d a. (d ≡ c) × P c a) (λ d e b. (e ≡ d) × Q d b) (λ c e b. (e ≡ c) × R c b) r
    (λ c _. tt) (λ c d p _. tt) (λ c d e b p q. (q.0 ∙ p.0, join c b p.1 (subst (λ k. Q k b) p.0 q.1))) one two

-- the same where what the tables say is kept
pub kept_then : {A B : Type 0} (old mid new : State) (a : A) (r : Result B StoreFault) (P : Content → A → Type 0) (Q R : Content → B → Type 0)
    → ((c : Content) (b : B) → IsKeptContent c → P c a → Q c b → R c b) → ReadsKept P old mid (Ok a) → ReadsKept Q mid new r → ReadsKept R old new r
kept_then old mid new a r P Q R join one two =
    acts_then old mid new a IsKeptContent IsKeptContent IsKeptContent (λ c d a. (d ≡ c) × (IsKeptContent c → P c a)) (λ d e b. (e ≡ d) × (IsKeptContent d → Q d b))
    (λ c e b. (e ≡ c) × (IsKeptContent c → R c b)) r (λ c kept. kept) (λ c d p kept. subst IsKeptContent (sym p.0) kept)
    (λ c d e b p q. (q.0 ∙ p.0, λ kept. join c b kept (p.1 kept) (subst (λ k. Q k b) p.0 (q.1 (subst IsKeptContent (sym p.0) kept))))) one two

-- a question of any tables is one of kept ones
pub kept_any : {A : Type 0} (old new : State) (r : Result A StoreFault) (P Q : Content → A → Type 0)
    → ((c : Content) (a : A) → IsKeptContent c → P c a → Q c a) → Reads P old new r → ReadsKept Q old new r
kept_any old new r P Q is one =
    acts_weaker old new r (λ _. ⊤) IsKeptContent (λ c d a. (d ≡ c) × P c a) (λ c d a. (d ≡ c) × (IsKeptContent c → Q c a)) (λ c kept. tt) (λ c d a p. (p.0, λ kept. is c a kept p.1)) one

-- nothing is asked
pub kept_none : {A : Type 0} (s : State) (a : A) (P : Content → A → Type 0) → ((c : Content) → IsKeptContent c → P c a) → ReadsKept P s s (Ok a)
kept_none s a P all = acts_none s a IsKeptContent (λ c d a. (d ≡ c) × (IsKeptContent c → P c a)) (λ c. (refl, all c))

-- ---- pure work on what an open store answered

pub kept_work : {A B : Type 0} (old new : State) (a : A) (r : Result B StoreFault) (P : Content → A → Type 0) (Q : Content → B → Type 0)
    → ((c : Content) → IsKeptContent c → P c a → IfOk r (Q c) × IfErr r (λ fault. fault ≡ Memory)) → Serves old new (Ok a) → ReadsKept P old new (Ok a) → ReadsKept Q old new r
kept_work {A = A} {B = B} old new a r P Q work serves one = record {
  survives = one.survives;
  keeps = one.keeps;
  ok = λ clean inside. let g = one.ok clean inside in goes r g (λ kept. (work (seen old) kept (g.changed.1 kept)).0);
  cause = λ clean inside free. let kept = free (serves clean inside) in memory_faults old new r (work (seen old) kept ((one.ok clean inside).changed.1 kept)).1;
}
  where
    goes : (r : Result B StoreFault) → Goes old new (λ c d. (d ≡ c) × (IsKeptContent c → P c a)) → (IsKeptContent (seen old) → IfOk r (Q (seen old)))
        → IfOk r (λ b. Goes old new (λ c d. (d ≡ c) × (IsKeptContent c → Q c b)))
    goes (Ok b) g q = record { inside = g.inside; serves = g.serves; changed = (g.changed.0, q) }
    goes (Err e) g q = tt
