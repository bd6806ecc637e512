-- Why a call answers a fault, over a longer course.
use Rattle.std.proofs.Common.{◌≡◌, ◌≢◌, ◌∙◌, inl, inr, ℕ, ◌≤◌, true, false, Bool, Result, Ok, Err, IfErr, refl, sym, subst, arith, true≢false}
use Rattle.std.proofs.lemmas.Bool.{cases_Bool}
use Rattle.sqlite_disk.specs.Disk.{MoreFaults}
use Rattle.sqlite_trees.specs.Tree.{Trees}
use Rattle.sqlite_trees.specs.declared.error.StoreError.{StoreError}
use Rattle.sqlite_trees.specs.declared.error.StoreError.TheVariants.{OutOfMemory, Io, Corrupt, Full as NoRoom, Broken, Unstorable}
use Rattle.sqlite.specs.declared.error.Error.{Error}
use Rattle.sqlite.specs.declared.error.Error.TheVariants.{SqliteFailure}
use Rattle.sqlite.specs.declared.error.ErrorCode.TheVariants as code
use Rattle.sqlite.specs.State.{State, HasCleanDisk, Survives, HasCause, Fails, store_error}
use Rattle.base_faults.specs.declared.store_fault.StoreFault.{StoreFault}
use Rattle.base_faults.specs.declared.store_fault.StoreFault.TheVariants.{Memory, Device, Full, Foreign}
use Rattle.table_forms.specs.Faults.{fault_of, HasFailed, IsFaultOf}

pub memory_fault : (old new : State) (fault : StoreFault) → fault ≡ Memory → IsFaultOf old new fault
memory_fault old new fault is = subst (IsFaultOf old new) (sym is) tt

-- no other error is possible
pub only_memory : (e : Error) → ¬ (e ≢ SqliteFailure code.OutOfMemory) → fault_of e ≡ Memory
only_memory (SqliteFailure code.OutOfMemory) h = refl
only_memory _ h = absurd (h (λ same. cc))

pub memory_faults : {A : Type 0} (old new : State) (r : Result A StoreFault) → IfErr r (λ fault. fault ≡ Memory) → IfErr r (IsFaultOf old new)
memory_faults old new (Ok a) h = tt
memory_faults old new (Err fault) h = memory_fault old new fault h

-- the store failed
cause_fault : (old new : State) (big : Type 0) (cause : StoreError) → HasCause old new big cause → IsFaultOf old new (fault_of (store_error cause))
cause_fault old new big OutOfMemory h = tt
cause_fault old new big Io h = inl h
cause_fault old new big Corrupt h = inl h
cause_fault old new big NoRoom h = inl h
cause_fault old new big Broken h = inr h
cause_fault old new big Unstorable h = tt

pub caused_fault : (old new : State) (big : Type 0) (e : Error) (cause : StoreError) → e ≡ store_error cause → HasCause old new big cause → IsFaultOf old new (fault_of e)
caused_fault old new big e cause is h = subst (λ x. IsFaultOf old new (fault_of x)) (sym is) (cause_fault old new big cause h)

pub failed_fault : (old new : State) (big : Type 0) (e : Error) → Fails old new big e → IsFaultOf old new (fault_of e)
failed_fault old new big e fails = caused_fault old new big e fails.0 fails.1 fails.2

-- ---- over a longer course

more_then : (a b c : ℕ) → MoreFaults a b → b ≤ c → MoreFaults a c
more_then a b c more low = omega (arith, more, low)

then_more : (a b c : ℕ) → a ≤ b → MoreFaults b c → MoreFaults a c
then_more a b c low more = omega (arith, low, more)

module _ (old mid new : State) (C : Trees → Type 0) where
  failed_sooner : HasFailed old mid → Survives mid new C → HasFailed old new
  failed_sooner (inl more) after = inl (more_then old.faults mid.faults new.faults more after.counts)
  failed_sooner (inr shut) after = inr shut

  -- the call went on after the fault
  pub fault_sooner : (fault : StoreFault) → IsFaultOf old mid fault → Survives mid new C → IsFaultOf old new fault
  fault_sooner Memory h after = tt
  fault_sooner Device h after = failed_sooner h after
  fault_sooner Full h after = failed_sooner h after
  fault_sooner Foreign h after = h

  pub faults_sooner : {A : Type 0} (r : Result A StoreFault) → IfErr r (IsFaultOf old mid) → Survives mid new C → IfErr r (IsFaultOf old new)
  faults_sooner (Ok a) h after = tt
  faults_sooner (Err fault) h after = fault_sooner fault h after

module _ (old mid new : State) (C D : Trees → Type 0) (before : Survives old mid C) (after : Survives mid new D) (clean : HasCleanDisk mid) where
  shut_since : (b : Bool) → old.is_open ≡ b → mid.is_open ≡ false → HasFailed old new
  shut_since false is shut = inr is
  shut_since true is shut = elim (before.closes clean is) [
    | inl serves ↦ absurd (true≢false (sym serves ∙ shut))
    | inr more ↦ inl (more_then old.faults mid.faults new.faults more after.counts)
  ]

  failed_later : HasFailed mid new → HasFailed old new
  failed_later (inl more) = inl (then_more old.faults mid.faults new.faults before.counts more)
  failed_later (inr shut) = elim (cases_Bool old.is_open) [ inl on ↦ shut_since true on shut | inr off ↦ shut_since false off shut ]

  -- the call had begun before
  pub fault_later : (fault : StoreFault) → IsFaultOf mid new fault → IsFaultOf old new fault
  fault_later Memory h = tt
  fault_later Device h = failed_later h
  fault_later Full h = failed_later h
  fault_later Foreign h = h

  pub faults_later : {A : Type 0} (r : Result A StoreFault) → IfErr r (IsFaultOf mid new) → IfErr r (IsFaultOf old new)
  faults_later (Ok a) h = tt
  faults_later (Err fault) h = fault_later fault h
