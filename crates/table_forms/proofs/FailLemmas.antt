-- Why a statement inside a transaction fails.
use Rattle.std.proofs.Common.{◌⊎◌, inl, inr, ℕ, List, false, None, Some, Err, IsTrue, sym, ◌∙◌}
use Rattle.std.proofs.lemmas.Bool.{cases_Bool, true≢false}
use Rattle.sqlite.specs.Order.{Row}
use Rattle.sqlite.specs.declared.error.Error.{Error}
use Rattle.sqlite.specs.State.{State, ExecutesIn, ExecutesInside, IsNotRun, IsUnchanged, shows_rows, FailsToQuery, FailsToShow, IsTooLate}
use Rattle.sqlite_resolve.specs.declared.compiled.Compiled.{Compiled}
use Rattle.sqlite_schema.specs.declared.command.Returning.{Returning}
use Rattle.std.proofs.Common.{Option}
use Rattle.sqlite.specs.Steps.{FailsToCommit}
use Rattle.table_forms.specs.Faults.{fault_of, IsFaultOf}
use Rattle.table_forms.proofs.FaultLemmas.{failed_fault}

-- the store failed, or nothing changed and the connection is open
pub fault_or_same : (old new : State) (sql : List ℕ) (params : Row) (e : Error) → ExecutesInside 0 sql params old new (Err e) → IsFaultOf old new (fault_of e) ⊎ IsUnchanged old new
unfolding ExecutesIn IsNotRun
fault_or_same old new sql params e (inr (ends, why, same)) = inr same
fault_or_same old new sql params e (inl (inl (inl (refused, same)), undone)) = inr same
fault_or_same old new sql params e (inl (inl (inr fails), undone)) = inl (failed_fault old new _ e fails)
fault_or_same old new sql params e (inl (inr (c, st, alone), undone)) = elim (cases_Bool (shows_rows false c)) [
  | inl shows ↦ inr (rw shows at alone).1
  | inr runs ↦ elim (rw runs at alone) [ inl refused ↦ inr refused.1 | inr failed ↦ inl (failed_fault old new _ e failed) ]
]

-- where the statement is not refused by the tables as they are
pub unless_refused : (old new : State) (sql : List ℕ) (params : Row) (e : Error) → (IsTrue old.is_open → ExecutesInside 0 sql params old new (Err e) → IsFaultOf old new (fault_of e))
    → ExecutesInside 0 sql params old new (Err e) → IsFaultOf old new (fault_of e)
unless_refused old new sql params e live h = elim (fault_or_same old new sql params e h) [ inl store ↦ store | inr same ↦ live same.0.was_open h ]

pub commit_free : (old new : State) (e : Error) → IsTrue old.in_transaction → FailsToCommit old new e → IsFaultOf old new (fault_of e)
commit_free old new e inside (inl fails) = failed_fault old new _ e fails
commit_free old new e inside (inr (why, off, same)) = absurd (true≢false (sym inside ∙ off))

to_show : (old new : State) (sql : List ℕ) (c : Compiled) (params : Row) (e : Error) (r : Option Returning) → FailsToShow old new sql c params e r → IsFaultOf old new (fault_of e) ⊎ IsUnchanged old new
to_show old new sql c params e None h = inr h.3
to_show old new sql c params e (Some what) (inl refused) = inr refused.1
to_show old new sql c params e (Some what) (inr failed) = inl (failed_fault old new _ e failed)

-- the same of a query
pub query_fault_or_same : (old new : State) (sql : List ℕ) (params : Row) (e : Error) → FailsToQuery sql params old new e ⊎ IsTooLate sql params old new e → IsFaultOf old new (fault_of e) ⊎ IsUnchanged old new
unfolding FailsToQuery IsNotRun
query_fault_or_same old new sql params e (inr late) = inr late.5
query_fault_or_same old new sql params e (inl (inl (inl refused))) = inr refused.1
query_fault_or_same old new sql params e (inl (inl (inr failed))) = inl (failed_fault old new _ e failed)
query_fault_or_same old new sql params e (inl (inr (c, it, shows))) = to_show old new sql c _ e c.returning shows
