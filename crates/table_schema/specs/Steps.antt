-- What a call inside a transaction leaves and answers.
use Rattle.std.specs.Prelude.{◌≡◌, ⊤, IfOk, IfErr, Result, IsTrue, None, List}
use Rattle.sqlite.specs.Effect.{IsDatabase}
use Rattle.sqlite.specs.State.{State, HasCleanDisk, KeepsCommit, Survives}
use Rattle.base_faults.specs.declared.store_fault.StoreFault.{StoreFault}
use Rattle.table_forms.specs.Faults.{IsFaultOf}
use Rattle.table_content.specs.Content.{Content}
use Rattle.table_content.specs.Edits.{edited, edited_all}
use Rattle.table_content.specs.Free.{IsFree, AreFree}
use Rattle.table_content.specs.declared.edit.Edit.{Edit}
use Rattle.table_schema.specs.Tables.{desk_schema}
use Rattle.table_schema.specs.Rows.{content_of, AreShown}

-- a transaction over the desk's tables, if the store still serves
pub record IsInside (s : State) : Type 0 where
  pub begun : IsTrue s.in_transaction
  pub unlimited : s.step_limit ≡ None
  pub schema : IsTrue s.is_open → s.now.schema ≡ desk_schema
  pub sound : IsTrue s.is_open → IsDatabase s.now
  pub shown : IsTrue s.is_open → AreShown s.now.trees

-- what the tables say now
abbrev pub seen : State → Content
seen s = content_of s.now.trees

-- the transaction goes on, and Q holds of what the tables said and of what they say now
pub record Goes (old new : State) (Q : Content → Content → Type 0) : Type 0 where
  pub inside : IsInside new
  pub serves : IsTrue old.is_open → IsTrue new.is_open
  pub changed : Q (seen old) (seen new)

-- A call goes from old to new inside a transaction: nothing is committed; an answer is one of which
-- P holds, with what the tables said before and say now; and where Free holds of what they said, a
-- fault has its cause.
pub record Acts {A : Type 0} (old new : State) (result : Result A StoreFault) (Free : Content → Type 0) (P : Content → Content → A → Type 0) : Type 0 where
  pub survives : Survives old new (λ _. ⊥)
  pub keeps : HasCleanDisk new → IsInside old → KeepsCommit old new
  pub ok : HasCleanDisk new → IsInside old → IfOk result (λ a. Goes old new (λ c d. P c d a))
  pub cause : HasCleanDisk new → IsInside old → (IsTrue old.is_open → Free (seen old)) → IfErr result (IsFaultOf old new)

-- a call that answered found the store open
abbrev pub Serves : {A : Type 0} → State → State → Result A StoreFault → Type 0
Serves old new result = HasCleanDisk new → IsInside old → IfOk result (λ _. IsTrue old.is_open)

-- one edit is made
abbrev pub Plays : Edit → State → State → Result (Unit {0}) StoreFault → Type 0
Plays e old new result = Acts old new result (IsFree e) (λ c d _. d ≡ edited e c)

-- edits are made, one after another
abbrev pub PlaysAll : List Edit → State → State → Result (Unit {0}) StoreFault → Type 0
PlaysAll es old new result = Acts old new result (AreFree es) (λ c d _. d ≡ edited_all es c)

-- a question: the tables say what they said, and P holds of that and the answer
abbrev pub Reads : {A : Type 0} → (Content → A → Type 0) → State → State → Result A StoreFault → Type 0
Reads P old new result = Acts old new result (λ _. ⊤) (λ c d a. (d ≡ c) × P c a)
