-- What a call of a store says of its content.
use Rattle.std.specs.Prelude.{ℕ, ◌≡◌, ◌+◌, ◌-◌, ◌^◌, min, true, List, Option, Some, None, Result, Ok, Err, ⊤}
use Rattle.version_nodes.specs.Nodes.{Node}
use Rattle.version_nodes.specs.Branches.{branched}
use Rattle.version_nodes.specs.declared.fault.BranchFault.{BranchFault}
use Rattle.version_nodes.specs.declared.fault.BranchFault.TheVariants.{Memory as WantOfMemory}
use Rattle.bug_record.specs.Sets.{has}
use Rattle.bug_record.specs.Desk.{Desk}
use Rattle.bug_record.specs.Heads.{open_head}
use Rattle.bug_record.specs.Images.{numbers_of, IsSetOf, put}
use Rattle.bug_record.specs.Waiting.{waiting_on}
use Rattle.bug_record.specs.Lists.{listed}
use Rattle.bug_record.specs.Rows.{rows_of}
use Rattle.bug_record.specs.declared.row.ListRow.{ListRow}
use Rattle.bug_record.specs.declared.bug.SetImage.{SetImage}
use Rattle.bug_record.specs.declared.command.Change.{Change}
use Rattle.base_faults.specs.declared.store_fault.StoreFault.{StoreFault}
use Rattle.base_faults.specs.declared.store_fault.StoreFault.TheVariants.{Memory, Device, Full, Foreign}
use Rattle.bug_record.specs.declared.outcome.Outcome.{Outcome}
use Rattle.base_faults.specs.declared.store_fault.End.{End}
use Rattle.base_faults.specs.declared.store_fault.End.TheVariants as ends
use Rattle.store_contract.specs.Kept.{Keeping, IsGoodOutcome, IsNextOutcome, kept_also}
use Rattle.store_contract.specs.Crashes.{Holding}

-- A call goes from old to new: honesty isn't won, and where the tables were kept as it began and
-- the disk was honest up to its end, they are kept again, and P holds.
pub record Holds {S : Type 0} (is_kept is_honest : S → Type 0) (old new : S) (P : Type 0) : Type 0 where
  pub honest : is_honest new → is_honest old
  pub kept : is_kept old → is_honest new → is_kept new
  pub fact : is_kept old → is_honest new → P

-- A question changes nothing: the tables aren't kept now where they weren't before, and a crash
-- leaves what it could have left before.
pub record Asks {S : Type 0} (is_kept is_honest : S → Type 0) (leaves : S → Holding → Holding → Type 0) (old new : S) (P : Type 0) : Type 0
  where
    pub holds : Holds is_kept is_honest old new P
    pub was_kept : is_kept new → is_honest new → is_kept old
    pub left : is_honest new → (a b : Holding) → leaves old a b → leaves new a b

-- What holds now, where the tables were kept at an earlier moment and the disk was honest since.
pub record Since {S : Type 0} (is_kept is_honest : S → Type 0) (now : S) (P : Type 0) : Type 0 where
  pub earlier : S
  pub holds : Holds is_kept is_honest earlier now P

-- the content stays, and an answer is one of which P holds
abbrev pub Answers : {T : Type 0} → Desk → Desk → Result T StoreFault → (T → Type 0) → Type 0
Answers old new (Ok answer) P = P answer × (new ≡ old)
Answers old new (Err fault) P = new ≡ old

-- the image of the bug's set: the bug is among its members, and it is a set of the desk
abbrev pub IsImageOf : Desk → ℕ → Option SetImage → Type 0
IsImageOf d n None = d.bug n ≡ None
IsImageOf d n (Some i) = (has (numbers_of i.members) n ≡ true) × IsSetOf d i

abbrev pub IsNext : Desk → ℕ → Type 0
IsNext d n = n ≡ d.next

-- the first head, in node order, at which the bugs of the image are still found, if there is one
abbrev pub IsOpenHead : Desk → SetImage → Option Node → Type 0
IsOpenHead d i head = head ≡ open_head d.tree i.shared

-- the bugs that wait on the bug n, ascending
abbrev pub AreWaitingOn : Desk → ℕ → List ℕ → Type 0
AreWaitingOn d n numbers = numbers ≡ waiting_on d n

-- the rows of the bugs that are listed for a package at a node
abbrev pub AreListed : Desk → List ℕ → Node → List ListRow → Type 0
AreListed d package_name node rows = rows ≡ rows_of d.bug (listed d package_name node)

-- the change is made, or none
abbrev pub Applies : {T : Type 0} → Desk → Desk → Result T StoreFault → Change → Type 0
Applies old new (Ok done) change = new ≡ put old change
Applies old new (Err fault) change = new ≡ old

-- the desk after a change, if there is one
abbrev pub with_change : Option Change → Desk → Desk
with_change None d = d
with_change (Some change) d = put d change

-- The outcome may be kept of the message's id: it is good, and it and the change are what comes of
-- the message's first line that has an outcome and has none kept.
pub record MayBeKept (id sender message : List ℕ) (kept : Keeping) (d : Desk) (outcome : Outcome) (change : Option Change) : Type 0
  where
    pub good : IsGoodOutcome outcome
    pub next : IsNextOutcome id sender message kept d outcome (with_change change d)

-- the outcome is kept behind those of the message's id, and the change is made, if there is one; or
-- neither is
abbrev pub Keeps : List ℕ → List ℕ → List ℕ → Outcome → Option Change → Desk → Keeping → Result (Unit {0}) StoreFault → Desk
    → Keeping → Type 0
Keeps id sender message outcome change old kept (Ok done) new now =
    (new ≡ with_change change old) × (now ≡ kept_also id sender message outcome kept)
Keeps id sender message outcome change old kept (Err fault) new now = (new ≡ old) × (now ≡ kept)

-- the ancestry after a branch, or the refusal of one; bugs and the next number stay
abbrev pub Branches : Desk → Desk → Result (Result (Unit {0}) BranchFault) StoreFault → List Node → Type 0
Branches old new (Ok (Ok done)) nodes = (branched old.tree nodes ≡ Ok new.tree) × (new ≡ record old { tree = new.tree })
Branches old new (Ok (Err refusal)) nodes = (branched old.tree nodes ≡ Err refusal) × (new ≡ old)
Branches old new (Err fault) nodes = new ≡ old

-- the refusal of a branch is not that there is no memory
abbrev pub IsRefusal : Result (Unit {0}) BranchFault → Type 0
IsRefusal (Ok done) = ⊤
IsRefusal (Err WantOfMemory) = ⊥
IsRefusal (Err refusal) = ⊤

-- How often a store has failed, by the kind of the fault; out of memory isn't counted.
pub record Faults : Type 0 where
  pub device : ℕ
  pub full : ℕ
  pub foreign : ℕ

abbrev pub no_faults : Faults
no_faults = record { device = 0; full = 0; foreign = 0 }

-- one more, up to the largest u64
abbrev pub one_more : ℕ → ℕ
one_more n = min (n + 1) (2 ^ 64 - 1)

-- The counts after a fault: its own kind is counted once more.
-- A kind that stands at its largest count is told apart no more.
abbrev pub counted : StoreFault → Faults → Faults
counted Memory faults = faults
counted Device faults = record faults { device = one_more faults.device }
counted Full faults = record faults { full = one_more faults.full }
counted Foreign faults = record faults { foreign = one_more faults.foreign }

-- the counts after an answer
abbrev pub faults_after : {T : Type 0} → Result T StoreFault → Faults → Faults
faults_after (Ok answer) faults = faults
faults_after (Err fault) faults = counted fault faults

-- the faults of all kinds together, up to the largest u64
abbrev pub total : Faults → ℕ
total faults = min (faults.device + faults.full + faults.foreign) (2 ^ 64 - 1)

-- the counts after a message
abbrev pub faults_after_end : End → Faults → Faults
faults_after_end ends.All faults = faults
faults_after_end ends.Stopped faults = faults
faults_after_end ends.TooManyUnreadable faults = faults
faults_after_end (ends.Store fault k) faults = counted fault faults
