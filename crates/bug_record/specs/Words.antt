-- Bug words: what they mean, and their refusals, which come before the tests of their command's
-- own.
-- This project's own rule.
use Rattle.std.specs.Prelude.{ℕ, ◌==◌, ◌&&◌, Bool, true, false, not, List, [], ◌∷◌, Option, Some, None, Result, Ok, Err, ok_or}
use Rattle.std.specs.Prelude.{if◌then◌else◌}
use Rattle.std.specs.Option.{option_or}
use Rattle.std.specs.Result.{result_unwrap_or}
use Rattle.base_words.specs.declared.named.Named.{Named}
use Rattle.base_words.specs.declared.named.Named.TheVariants.{Number, Name}
use Rattle.bug_record.specs.Commands.{bug_named, other_bugs}
use Rattle.bug_record.specs.declared.bug.Bug.{Bug}
use Rattle.bug_record.specs.declared.bug.Shared.{Shared}
use Rattle.bug_record.specs.declared.command.Command.{Command}
use Rattle.bug_record.specs.declared.command.Command.TheVariants as commands
use Rattle.bug_record.specs.declared.command.Refusal.{Refusal}
use Rattle.bug_record.specs.declared.command.Refusal.TheVariants.{NoName, NoBug, Archived}

-- the names that are known, each with the number that it stands for
abbrev pub Names : Type 0
Names = List (ℕ × ℕ)

abbrev pub number_of_name : Names → ℕ → Option ℕ
number_of_name [] k = None
number_of_name (p ∷ names) k = if p.0 == k then Some p.1 else number_of_name names k

-- what a bug word means: a number, or that there is no such name
abbrev pub meaning : Names → Named → Result ℕ Refusal
meaning names (Number n) = Ok n
meaning names (Name k) = ok_or (number_of_name names k) (NoName k)

-- the refusal of the bug n, which has these shared fields: it is archived and may not be
abbrev pub archived_refusal : Bool → ℕ → Shared → Option Refusal
archived_refusal may_be n f = if f.archived && not may_be then Some (Archived n) else None

-- The refusal of a bug: it is not there, or it is archived and may not be.
abbrev pub bug_refusal : Bool → Option Bug → ℕ → Option Refusal
bug_refusal may_be None n = Some (NoBug n)
bug_refusal may_be (Some b) n = archived_refusal may_be n b.shared

-- the refusal of a bug word that means this: there is no such name, or the refusal of the bug
abbrev pub word_refusal : Bool → (ℕ → Option Bug) → Result ℕ Refusal → Option Refusal
word_refusal may_be bug (Err refusal) = Some refusal
word_refusal may_be bug (Ok n) = bug_refusal may_be (bug n) n

-- the first refusal of bug words, from the left
abbrev pub first_word_refusal : {N : Type 0} → Bool → (N → Result ℕ Refusal) → (ℕ → Option Bug) → List N → Option Refusal
first_word_refusal may_be means bug [] = None
first_word_refusal may_be means bug (word ∷ words) =
    option_or (word_refusal may_be bug (means word)) (first_word_refusal may_be means bug words)

-- the first refusal of bugs that are given as numbers
abbrev pub first_bug_refusal : Bool → (ℕ → Option Bug) → List ℕ → Option Refusal
first_bug_refusal may_be bug ns = first_word_refusal may_be (λ n. Ok n) bug ns

-- whether the bug that a command names first may be archived: that of `unarchive` alone
abbrev pub first_may_be_archived : {N : Type 0} → Command N → Bool
first_may_be_archived (commands.Unarchive n) = true
first_may_be_archived command = false

-- whether the bugs that it names after the first may be archived: those of `block` and `unblock`
-- alone
abbrev pub others_may_be_archived : {N : Type 0} → Command N → Bool
others_may_be_archived (commands.Block n ns) = true
others_may_be_archived (commands.Unblock n ns) = true
others_may_be_archived command = false

-- the first refusal of a command's bug words, from the left
abbrev pub words_refusal : {N : Type 0} → (N → Result ℕ Refusal) → (ℕ → Option Bug) → Command N → Option Refusal
words_refusal means bug command =
    option_or (word_refusal (first_may_be_archived command) bug (means (bug_named command)))
    (first_word_refusal (others_may_be_archived command) means bug (other_bugs command))

-- the number that a bug word means, where it means one
abbrev pub number_by : {N : Type 0} → (N → Result ℕ Refusal) → N → ℕ
number_by means word = result_unwrap_or (means word) 0
