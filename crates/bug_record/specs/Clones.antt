-- Copies of a bug, and the names that a message gives to them (the BTS page 'control and
-- manipulation'; which names may be given, and how copies are numbered, is this project's own
-- rule).
use Rattle.std.specs.Prelude.{ℕ, ◌+◌, ◌==◌, ◌||◌, nat_lt, Bool, List, [], ◌∷◌, length, count_by}
use Rattle.std.specs.Prelude.{Option, Some, None, is_some, option_map, Result, Ok, if◌then◌else◌}
use Rattle.std.specs.List.{find}
use Rattle.base_words.specs.declared.named.TheConstants.{AFTER_LARGEST}
use Rattle.bug_record.specs.Desk.{Desk}
use Rattle.bug_record.specs.Bugs.{with_new_bugs, at_bug, unless, first_of}
use Rattle.bug_record.specs.Words.{Names, number_of_name}
use Rattle.bug_record.specs.declared.bug.Bug.{Bug}
use Rattle.bug_record.specs.declared.command.Refusal.{Refusal}
use Rattle.bug_record.specs.declared.command.Refusal.TheVariants.{Merged, NameTaken, Full}

-- whether the name -k, of these names of a line, can't be given: it is known, or stands twice among
-- them
abbrev pub is_taken : Names → List ℕ → ℕ → Bool
is_taken names ks k = is_some (number_of_name names k) || nat_lt 1 (count_by (λ j. j == k) ks)

-- the refusal of the first of these names that can't be given
abbrev pub name_refusal : Names → List ℕ → Option Refusal
name_refusal names ks = option_map NameTaken (find (is_taken names ks) ks)

-- the refusal of the bug n where there is another among the bugs merged with it
abbrev pub merged_refusal : ℕ → List ℕ → Option Refusal
merged_refusal n merged = if nat_lt 1 (length merged) then Some (Merged n) else None

-- the refusal where fewer numbers are left than are asked for, the last one being 999,999,999
abbrev pub full_refusal : ℕ → ℕ → Option Refusal
full_refusal next asked = if nat_lt AFTER_LARGEST (next + asked) then Some Full else None

-- a copy of a bug under the number n: with all its fields, and merged with no other
abbrev pub clone_of : Bug → ℕ → Bug
clone_of b n = record b { merged = n ∷ [] }

-- A copy of the bug n for each of these names, of which `taken` tells the refusal.
-- The bug may be merged with no other, no name may be taken, and there have to be numbers enough.
abbrev pub cloned : (List ℕ → Option Refusal) → Desk → ℕ → List ℕ → Result Desk Refusal
cloned taken d n ks =
    at_bug (d.bug n) n (λ b.
    unless (first_of (merged_refusal n b.merged ∷ taken ks ∷ full_refusal d.next (length ks) ∷ []))
    (Ok (with_new_bugs d (clone_of b) (length ks))))
