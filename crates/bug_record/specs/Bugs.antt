-- The bugs of a desk: one of them, some of them, a change of each, and new ones.
use Rattle.std.specs.Prelude.{ℕ, ◌+◌, ◌&&◌, nat_le, nat_lt, List, [], ◌∷◌, ◌++◌, Option, Some, None, Result, Err, option_map}
use Rattle.std.specs.Prelude.{if◌then◌else◌}
use Rattle.std.specs.Option.{option_or}
use Rattle.bug_record.specs.Desk.{Desk}
use Rattle.bug_record.specs.declared.bug.Bug.{Bug}
use Rattle.bug_record.specs.declared.command.Refusal.{Refusal}
use Rattle.bug_record.specs.declared.command.Refusal.TheVariants.{NoBug}

-- each bug as the function makes it
abbrev pub each_bug : Desk → (ℕ → Bug → Bug) → Desk
each_bug d f = record { bug = λ m. option_map (f m) (d.bug m); tree = d.tree; next = d.next }

-- the desk with so many new bugs, which are numbered upward from the next number
abbrev pub with_new_bugs : Desk → (ℕ → Bug) → ℕ → Desk
with_new_bugs d new many = record {
  bug = λ n. if nat_le d.next n && nat_lt n (d.next + many) then Some (new n) else d.bug n;
  tree = d.tree;
  next = d.next + many;
}

-- what is done with the bug n, which has to be there
abbrev pub at_bug : {A : Type 0} → Option Bug → ℕ → (Bug → Result A Refusal) → Result A Refusal
at_bug None n f = Err (NoBug n)
at_bug (Some b) n f = f b

-- a refusal, or else what follows
abbrev pub unless : {A : Type 0} → Option Refusal → Result A Refusal → Result A Refusal
unless None result = result
unless (Some refusal) result = Err refusal

-- the first refusal of those that tests come to, in the order of the tests
abbrev pub first_of : List (Option Refusal) → Option Refusal
first_of [] = None
first_of (refusal ∷ refusals) = option_or refusal (first_of refusals)

-- the first refusal of those that a list of bugs has, each by its number, from the left
abbrev pub first_refusal : (Option Bug → ℕ → Option Refusal) → (ℕ → Option Bug) → List ℕ → Option Refusal
first_refusal refusal bug [] = None
first_refusal refusal bug (n ∷ ns) = option_or (refusal (bug n) n) (first_refusal refusal bug ns)

-- a list after a bug, if there is one
abbrev pub with_bug : Option Bug → List Bug → List Bug
with_bug None bugs = bugs
with_bug (Some b) bugs = b ∷ bugs

-- those of the bugs of these numbers that are there
abbrev pub bugs_at : (ℕ → Option Bug) → List ℕ → List Bug
bugs_at bug [] = []
bugs_at bug (n ∷ ns) = with_bug (bug n) (bugs_at bug ns)

-- what a list of bugs has together, one bug after another
abbrev pub all_of : {A : Type 0} → (Bug → List A) → List Bug → List A
all_of f [] = []
all_of f (b ∷ bugs) = f b ++ all_of f bugs
