-- Merging bugs, and taking one out of its set (the BTS page 'control and manipulation'; what
-- becomes of owners, marks and blockers is this project's own rule).
use Rattle.std.specs.Prelude.{ℕ, ◌==◌, not, List, [], ◌∷◌, filter, Option, None, Result, Ok, Err, if◌then◌else◌}
use Rattle.std.specs.List.{list_any}
use Rattle.std.specs.Option.{option_or}
use Rattle.base_sequences.specs.Sets.{has, number_set}
use Rattle.bug_record.specs.Tags.{all_tags, has_tag}
use Rattle.bug_record.specs.Marks.{node_set}
use Rattle.bug_record.specs.PackageSets.{name_set}
use Rattle.bug_record.specs.Desk.{Desk}
use Rattle.bug_record.specs.Bugs.{each_bug, at_bug, unless, first_refusal, bugs_at, all_of}
use Rattle.bug_record.specs.Differences.{differing}
use Rattle.bug_record.specs.declared.bug.Bug.{Bug}
use Rattle.bug_record.specs.declared.bug.Shared.{Shared}
use Rattle.bug_record.specs.declared.command.Field.{Field}
use Rattle.bug_record.specs.declared.command.Refusal.{Refusal}
use Rattle.bug_record.specs.declared.command.Refusal.TheVariants.{NotMerged}
use Rattle.bug_record.specs.declared.tag.Tag.{Tag}

-- the owner of the first bug that has one
abbrev pub first_owner : List Bug → Option (List ℕ)
first_owner [] = None
first_owner (b ∷ bugs) = option_or b.shared.owner (first_owner bugs)

-- the tags that some bug has
abbrev pub joined_tags : List Bug → List Tag
joined_tags bugs = filter (λ tag. list_any (λ b. has_tag b.shared.tags tag) bugs) all_tags

-- the numbers of all bugs that are merged with some of these
abbrev pub all_merged : List Bug → List ℕ
all_merged bugs = number_set (all_of (λ b. b.merged) bugs)

-- the blockers that some bug has, but for those that are merged with one of the bugs
abbrev pub joined_blockers : List Bug → List ℕ
joined_blockers bugs = filter (λ n. not (has (all_merged bugs) n)) (number_set (all_of (λ b. b.shared.blockers) bugs))

-- The shared fields of merged bugs: package, severity, state, forwarded and being archived are
-- those of the first, the owner is that of the first that has one, a tag, an affected package or a
-- mark is there where some bug has it, and so is a blocker that is not one of the merged bugs.
abbrev pub joined_shared : Shared → List Bug → Shared
joined_shared first bugs = record first {
  owner = first_owner bugs;
  tags = joined_tags bugs;
  affects = name_set (all_of (λ b. b.shared.affects) bugs);
  found = node_set (all_of (λ b. b.shared.found) bugs);
  fixed = node_set (all_of (λ b. b.shared.fixed) bugs);
  blockers = joined_blockers bugs;
}

-- these numbers become one set, with these shared fields
abbrev pub with_merged : Desk → List ℕ → Shared → Desk
with_merged d merged shared = each_bug d (λ m b. record b {
  shared = if has merged m then shared else b.shared;
  merged = if has merged m then merged else b.merged;
})

-- All the bugs' sets become one; the bugs are there.
-- Those after the first may not differ from it in a field that is compared.
abbrev pub sets_joined : (Shared → Shared → Option Field) → Desk → ℕ → List ℕ → Result Desk Refusal
sets_joined difference d n ns =
    at_bug (d.bug n) n (λ first.
    unless (first_refusal (differing (difference first.shared)) d.bug ns)
    (Ok (with_merged d (all_merged (bugs_at d.bug (n ∷ ns))) (joined_shared first.shared (bugs_at d.bug (n ∷ ns))))))

-- n becomes a set by itself, and the rest of its set another
abbrev pub parted : Desk → ℕ → List ℕ → Desk
parted d n rest = each_bug d (λ m b. record b { merged = if m == n then n ∷ [] else if has rest m then rest else b.merged })

-- the other numbers of a set
abbrev pub others_merged : ℕ → List ℕ → List ℕ
others_merged n merged = filter (λ m. not (m == n)) merged

-- a bug that is merged with no other can't be taken out
abbrev pub taken_out : Desk → ℕ → List ℕ → Result Desk Refusal
taken_out d n [] = Err (NotMerged n)
taken_out d n (m ∷ rest) = Ok (parted d n (m ∷ rest))

-- The bug is taken out of its set.
-- No field changes.
abbrev pub unmerged : Desk → ℕ → Result Desk Refusal
unmerged d n = at_bug (d.bug n) n (λ b. taken_out d n (others_merged n b.merged))
