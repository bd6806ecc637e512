-- The numbers at which two desks differ.
use Rattle.std.specs.Prelude.{ℕ, ◌≡◌, ◌≤◌, Bool, true, false, not, ◌&&◌, ◌==◌, List, Option, Some, None}
use Rattle.std.specs.Prelude.{filter}
use Rattle.std.specs.Str.{bytes_eq}
use Rattle.std.specs.Cmp.Lexicographic.{pointwise}
use Rattle.version_nodes.specs.Nodes.{Node, same_node}
use Rattle.bug_record.specs.Severities.{rank}
use Rattle.bug_record.specs.Tags.{same_tag}
use Rattle.bug_record.specs.Differences.{same_flag, same_text, same_state}
use Rattle.base_sequences.specs.Sets.{has, IsAscending, numbers_below}
use Rattle.bug_record.specs.Desk.{Desk, IsSound}
use Rattle.bug_record.specs.Images.{AreSetsOf, put}
use Rattle.bug_record.specs.Plans.{CoverImages, BringNone}
use Rattle.bug_record.specs.declared.bug.Bug.{Bug}
use Rattle.bug_record.specs.declared.bug.Shared.{Shared}
use Rattle.bug_record.specs.declared.bug.SetImage.{SetImage}
use Rattle.bug_record.specs.declared.tag.Tag.{Tag}

-- tests of equality
abbrev pub same_nodes : List Node → List Node → Bool
same_nodes ns ms = pointwise same_node ns ms

abbrev pub same_tags : List Tag → List Tag → Bool
same_tags ts us = pointwise same_tag ts us

abbrev pub same_names : List (List ℕ) → List (List ℕ) → Bool
same_names ns ms = pointwise bytes_eq ns ms

abbrev pub same_shared : Shared → Shared → Bool
same_shared s t =
    (bytes_eq s.package t.package && (rank s.severity == rank t.severity)) && same_state s t
    && (same_text s.forwarded t.forwarded && same_text s.owner t.owner && same_tags s.tags t.tags)
    && (same_names s.affects t.affects && (same_nodes s.found t.found && same_nodes s.fixed t.fixed))
    && (bytes_eq s.blockers t.blockers && same_flag s.archived t.archived)

abbrev pub same_bugs : Bug → Bug → Bool
same_bugs a b = (bytes_eq a.title b.title && bytes_eq a.submitter b.submitter)
    && (same_shared a.shared b.shared && bytes_eq a.merged b.merged)

abbrev pub same_at : Option Bug → Option Bug → Bool
same_at None None = true
same_at None (Some b) = false
same_at (Some a) None = false
same_at (Some a) (Some b) = same_bugs a b

-- The ascending list of the numbers at which the record or the set differs; a number that only one
-- side has differs.
pub record AreChanged (old new : ℕ → Option Bug) (numbers : List ℕ) : Type 0 where
  pub ascending : IsAscending numbers
  pub listed : (n : ℕ) → has numbers n ≡ true → old n ≡ new n → ⊥
  pub others : (n : ℕ) → has numbers n ≡ false → old n ≡ new n

-- That list, of two sound desks of which the later one's next number is no lower: its numbers are
-- all below that.
abbrev pub changed_numbers : Desk → Desk → List ℕ
changed_numbers old new = filter (λ n. not (same_at (old.bug n) (new.bug n))) (numbers_below new.next)

-- The new images stand in the place of the old ones, which are sets of the desk: they have every
-- bug of the old ones, and no other bug of the desk, and leave a sound desk.
pub record Replaces (d : Desk) (old new : List SetImage) (next : ℕ) : Type 0 where
  pub sound : IsSound d
  pub sets : AreSetsOf d old
  pub covers : CoverImages old new
  pub brings : BringNone d old new
  pub later : d.next ≤ next
  pub sound_after : IsSound (put d (record { images = new; next = next }))
