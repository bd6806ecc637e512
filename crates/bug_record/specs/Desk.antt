-- A desk: bugs that each have their own whole record.
use Rattle.std.specs.Prelude.{ℕ, ◌≡◌, ◌≢◌, ◌<◌, ◌≤◌, true, false, List, Option, Some, None}
use Rattle.debver.specs.Names.{IsName}
use Rattle.version_nodes.specs.Trees.{Ancestry, IsForest}
use Rattle.base_words.specs.declared.named.TheConstants.{AFTER_LARGEST}
use Rattle.base_sequences.specs.Sets.{has, IsAscending}
use Rattle.base_words.specs.Texts.{IsGoodText, IfGiven}
use Rattle.bug_record.specs.Tags.{IsTagSet}
use Rattle.bug_record.specs.Marks.{IsNodeSet}
use Rattle.bug_record.specs.PackageSets.{IsNameSet}
use Rattle.bug_record.specs.declared.bug.Bug.{Bug}
use Rattle.bug_record.specs.declared.bug.Shared.{Shared}

-- A desk: the bug of each number that has one, the ancestry of nodes, and the next number to give.
-- The bug holds its whole record, and the numbers of the bugs merged with it, itself among them.
pub record Desk : Type 0 where
  pub bug : ℕ → Option Bug
  pub tree : Ancestry
  pub next : ℕ

-- the bug is there, and is merged with the same bugs as b, and has b's shared fields
abbrev pub IsMergedWith : Bug → Option Bug → Type 0
IsMergedWith b None = ⊥
IsMergedWith b (Some c) = (c.merged ≡ b.merged) × (c.shared ≡ b.shared)

-- the limits of shared fields: tags are a set, affected packages are a set of names, and marks are
-- sets of nodes
pub record IsGoodShared (f : Shared) : Type 0 where
  pub package_name : IsName f.package
  pub forwarded : IfGiven IsGoodText f.forwarded
  pub owner : IfGiven IsGoodText f.owner
  pub tags : IsTagSet f.tags
  pub affects : IsNameSet f.affects
  pub found : IsNodeSet f.found
  pub fixed : IsNodeSet f.fixed

-- the limits of the texts, names, tags and marks of a record
pub record HasGoodTexts (b : Bug) : Type 0 where
  pub title : IsGoodText b.title
  pub submitter : IsGoodText b.submitter
  pub shared : IsGoodShared b.shared

-- A bug's blockers: bugs that are there, ascending, none of which is merged with it.
pub record AreGoodBlockers (d : Desk) (merged blockers : List ℕ) : Type 0 where
  pub ascending : IsAscending blockers
  pub there : (n : ℕ) → has blockers n ≡ true → d.bug n ≢ None
  pub outside : (n : ℕ) → has blockers n ≡ true → has merged n ≡ false

-- What a desk keeps.
-- This project's own rule.
pub record IsSound (d : Desk) : Type 0 where
  -- a bug is merged with itself, and the numbers ascend
  pub own : (n : ℕ) (b : Bug) → d.bug n ≡ Some b → has b.merged n ≡ true
  pub ascending : (n : ℕ) (b : Bug) → d.bug n ≡ Some b → IsAscending b.merged
  -- merged bugs are merged with the same ones and agree on the shared fields
  pub agree : (n m : ℕ) (b : Bug) → d.bug n ≡ Some b → has b.merged m ≡ true → IsMergedWith b (d.bug m)
  -- every text, package name and node is within its limits, and every text is UTF-8
  pub texts : (n : ℕ) (b : Bug) → d.bug n ≡ Some b → HasGoodTexts b
  -- blockers are as said above
  pub blockers : (n : ℕ) (b : Bug) → d.bug n ≡ Some b → AreGoodBlockers d b.merged b.shared.blockers
  -- numbers are from 1 to below the next one, which is from 1 to 1,000,000,000
  pub in_range : (n : ℕ) (b : Bug) → d.bug n ≡ Some b → (0 < n) × (n < d.next)
  -- every node has a line to its root, of known nodes
  pub forest : IsForest d.tree
  pub next_in_range : (0 < d.next) × (d.next ≤ AFTER_LARGEST)
