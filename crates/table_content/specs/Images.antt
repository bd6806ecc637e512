-- What the rows of an image are made of: first all that stands under its bugs' numbers goes, and
-- then its own rows come.
-- This project's own rule.
use Rattle.std.specs.Prelude.{ℕ, ◌≡◌, ◌≢◌, ◌≤◌, ◌==◌, ◌&&◌, Bool, true, false, not, List, [], filter, Some, None, if◌then◌else◌}
use Rattle.std.specs.Cmp.Lexicographic.{pointwise}
use Rattle.version_nodes.specs.Nodes.{Node, same_node}
use Rattle.base_words.specs.declared.named.TheConstants.{LARGEST_NUMBER}
use Rattle.bug_record.specs.Sets.{has, IsAscending}
use Rattle.bug_record.specs.Marks.{IsNodeSet}
use Rattle.bug_record.specs.PackageSets.{IsNameSet}
use Rattle.bug_record.specs.Tags.{IsTagSet}
use Rattle.bug_record.specs.Images.{numbers_of}
use Rattle.bug_record.specs.declared.bug.SetImage.{SetImage}
use Rattle.store_keys.specs.Keys.{key_of}
use Rattle.version_marks.specs.Nearest.{nearest_of}
use Rattle.table_content.specs.Content.{Content}
use Rattle.table_content.specs.Edits.{put_at}
use Rattle.table_content.specs.View.{fields_of}

-- whether the bug is one of the image's
abbrev pub is_member : SetImage → ℕ → Bool
is_member i n = has (numbers_of i.members) n

-- whether these are the image's marks
abbrev pub same_marks : SetImage → List Node → List Node → Bool
same_marks i found fixed = pointwise same_node found i.shared.found && pointwise same_node fixed i.shared.fixed

-- whether the marks of the set of k go: k is a bug of the image, and is not its key with the same
-- marks
abbrev pub loses_marks : Bool → SetImage → ℕ → Bool
loses_marks same i k = is_member i k && not (same && (key_of i == k))

-- the content without the bugs of the image, and without what stands under their numbers; where it
-- is said that the marks of its key are the image's, those stay
abbrev pub without_image : Bool → SetImage → Content → Content
without_image same i c = record c {
  key = λ n. if is_member i n then None else c.key n;
  members = λ k. filter (λ m. not (is_member i m.number)) (c.members k);
  fields = λ k. if is_member i k then None else c.fields k;
  found = λ k. if loses_marks same i k then [] else c.found k;
  fixed = λ k. if loses_marks same i k then [] else c.fixed k;
  blockers = λ k. if is_member i k then [] else c.blockers k;
  affects = λ k. if is_member i k then [] else c.affects k;
  near = λ k. if loses_marks same i k then (λ v. None) else c.near k;
}

-- the content with the image's set, under the number of its first bug
abbrev pub with_image : SetImage → Content → Content
with_image i c = record c {
  key = λ n. if is_member i n then Some (key_of i) else c.key n;
  members = put_at (key_of i) i.members c.members;
  fields = put_at (key_of i) (Some (fields_of i.shared)) c.fields;
  found = put_at (key_of i) i.shared.found c.found;
  fixed = put_at (key_of i) i.shared.fixed c.fixed;
  blockers = put_at (key_of i) i.shared.blockers c.blockers;
  affects = put_at (key_of i) i.shared.affects c.affects;
  near = put_at (key_of i) (nearest_of c.nodes i.shared.found i.shared.fixed) c.near;
}

-- an image as every set of a sound desk has one
pub record IsGoodImage (i : SetImage) : Type 0 where
  pub some : i.members ≢ []
  pub numbers : (n : ℕ) → is_member i n ≡ true → n ≤ LARGEST_NUMBER
  pub blocker_numbers : (n : ℕ) → has i.shared.blockers n ≡ true → n ≤ LARGEST_NUMBER
  pub members : IsAscending (numbers_of i.members)
  pub blockers : IsAscending i.shared.blockers
  pub tags : IsTagSet i.shared.tags
  pub affects : IsNameSet i.shared.affects
  pub found : IsNodeSet i.shared.found
  pub fixed : IsNodeSet i.shared.fixed

-- the marks of the image stand under its key already, with the nearest ones
pub record HasMarks (i : SetImage) (c : Content) : Type 0 where
  pub found : c.found (key_of i) ≡ i.shared.found
  pub fixed : c.fixed (key_of i) ≡ i.shared.fixed
  pub near : (v : Node) → c.near (key_of i) v ≡ nearest_of c.nodes i.shared.found i.shared.fixed v

-- no marks stand under its key
pub record HasNoMarks (i : SetImage) (c : Content) : Type 0 where
  pub found : c.found (key_of i) ≡ []
  pub fixed : c.fixed (key_of i) ≡ []
  pub near : (v : Node) → c.near (key_of i) v ≡ None

abbrev pub MarksStand : Bool → SetImage → Content → Type 0
MarksStand true i c = HasMarks i c
MarksStand false i c = HasNoMarks i c

-- nothing stands under the image's key and its bugs, but for the marks where they are the same
pub record IsCleared (same : Bool) (i : SetImage) (c : Content) : Type 0 where
  pub keys : (n : ℕ) → is_member i n ≡ true → c.key n ≡ None
  pub members : c.members (key_of i) ≡ []
  pub fields : c.fields (key_of i) ≡ None
  pub blockers : c.blockers (key_of i) ≡ []
  pub affects : c.affects (key_of i) ≡ []
  pub marks : MarksStand same i c
