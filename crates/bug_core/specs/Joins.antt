-- What joined sets have, one image after another.
use Rattle.std.specs.Prelude.{ℕ, ◌≡◌, Bool, not, ◌==◌, List, [], ◌∷◌, filter, if◌then◌else◌}
use Rattle.std.specs.Map.{values_of}
use Rattle.bug_record.specs.Sets.{has, Each, IsAscending, with_items}
use Rattle.bug_record.specs.Tags.{tag_place}
use Rattle.bug_record.specs.Ordered.{with_each}
use Rattle.bug_fields.specs.Gathered.{with_nodes}
use Rattle.bug_record.specs.PackageSets.{name_cmp}
use Rattle.bug_record.specs.Bugs.{bugs_at}
use Rattle.bug_record.specs.Images.{numbers_of, bug_in}
use Rattle.bug_record.specs.Merges.{first_owner}
use Rattle.bug_core.specs.Others.{those_meant}
use Rattle.bug_record.specs.declared.bug.Member.{Member}
use Rattle.bug_record.specs.declared.bug.SetImage.{SetImage}
use Rattle.bug_record.specs.declared.bug.Shared.{Shared}

-- a set with all names of a list
abbrev pub with_names : List (List ℕ) → List (List ℕ) → List (List ℕ)
with_names set names = with_each name_cmp set names

abbrev pub number_of : Member → ℕ
number_of m = m.number

-- a member with its number
abbrev pub IsEntry : ℕ × Member → Type 0
IsEntry e = e.0 ≡ e.1.number

-- each member's key is its number, and the numbers ascend
pub record AreByNumber (entries : List (ℕ × Member)) : Type 0 where
  pub keys : Each IsEntry entries
  pub ascending : IsAscending (numbers_of (values_of entries))

-- the members with those of these images
abbrev pub with_members : List Member → List SetImage → List Member
with_members ms [] = ms
with_members ms (i ∷ is) = with_members (with_items number_of ms i.members) is

-- the fields without affected packages, marks and blockers
abbrev pub without_gathered : Shared → Shared
without_gathered f = record f { affects = []; found = []; fixed = []; blockers = [] }

-- the fields with the tags, affected packages, marks and blockers of another set
abbrev pub with_shared : Shared → Shared → Shared
with_shared f g = record f {
  tags = with_items tag_place f.tags g.tags;
  affects = with_names f.affects g.affects;
  found = with_nodes f.found g.found;
  fixed = with_nodes f.fixed g.fixed;
  blockers = with_items (λ n. n) f.blockers g.blockers;
}

-- the fields with those of these images
abbrev pub with_all_shared : Shared → List SetImage → Shared
with_all_shared f [] = f
with_all_shared f (i ∷ is) = with_all_shared (with_shared f i.shared) is

-- the fields with those of the images of these bugs, the blockers inside the new set not yet taken
-- out, and the owner of the first bug that has one
abbrev pub gathered_shared : Shared → List SetImage → List ℕ → Shared
gathered_shared f images numbers =
    record (with_all_shared (without_gathered f) (those_meant numbers images)) { owner = first_owner (bugs_at (bug_in images) numbers) }

-- the fields without the blockers that are among these members
abbrev pub without_own : List Member → Shared → Shared
without_own ms f = record f { blockers = filter (λ n. not (has (numbers_of ms) n)) f.blockers }

-- the image of the set that the sets of these bugs become, where the first of them has the fields f
abbrev pub joined_image : Shared → List SetImage → List ℕ → SetImage
joined_image f images numbers = record {
  shared = without_own (with_members [] (those_meant numbers images)) (gathered_shared f images numbers);
  members = with_members [] (those_meant numbers images);
}

-- whether the member has the number n, or, of the rest, whether it has not
abbrev pub is_part : Bool → ℕ → Member → Bool
is_part own n m = if own then m.number == n else not (m.number == n)
