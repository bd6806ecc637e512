-- The fields of merged bugs, joined one image after another.
use Rattle.std.proofs.Common.{◌≡◌, ℕ, Bool, true, false, ◌||◌, List, [], ◌∷◌, Some, sym, refl, ap, ◌∙◌}
use Rattle.std.specs.Prelude.{not, filter}
use Rattle.std.specs.Cmp.Lexicographic.{nat_list_cmp_total, nat_list_eq_equiv, texts_ties}
use Rattle.std.specs.List.{list_any}
use Rattle.std.specs.List.Sorted.{IsStrictlySortedBy}
use Rattle.std.proofs.lemmas.Bool.{eqb-true, eq-eqb}
use Rattle.version_nodes.specs.Nodes.{Node, node_cmp}
use Rattle.version_nodes.specs.NodeLaws.{same_node_equiv, node_cmp_total, node_ties}
use Rattle.bug_record.specs.Sets.{has, IsAscending, number_set}
use Rattle.bug_record.specs.Tags.{tag_place, same_tag, has_tag, with_tag, IsTagSet}
use Rattle.bug_record.specs.Marks.{node_set}
use Rattle.bug_record.specs.PackageSets.{name_cmp, has_name, name_set}
use Rattle.version_nodes.specs.Trees.{has_node}
use Rattle.bug_record.specs.Bugs.{bugs_at, all_of}
use Rattle.bug_record.specs.Merges.{first_owner, all_merged, joined_tags, joined_shared}
use Rattle.bug_record.specs.Images.{numbers_of, bug_of, bug_in, AreApart}
use Rattle.bug_record.specs.declared.bug.Bug.{Bug}
use Rattle.bug_record.specs.declared.bug.Shared.{Shared}
use Rattle.bug_record.specs.declared.bug.Member.{Member}
use Rattle.bug_record.specs.declared.bug.SetImage.{SetImage}
use Rattle.bug_record.specs.declared.tag.Tag.{Tag}
use Rattle.bug_record.proofs.TagLemmas.{has-with_tag, set-with_tag, has-joined_tags, set-joined_tags, same-tag_sets}
use Rattle.base_sequences.proofs.OrderedSetLemmas.{in-each, sorted-each}
use Rattle.bug_record.proofs.MarkLemmas.{sorted-node_set, same-sorted_nodes}
use Rattle.bug_record.proofs.PackageLemmas.{sorted-name_set, same-sorted_names}
use Rattle.bug_record.proofs.MergeLemmas.{has-all_of, has-joined_nodes, has-joined_names}
use Rattle.base_sequences.proofs.NumberLemmas.{has-with_items, IsAscending-with_items}
use Rattle.base_sequences.proofs.SetLemmas.{has-number_set, IsAscending-number_set, same-ascending}
use Rattle.bug_core.specs.Others.{those_meant}
use Rattle.bug_record.specs.Sets.{with_items}
use Rattle.bug_fields.specs.Gathered.{with_nodes}
use Rattle.bug_core.specs.Joins.{with_names, without_gathered, without_own, with_shared, with_all_shared}
use Rattle.base_sequences.proofs.SetLemmas.{same_test}
use Rattle.bug_core.proofs.ListedLemmas.{listed-from, meant-listed}

or_group : (a b c : Bool) → ((a || b) || c) ≡ (a || (b || c))
or_group true b c = refl
or_group false b c = refl

or_nothing : (a : Bool) → a ≡ (a || false)
or_nothing true = refl
or_nothing false = refl

-- what the one test says the other does too
absorbed : (a b : Bool) → (a ≡ true → b ≡ true) → (a || b) ≡ b
absorbed true b h = sym (h refl)
absorbed false b h = refl

same_tag-turned : (t u : Tag) → same_tag t u ≡ same_tag u t
same_tag-turned t u = same_test (same_tag t u) (same_tag u t)
    (λ e. eq-eqb (tag_place u) (tag_place t) (sym (eqb-true (tag_place t) (tag_place u) e)))
    (λ e. eq-eqb (tag_place t) (tag_place u) (sym (eqb-true (tag_place u) (tag_place t) e)))

-- tags with those of a list
has-with_tags : (ts set : List Tag) (t : Tag) → has_tag (with_items tag_place set ts) t ≡ (has_tag set t || has_tag ts t)
has-with_tags [] set t = or_nothing (has_tag set t)
has-with_tags (u ∷ ts) set t =
    has-with_tags ts (with_tag set u) t
    ∙ ap (λ b. b || has_tag ts t) (has-with_tag set u t ∙ ap (λ b. has_tag set t || b) (same_tag-turned u t))
    ∙ or_group (has_tag set t) (same_tag t u) (has_tag ts t)

set-with_tags : (ts set : List Tag) → IsTagSet set → IsTagSet (with_items tag_place set ts)
set-with_tags [] set h = h
set-with_tags (u ∷ ts) set h = set-with_tags ts (with_tag set u) (set-with_tag set u h)

-- nodes with those of a list, and names
has-with_nodes : (ns set : List Node) (m : Node) → has_node (with_nodes set ns) m ≡ (has_node set m || has_node ns m)
has-with_nodes ns set m = in-each node_cmp_total same_node_equiv node_ties ns set m

sorted-with_nodes : (ns set : List Node) → IsStrictlySortedBy node_cmp set → IsStrictlySortedBy node_cmp (with_nodes set ns)
sorted-with_nodes ns set h = sorted-each node_cmp_total ns set h

has-with_names : (ns set : List (List ℕ)) (m : List ℕ) → has_name (with_names set ns) m ≡ (has_name set m || has_name ns m)
has-with_names ns set m = in-each nat_list_cmp_total nat_list_eq_equiv texts_ties ns set m

sorted-with_names : (ns set : List (List ℕ)) → IsStrictlySortedBy name_cmp set → IsStrictlySortedBy name_cmp (with_names set ns)
sorted-with_names ns set h = sorted-each nat_list_cmp_total ns set h

-- the fields with those of images
kept : (js : List SetImage) (f : Shared)
    → with_all_shared f js
    ≡ record f {
      tags = (with_all_shared f js).tags;
      affects = (with_all_shared f js).affects;
      found = (with_all_shared f js).found;
      fixed = (with_all_shared f js).fixed;
      blockers = (with_all_shared f js).blockers;
    }
kept [] f = refl
kept (j ∷ js) f = kept js (with_shared f j.shared)

has-all_tags : (js : List SetImage) (f : Shared) (t : Tag)
    → has_tag (with_all_shared f js).tags t ≡ (has_tag f.tags t || list_any (λ j. has_tag j.shared.tags t) js)
has-all_tags [] f t = or_nothing (has_tag f.tags t)
has-all_tags (j ∷ js) f t =
    has-all_tags js (with_shared f j.shared) t
    ∙ ap (λ b. b || list_any (λ j. has_tag j.shared.tags t) js) (has-with_tags j.shared.tags f.tags t)
    ∙ or_group (has_tag f.tags t) (has_tag j.shared.tags t) (list_any (λ j. has_tag j.shared.tags t) js)

set-all_tags : (js : List SetImage) (f : Shared) → IsTagSet f.tags → IsTagSet (with_all_shared f js).tags
set-all_tags [] f h = h
set-all_tags (j ∷ js) f h = set-all_tags js (with_shared f j.shared) (set-with_tags j.shared.tags f.tags h)

has-all_affects : (js : List SetImage) (f : Shared) (m : List ℕ)
    → has_name (with_all_shared f js).affects m ≡ (has_name f.affects m || list_any (λ j. has_name j.shared.affects m) js)
has-all_affects [] f m = or_nothing (has_name f.affects m)
has-all_affects (j ∷ js) f m =
    has-all_affects js (with_shared f j.shared) m
    ∙ ap (λ b. b || list_any (λ j. has_name j.shared.affects m) js) (has-with_names j.shared.affects f.affects m)
    ∙ or_group (has_name f.affects m) (has_name j.shared.affects m) (list_any (λ j. has_name j.shared.affects m) js)

sorted-all_affects : (js : List SetImage) (f : Shared) → IsStrictlySortedBy name_cmp f.affects
    → IsStrictlySortedBy name_cmp (with_all_shared f js).affects
sorted-all_affects [] f h = h
sorted-all_affects (j ∷ js) f h =
    sorted-all_affects js (with_shared f j.shared) (sorted-with_names j.shared.affects f.affects h)

has-all_found : (js : List SetImage) (f : Shared) (m : Node)
    → has_node (with_all_shared f js).found m ≡ (has_node f.found m || list_any (λ j. has_node j.shared.found m) js)
has-all_found [] f m = or_nothing (has_node f.found m)
has-all_found (j ∷ js) f m =
    has-all_found js (with_shared f j.shared) m
    ∙ ap (λ b. b || list_any (λ j. has_node j.shared.found m) js) (has-with_nodes j.shared.found f.found m)
    ∙ or_group (has_node f.found m) (has_node j.shared.found m) (list_any (λ j. has_node j.shared.found m) js)

has-all_fixed : (js : List SetImage) (f : Shared) (m : Node)
    → has_node (with_all_shared f js).fixed m ≡ (has_node f.fixed m || list_any (λ j. has_node j.shared.fixed m) js)
has-all_fixed [] f m = or_nothing (has_node f.fixed m)
has-all_fixed (j ∷ js) f m =
    has-all_fixed js (with_shared f j.shared) m
    ∙ ap (λ b. b || list_any (λ j. has_node j.shared.fixed m) js) (has-with_nodes j.shared.fixed f.fixed m)
    ∙ or_group (has_node f.fixed m) (has_node j.shared.fixed m) (list_any (λ j. has_node j.shared.fixed m) js)

sorted-all_found : (js : List SetImage) (f : Shared) → IsStrictlySortedBy node_cmp f.found
    → IsStrictlySortedBy node_cmp (with_all_shared f js).found
sorted-all_found [] f h = h
sorted-all_found (j ∷ js) f h = sorted-all_found js (with_shared f j.shared) (sorted-with_nodes j.shared.found f.found h)

sorted-all_fixed : (js : List SetImage) (f : Shared) → IsStrictlySortedBy node_cmp f.fixed
    → IsStrictlySortedBy node_cmp (with_all_shared f js).fixed
sorted-all_fixed [] f h = h
sorted-all_fixed (j ∷ js) f h = sorted-all_fixed js (with_shared f j.shared) (sorted-with_nodes j.shared.fixed f.fixed h)

has-all_blockers : (js : List SetImage) (f : Shared) (m : ℕ)
    → has (with_all_shared f js).blockers m ≡ (has f.blockers m || list_any (λ j. has j.shared.blockers m) js)
has-all_blockers [] f m = or_nothing (has f.blockers m)
has-all_blockers (j ∷ js) f m =
    has-all_blockers js (with_shared f j.shared) m
    ∙ ap (λ b. b || list_any (λ j. has j.shared.blockers m) js) (has-with_items j.shared.blockers f.blockers m)
    ∙ or_group (has f.blockers m) (has j.shared.blockers m) (list_any (λ j. has j.shared.blockers m) js)

ascending-all_blockers : (js : List SetImage) (f : Shared) → IsAscending f.blockers → IsAscending (with_all_shared f js).blockers
ascending-all_blockers [] f h = h
ascending-all_blockers (j ∷ js) f h =
    ascending-all_blockers js (with_shared f j.shared) (IsAscending-with_items j.shared.blockers f.blockers h)

sorted-none : IsStrictlySortedBy node_cmp []
unfolding IsStrictlySortedBy
sorted-none = tt

sorted-no_name : IsStrictlySortedBy name_cmp []
unfolding IsStrictlySortedBy
sorted-no_name = tt

-- they are the joined fields of the listed bugs, among which is one of the first image; the members
-- have the numbers that are merged with some of them
pub joined-fields : (is : List SetImage) (ns : List ℕ) (n : ℕ) (i : SetImage) (x : Member) → AreApart is → has ns n ≡ true
    → bug_in is n ≡ Some (bug_of i x)
    → IsTagSet i.shared.tags → (ms : List Member) → numbers_of ms ≡ all_merged (bugs_at (bug_in is) ns)
    → without_own ms (record (with_all_shared (without_gathered i.shared) (those_meant ns is)) { owner = first_owner (bugs_at (bug_in is) ns) })
    ≡ joined_shared i.shared (bugs_at (bug_in is) ns)
joined-fields is ns n i x a h e tags ms numbers =
    (λ j. without_own ms (record (kept js f j) { owner = first_owner bugs }))
    ∙ (λ j. record i.shared {
      owner = first_owner bugs;
      tags = same_tags j;
      affects = same_affects j;
      found = same_found j;
      fixed = same_fixed j;
      blockers = filter (λ m. not (has (numbers j) m)) (same_blockers j);
    })
  where
    f : Shared
    f = without_gathered i.shared

    js : List SetImage
    js = those_meant ns is

    bugs : List Bug
    bugs = bugs_at (bug_in is) ns

    -- a test of tags that one of the images that are meant passes, the first one's among them
    some : (P : Shared → Bool) → (P i.shared || list_any (λ j. P j.shared) js) ≡ list_any (λ b. P b.shared) bugs
    some P =
        ap (λ b. P i.shared || b) (meant-listed P is ns a)
        ∙ absorbed (P i.shared) (list_any (λ b. P b.shared) bugs)
        (λ p. listed-from (λ b. P b.shared) (bug_in is) ns n (bug_of i x) h e p)

    same_tags : (with_all_shared f js).tags ≡ joined_tags bugs
    same_tags = same-tag_sets (with_all_shared f js).tags (joined_tags bugs) (set-all_tags js f tags) (set-joined_tags bugs)
        (λ t. has-all_tags js f t ∙ some (λ s. has_tag s.tags t) ∙ sym (has-joined_tags bugs t))

    same_affects : (with_all_shared f js).affects ≡ name_set (all_of (λ b. b.shared.affects) bugs)
    same_affects = same-sorted_names (with_all_shared f js).affects (name_set (all_of (λ b. b.shared.affects) bugs))
        (sorted-all_affects js f sorted-no_name) (sorted-name_set (all_of (λ b. b.shared.affects) bugs))
        (λ m. has-all_affects js f m ∙ meant-listed (λ s. has_name s.affects m) is ns a
        ∙ sym (has-joined_names bugs m))

    same_found : (with_all_shared f js).found ≡ node_set (all_of (λ b. b.shared.found) bugs)
    same_found = same-sorted_nodes (with_all_shared f js).found (node_set (all_of (λ b. b.shared.found) bugs))
        (sorted-all_found js f sorted-none) (sorted-node_set (all_of (λ b. b.shared.found) bugs))
        (λ m. has-all_found js f m ∙ meant-listed (λ s. has_node s.found m) is ns a
        ∙ sym (has-joined_nodes (λ b. b.shared.found) bugs m))

    same_fixed : (with_all_shared f js).fixed ≡ node_set (all_of (λ b. b.shared.fixed) bugs)
    same_fixed = same-sorted_nodes (with_all_shared f js).fixed (node_set (all_of (λ b. b.shared.fixed) bugs))
        (sorted-all_fixed js f sorted-none) (sorted-node_set (all_of (λ b. b.shared.fixed) bugs))
        (λ m. has-all_fixed js f m ∙ meant-listed (λ s. has_node s.fixed m) is ns a
        ∙ sym (has-joined_nodes (λ b. b.shared.fixed) bugs m))

    same_blockers : (with_all_shared f js).blockers ≡ number_set (all_of (λ b. b.shared.blockers) bugs)
    same_blockers = same-ascending (with_all_shared f js).blockers (number_set (all_of (λ b. b.shared.blockers) bugs))
        (ascending-all_blockers js f tt) (IsAscending-number_set (all_of (λ b. b.shared.blockers) bugs))
        (λ m. has-all_blockers js f m ∙ meant-listed (λ s. has s.blockers m) is ns a
        ∙ sym (has-number_set (all_of (λ b. b.shared.blockers) bugs) m ∙ has-all_of (λ b. b.shared.blockers) bugs m))
