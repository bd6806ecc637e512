-- What merged bugs have, by what each of them has.
use Rattle.std.proofs.Common.{◌≡◌, ℕ, ◌||◌, ◌&&◌, not, List, [], ◌∷◌, refl, ap, ◌∙◌}
use Rattle.std.specs.List.{list_any}
use Rattle.version_nodes.specs.Nodes.{Node}
use Rattle.base_sequences.specs.Sets.{has, IsAscending, number_set}
use Rattle.bug_record.specs.Marks.{node_set}
use Rattle.bug_record.specs.PackageSets.{has_name, name_set}
use Rattle.version_nodes.specs.Trees.{has_node}
use Rattle.bug_record.specs.Bugs.{all_of}
use Rattle.bug_record.specs.Merges.{all_merged, joined_blockers}
use Rattle.bug_record.specs.declared.bug.Bug.{Bug}
use Rattle.base_sequences.proofs.SetLemmas.{has-append, has-filter, has-number_set, IsAscending-filter, IsAscending-number_set}
use Rattle.bug_record.proofs.MarkLemmas.{has_node-append, has-node_set}
use Rattle.bug_record.proofs.PackageLemmas.{has_name-append, has-name_set}

-- what is in what bugs have together
pub has-all_of : (f : Bug → List ℕ) (bugs : List Bug) (m : ℕ) → has (all_of f bugs) m ≡ list_any (λ b. has (f b) m) bugs
has-all_of f [] m = refl
has-all_of f (b ∷ bugs) m = has-append (f b) (all_of f bugs) m ∙ ap (λ t. has (f b) m || t) (has-all_of f bugs m)

pub has_node-all_of : (f : Bug → List Node) (bugs : List Bug) (n : Node)
    → has_node (all_of f bugs) n ≡ list_any (λ b. has_node (f b) n) bugs
has_node-all_of f [] n = refl
has_node-all_of f (b ∷ bugs) n =
    has_node-append (f b) (all_of f bugs) n ∙ ap (λ t. has_node (f b) n || t) (has_node-all_of f bugs n)

-- the bugs of a joined set, and its marks
pub has-all_merged : (bugs : List Bug) (m : ℕ) → has (all_merged bugs) m ≡ list_any (λ b. has b.merged m) bugs
has-all_merged bugs m = has-number_set (all_of (λ b. b.merged) bugs) m ∙ has-all_of (λ b. b.merged) bugs m

pub has-joined_nodes : (f : Bug → List Node) (bugs : List Bug) (n : Node)
    → has_node (node_set (all_of f bugs)) n ≡ list_any (λ b. has_node (f b) n) bugs
has-joined_nodes f bugs n = has-node_set (all_of f bugs) n ∙ has_node-all_of f bugs n

-- the packages that it affects
has_name-all_of : (bugs : List Bug) (n : List ℕ)
    → has_name (all_of (λ b. b.shared.affects) bugs) n ≡ list_any (λ b. has_name b.shared.affects n) bugs
has_name-all_of [] n = refl
has_name-all_of (b ∷ bugs) n =
    has_name-append b.shared.affects (all_of (λ b. b.shared.affects) bugs) n
    ∙ ap (λ t. has_name b.shared.affects n || t) (has_name-all_of bugs n)

pub has-joined_names : (bugs : List Bug) (n : List ℕ)
    → has_name (name_set (all_of (λ b. b.shared.affects) bugs)) n ≡ list_any (λ b. has_name b.shared.affects n) bugs
has-joined_names bugs n = has-name_set (all_of (λ b. b.shared.affects) bugs) n ∙ has_name-all_of bugs n

-- its blockers: those that some bug has, and that are not merged with one of them
pub has-joined_blockers : (bugs : List Bug) (n : ℕ)
    → has (joined_blockers bugs) n ≡ (list_any (λ b. has b.shared.blockers n) bugs && not (list_any (λ b. has b.merged n) bugs))
has-joined_blockers bugs n =
    has-filter (λ n. not (has (all_merged bugs) n)) (number_set (all_of (λ b. b.shared.blockers) bugs)) n
    ∙ (λ j. (has-number_set (all_of (λ b. b.shared.blockers) bugs) n ∙ has-all_of (λ b. b.shared.blockers) bugs n) j
    && not (has-all_merged bugs n j))

pub ascending-joined_blockers : (bugs : List Bug) → IsAscending (joined_blockers bugs)
ascending-joined_blockers bugs = IsAscending-filter (λ n. not (has (all_merged bugs) n))
    (number_set (all_of (λ b. b.shared.blockers) bugs)) (IsAscending-number_set (all_of (λ b. b.shared.blockers) bugs))
