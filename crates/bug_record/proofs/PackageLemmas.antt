-- Sets of package names stay sets, what is in them, and that sets of the same names are one.
use Rattle.std.proofs.Common.{◌≡◌, ℕ, Bool, true, ◌||◌, List, [], ◌∷◌, ◌++◌, refl, sym}
use Rattle.std.specs.Prelude.{filter}
use Rattle.std.specs.Str.{bytes_eq}
use Rattle.std.specs.Cmp.Lexicographic.{bytes_decides, nat_list_eq_equiv, nat_list_cmp_total, texts_ties}
use Rattle.std.specs.List.{list_any}
use Rattle.std.specs.List.Sorted.{IsStrictlySortedBy}
use Rattle.std.proofs.lemmas.List.Kept.{IsStrictlySortedBy-filter}
use Rattle.debver.specs.Names.{IsName}
use Rattle.std.specs.BTreeMap.{is_at}
use Rattle.base_sequences.specs.Ordered.{with_each}
use Rattle.base_sequences.specs.Sets.{Each}
use Rattle.bug_record.specs.PackageSets.{name_cmp, has_name, IsNameSet, with_name, name_set}
use Rattle.base_sequences.proofs.OrderedSetLemmas.{sorted-insert, sorted-set, each-insert, each-set, each-filter}
use Rattle.base_sequences.proofs.OrderedSetLemmas.{in-insert, in-set, in-append, same-sorted, each-is_set, each-append}

pub same_name : (a b : List ℕ) → bytes_eq a b ≡ true → a ≡ b
same_name a b = (bytes_decides a b).0

pub sorted-with_name : (names : List (List ℕ)) (n : List ℕ) → IsStrictlySortedBy name_cmp names
    → IsStrictlySortedBy name_cmp (with_name names n)
sorted-with_name names n h = sorted-insert nat_list_cmp_total names n h

pub sorted-name_set : (names : List (List ℕ)) → IsStrictlySortedBy name_cmp (name_set names)
sorted-name_set names = sorted-set nat_list_cmp_total names

pub names-none : IsNameSet []
unfolding IsStrictlySortedBy
names-none = record { ascending = tt; valid = tt }

pub names-with : (names : List (List ℕ)) (n : List ℕ) → IsNameSet names → IsName n → IsNameSet (with_name names n)
names-with names n h v =
    record { ascending = sorted-with_name names n h.ascending; valid = each-insert nat_list_cmp_total IsName names n h.valid v }

pub names-filter : (test : List ℕ → Bool) (names : List (List ℕ)) → IsNameSet names → IsNameSet (filter test names)
names-filter test names h = record {
  ascending = IsStrictlySortedBy-filter name_cmp test names h.ascending;
  valid = each-filter IsName test names h.valid;
}

-- the set of a list of names
pub names-set : (names : List (List ℕ)) → Each IsName names → IsNameSet (name_set names)
names-set names h = record { ascending = sorted-name_set names; valid = each-set nat_list_cmp_total IsName names h }

-- what is in a set with one more
pub has-with_name : (names : List (List ℕ)) (n m : List ℕ) → has_name (with_name names n) m ≡ (has_name names m || bytes_eq m n)
has-with_name names n m = in-insert nat_list_cmp_total nat_list_eq_equiv texts_ties names n m

-- what is in the set of a list, and in a list of two parts
pub has-name_set : (names : List (List ℕ)) (m : List ℕ) → has_name (name_set names) m ≡ has_name names m
has-name_set names m = in-set nat_list_cmp_total nat_list_eq_equiv texts_ties names m

pub has_name-append : (xs ys : List (List ℕ)) (m : List ℕ) → has_name (xs ++ ys) m ≡ (has_name xs m || has_name ys m)
has_name-append xs ys m = in-append bytes_eq xs ys m

-- two strictly sorted lists of the same names are one
pub same-sorted_names : (xs ys : List (List ℕ)) → IsStrictlySortedBy name_cmp xs → IsStrictlySortedBy name_cmp ys
    → ((n : List ℕ) → has_name xs n ≡ has_name ys n) → xs ≡ ys
same-sorted_names xs ys a b h = same-sorted nat_list_cmp_total nat_list_eq_equiv texts_ties same_name xs ys a b h

-- the set of a list, and of two lists, whose names are added one by one
pub each-name_set : (names : List (List ℕ)) → with_each name_cmp [] names ≡ name_set names
each-name_set names = each-is_set nat_list_cmp_total nat_list_eq_equiv texts_ties same_name names

pub each-names_append : (ms ns : List (List ℕ)) → with_each name_cmp (name_set ms) ns ≡ name_set (ms ++ ns)
each-names_append ms ns = each-append nat_list_cmp_total nat_list_eq_equiv texts_ties same_name ms ns

-- names of an ordered set of std, by these sets
pub has-name_key : (names : List (List ℕ)) (n : List ℕ) → list_any (is_at (name_cmp n)) names ≡ has_name names n
has-name_key [] n = refl
has-name_key (m ∷ names) n = λ j. sym (texts_ties n m) j || has-name_key names n j
