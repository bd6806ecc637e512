-- Such rows give texts to keys.
-- Nothing here speaks of a statement.
use Rattle.table_schema.proofs.Imports.{◌≡◌, ℕ, ◌||◌, ◌==◌, List, [], ◌∷◌, ◌++◌, refl, sym, ap, ◌∙◌, nat_list_cmp_total, nat_list_eq_equiv, texts_ties, bytes_eq, eqb-true, name_cmp, has_name, with_name, in-each, sorted-each, names-none, same-sorted_names, TextRow}
use Rattle.std.specs.BTreeSet.{insert_key}
use Rattle.std.specs.declared.cmp.Ordering.{Ordering}
use Rattle.bug_record.specs.Ordered.{with_each}
use Rattle.table_schema.proofs.OwnerLists.{OwnerRows}

pub with_last : {T : Type 0} (cmp : T → T → Ordering) (ys xs : List T) (x : T) → with_each cmp ys (xs ++ x ∷ []) ≡ insert_key cmp (with_each cmp ys xs) x
with_last cmp ys [] x = refl
with_last cmp ys (y ∷ xs) x = with_last cmp (insert_key cmp ys y) xs x

-- names that are put in one by one are those of the list
pub has_names : (ns : List (List ℕ)) (n : List ℕ) → has_name (with_each name_cmp [] ns) n ≡ has_name ns n
has_names ns n = in-each nat_list_cmp_total nat_list_eq_equiv texts_ties ns [] n

pub first_name : (i : List ℕ) (is : List (List ℕ)) (j : List ℕ) → has_name (i ∷ is) j ≡ (bytes_eq i j || has_name is j)
first_name i is j = ap (λ b. b || has_name is j) (nat_list_eq_equiv.symm j i)

abbrev pub text_rows : OwnerRows TextRow ℕ (List ℕ)
text_rows = record {
  owner = λ x. x.key;
  item = λ x. x.text;
  one_owner = λ a b. a == b;
  owner_is = eqb-true;
  one_item = bytes_eq;
  all = with_each name_cmp [];
  add = with_name;
  has = has_name;
  none = refl;
  empty = λ i. refl;
  last = with_last name_cmp [];
  first = first_name;
  there = has_names;
}

-- the same names are put in, in whatever order
pub same_names : (ns ms : List (List ℕ)) → ((n : List ℕ) → has_name ns n ≡ has_name ms n) → with_each name_cmp [] ns ≡ with_each name_cmp [] ms
same_names ns ms same = same-sorted_names (with_each name_cmp [] ns) (with_each name_cmp [] ms)
    (sorted-each nat_list_cmp_total ns [] names-none.ascending) (sorted-each nat_list_cmp_total ms [] names-none.ascending)
    (λ n. has_names ns n ∙ same n ∙ sym (has_names ms n))
