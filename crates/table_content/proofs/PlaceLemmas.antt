-- Items that are put into a list one after another.
use Rattle.std.proofs.Common.{◌≡◌, ◌<◌, ℕ, true, false, cond, List, [], ◌∷◌, ◌++◌, map, sym, refl, ap, ◌∙◌, subst, arith}
use Rattle.std.proofs.Common.{append_assoc, append-nil}
use Rattle.std.specs.Prelude.{fold, nat_lt, ◌==◌}
use Rattle.std.proofs.lemmas.Bool.{eqb-true, eq-eqb}
use Rattle.std.proofs.lemmas.Bool.Decides.{nat_tests}
use Rattle.std.specs.BTreeSet.{insert_key}
use Rattle.std.specs.Cmp.Lexicographic.{nat_list_cmp_total, nat_list_eq_equiv, texts_ties}
use Rattle.std.specs.declared.cmp.Ordering.{Ordering}
use Rattle.version_nodes.specs.Nodes.{Node, node_cmp}
use Rattle.version_nodes.specs.NodeLaws.{same_node_equiv, node_cmp_total, node_ties}
use Rattle.bug_record.specs.Sets.{AllAbove, IsAscending}
use Rattle.bug_record.specs.Marks.{IsNodeSet, with_node}
use Rattle.bug_record.specs.Ordered.{with_each}
use Rattle.bug_record.specs.PackageSets.{name_cmp, IsNameSet, with_name}
use Rattle.base_sequences.proofs.OrderedSetLemmas.{sorted-each, in-each}
use Rattle.bug_record.proofs.MarkLemmas.{set-none, same-sorted_nodes}
use Rattle.bug_record.proofs.PackageLemmas.{names-none, same-sorted_names}
use Rattle.table_content.specs.Edits.{put_at, placed}

-- ---- at one key

pub at_itself : {A : Type 0} (k : ℕ) (x : A) (f : ℕ → A) → put_at k x f k ≡ x
at_itself k x f = ap (λ t. cond t x (f k)) (eq-eqb k k refl)

-- what stands there already
pub at_same : {A : Type 0} (k : ℕ) (f : ℕ → A) (n : ℕ) → f n ≡ put_at k (f k) f n
at_same k f n = elim (k == n) as (λ t. (k == n) ≡ t → f n ≡ cond t (f k) (f n))
    [ true ↦ λ q. ap f (sym (eqb-true k n q)) | false ↦ λ q. refl ] refl

pub at_twice : {A : Type 0} (k : ℕ) (x y : A) (f : ℕ → A) (n : ℕ) → put_at k y (put_at k x f) n ≡ put_at k y f n
at_twice k x y f n = elim (k == n) as (λ t. cond t y (cond t x (f n)) ≡ cond t y (f n)) [ true ↦ refl | false ↦ refl ]

-- each item is put into the list at k
abbrev pub put_each : {T : Type 0} → (List T → T → List T) → ℕ → List T → (ℕ → List T) → ℕ → List T
put_each step k [] f = f
put_each step k (x ∷ xs) f = put_each step k xs (put_at k (step (f k) x) f)

pub put_each-is : {T : Type 0} (step : List T → T → List T) (k : ℕ) (xs : List T) (f : ℕ → List T) (n : ℕ)
    → put_each step k xs f n ≡ put_at k (fold step (f k) xs) f n
put_each-is step k [] f n = at_same k f n
put_each-is step k (x ∷ xs) f n =
    put_each-is step k xs (put_at k (step (f k) x) f) n
    ∙ ap (λ ys. put_at k (fold step ys xs) (put_at k (step (f k) x) f) n) (at_itself k (step (f k) x) f)
    ∙ at_twice k (step (f k) x) (fold step (step (f k) x) xs) f n

-- into an empty list, of which the items make this one
pub put_all : {T : Type 0} (step : List T → T → List T) (k : ℕ) (xs : List T) (f : ℕ → List T) → f k ≡ []
    → fold step [] xs ≡ xs → (n : ℕ) → put_each step k xs f n ≡ put_at k xs f n
put_all step k xs f none whole n =
    put_each-is step k xs f n ∙ ap (λ ys. put_at k (fold step ys xs) f n) none ∙ ap (λ ys. put_at k ys f n) whole

-- ---- items by number

module _ {T : Type 0} (number : T → ℕ) where
  abbrev Ascends : List T → Type 0
  Ascends xs = IsAscending (map number xs)

  -- a number above those of a list
  last : (xs ys : List T) (x : T) → Ascends (xs ++ x ∷ ys) → placed number xs x ≡ xs ++ x ∷ []
  last [] ys x h = refl
  last (y ∷ xs) ys x h =
      ap (λ t. cond t (x ∷ y ∷ xs) (y ∷ placed number xs x)) (below (number y) (number x) (above xs h.0))
      ∙ ap (λ zs. y ∷ zs) (last xs ys x h.1)
    where
      above : (zs : List T) → AllAbove (number y) (map number (zs ++ x ∷ ys)) → number y < number x
      above [] a = a.0
      above (z ∷ zs) a = above zs a.1

      below : (a b : ℕ) → a < b → nat_lt b a ≡ false
      below a b l = grind (arith, nat_tests)

  all_placed : (xs ys : List T) → Ascends (xs ++ ys) → fold (placed number) xs ys ≡ xs ++ ys
  all_placed xs [] h = sym (append-nil xs)
  all_placed xs (y ∷ ys) h =
      ap (λ zs. fold (placed number) zs ys) (last xs ys y h)
      ∙ all_placed (xs ++ y ∷ []) ys (subst Ascends (sym (append_assoc xs (y ∷ []) ys)) h)
      ∙ append_assoc xs (y ∷ []) ys

  pub placed_all : (ys : List T) → Ascends ys → fold (placed number) [] ys ≡ ys
  placed_all ys h = all_placed [] ys h

pub same_numbers : (ns : List ℕ) → map (λ n. n) ns ≡ ns
same_numbers [] = refl
same_numbers (n ∷ ns) = ap (λ ms. n ∷ ms) (same_numbers ns)

-- ---- items in an order, one after another

pub fold-each : {T : Type 0} (cmp : T → T → Ordering) (xs ys : List T) → fold (insert_key cmp) xs ys ≡ with_each cmp xs ys
fold-each cmp xs [] = refl
fold-each cmp xs (y ∷ ys) = fold-each cmp (insert_key cmp xs y) ys

-- ---- nodes and names

pub nodes_all : (nodes : List Node) → IsNodeSet nodes → fold with_node [] nodes ≡ nodes
nodes_all nodes set =
    fold-each node_cmp [] nodes
    ∙ same-sorted_nodes (with_each node_cmp [] nodes) nodes (sorted-each node_cmp_total nodes [] set-none.ascending) set.ascending
    (λ n. in-each node_cmp_total same_node_equiv node_ties nodes [] n)

pub names_all : (names : List (List ℕ)) → IsNameSet names → fold with_name [] names ≡ names
names_all names set =
    fold-each name_cmp [] names
    ∙ same-sorted_names (with_each name_cmp [] names) names (sorted-each nat_list_cmp_total names [] names-none.ascending) set.ascending
    (λ n. in-each nat_list_cmp_total nat_list_eq_equiv texts_ties names [] n)
