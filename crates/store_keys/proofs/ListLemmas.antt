-- The rows of the bugs that are listed, one severity after another.
use Rattle.std.proofs.Common.{◌≡◌, ℕ, Bool, true, false, cond, ◌&&◌, List, [], ◌∷◌, ◌++◌, Option, Some, None, sym, refl, ap, ◌∙◌}
use Rattle.std.specs.Prelude.{filter, flat_map, ◌==◌}
use Rattle.version_nodes.specs.Nodes.{Node}
use Rattle.version_nodes.specs.Trees.{Ancestry, line}
use Rattle.version_nodes.specs.Statuses.{status}
use Rattle.bug_record.specs.Asked.{passes, numbers_where}
use Rattle.bug_record.specs.Sets.{numbers_below}
use Rattle.bug_record.specs.Desk.{Desk}
use Rattle.bug_record.specs.Lists.{is_listed, is_listed_as, listed}
use Rattle.bug_record.specs.Severities.{all_severities, rank}
use Rattle.bug_record.specs.declared.bug.Bug.{Bug}
use Rattle.bug_record.specs.declared.bug.Shared.{Shared}
use Rattle.bug_record.specs.declared.severity.Severity.{Severity}
use Rattle.bug_record.specs.Rows.{row_of, rows_of, with_row}
use Rattle.bug_record.specs.declared.row.ListRow.{ListRow}
use Rattle.store_keys.specs.Listing.{is_listed_on, is_row_of}

-- the test of the line is the test of the node
listed_on-line : (tree : Ancestry) (package_name : List ℕ) (v : Node) (f : Shared)
    → is_listed_on (line tree v) package_name f ≡ is_listed tree package_name v f
unfolding status
listed_on-line tree package_name v f = refl

abbrev is_of : Severity → Shared → Bool
is_of severity f = rank f.severity == rank severity

-- of those that pass one test, those that pass another one
filter-both : (p q r : ℕ → Bool) → ((n : ℕ) → r n ≡ (p n && q n)) → (ns : List ℕ) → filter q (filter p ns) ≡ filter r ns
filter-both p q r both [] = refl
filter-both p q r both (n ∷ ns) =
    (elim (p n) as (λ t. filter q (cond t (n ∷ filter p ns) (filter p ns)) ≡ cond (t && q n) (n ∷ filter r ns) (filter r ns)) [
      | true ↦ ap (λ (ks : List ℕ). cond (q n) (n ∷ ks) ks) (filter-both p q r both ns)
      | false ↦ filter-both p q r both ns
    ])
    ∙ sym (ap (λ t. cond t (n ∷ filter r ns) (filter r ns)) (both n))

module _ (bug : ℕ → Option Bug) where
  rows_of-append : (ns ms : List ℕ) → rows_of bug (ns ++ ms) ≡ rows_of bug ns ++ rows_of bug ms
  rows_of-append [] ms = refl
  rows_of-append (n ∷ ns) ms =
      elim (bug n) as (λ o. with_row n o (rows_of bug (ns ++ ms)) ≡ with_row n o (rows_of bug ns) ++ rows_of bug ms)
      [ None ↦ rows_of-append ns ms | Some b ↦ ap (λ (rows : List ListRow). row_of n b ∷ rows) (rows_of-append ns ms) ]

  -- the rows of a severity are those of its bugs
  rows_of-severity : (severity : Severity) (ns : List ℕ)
      → filter (is_row_of severity) (rows_of bug ns) ≡ rows_of bug (filter (λ n. passes (is_of severity) (bug n)) ns)
  rows_of-severity severity [] = refl
  rows_of-severity severity (n ∷ ns) = cases (rows_of-severity severity ns) (bug n) refl
    where
      few : List ℕ
      few = filter (λ n. passes (is_of severity) (bug n)) ns

      kept : List ListRow
      kept = filter (is_row_of severity) (rows_of bug ns)

      here : kept ≡ rows_of bug few → (b : Bug) → bug n ≡ Some b → (t : Bool)
          → cond t (row_of n b ∷ kept) kept ≡ rows_of bug (cond t (n ∷ few) few)
      here more b e true =
          ap (λ (rows : List ListRow). row_of n b ∷ rows) more
          ∙ sym (ap (λ (o : Option Bug). with_row n o (rows_of bug few)) e)
      here more b e false = more

      cases : kept ≡ rows_of bug few → (o : Option Bug) → bug n ≡ o
          → filter (is_row_of severity) (with_row n (bug n) (rows_of bug ns))
          ≡ rows_of bug (cond (passes (is_of severity) (bug n)) (n ∷ few) few)
      cases more None e =
          ap (λ (o : Option Bug). filter (is_row_of severity) (with_row n o (rows_of bug ns))) e ∙ more
          ∙ sym (ap (λ (o : Option Bug). rows_of bug (cond (passes (is_of severity) o) (n ∷ few) few)) e)
      cases more (Some b) e =
          ap (λ (o : Option Bug). filter (is_row_of severity) (with_row n o (rows_of bug ns))) e
          ∙ here more b e (rank b.shared.severity == rank severity)
          ∙ sym (ap (λ (o : Option Bug). rows_of bug (cond (passes (is_of severity) o) (n ∷ few) few)) e)

  -- rows that stand severity by severity
  rows_of-each : (rows_as : Severity → List ListRow) (numbers_as : Severity → List ℕ)
      → ((severity : Severity) → rows_as severity ≡ rows_of bug (numbers_as severity)) → (ss : List Severity)
      → flat_map rows_as ss ≡ rows_of bug (flat_map numbers_as ss)
  rows_of-each rows_as numbers_as same [] = refl
  rows_of-each rows_as numbers_as same (s ∷ ss) =
      ap (λ (rows : List ListRow). rows ++ flat_map rows_as ss) (same s)
      ∙ ap (λ (rows : List ListRow). rows_of bug (numbers_as s) ++ rows) (rows_of-each rows_as numbers_as same ss)
      ∙ sym (rows_of-append (numbers_as s) (flat_map numbers_as ss))

module _ (d : Desk) (package_name : List ℕ) (v : Node) where
  abbrev listed_here : Shared → Bool
  listed_here = is_listed_on (line d.tree v) package_name

  both_tests : (severity : Severity) (o : Option Bug)
      → passes (is_listed_as d.tree package_name v severity) o ≡ (passes listed_here o && passes (is_of severity) o)
  both_tests severity None = refl
  both_tests severity (Some b) =
      ap (λ t. t && is_of severity b.shared) (sym (listed_on-line d.tree package_name v b.shared))

  -- the bugs that are listed, severity by severity, are all the bugs that are listed
  pub rows-listed : (rows sorted : List ListRow) → rows ≡ rows_of d.bug (numbers_where listed_here d)
      → sorted ≡ flat_map (λ severity. filter (is_row_of severity) rows) all_severities
      → sorted ≡ rows_of d.bug (listed d package_name v)
  rows-listed rows sorted shown is =
      is ∙ rows_of-each d.bug (λ severity. filter (is_row_of severity) rows)
      (λ severity. numbers_where (is_listed_as d.tree package_name v severity) d)
      (λ severity. ap (filter (is_row_of severity)) shown
      ∙ rows_of-severity d.bug severity (numbers_where listed_here d)
      ∙ ap (rows_of d.bug) (filter-both (λ n. passes listed_here (d.bug n)) (λ n. passes (is_of severity) (d.bug n))
      (λ n. passes (is_listed_as d.tree package_name v severity) (d.bug n)) (λ n. both_tests severity (d.bug n))
      (numbers_below d.next)))
      all_severities
