-- What the query of a package's sets answers.
use Rattle.table_sets.proofs.Imports.{is_of, row_fields, AreSetsOf, listed_row, ListedSet}
use Rattle.table_schema.proofs.Exports.{◌≡◌, ℕ, pos, ◌==◌, ◌&&◌, Bool, true, false, not, List, [], ◌∷◌, codes, map, filter, Option, Some, None, option_map, if◌then◌else◌, refl, sym, ap, subst, ◌∙◌, arith, unwrap_or, AllByRecursion, list_any, IsPermutation, option_map_or, option_and_then, bytes_eq, false≢true, eq-eqb, All-from_recursion, recursion_from_All, IsPermutation-map, All-permutation, understood, Row, column, Term, lit, col, op2, Int, Text, everything, Binary, rank, Critical, passes, equals_at, number_in, IsQueryOf, map_map, hits, holds_text, same_number, severity_in, flag, flag_in, last_row, SetRow, set_cells, fields_of_row, fields_in, SETS, desk_schema, same_text, sets, one_kept, one_numbered, or_false, IsRead, rises, asks}
use Rattle.sqlite_sql.specs.declared.ops.BinaryOp.TheVariants.{Compare}
use Rattle.sqlite_sql.specs.declared.ops.CompareOp.TheVariants.{Eq}
use Rattle.bug_record.specs.declared.severity.Severity.{Severity}
use Rattle.table_sets.proofs.KeyAnswers.{has_key}
use Rattle.table_sets.proofs.SetStatements.{set_key, Rises}

abbrev sets_text : List ℕ
sets_text = codes "SELECT set_key, severity, closed FROM sets WHERE package = ?1 AND archived = 0"

abbrev listed : List Term
listed = equals_at 2 0 ∷ op2 (Compare Eq Binary) (col 1 8) (lit (Int (pos 0))) ∷ []

abbrev shown_terms : List Term
shown_terms = col 1 0 ∷ col 1 3 ∷ col 1 4 ∷ []

abbrev names : List (List ℕ)
names = codes "set_key" ∷ codes "severity" ∷ codes "closed" ∷ []

sets_is : (p : List ℕ) → IsQueryOf desk_schema sets_text (Text p ∷ []) SETS listed shown_terms [] names
unfolding understood everything
sets_is p = record { command_is = refl; plain = (refl, refl); whole = omega arith; given = refl; unlisted = refl; typed = refl }

-- ---- which rows pass

unset : (b : Bool) → (flag b == 0) ≡ not b
unset true = refl
unset false = refl

abbrev is_row_of : List ℕ → SetRow → Bool
is_row_of p x = bytes_eq x.«package» p && not x.archived

hit_row : (p : List ℕ) (x : SetRow) → passes listed (Text p ∷ []) (set_cells x) ≡ is_row_of p x
hit_row p x =
    let of_package = holds_text 2 0 (Text p ∷ []) (set_cells x) p refl ∙ same_text x.«package» p in
    let kept = hits 8 (pos 0) (set_cells x) ∙ same_number (flag x.archived) 0 ∙ unset x.archived in
    λ i. of_package i && kept i

-- a key that is listed is that of the row
any_swapped : {T : Type 0} (p q : T → Bool) (xs : List T) → list_any p (filter q xs) ≡ list_any q (filter p xs)
any_swapped p q [] = refl
any_swapped p q (x ∷ xs) = go (p x) (q x) refl refl (any_swapped p q xs)
  where
    go : (a b : Bool) → p x ≡ a → q x ≡ b → list_any p (filter q xs) ≡ list_any q (filter p xs) → list_any p (filter q (x ∷ xs)) ≡ list_any q (filter p (x ∷ xs))
    go true true r s h = rw (r, s, r) refl
    go true false r s h = rw (r, s) h
    go false true r s h = rw (r, s, r) h
    go false false r s h = rw (r, s) h

any_one : (p : List ℕ) (o : Option SetRow) → list_any (is_row_of p) (option_map_or (λ x. x ∷ []) o []) ≡ is_of p (option_map fields_of_row o)
any_one p None = refl
any_one p (Some x) = or_false (is_row_of p x)

-- ---- what a row says

abbrev set_of : SetRow → ListedSet
set_of x = record { key = x.key; fields = record { severity = x.severity; closed = x.closed } }

abbrev set_back : Row → ListedSet
set_back r = record {
  key = number_in (column r 0);
  fields = record { severity = unwrap_or (severity_in (number_in (column r 1))) Critical; closed = unwrap_or (flag_in (number_in (column r 2))) false };
}

severity_back : (s : Severity) → severity_in (rank s) ≡ Some s
severity_back Critical = refl
severity_back _ = refl

flag_back : (b : Bool) → flag_in (flag b) ≡ Some b
flag_back true = refl
flag_back false = refl

back_is : (s : ListedSet) → set_back (listed_row s) ≡ s
back_is s = λ i. record {
  key = s.key;
  fields = record { severity = unwrap_or (severity_back s.fields.severity i) Critical; closed = unwrap_or (flag_back s.fields.closed i) false };
}

module _ (P : ℕ → SetRow → Type 0) where
  rest_of : (b : Bool) (k : ℕ) (x : SetRow) (xs : List SetRow) → AllByRecursion (P k) (if b then x ∷ xs else xs) → AllByRecursion (P k) xs
  rest_of true k x xs h = h.1
  rest_of false k x xs h = h

  -- what holds of the rows of each key holds of each row, for its own key
  each_of_key : (xs : List SetRow) → ((k : ℕ) → AllByRecursion (P k) (filter (λ (y : SetRow). y.key == k) xs)) → AllByRecursion (λ (x : SetRow). P x.key x) xs
  each_of_key [] h = tt
  each_of_key (x ∷ xs) h = (
    (subst (λ b. AllByRecursion (P x.key) (if b then x ∷ filter (λ (y : SetRow). y.key == x.key) xs else filter (λ (y : SetRow). y.key == x.key) xs)) (eq-eqb x.key x.key refl) (h x.key)).0,
    each_of_key xs (λ k. rest_of (x.key == k) k x (filter (λ (y : SetRow). y.key == k) xs) (h k)),
  )

only_one : (o : Option SetRow) → AllByRecursion (λ (y : SetRow). o ≡ Some y) (option_map_or (λ (x : SetRow). x ∷ []) o [])
only_one None = tt
only_one (Some x) = (refl, tt)

-- of rows whose keys rise each is the one of its key
alone : (xs : List SetRow) → Rises xs → AllByRecursion (λ (x : SetRow). last_row (λ (y : SetRow). y.key == x.key) xs ≡ Some x) xs
alone xs up = each_of_key (λ k y. last_row (λ (x : SetRow). x.key == k) xs ≡ Some y) xs (λ k.
    subst (AllByRecursion (λ (y : SetRow). last_row (λ (x : SetRow). x.key == k) xs ≡ Some y)) (sym (one_kept (λ (x : SetRow). x.key == k) xs (one_numbered set_key k xs up)))
    (only_one (last_row (λ (x : SetRow). x.key == k) xs)))

-- what a set is said to be is what its row says
abbrev IsSaid : List SetRow → ListedSet → Type 0
IsSaid all s = option_and_then row_fields (fields_in all s.key) ≡ Some s.fields

kept_row : (a b : Bool) → (a && not b) ≡ true → b ≡ false
kept_row true true h = absurd (false≢true h)
kept_row true false h = refl
kept_row false b h = absurd (false≢true h)

each_said : (p : List ℕ) (all xs : List SetRow) → AllByRecursion (λ (x : SetRow). last_row (λ (y : SetRow). y.key == x.key) all ≡ Some x) xs
    → AllByRecursion (IsSaid all) (map set_of (filter (is_row_of p) xs))
each_said p all [] h = tt
each_said p all (x ∷ xs) h = go (is_row_of p x) refl (each_said p all xs h.1)
  where
    said : is_row_of p x ≡ true → IsSaid all (set_of x)
    said is =
        ap (λ (o : Option SetRow). option_and_then row_fields (option_map fields_of_row o)) h.0
        ∙ ap (λ (b : Bool). if b then None else Some (set_of x).fields) (kept_row (bytes_eq x.«package» p) x.archived is)

    go : (b : Bool) → is_row_of p x ≡ b → AllByRecursion (IsSaid all) (map set_of (filter (is_row_of p) xs))
        → AllByRecursion (IsSaid all) (map set_of (if b then x ∷ filter (is_row_of p) xs else filter (is_row_of p) xs))
    go true is more = (said is, more)
    go false is more = more

pub sets_read : (p : List ℕ) → IsRead sets_text (Text p ∷ []) (λ c rows. (ss : List ListedSet) × (rows ≡ map listed_row ss) × AreSetsOf p c ss)
sets_read p = asks sets sets_text (Text p ∷ []) listed shown_terms names _ (record {
  text = sets_is p;
  is_hit = is_row_of p;
  hits = hit_row p;
  of = set_of;
  row = listed_row;
  back = set_back;
  same = back_is;
  shows = λ x. refl;
  AreFine = Rises;
  fine = λ s inside live all. rises sets set_key (λ x. refl) s all;
  says = λ xs c up good ss any. (
    ss,
    refl,
    record {
      keys = λ k. has_key set_key k (filter (is_row_of p) xs) (map (λ (s : ListedSet). s.key) ss)
          (subst (λ ks. IsPermutation ks (map (λ (s : ListedSet). s.key) ss)) (map_map set_of (λ (s : ListedSet). s.key) (filter (is_row_of p) xs)) (IsPermutation-map (λ (s : ListedSet). s.key) _ _ any))
          ∙ any_swapped (λ (x : SetRow). x.key == k) (is_row_of p) xs
          ∙ ap (list_any (is_row_of p)) (one_kept (λ (x : SetRow). x.key == k) xs (one_numbered set_key k xs up)) ∙ any_one p (last_row (λ (x : SetRow). x.key == k) xs);
      say = recursion_from_All (IsSaid xs) ss (All-permutation (IsSaid xs) (map set_of (filter (is_row_of p) xs)) ss any
          (All-from_recursion (IsSaid xs) (map set_of (filter (is_row_of p) xs)) (each_said p xs xs (alone xs up))));
    },
  );
})
