-- What the statements on tables that give texts to sets have in common.
use Rattle.table_sets.proofs.Imports.{AreNamesOf}
use Rattle.table_schema.proofs.Exports.{◌≡◌, ℕ, pos, ◌==◌, List, [], ◌∷◌, map, sym, ◌∙◌, AllByRecursion, IsPermutation, bytes_eq, IsUtf8, All-from_recursion, recursion_from_All, All-permutation, list_any-IsPermutation, Row, Term, lit, col, Null, Int, Text, with_each, name_cmp, passes, equals, all_filter, hits, same_number, TextRow, text_cells, IsTextRow, texts_of, same_names}

abbrev pub terms : List Term
terms = lit Null ∷ col 0 0 ∷ col 0 1 ∷ []

abbrev pub add_params : ℕ → List ℕ → Row
add_params k n = Int (pos k) ∷ Text n ∷ []

pub hit_key : (k : ℕ) (x : TextRow) → passes (equals 1 ∷ []) (Int (pos k) ∷ []) (text_cells x) ≡ (x.key == k)
hit_key k x = hits 1 (pos k) (text_cells x) ∙ same_number x.key k

valid_of : (xs : List TextRow) → AllByRecursion IsTextRow xs → AllByRecursion IsUtf8 (map (λ (x : TextRow). x.text) xs)
valid_of [] h = tt
valid_of (x ∷ xs) h = (h.0, valid_of xs h.1)

pub are_names : (k : ℕ) (texts : List (List ℕ)) (xs : List TextRow) (ns : List (List ℕ)) → AllByRecursion IsTextRow xs → IsPermutation (texts_of k xs) ns
    → texts ≡ with_each name_cmp [] (texts_of k xs) → AreNamesOf texts ns
are_names k texts xs ns good same says = record {
  valid = recursion_from_All IsUtf8 ns (All-permutation IsUtf8 _ ns same (All-from_recursion IsUtf8 _ (valid_of _ (all_filter IsTextRow (λ x. x.key == k) xs good))));
  all = same_names ns (texts_of k xs) (λ n. sym (list_any-IsPermutation (bytes_eq n) _ _ same)) ∙ sym says;
}
