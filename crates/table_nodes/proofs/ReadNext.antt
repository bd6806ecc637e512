-- What the query of the next number answers.
use Rattle.table_schema.proofs.Exports.{◌≡◌, ℕ, List, [], ◌∷◌, codes, map, refl, sym, ap, subst, ◌∙◌, arith, IsPermutation, understood, Row, col, eval_all, one_permutation, everything, number_row, IsQueryOf, found, META, desk_schema, next_is, IsRead, reads_plain}
use Rattle.table_nodes.proofs.WriteNext.{first_row, only_first}

abbrev pub read_text : List ℕ
read_text = codes "SELECT next FROM meta WHERE id = 1"

read_is : IsQueryOf desk_schema read_text [] META first_row (col 1 3 ∷ []) [] (codes "next" ∷ [])
unfolding understood everything
read_is = record { command_is = refl; plain = (refl, refl); whole = omega arith; given = refl; unlisted = refl; typed = refl }

pub next_read : IsRead read_text [] (λ c rows. rows ≡ number_row c.next ∷ [])
next_read = reads_plain read_text [] META first_row (col 1 3 ∷ []) [] _ read_is _ (λ s rows all f.
    let n = all.meta.0 in
    let shows = λ (r : Row). eval_all (col 1 3 ∷ []) ([] ∷ r ∷ []) in
    let cells = ap (map shows) (only_first [] n (s.now.trees META) all.meta.1) in
    one_permutation (number_row n) rows (subst (λ os. IsPermutation os rows) cells (found META first_row (col 1 3 ∷ []) [] s.now.trees [] rows f)) ∙ ap (λ k. number_row k ∷ []) (sym (next_is s all)))
