use Rattle.std.proofs.Common.{◌∙◌, ℕ, ap, subst, rules}
use Rattle.std.specs.List.{Contains}
use Rattle.std.proofs.lemmas.Fn.{dedup_same, always_returns_same}
use Rattle.std.proofs.lemmas.List.Kept.{Contains-from_dedup}
use Rattle.std.proofs.lemmas.List.Sorted.{IsPermutation-map, IsPermutation-sym, Contains-permutation}
use Rattle.bug_images.proofs.SortedLemmas.{has-sorted, ascending-sorted}
use Rattle.bug_record.specs.declared.row.ListRow.{ListRow}
use Rattle.store_sets.specs.Passing.{row_numbers}
use Rattle.store_sets.proofs.RowLemmas.{same_number, dedup-numbers, sorted-numbers}
use Rattle.store_sets.proofs.rows.in_number_order.Goals as goal

pub returns : goal.returns
returns c =
    let number : ListRow → ℕ = λ r. r.number in
    let sorted = c.sort_unstable_by_key.new.self.items in
    let moved = c.sort_unstable_by_key.ensures.permutation in
    let kept = dedup_same _ same_number _ (λ x y b f' x' y' k. search rules) _ _ c.dedup_by_key.ensures.filtered in
    let numbers = ap row_numbers kept ∙ dedup-numbers sorted in
    record {
      ascending = ascending-sorted (row_numbers sorted) _
          (sorted-numbers sorted (c.sort_unstable_by_key.ensures.sorted number (always_returns_same _ _ _ (λ a r f' k. search rules)))) numbers;
      numbers = has-sorted (row_numbers c.args.rows.items) (row_numbers sorted) _ (IsPermutation-map number _ _ moved) numbers;
      rows = λ row h. Contains-permutation _ _ row (IsPermutation-sym _ _ moved)
          (Contains-from_dedup same_number sorted row (subst (λ rs. Contains rs row) kept h));
    }
