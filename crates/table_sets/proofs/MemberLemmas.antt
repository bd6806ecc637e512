-- Bugs that are alike, one after another.
use Rattle.std.proofs.Common.{◌≡◌, ◌<◌, ◌≤◌, ◌+◌, ℕ, List, [], ◌∷◌, ◌++◌, length, take, get_or, map, sym, ap, subst, ◌∙◌}
use Rattle.std.proofs.lemmas.List.{length-map, take_all}
use Rattle.std.proofs.lemmas.List as lists
use Rattle.sqlite.specs.Order.{Row}
use Rattle.bug_record.specs.declared.bug.Member.{Member}
use Rattle.table_forms.proofs.RowsInOrder.{row_at, take_more}
use Rattle.table_sets.specs.Members.{member_row, AreMemberRows}

abbrev none : Member
none = record { number = 0; title = []; submitter = [] }

module _ (rows : List Row) (ms ys : List Member) (are : AreMemberRows rows ms) where
  -- one more that is the same
  pub same_front : (i : ℕ) (r : Row) (y : Member) → i < length rows → i < length ys → r ≡ get_or rows i r → y ≡ get_or ys i y
      → ((m : Member) → r ≡ member_row m → m ≡ y) → take i ms ≡ take i ys → take (i + 1) ms ≡ take (i + 1) ys
  same_front i r y low other row here same front =
      take_more member_row none rows ms i low are.are
      ∙ ap (λ z. take i ms ++ z ∷ []) (same (get_or ms i none) (row_at member_row none rows ms i r low row are.are) ∙ here)
      ∙ ap (λ (zs : List Member). zs ++ get_or ys i y ∷ []) front
      ∙ sym (lists.take_more ys i y other)

  pub same_whole : (i : ℕ) → length rows ≤ i → length rows ≡ length ys → take i ms ≡ take i ys → ms ≡ ys
  same_whole i past long front =
      let len : length rows ≡ length ms = ap length are.are ∙ length-map ms member_row in
      sym (take_all i ms (subst (λ n. n ≤ i) len past)) ∙ front ∙ take_all i ys (subst (λ n. n ≤ i) long past)
