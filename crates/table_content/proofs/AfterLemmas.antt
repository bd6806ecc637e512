-- A content after a change, if there is one, in which an outcome is kept.
use Rattle.std.proofs.Common.{◌≡◌, List, ℕ, Option, Some, None, sym, ap, subst, ◌∙◌}
use Rattle.base_words.specs.Texts.{IfGiven}
use Rattle.bug_record.specs.declared.command.Change.{Change}
use Rattle.bug_record.specs.declared.outcome.Outcome.{Outcome}
use Rattle.store_contract.specs.Kept.{Keeping, kept_also, AreGoodKept}
use Rattle.table_content.specs.Changes.{FitsContent}
use Rattle.table_content.specs.Content.{Content}
use Rattle.table_content.specs.KeptOutcomes.{changed_by, kept_after}
use Rattle.table_content.specs.Kept.{IsKeptContent}
use Rattle.table_content.specs.View.{keeping_in}
use Rattle.table_content.proofs.ChangeLemmas.{change_kept}
use Rattle.table_content.proofs.KeepLemmas.{changed_keeping, keeping_is, kept_also-kept}

pub changed_kept : (change : Option Change) (c : Content) → IsKeptContent c → IfGiven (FitsContent c) change → IsKeptContent (changed_by change c)
changed_kept None c kept fits = kept
changed_kept (Some change) c kept fits = change_kept c change kept fits

module _ (c : Content) (kept : IsKeptContent c) (change : Option Change) (fits : IfGiven (FitsContent c) change) (id sender message : List ℕ) (outcome : Outcome) where
  pub after_keeping : keeping_in (kept_after id sender message outcome change c) ≡ kept_also id sender message outcome (keeping_in c)
  after_keeping =
      keeping_is (changed_by change c) (changed_kept change c kept fits) id sender message outcome
      ∙ ap (λ (k : Keeping). kept_also id sender message outcome k) (changed_keeping change c)

  pub after_kept : AreGoodKept (kept_also id sender message outcome (keeping_in c)) → IsKeptContent (kept_after id sender message outcome change c)
  after_kept good =
      kept_also-kept (changed_by change c) (changed_kept change c kept fits) id sender message outcome
      (subst (λ (k : Keeping). AreGoodKept (kept_also id sender message outcome k)) (sym (changed_keeping change c)) good)
