use Rattle.std.proofs.Common.{sym, ◌∙◌, ap, subst, ℕ}
use Rattle.std.specs.Prelude.{IsCharBoundary}
use Rattle.std.specs.List.{prefix_len}
use Rattle.base_words.specs.Words.{is_separator}
use Rattle.base_words.proofs.Boundaries.{boundary_after_separators}
use Rattle.base_words.proofs.words.without_first.Goals as goal

pub split_at-requires : goal.split_at-requires
split_at-requires c =
    let P : ℕ → Type 0 = IsCharBoundary c.args.text.now in
    subst P (sym (c.leading_separators.ensures ∙ ap (prefix_len (is_separator c.args.separators)) c.as_bytes.ensures.value))
    (boundary_after_separators c.args.separators c.args.text.now c.utf8.text)
