use Rattle.std.proofs.Common.{sym, ◌∙◌, ap, subst, ℕ}
use Rattle.std.specs.Prelude.{IsCharBoundary}
use Rattle.std.specs.List.{position_or_len}
use Rattle.base_words.specs.Words.{is_separator}
use Rattle.base_words.proofs.Boundaries.{boundary_at_separator}
use Rattle.base_words.proofs.words.at_separator.Goals as goal

pub split_at-requires : goal.split_at-requires
split_at-requires c =
    let P : ℕ → Type 0 = IsCharBoundary c.args.text.now in
    subst P (sym (c.leading_others.ensures ∙ ap (position_or_len (is_separator c.args.separators)) c.as_bytes.ensures.value))
    (boundary_at_separator c.args.separators c.args.text.now)
