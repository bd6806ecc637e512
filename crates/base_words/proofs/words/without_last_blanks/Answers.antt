use Rattle.base_words.proofs.Boundaries.{boundary_before_blanks}
use Rattle.std.proofs.Common.{sym, ◌∙◌, ap, subst, ℕ, ◌-◌, length}
use Rattle.std.specs.Prelude.{IsCharBoundary}
use Rattle.std.specs.List.{suffix_len}
use Rattle.base_words.specs.Blanks.{is_blank}
use Rattle.base_words.proofs.words.without_last_blanks.Goals as goal

pub split_at-requires : goal.split_at-requires
split_at-requires c =
    let P : ℕ → Type 0 = IsCharBoundary c.args.text.now in
    let at = c.last_blanks.ensures.value ∙ ap (suffix_len is_blank) c.as_bytes.ensures.value in
    subst P (sym (ap (λ n. length c.args.text.now - n) at)) (boundary_before_blanks c.args.text.now)
