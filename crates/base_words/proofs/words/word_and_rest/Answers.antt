use Rattle.std.proofs.Common.{◌≡◌, ◌∙◌, ap, drop}
use Rattle.std.specs.List.{position_or_len, before_first}
use Rattle.base_words.specs.Words.{is_separator, first_between, after_between}
use Rattle.base_words.proofs.WordLemmas.{words-first, words-none, rest-shorter}
use Rattle.base_words.proofs.words.word_and_rest.Goals as goal

pub returns-clause-first : goal.returns-clause-first
returns-clause-first c some =
    let p = is_separator c.args.separators in
    let text = c.args.text.now in
    let first : c.at_separator.result.0.now ≡ first_between p text =
    c.at_separator.ensures.word ∙ ap (before_first p) c.without_first.ensures in
    let after : c.at_separator.result.1.now ≡ after_between p text =
    c.at_separator.ensures.rest ∙ ap (λ t. drop (position_or_len p t) t) c.without_first.ensures in
    words-first p text _ _ first after some

pub returns-clause-none : goal.returns-clause-none
returns-clause-none c none =
    let p = is_separator c.args.separators in
    words-none p c.args.text.now c.at_separator.result.0.now
    (c.at_separator.ensures.word ∙ ap (before_first p) c.without_first.ensures) none

pub returns-clause-shorter : goal.returns-clause-shorter
returns-clause-shorter c some =
    let p = is_separator c.args.separators in
    let text = c.args.text.now in
    let first : c.at_separator.result.0.now ≡ first_between p text =
    c.at_separator.ensures.word ∙ ap (before_first p) c.without_first.ensures in
    let after : c.at_separator.result.1.now ≡ after_between p text =
    c.at_separator.ensures.rest ∙ ap (λ t. drop (position_or_len p t) t) c.without_first.ensures in
    rest-shorter p text c.at_separator.result.0.now _ first after some
