use Rattle.std.proofs.Common.{◌≡◌, ◌∷◌, [], true, None, sym, ap, ◌∙◌}
use Rattle.std.proofs.lemmas.Result.{IfOk-weaker}
use Rattle.bug_record.specs.Images.{numbers_of}
use Rattle.bug_record.specs.Sets.{with_items}
use Rattle.bug_images.specs.Kept.{ascends}
use Rattle.bug_core.specs.Joins.{with_members, number_of}
use Rattle.bug_core.specs.Named.{named_numbers}
use Rattle.bug_core.specs.Others.{those_meant}
use Rattle.bug_core.proofs.MergedLemmas.{ascending-from, one-meant, two-meant, none-known}
use Rattle.bug_core.proofs.by_number.joined_members.Goals as goal

pub returns-in_default-first_meant : goal.returns-in_default-first_meant
returns-in_default-first_meant c =
    let up : ascends None (numbers_of c.in-Some.first.now.members) ≡ true =
    ap (λ ms. ascends None (numbers_of ms)) (sym c.as_slice.ensures)
    ∙ sym c.is_ascending.ensures ∙ c.if-not-is_ascending.false in
    IfOk-weaker c.copy.result (λ ms. ms ≡ c.in-Some.first.now.members)
    (λ ms. ms ≡ with_members [] (those_meant (named_numbers c.args.named) c.args.images.now))
    (λ ms e. e ∙ one-meant (those_meant (named_numbers c.args.named) c.args.images.now) c.in-Some.first.now
    (c.in-Some.ensures ∙ ap (λ js. c.in-Some.first.now ∷ js) c.in_default-first_meant.ensures) up)
    c.copy.ensures

pub merged-requires : goal.merged-requires
merged-requires c = record {
  ascending = ascending-from (numbers_of c.as_slice-others.result.now) (sym c.is_ascending-2.ensures ∙ c.if-not-is_ascending-2.false);
}

pub returns : goal.returns
returns c =
    let up : ascends None (numbers_of c.in-Some.first.now.members) ≡ true =
    ap (λ ms. ascends None (numbers_of ms)) (sym c.as_slice.ensures)
    ∙ sym c.is_ascending.ensures ∙ c.if-not-is_ascending.false in
    let none : those_meant (named_numbers c.args.named) c.in-Some-first_meant.rest.now ≡ [] =
    none-known _ _ _ c.first_meant-else-not-is_ascending-2.ensures (sym c.is_some.ensures ∙ c.if-is_some.false) in
    IfOk-weaker c.of-2.result (λ ms. ms ≡ c.in_ok-merged.field-0)
    (λ ms. ms ≡ with_members [] (those_meant (named_numbers c.args.named) c.args.images.now))
    (λ ms e. e ∙ c.in_ok-merged.ensures
    ∙ (λ j. with_items number_of (c.as_slice-2.ensures j) (c.as_slice-others.ensures j))
    ∙ two-meant (those_meant (named_numbers c.args.named) c.args.images.now) c.in-Some.first.now c.in-Some-first_meant.second.now
    (c.in-Some.ensures ∙ ap (λ js. c.in-Some.first.now ∷ js)
    (c.in-Some-first_meant.ensures ∙ ap (λ js. c.in-Some-first_meant.second.now ∷ js) none)) up)
    c.of-2.ensures
