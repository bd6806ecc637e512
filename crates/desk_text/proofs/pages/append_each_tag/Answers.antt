use Rattle.std.proofs.Common.{◌∷◌, ◌++◌, codes, refl, ap, ◌∙◌}
use Rattle.bug_record.specs.Tags.{tag_name}
use Rattle.desk_text.proofs.Appends.{all_done, and_then, next}
use Rattle.desk_text.proofs.pages.append_each_tag.Goals as goal

pub loop-tag-init : goal.loop-tag-init
loop-tag-init c = refl

pub loop-tag-preserved : goal.loop-tag-preserved
loop-tag-preserved c =
    let l = c.loop-tag in
    next (λ tag. 32 ∷ tag_name tag) c.args.tags.now l.tag-index _ _ l.out.items _ _ c.loop-tag-test.true refl
    l.invariant
    (and_then l.out.items (codes " ") _ c.in_ok-append_text.ensures.ok
    (c.in_ok-append_text-2.ensures.ok ∙ ap (λ w. c.append_text.new.out.items ++ w) c.name.ensures))

pub returns : goal.returns
returns c =
    let l = c.loop-tag in
    all_done (λ tag. 32 ∷ tag_name tag) c.args.tags.now l.tag-index _ l.out.items c.loop-tag-test.false
    l.invariant
