use Rattle.std.proofs.Common.{◌≡◌, ◌++◌, ◌∷◌, drop, flat_map}
use Rattle.bug_record.specs.Tags.{tag_name}
use Rattle.desk_text.proofs.pages.append_each_tag.Given as goal

abbrev pub invariant-loop-tag : goal.invariant-loop-tag
invariant-loop-tag l =
    l.out.items ++ flat_map (λ tag. 32 ∷ tag_name tag) (drop l.tag-index l.tags)
    ≡ l.fn.out.items ++ flat_map (λ tag. 32 ∷ tag_name tag) l.tags
