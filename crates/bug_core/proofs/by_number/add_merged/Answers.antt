use Rattle.std.proofs.Common.{◌≡◌, ◌<◌, ◌+◌, ◌∷◌, ◌++◌, drop, length, sym, ap, ◌∙◌, subst, arith}
use Rattle.std.proofs.lemmas.List.{drop_more}
use Rattle.bug_record.specs.Images.{numbers_of}
use Rattle.bug_record.specs.Sets.{IsAscending, with_items}
use Rattle.bug_core.specs.Joins.{number_of}
use Rattle.bug_core.proofs.MergedLemmas.{merge-on}
use Rattle.bug_core.proofs.by_number.add_merged.Goals as goal

pub loop-other-preserved : goal.loop-other-preserved
loop-other-preserved c =
    let inside : c.loop-other.other-index < length c.args.others.now = omega arith in
    let split : drop c.loop-other.other-index c.args.others.now
    ≡ c.other-item.result ∷ drop (c.loop-other.other-index + 1) c.args.others.now =
    drop_more c.args.others.now c.loop-other.other-index c.other-item.result inside
    ∙ ap (λ x. x ∷ drop (c.loop-other.other-index + 1) c.args.others.now) (sym c.other-item.is) in
    let up : IsAscending (numbers_of (c.other-item.result ∷ drop (c.loop-other.other-index + 1) c.args.others.now)) =
    subst (λ ms. IsAscending (numbers_of ms)) split c.loop-other.invariant.ascending in
    record {
      ascending = up.1;
      merged = merge-on (c.args.merged.now ++ with_items number_of c.args.members.now c.args.others.now) c.loop-other.merged c.loop-other.rest.now
          (drop c.loop-other.other-index c.args.others.now) (drop (c.loop-other.other-index + 1) c.args.others.now)
          c.other-item.result c.add_below.new.merged c.in_ok-rest.rest.now c.add_unless_first.new.merged
          split up.0 c.loop-other.invariant.merged c.in_ok-rest.ensures.added c.in_ok-rest.ensures.rest
          c.in_ok-add_unless_first.ensures;
    }
