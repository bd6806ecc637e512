use Rattle.std.proofs.Common.{ℕ, List, ap, ◌∙◌, arith}
use Rattle.std.proofs.lemmas.Grind.{common_steps}
use Rattle.bug_record.specs.Images.{numbers_of}
use Rattle.bug_record.specs.Sets.{with_items}
use Rattle.base_sequences.proofs.NumberLemmas.{with_items-set}
use Rattle.bug_images.proofs.images.member_numbers.Goals as goal

pub loop-member-init : goal.loop-member-init
loop-member-init c =
    ap (λ (ks : List ℕ). with_items (λ n. n) ks (numbers_of c.args.members.now)) c.new-set.ensures.empty
    ∙ with_items-set (numbers_of c.args.members.now)

pub loop-member-preserved : goal.loop-member-preserved
loop-member-preserved c = grind (arith, common_steps)

pub returns : goal.returns
returns c = grind (arith, common_steps)
