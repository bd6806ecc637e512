use Rattle.std.proofs.Common.{List, ◌∙◌, sym, ap, subst}
use Rattle.std.specs.Prelude.{None}
use Rattle.bug_record.specs.Images.{numbers_of}
use Rattle.bug_record.specs.declared.bug.Member.{Member}
use Rattle.bug_images.specs.Kept.{ascends}
use Rattle.bug_images.specs.Parted.{numbers_in, AreAmong}
use Rattle.bug_images.proofs.KeptLemmas.{ascending-from}
use Rattle.bug_images.proofs.parted.has_all.Goals as goal

pub returns-then-is_ascending : goal.returns-then-is_ascending
returns-then-is_ascending c = λ h. record {
  ascending = ascending-from (numbers_of c.args.whole.now.members)
      (ap (λ (ms : List Member). ascends None (numbers_of ms)) (sym c.as_slice-members.ensures) ∙ sym c.is_ascending.ensures
      ∙ c.if-is_ascending.true);
  numbers = subst (λ (ms : List Member). AreAmong (numbers_in c.args.parts.now) (numbers_of ms)) c.as_slice-members.ensures
      (c.are_parts.ensures h);
}
