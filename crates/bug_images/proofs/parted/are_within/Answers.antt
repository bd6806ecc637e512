use Rattle.std.proofs.Common.{◌≡◌, ℕ, List, length, take, ap, sym, ◌∙◌, subst, arith}
use Rattle.std.proofs.lemmas.Bool.{eqb-true}
use Rattle.std.proofs.lemmas.List.{take_all}
use Rattle.bug_record.specs.Images.{numbers_of}
use Rattle.bug_record.specs.declared.bug.Member.{Member}
use Rattle.bug_images.specs.Parted.{AreAmong}
use Rattle.bug_images.proofs.PartedLemmas.{has-at, among-more}
use Rattle.bug_images.proofs.parted.are_within.Goals.{then-found-members+then-members-found, else-found-members}
use Rattle.bug_images.proofs.parted.are_within.Goals as goal

pub loop-other-preserved : goal.loop-other-preserved
loop-other-preserved c =
    let ms = c.args.members.now in
    let ws = numbers_of c.args.whole.now in
    let k = c.loop-other.found in
    elim c.if-found-members.branch [
      | then-found-members+then-members-found w ↦ record {
        within = omega arith;
        among = subst (λ (z : ℕ). AreAmong (numbers_of (take z ms)) ws) (sym w.found-is)
            (among-more ms ws k c.other-item.result.number w.index-members-found.result w.if-found-members.true
            w.index-members-found.is
            (ap (λ (m : Member). m.number) w.index-members-found.is ∙ w.if-members-found.true)
            (has-at c.args.whole.now c.loop-other.other-index c.other-item.result c.loop-other-test.true c.other-item.is)
            c.loop-other.invariant.among);
      }
      | else-found-members w ↦ record {
        within = omega arith;
        among = subst (λ (z : ℕ). AreAmong (numbers_of (take z ms)) ws) (sym w.found-is) c.loop-other.invariant.among;
      }
    ]

pub returns : goal.returns
returns c = λ h.
    let all : c.loop-other.found ≡ length c.args.members.now = eqb-true c.loop-other.found (length c.args.members.now) h in
    subst (λ (ms : List Member). AreAmong (numbers_of ms) (numbers_of c.args.whole.now))
    (take_all c.loop-other.found c.args.members.now (omega arith)) c.loop-other.invariant.among
