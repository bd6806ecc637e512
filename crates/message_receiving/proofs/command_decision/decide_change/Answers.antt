use Rattle.std.proofs.Common.{List, sym, ap, ◌∙◌, subst}
use Rattle.bug_record.specs.Sets.{Each}
use Rattle.bug_record.specs.Images.{bug_in, put, AreApart, HasMember, FitsDesk}
use Rattle.bug_record.specs.Changed.{AreChanged}
use Rattle.bug_record.specs.declared.command.Change.{Change}
use Rattle.bug_record.specs.declared.bug.SetImage.{SetImage}
use Rattle.bug_images.specs.Alike.{BeginAlike}
use Rattle.message_plans.specs.Written.{written}
use Rattle.store_contract.specs.Store.{with_change}
use Rattle.message_receiving.proofs.CommandLemmas.{nothing, unchanged, told, no_change}
use Rattle.message_plans.proofs.WrittenLemmas.{apart-written, members-written, put-written, fits-written}
use Rattle.message_receiving.proofs.command_decision.decide_change.Goals as goal

pub returns-then-change-next-clause-made : goal.returns-then-change-next-clause-made
returns-then-change-next-clause-made c = λ d apart p. record {
  outcome = c.without_change.ensures.outcome ∙ told c.args.images.now _ c.as_slice.ensures c.in_ok-numbers.ensures.desks p;
  desk = ap (λ change. with_change change d) c.without_change.ensures.change
      ∙ sym (unchanged d c.args.images.now _ c.args.next c.args.change c.in_ok-numbers.numbers c.as_slice.ensures c.in_ok-numbers.ensures.images p
      (nothing _ _ c.as_slice-2.ensures (sym c.is_empty.ensures ∙ c.if-is_empty.true)) c.if-change-next.true);
  fits = no_change d _ c.without_change.ensures.change;
}

pub returns-clause-made : goal.returns-clause-made
returns-clause-made c = λ d apart p.
    let same = c.in_ok-change.ensures ∙ ap (λ ns. written ns c.args.change) c.as_slice-3.ensures in
    let are = subst (λ js. AreChanged (bug_in c.args.images.now) (bug_in js) c.in_ok-numbers.numbers) c.as_slice.ensures
    c.in_ok-numbers.ensures.images in
    record {
      outcome = told c.args.images.now _ c.as_slice.ensures c.in_ok-numbers.ensures.desks p;
      desk = ap (put d) same ∙ put-written d c.args.images.now c.args.next c.in_ok-numbers.numbers c.args.change apart p are;
      fits = record {
        apart = subst (λ (z : Change). AreApart z.images) (sym same) (apart-written c.in_ok-numbers.numbers c.args.change apart);
        fits = subst (λ (z : Change). FitsDesk d z) (sym same)
            (fits-written d c.args.images.now c.args.next c.in_ok-numbers.numbers c.args.change apart p are);
      };
    }

pub returns-clause-members : goal.returns-clause-members
returns-clause-members c =
    let same = c.in_ok-change.ensures ∙ ap (λ ns. written ns c.args.change) c.as_slice-3.ensures in
    subst (λ (z : Change). Each HasMember z.images) (sym same) (members-written c.in_ok-numbers.numbers c.args.change c.requires.members)

pub numbers_changed-requires : goal.numbers_changed-requires
numbers_changed-requires c = λ l.
    subst (λ (js : List SetImage). BeginAlike c.args.images.now js) (sym c.as_slice.ensures) (c.requires.leaves l)
