use Rattle.std.proofs.Common.{List, ℕ, ap, ◌∙◌}
use Rattle.bug_record.specs.Sets.{has}
use Rattle.bug_record.specs.declared.bug.SetImage.{SetImage}
use Rattle.bug_record.specs.declared.bug.Shared.{Shared}
use Rattle.base_sequences.proofs.SetLemmas.{contains-has}
use Rattle.store_sets.proofs.summed_image.SummedImage.waits_on.Goals as goal

pub returns-in-OnSome : goal.returns-in-OnSome
returns-in-OnSome c =
    c.contains.ensures.value ∙ contains-has c.as_slice.result.now c.args.number
    ∙ ap (λ (ns : List ℕ). has ns c.args.number) c.as_slice.ensures
    ∙ ap (λ (f : Shared). has f.blockers c.args.number) c.fields.ensures
    ∙ ap (λ (i : SetImage). has i.shared.blockers c.args.number) c.self.view_is
