use Rattle.std.proofs.Common.{Some, sym, subst}
use Rattle.store_sets.specs.Plain.{desk_of}
use Rattle.store_contract.specs.Store.{IsImageOf}
use Rattle.memory_desk.proofs.PlainLemmas.{image-is}
use Rattle.memory_desk.proofs.plain.PlainDeskRecords.set_of.Goals as goal

pub returns-in_ok-copy-in-Some-clause-image : goal.returns-in_ok-copy-in-Some-clause-image
returns-in_ok-copy-in-Some-clause-image c =
    let desk = c.args.self.now in
    subst (λ i. IsImageOf (desk_of desk.bugs desk.tree desk.next) c.args.number (Some i)) (sym c.in_ok-copy-in-Some.ensures)
    (image-is desk.bugs desk.tree desk.next desk.sound c.args.number c.in-Some.image.now (sym c.in-Some.ensures))
