use Rattle.std.proofs.Common.{◌≡◌, ◌∙◌, List, sym, ap, subst}
use Rattle.std.specs.Option.{option_or}
use Rattle.bug_record.specs.Images.{CoverSets, bug_in, put}
use Rattle.bug_record.specs.declared.bug.SetImage.{SetImage}
use Rattle.store_sets.specs.Plain.{desk_of}
use Rattle.memory_desk.proofs.PlainLemmas.{desk_of-put}
use Rattle.memory_desk.proofs.plain.make.Goals as goal

pub put-requires-clause-whole : goal.put-requires-clause-whole
put-requires-clause-whole c = λ tree next.
    let given : CoverSets (desk_of c.args.bugs.now tree c.args.next.now) c.in-Some.change.now.images = rw c.in-Some.is at (c.requires.whole tree) in
    subst (CoverSets (desk_of c.args.bugs.now tree next)) (sym c.as_slice.ensures) given

pub returns-clause-ok : goal.returns-clause-ok
returns-clause-ok c = λ tree.
    let old = c.args.bugs.now in
    let change = c.in-Some.change.now in
    let done : desk_of c.put.new.self tree change.next ≡ put (desk_of old tree c.args.next.now) change =
    desk_of-put old c.put.new.self tree c.args.next.now change
    (λ n. c.in_ok-put.ensures.bugs tree c.args.next.now n
    ∙ ap (λ (is : List SetImage). option_or (bug_in is n) ((desk_of old tree c.args.next.now).bug n)) c.as_slice.ensures) in
    rw c.in-Some.is done
