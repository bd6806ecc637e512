use Rattle.std.proofs.Common.{Some, None, sym, ap, ◌∙◌}
use Rattle.std.specs.Option.{option_copied}
use Rattle.bug_images.proofs.IndexLemmas.{looked-up, bug-there, bug-of_image, bug-of_member}
use Rattle.bug_images.proofs.index.Index.find.Goals as goal

pub returns-in_default : goal.returns-in_default
returns-in_default c =
    sym (bug-there c.self.inside.images.now c.args.self.now c.args.number c.get.result _ c.get.ensures.value
    (c.self.invariant c.args.number) c.self.view_is None c.in_default.is)

pub returns-in_default-get : goal.returns-in_default-get
returns-in_default-get c =
    let there = bug-there c.self.inside.images.now c.args.self.now c.args.number c.get.result _ c.get.ensures.value
    (c.self.invariant c.args.number) c.self.view_is (Some c.in-Some.position) c.in-Some.is in
    let image = looked-up c.self.inside.images.now c.args.self.now c.in-Some.position.now.image c.get-2.result
    c.get-2.ensures.lookup c.self.view_is in
    bug-of_image c.args.self.now c.args.number c.in-Some.position.now there None (image ∙ ap option_copied c.in_default-get.is)

pub returns-in-None : goal.returns-in-None
returns-in-None c =
    let there = bug-there c.self.inside.images.now c.args.self.now c.args.number c.get.result _ c.get.ensures.value
    (c.self.invariant c.args.number) c.self.view_is (Some c.in-Some.position) c.in-Some.is in
    let image = looked-up c.self.inside.images.now c.args.self.now c.in-Some.position.now.image c.get-2.result
    c.get-2.ensures.lookup c.self.view_is in
    let member = looked-up c.as_slice.result.now c.in-Some-get.image.now.members c.in-Some.position.now.member c.get-3.result
    c.get-3.ensures.lookup c.as_slice.ensures in
    bug-of_member c.args.self.now c.args.number c.in-Some.position.now there c.in-Some-get.image.now
    (image ∙ ap option_copied c.in-Some-get.is) None (member ∙ ap option_copied c.in-None.is)

pub returns-in-Some-get-2 : goal.returns-in-Some-get-2
returns-in-Some-get-2 c =
    let there = bug-there c.self.inside.images.now c.args.self.now c.args.number c.get.result _ c.get.ensures.value
    (c.self.invariant c.args.number) c.self.view_is (Some c.in-Some.position) c.in-Some.is in
    let image = looked-up c.self.inside.images.now c.args.self.now c.in-Some.position.now.image c.get-2.result
    c.get-2.ensures.lookup c.self.view_is in
    let member = looked-up c.as_slice.result.now c.in-Some-get.image.now.members c.in-Some.position.now.member c.get-3.result
    c.get-3.ensures.lookup c.as_slice.ensures in
    let at = image ∙ ap option_copied c.in-Some-get.is in (
      bug-of_member c.args.self.now c.args.number c.in-Some.position.now there c.in-Some-get.image.now at
          (Some c.in-Some-get-2.member.now) (member ∙ ap option_copied c.in-Some-get-2.is),
      at,
    )
