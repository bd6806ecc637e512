use Rattle.std.proofs.Common.{◌≡◌, Some, ap, sym, ◌∙◌}
use Rattle.std.specs.Prelude.{slice_get}
use Rattle.std.specs.Option.{option_and_then}
use Rattle.std.specs.Prelude.{nat_eq}
use Rattle.std.specs.HashMap.{get}
use Rattle.std.proofs.lemmas.Slice.Eq.{bytes_eq-Decides}
use Rattle.bug_record.specs.Images.{numbers_of}
use Rattle.bug_record.specs.declared.bug.SetImage.{SetImage}
use Rattle.store_sets.specs.Places.{sets, image_at}
use Rattle.store_sets.specs.declared.places.Place.TheVariants.{First}
use Rattle.store_sets.proofs.PlaceLemmas.{first-key}
use Rattle.store_sets.proofs.places.keeps_set.Goals as goal

pub returns-in-Some-First : goal.returns-in-Some-First
returns-in-Some-First c = λ h.
    let first : slice_get c.args.image.now.members 0 ≡ Some c.in-Some.first.now = ap (λ ms. slice_get ms 0)
    (sym c.as_slice-members.ensures) ∙ sym c.in-Some.ensures.value in
    let there : get nat_eq c.args.bugs.now c.in-Some.first.now.number ≡ Some (First c.in-Some-First.old) = cc
    (c.in-Some-First.ensures.value) in (
      c.in-Some-First.old,
      ap (sets c.args.bugs.now) (first-key c.args.image.now.members c.in-Some.first.now first)
          ∙ ap (option_and_then image_at) there,
      ap (λ (z : SetImage). numbers_of z.members) (sym c.image.ensures) ∙ sym (ap numbers_of c.as_slice.ensures)
          ∙ ((bytes_eq-Decides (numbers_of c.as_slice.result.now) (numbers_of c.as_slice-members.result.now)).0
          (sym c.same_numbers.ensures ∙ h) ∙ ap numbers_of c.as_slice-members.ensures),
    )
