-- The refusal of a bug that images show.
use Rattle.std.proofs.Common.{◌≡◌, ℕ, Bool, List, Option, Some, ap}
use Rattle.bug_record.specs.Images.{bug_in, image_with}
use Rattle.bug_record.specs.Words.{archived_refusal, bug_refusal}
use Rattle.bug_record.specs.declared.bug.Bug.{Bug}
use Rattle.bug_record.specs.declared.bug.SetImage.{SetImage}
use Rattle.bug_images.proofs.ImageLemmas.{image_with-shows}

pub shown-refusal : (may_be : Bool) (is : List SetImage) (n : ℕ) (i : SetImage) → image_with is n ≡ Some i
    → bug_refusal may_be (bug_in is n) n ≡ archived_refusal may_be n i.shared
shown-refusal may_be is n i h = let b = image_with-shows is n i h in ap (λ (o : Option Bug). bug_refusal may_be o n) b.1
