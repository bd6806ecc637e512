use Rattle.std.proofs.Common.{◌≡◌, true, None, sym, ◌∙◌}
use Rattle.std.specs.Str.{bytes_eq}
use Rattle.bug_record.specs.Images.{numbers_of}
use Rattle.bug_images.specs.Kept.{ascends}
use Rattle.bug_images.proofs.KeptLemmas.{kept-from}
use Rattle.bug_images.proofs.kept.is_kept.Goals as goal

pub returns-then-same_numbers : goal.returns-then-same_numbers
returns-then-same_numbers c =
    let same : bytes_eq (numbers_of c.args.old.now.members) (numbers_of c.args.new.now.members) ≡ true =
    (λ j. bytes_eq (numbers_of (sym c.as_slice.ensures j)) (numbers_of (sym c.as_slice-members.ensures j)))
    ∙ sym c.same_numbers.ensures ∙ c.if-same_numbers.true in
    let up : c.is_ascending.result ≡ ascends None (numbers_of c.args.new.now.members) =
    c.is_ascending.ensures ∙ (λ j. ascends None (numbers_of (c.as_slice-members.ensures j))) in
    kept-from c.args.old.now c.args.new.now same c.is_ascending.result up
