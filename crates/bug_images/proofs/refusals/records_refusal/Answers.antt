use Rattle.std.proofs.Common.{◌≡◌, List, Option, Some, None, ℕ, Result, Ok, Err, refl, sym, ◌∙◌}
use Rattle.std.specs.Prelude.{IfOk}
use Rattle.std.specs.Option.{option_or, option_copied}
use Rattle.version_nodes.specs.Nodes.{Node}
use Rattle.bug_record.specs.Bugs.{first_of}
use Rattle.bug_record.specs.Commands.{bug_named, other_bugs}
use Rattle.bug_record.specs.Images.{numbers_of, bug_in, image_with}
use Rattle.bug_record.specs.Steps.{own_tests}
use Rattle.bug_record.specs.Words.{archived_refusal, first_bug_refusal, first_may_be_archived, others_may_be_archived}
use Rattle.bug_record.specs.declared.bug.SetImage.{SetImage}
use Rattle.bug_record.specs.declared.command.Command.{Command}
use Rattle.bug_record.specs.declared.command.Refusal.{Refusal}
use Rattle.bug_images.specs.Refusals.{records_refusal}
use Rattle.bug_images.proofs.RefusalLemmas.{shown-refusal}
use Rattle.bug_images.proofs.refusals.records_refusal.Goals as goal

-- the refusal, by its three parts
by_parts : (command : Command ℕ) (head : Option Node) (is : List SetImage) (i : SetImage) (archived others own : Option Refusal)
    → image_with is (bug_named command) ≡ Some i
    → archived ≡ archived_refusal (first_may_be_archived command) (bug_named command) i.shared
    → others ≡ first_bug_refusal (others_may_be_archived command) (bug_in is) (other_bugs command)
    → own ≡ first_of (own_tests command head (numbers_of i.members) i.shared)
    → option_or (option_or archived others) own ≡ records_refusal command head is i
by_parts command head is i archived others own h a o p = λ j.
    option_or (option_or ((a ∙ sym (shown-refusal (first_may_be_archived command) is (bug_named command) i h)) j) (o j)) (p j)

pub returns-in-Some : goal.returns-in-Some
returns-in-Some c =
    by_parts c.args.command.now (option_copied c.args.open_head) c.args.images.now c.args.image.now (Some c.in-Some.refusal) _ _
    c.requires.named
    (sym c.in-Some.is ∙ c.archived_refusal.ensures
    ∙ (λ j. archived_refusal (c.first_may_be_archived.ensures j) (c.bug_named-number.ensures j) (c.fields.ensures j))) refl refl

pub returns-in-Some-2 : goal.returns-in-Some-2
returns-in-Some-2 c =
    by_parts c.args.command.now (option_copied c.args.open_head) c.args.images.now c.args.image.now None (Some c.in-Some-2.refusal)
    _ c.requires.named
    (sym c.in_default.is ∙ c.archived_refusal.ensures
    ∙ (λ j. archived_refusal (c.first_may_be_archived.ensures j) (c.bug_named-number.ensures j) (c.fields.ensures j)))
    (sym c.in-Some-2.is ∙ c.in_ok-refusal.ensures) refl

pub returns : goal.returns
returns c = given c.own_refusal.result c.own_refusal.ensures
  where
    given : {E : Type 0} (r : Result (Option Refusal) E)
        → IfOk r (λ refusal. refusal ≡ first_of (own_tests c.args.command.now (option_copied c.args.open_head)
        (numbers_of c.args.image.now.members) c.args.image.now.shared))
        → IfOk r (λ refusal. refusal ≡ records_refusal c.args.command.now (option_copied c.args.open_head) c.args.images.now
        c.args.image.now)
    given (Err e) h = tt
    given (Ok refusal) h =
        by_parts c.args.command.now (option_copied c.args.open_head) c.args.images.now c.args.image.now None None refusal
        c.requires.named
        (sym c.in_default.is ∙ c.archived_refusal.ensures
        ∙ (λ j. archived_refusal (c.first_may_be_archived.ensures j) (c.bug_named-number.ensures j) (c.fields.ensures j)))
        (sym c.in_default-2.is ∙ c.in_ok-refusal.ensures) h
