use Rattle.std.proofs.Common.{◌≡◌, ℕ, List, sym, ap, ◌∙◌}
use Rattle.std.specs.Prelude.{option_map}
use Rattle.std.specs.List.{find}
use Rattle.bug_record.specs.Images.{numbers_of}
use Rattle.bug_record.specs.Sets.{has, number_set}
use Rattle.bug_record.specs.declared.bug.Member.{Member}
use Rattle.bug_record.specs.declared.command.Refusal.TheVariants.{OwnSet}
use Rattle.base_sequences.proofs.SetLemmas.{has-number_set}
use Rattle.bug_images.proofs.refusals.own_set_refusal.Goals as goal

-- the numbers of the set are the members'
same : (keys numbers : List ℕ) (ms ns : List Member) → keys ≡ number_set (numbers_of ms) → ms ≡ ns
    → find (has keys) numbers ≡ find (has (numbers_of ns)) numbers
same keys numbers ms ns e m =
    λ j. find (λ n. (ap (λ z. has z n) e ∙ has-number_set (numbers_of ms) n ∙ ap (λ (z : List Member). has (numbers_of z) n) m) j)
    numbers

pub returns-in-Some : goal.returns-in-Some
returns-in-Some c = ap (option_map OwnSet) (sym c.in-Some.is ∙ c.first_in.ensures
    ∙ same c.in_ok-own.own.keys c.args.numbers.now c.as_slice.result.now c.args.image.now.members c.in_ok-own.ensures c.as_slice.ensures)

pub returns : goal.returns
returns c = ap (option_map OwnSet) (sym c.in-None.is ∙ c.first_in.ensures
    ∙ same c.in_ok-own.own.keys c.args.numbers.now c.as_slice.result.now c.args.image.now.members c.in_ok-own.ensures c.as_slice.ensures)
