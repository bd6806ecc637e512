use Rattle.std.proofs.Common.{◌≡◌, ℕ, ◌||◌, List, [], ◌∷◌, refl, rules, ap, ◌∙◌, ◌==◌}
use Rattle.std.specs.List.{list_any}
use Rattle.std.proofs.lemmas.Iterator.{YieldsList-from_slice}
use Rattle.std.proofs.lemmas.Iterator.Search.{any_from_yields_List}
use Rattle.base_sequences.specs.Sets.{has}
use Rattle.bug_record.specs.Images.{numbers_of}
use Rattle.bug_record.specs.declared.bug.Member.{Member}
use Rattle.bug_record.proofs.bug.SetImage.has.Goals as goal

-- whether a member has the number
any_number : (ms : List Member) (n : ℕ) → list_any (λ m. m.number == n) ms ≡ has (numbers_of ms) n
any_number [] n = refl
any_number (m ∷ ms) n = ap (λ t. (m.number == n) || t) (any_number ms n)

pub returns : goal.returns
returns c =
    any_from_yields_List (λ m. m.number == c.args.number) _ _ _ c.any.ensures.ran
    (YieldsList-from_slice c.args.self.now.members cc) (λ x b q k. search (rules, k))
    ∙ any_number c.args.self.now.members c.args.number
