use Rattle.std.proofs.Common.{◌≡◌, ℕ, true, false, cond, ◌||◌, eqb, List, [], ◌∷◌, Option, Some, None, Bor, refl, ap, ◌∙◌}
use Rattle.std.specs.Prelude.{is_some}
use Rattle.std.specs.Option.{option_copied}
use Rattle.bug_record.specs.Sets.{has}
use Rattle.bug_record.specs.Images.{numbers_of, member_at}
use Rattle.bug_record.specs.declared.bug.Member.{Member}
use Rattle.bug_core.proofs.joins.is_member.Goals as goal

there : (ms : List Member) (n : ℕ) → is_some (member_at ms n) ≡ has (numbers_of ms) n
there [] n = refl
there (m ∷ ms) n =
    elim (eqb m.number n) as (λ t. is_some (cond t (Some m) (member_at ms n)) ≡ (t || has (numbers_of ms) n))
    [ true ↦ refl | false ↦ there ms n ]

lent-some : {A : Type 0} (r : Option (Bor A)) → is_some r ≡ is_some (option_copied r)
lent-some None = refl
lent-some (Some x) = refl

pub returns : goal.returns
returns c =
    c.is_some.ensures ∙ lent-some c.member_at.result ∙ ap is_some c.member_at.ensures
    ∙ there c.args.members.now c.args.number
