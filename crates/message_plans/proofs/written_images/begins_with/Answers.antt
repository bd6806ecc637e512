use Rattle.std.proofs.Common.{◌≡◌, ℕ, Bool, true, false, ◌||◌, List, [], ◌∷◌, Some, IsTrue, sym, ap, ◌∙◌, subst}
use Rattle.std.specs.Prelude.{slice_get}
use Rattle.std.specs.Option.{option_copied}
use Rattle.std.proofs.lemmas.Bool.{false≢true}
use Rattle.std.proofs.lemmas.Option.{none-some, same_Some}
use Rattle.bug_record.specs.Sets.{has}
use Rattle.bug_record.specs.declared.bug.Member.{Member}
use Rattle.message_plans.specs.Images.{meets}
use Rattle.base_sequences.proofs.SetLemmas.{contains-has}
use Rattle.message_plans.proofs.written_images.begins_with.Goals as goal

first-meets : (P : ℕ → Bool) (ms : List Member) (m : Member) → slice_get ms 0 ≡ Some m → IsTrue (P m.number) → IsTrue (meets P ms)
first-meets P [] m e h = absurd (none-some m e)
first-meets P (k ∷ ms) m e h = either (P k.number) (subst (λ (z : Member). IsTrue (P z.number)) (sym (same_Some k m e)) h)
  where
    either : (b : Bool) → IsTrue b → IsTrue (b || meets P ms)
    either true t = t
    either false t = absurd (false≢true t)

pub returns-in-Some : goal.returns-in-Some
returns-in-Some c = λ t.
    first-meets (has c.args.numbers.now) c.args.image.now.members c.in-Some.member.now
    (ap (λ (ms : List Member). slice_get ms 0) (sym c.as_slice.ensures) ∙ sym c.first.ensures.value ∙ ap option_copied c.in-Some.is)
    (subst IsTrue (c.contains.ensures.value ∙ contains-has c.args.numbers.now c.in-Some.member.now.number) t)
