use Rattle.std.proofs.Common.{◌≡◌, ◌+◌, ◌<◌, ℕ, List, [], ◌∷◌, Option, Some, None, drop, length, get_or, refl, sym, ap, ◌∙◌}
use Rattle.std.specs.Option.{option_or, option_copied}
use Rattle.std.proofs.lemmas.List.{drop_more}
use Rattle.std.proofs.lemmas.Result.{IfOk-from_err}
use Rattle.bug_record.specs.Bugs.{with_bug, bugs_at}
use Rattle.bug_record.specs.Images.{bug_in}
use Rattle.bug_record.specs.Merges.{first_owner}
use Rattle.bug_record.specs.declared.bug.Bug.{Bug}
use Rattle.bug_core.proofs.joins.first_owner.Goals as goal

pub returns-in_err-copy : goal.returns-in_err-copy
returns-in_err-copy c = IfOk-from_err _ _ c.from_residual.ensures.0

-- the owner of the first bug, or of those after it
by_owner : (o : Option Bug) (bugs : List Bug) → first_owner (with_bug o bugs) ≡ option_or (first_owner (with_bug o [])) (first_owner bugs)
by_owner None bugs = refl
by_owner (Some b) bugs = ap (λ (x : Option (List ℕ)). option_or x (first_owner bugs)) (or_none b.shared.owner)
  where
    or_none : (x : Option (List ℕ)) → x ≡ option_or x None
    or_none None = refl
    or_none (Some y) = refl

-- of numbers from one on
from_one : (bug : ℕ → Option Bug) (ns : List ℕ) (k : ℕ) (x : Option (List ℕ)) → k < length ns
    → x ≡ first_owner (bugs_at bug (get_or ns k 0 ∷ []))
    → first_owner (bugs_at bug (drop k ns)) ≡ option_or x (first_owner (bugs_at bug (drop (k + 1) ns)))
from_one bug ns k x inside e =
    ap (λ ms. first_owner (bugs_at bug ms)) (drop_more ns k 0 inside)
    ∙ by_owner (bug (get_or ns k 0)) (bugs_at bug (drop (k + 1) ns))
    ∙ ap (λ (o : Option (List ℕ)). option_or o (first_owner (bugs_at bug (drop (k + 1) ns)))) (sym e)

pub loop-number-preserved : goal.loop-number-preserved
loop-number-preserved c =
    sym (from_one (bug_in c.args.lookup.now) c.args.numbers.now c.loop-number.number-index None c.loop-number-test.true
    (sym (ap option_copied c.in_default.is) ∙ c.owner_of.ensures))
    ∙ c.loop-number.invariant

pub returns-in-Some : goal.returns-in-Some
returns-in-Some c =
    ap Some c.in_ok-copy.ensures
    ∙ sym (from_one (bug_in c.args.lookup.now) c.args.numbers.now c.loop-number.number-index (Some c.in-Some.owner.now)
    c.loop-number-test.true (sym (ap option_copied c.in-Some.is) ∙ c.owner_of.ensures))
    ∙ c.loop-number.invariant
