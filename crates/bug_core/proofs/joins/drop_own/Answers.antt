use Rattle.std.proofs.Common.{◌≡◌, ℕ, Bool, false, cond, List, [], ◌∷◌, refl, sym, ap, ◌∙◌}
use Rattle.std.specs.Prelude.{not, filter}
use Rattle.std.specs.List.{list_any}
use Rattle.std.proofs.lemmas.Bool.{or_parts}
use Rattle.bug_record.specs.Sets.{has}
use Rattle.bug_record.specs.Images.{numbers_of}
use Rattle.bug_record.specs.declared.bug.Member.{Member}
use Rattle.bug_record.specs.declared.bug.Shared.{Shared}
use Rattle.bug_core.specs.Joins.{without_own}
use Rattle.bug_core.specs.Others.{has_any}
use Rattle.bug_core.proofs.NamedLemmas.{has-set}
use Rattle.bug_core.proofs.joins.drop_own.Goals as goal

pub returns : goal.returns
returns c = λ j. record c.args.shared.now {
  blockers = (c.remove_set.ensures
      ∙ (λ k. filter (λ n. not (has-set c.in_ok-own.own.keys (numbers_of c.args.members.now) c.in_ok-own.ensures n k))
      c.args.shared.now.blockers)) j;
}

-- where none of them passes a test, all that fail it
all_kept : (p : ℕ → Bool) (ns : List ℕ) → list_any p ns ≡ false → filter (λ n. not (p n)) ns ≡ ns
all_kept p [] e = refl
all_kept p (n ∷ ns) e =
    let none = or_parts (p n) (list_any p ns) e in
    ap (λ t. cond (not t) (n ∷ filter (λ m. not (p m)) ns) (filter (λ m. not (p m)) ns)) none.0
    ∙ ap (λ ms. n ∷ ms) (all_kept p ns none.1)

no_blockers : (ms : List Member) (f : Shared) (bs : List ℕ) → bs ≡ f.blockers → has_any (numbers_of ms) bs ≡ false
    → f ≡ without_own ms f
no_blockers ms f bs e none =
    λ j. record f { blockers = sym (all_kept (has (numbers_of ms)) f.blockers (ap (has_any (numbers_of ms)) (sym e) ∙ none)) j }

pub returns-then-are_few_others : goal.returns-then-are_few_others
returns-then-are_few_others c =
    no_blockers c.args.members.now c.args.shared.now c.as_slice.result.now c.as_slice.ensures
    (c.are_few_others.ensures c.if-are_few_others.true)
