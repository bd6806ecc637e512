use Rattle.std.proofs.Common.{rules, ℕ, BTreeSet, refl, sym, ap, ◌∙◌}
use Rattle.std.specs.BTreeSet.{contains}
use Rattle.std.specs.Ordering.{nat_cmp}
use Rattle.std.proofs.lemmas.Bool.{not-true, not-false}
use Rattle.store_contract.proofs.KnownLemmas.{seen-more, twice-more, once-more}
use Rattle.store_contract.proofs.known.repeated.Goals.{then-not-branch+in_ok-insert-2, else-not-branch}
use Rattle.store_contract.proofs.known.repeated.Goals as goal

pub loop-name-preserved : goal.loop-name-preserved
loop-name-preserved c =
    let seen = contains nat_cmp c.loop-name.seen in
    let found = contains nat_cmp c.loop-name.found in
    record {
      seen = seen-more c.args.names.now c.loop-name.name-index _ seen (contains nat_cmp c.insert.new.self)
          c.loop-name-test.true refl c.in_ok-insert.ensures.updates.0 c.loop-name.invariant.seen;
      found = elim c.if-not-branch.branch [
        | then-not-branch+in_ok-insert-2 w ↦ twice-more c.args.names.now c.loop-name.name-index _ seen found
            (contains nat_cmp c.if-not-branch.found) c.loop-name-test.true refl
            (λ k. ap (λ (s : BTreeSet ℕ). contains nat_cmp s k) w.found-is ∙ w.in_ok-insert-2.ensures.updates.0 k)
            c.loop-name.invariant.seen
            (not-false _ (sym c.in_ok-insert.ensures.added ∙ w.if-not-branch.true)) c.loop-name.invariant.found
        | else-not-branch w ↦ λ k. ap (λ (s : BTreeSet ℕ). contains nat_cmp s k) w.found-is
            ∙ once-more c.args.names.now c.loop-name.name-index _ seen found c.loop-name-test.true refl
            c.loop-name.invariant.seen
            (not-true _ (sym c.in_ok-insert.ensures.added ∙ w.if-not-branch.false)) c.loop-name.invariant.found k
      ];
    }

pub returns-in_err-insert : goal.returns-in_err-insert
returns-in_err-insert c = search rules

pub returns-in_err-insert-2 : goal.returns-in_err-insert-2
returns-in_err-insert-2 c = search rules
