use Rattle.std.proofs.Common.{ℕ, List, cond, Some, None, ap, sym, ◌∙◌}
use Rattle.std.specs.Prelude.{is_some}
use Rattle.std.specs.Option.{option_or}
use Rattle.std.specs.Prelude.{nat_eq}
use Rattle.std.specs.HashMap.{get}
use Rattle.std.proofs.lemmas.Result.{on_ok_weaker}
use Rattle.bug_record.specs.Sets.{has}
use Rattle.bug_record.specs.declared.bug.SetImage.{SetImage}
use Rattle.store_sets.specs.PlacesOfImages.{place_in}
use Rattle.store_sets.specs.declared.places.Place.TheVariants.{After}
use Rattle.store_sets.proofs.PlaceLemmas.{all-there, put-over, taken-out, on_err_from_ok}
use Rattle.store_sets.proofs.places.put_all.Goals as goal

pub returns-in-Err-clause-err : goal.returns-in-Err-clause-err
returns-in-Err-clause-err c =
    let mid = c.add_places.new.bugs in
    let fresh = c.in_ok-fresh in
    taken-out c.args.bugs.now mid c.args.images.now fresh.fresh.items fresh.ensures c.remove_all.new.bugs
    (λ n e. c.in-Err.ensures.err n (ap (λ (ns : List ℕ). has ns n) c.as_slice.ensures.value ∙ e))
    (λ n. c.remove_all.ensures n ∙ ap (λ (ns : List ℕ). cond (has ns n) None (get nat_eq mid n)) c.as_slice-in-Err.ensures.value)

pub returns-clause-ok : goal.returns-clause-ok
returns-clause-ok c =
    let old = c.args.bugs.now in
    let mid = c.add_places.new.bugs in
    let fresh = c.in_ok-fresh in
    on_ok_weaker c.put_copies.result
    (λ h. put-over old mid c.args.images.now fresh.fresh.items fresh.ensures c.put_copies.new.bugs
    (λ n. c.in-Ok.ensures.ok n
    ∙ ap (λ (ns : List ℕ). cond (has ns n) (Some (After n)) (get nat_eq old n)) c.as_slice.ensures.value)
    (λ n. h n ∙ ap (λ (is : List SetImage). option_or (place_in is n) (get nat_eq mid n)) c.in_ok-copies.ensures))
    c.put_copies.ensures.ok

pub returns-clause-err : goal.returns-clause-err
returns-clause-err c =
    let old = c.args.bugs.now in
    let fresh = c.in_ok-fresh in
    on_err_from_ok c.put_copies.result _ (c.put_copies.ensures.known (λ n k.
    all-there old c.add_places.new.bugs c.args.images.now fresh.fresh.items fresh.ensures
    (λ m. c.in-Ok.ensures.ok m
    ∙ ap (λ (ns : List ℕ). cond (has ns m) (Some (After m)) (get nat_eq old m)) c.as_slice.ensures.value)
    n (sym (ap (λ (is : List SetImage). is_some (place_in is n)) c.in_ok-copies.ensures) ∙ k)))
