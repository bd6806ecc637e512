use Rattle.std.proofs.Common.{◌≡◌, ◌∙◌, ◌++◌, ℕ, List, [], ◌∷◌, Option, Some, None, refl, sym, ap, subst, rules, string_bytes, Result, Ok, Err, OnOk, OnErr}
use Rattle.std.proofs.lemmas.Map.Text.{btree_map_updates_text}
use Rattle.std.specs.BTreeMap.{get_by_text}
use Rattle.std.specs.Map.{update}
use Rattle.std.specs.Str.{bytes_eq}
use Rattle.bug_record.specs.declared.outcome.Outcome.{Outcome}
use Rattle.store_contract.specs.Kept.{IsOfMessage, outcomes_kept}
use Rattle.store_contract.specs.declared.kept.Kept.{Kept}
use Rattle.memory_desk.specs.KeptMessages.{keeping_of}
use Rattle.store_contract.proofs.KeepLemmas.{kept_now}
use Rattle.memory_desk.proofs.KeptMessageLemmas.{PutsAt, put-also, put-same, longer}
use Rattle.memory_desk.proofs.kept_messages.KeptMessages.add.Goals as goal

on_ok : {T E : Type 0} {P : Type 0} (r : Result T E) → ((t : T) → r ≡ Ok t → P) → OnOk r P
on_ok (Ok t) f = f t refl
on_ok (Err e) f = tt

on_err : {T E : Type 0} {P : Type 0} (r : Result T E) → ((e : E) → r ≡ Err e → P) → OnErr r P
on_err (Ok t) f = tt
on_err (Err e) f = f e refl

at_ok : {T E : Type 0} {P : Type 0} (r : Result T E) (t : T) → r ≡ Ok t → OnOk r P → P
at_ok r t e p = rw e at p

at_err : {T E : Type 0} {P : Type 0} (r : Result T E) (x : E) → r ≡ Err x → OnErr r P → P
at_err r x e p = rw e at p

pub returns-in-Some-clause-ok : goal.returns-in-Some-clause-ok
returns-in-Some-clause-ok c = on_ok c.push.result (λ t ok.
    let old = keeping_of c.args.self.now in
    let k = c.in-Some.kept.now in
    let w : Kept = record k { outcomes = c.push.new.self } in
    let there : Some k ≡ old c.args.id.now = c.in-Some.ensures.value in
    let same : IsOfMessage c.args.from.now c.args.message.now (Some k) =
    subst (IsOfMessage c.args.from.now c.args.message.now) (sym there) c.requires in
    let puts = btree_map_updates_text c.args.id.now c.args.self.now.by_id (c.get_mut.follows.lender w) (Some w)
    ((c.get_mut.follows.holds w).3 (search rules)) in
    let is : w ≡ kept_now c.args.from.now c.args.message.now (outcomes_kept (old c.args.id.now) ++ c.args.outcome ∷ []) =
    ap (λ (os : List Outcome). record k { outcomes = os }) (at_ok c.push.result t ok c.push.ensures.ok)
    ∙ longer k c.args.from.now c.args.message.now (k.outcomes ++ c.args.outcome ∷ []) same
    ∙ ap (λ (o : Option Kept). kept_now c.args.from.now c.args.message.now (outcomes_kept o ++ c.args.outcome ∷ [])) there in
    put-also c.args.id.now c.args.from.now c.args.message.now c.args.outcome old (keeping_of (record { by_id = c.get_mut.follows.lender w })) w is puts)

pub returns-in-Some-clause-err : goal.returns-in-Some-clause-err
returns-in-Some-clause-err c = on_err c.push.result (λ x err.
    let old = keeping_of c.args.self.now in
    let k = c.in-Some.kept.now in
    let w : Kept = record k { outcomes = c.push.new.self } in
    let there : Some k ≡ old c.args.id.now = c.in-Some.ensures.value in
    let puts = btree_map_updates_text c.args.id.now c.args.self.now.by_id (c.get_mut.follows.lender w) (Some w)
    ((c.get_mut.follows.holds w).3 (search rules)) in
    let is : Some k ≡ Some w = ap (λ (os : List Outcome). Some (record k { outcomes = os })) (sym (at_err c.push.result x err c.push.ensures.err)) in
    put-same c.args.id.now (Some w) old (keeping_of (record { by_id = c.get_mut.follows.lender w })) (sym there ∙ is) puts)

pub returns-in_ok-insert-in-None-clause-ok : goal.returns-in_ok-insert-in-None-clause-ok
returns-in_ok-insert-in-None-clause-ok c =
    let old = keeping_of c.args.self.now in
    let id = c.args.id.now in
    let key : string_bytes c.in_ok-id-in-None.id ≡ id = c.in_ok-id-in-None.ensures.ok in
    let k = c.in_ok-kept-in-None.kept in
    let none : None ≡ old id = c.in-None.ensures.value in
    let is : k ≡ kept_now c.args.from.now c.args.message.now (outcomes_kept (old id) ++ c.args.outcome ∷ []) =
    c.in_ok-kept-in-None.ensures
    ∙ ap (λ (o : Option Kept). kept_now c.args.from.now c.args.message.now (outcomes_kept o ++ c.args.outcome ∷ [])) none in
    let puts = btree_map_updates_text (string_bytes c.in_ok-id-in-None.id) c.get_mut.follows.lender-at-none c.insert.new.self (Some k) c.in_ok-insert-in-None.ensures.updates in
    let before : (other : List ℕ) → get_by_text c.get_mut.follows.lender-at-none other ≡ old other =
    λ other. rw c.get_mut.follows.holds-at-none in
    let at : PutsAt id (Some k) old (keeping_of (record { by_id = c.insert.new.self })) =
    λ other. puts other
    ∙ (λ i. update bytes_eq (λ one. before one i) (key i) (Some k) other) in
    put-also id c.args.from.now c.args.message.now c.args.outcome old (keeping_of (record { by_id = c.insert.new.self })) k is at
