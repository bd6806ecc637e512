use Rattle.std.proofs.Common.{◌≡◌, ◌∙◌, ◌<◌, ◌≤◌, ℕ, List, length, Some, None, sym, ap, subst, rules}
use Rattle.std.proofs.lemmas.Map.Text.{btree_map_updates_text}
use Rattle.std.specs.BTreeMap.{get_by_text}
use Rattle.bug_record.specs.declared.outcome.Outcome.{Outcome}
use Rattle.store_contract.specs.Kept.{Keeping}
use Rattle.store_contract.specs.declared.kept.Kept.{Kept}
use Rattle.memory_desk.specs.KeptMessages.{keeping_of, shorter}
use Rattle.memory_desk.specs.declared.kept_messages.KeptMessages.{KeptMessages}
use Rattle.memory_desk.proofs.KeptMessageLemmas.{PutsAt, put-same, put-shorter, shorter-several, shorter-one}
use Rattle.memory_desk.proofs.kept_messages.KeptMessages.take_back.Goals as goal
use Rattle.memory_desk.proofs.kept_messages.KeptMessages.take_back.Goals.{in-Some+else-as_slice-gt1, in_default}

pub returns-then-as_slice-gt1 : goal.returns-then-as_slice-gt1
returns-then-as_slice-gt1 c =
    let old = keeping_of c.args.self.now in
    let id = c.args.id.now in
    let k = c.in-Some.kept.now in
    let w : Kept = record k { outcomes = c.remove_last.new.outcomes } in
    let there : Some k ≡ old id = c.in-Some.ensures.value in
    let puts = btree_map_updates_text id c.args.self.now.by_id (c.get_mut.follows.lender w) (Some w)
    ((c.get_mut.follows.holds w).3 (search rules)) in
    let several : 1 < length k.outcomes = subst (λ (os : List Outcome). 1 < length os) c.as_slice.ensures c.if-as_slice-gt1.true in
    let is : shorter (old id) ≡ Some w =
    ap shorter (sym there) ∙ shorter-several k several
    ∙ ap (λ (os : List Outcome). Some (record k { outcomes = os })) (sym c.remove_last.ensures) in
    put-shorter id (Some w) old (keeping_of (record { by_id = c.get_mut.follows.lender w })) is puts

-- the map as the last outcome is looked for: it is as before, and there are not several outcomes
record BeforeRemoval (old now : KeptMessages) (id : List ℕ) : Type 0 where
  same : keeping_of now ≡ keeping_of old
  one : shorter (keeping_of old id) ≡ None

pub returns : goal.returns
returns c =
    let old = keeping_of c.args.self.now in
    let id = c.args.id.now in
    let before : BeforeRemoval c.args.self.now c.match-get_mut.self id = elim c.match-get_mut.branch [
      | in-Some+else-as_slice-gt1 w ↦ (
          let k = w.in-Some.kept.now in
          let there : Some k ≡ old id = w.in-Some.ensures.value in
          let puts = btree_map_updates_text id c.args.self.now.by_id (c.get_mut.follows.lender k) (Some k)
          ((c.get_mut.follows.holds k).3 (search rules)) in
          let few : length k.outcomes ≤ 1 = subst (λ (os : List Outcome). length os ≤ 1) w.as_slice.ensures w.if-as_slice-gt1.false in
          record {
            same = ap keeping_of w.self-is ∙ put-same id (Some k) old (keeping_of (record { by_id = c.get_mut.follows.lender k })) (sym there) puts;
            one = ap shorter (sym there) ∙ shorter-one k few;
          })
      | in_default w ↦ (
          let none : None ≡ old id = w.in_default.ensures.value in
          let before : (other : List ℕ) → get_by_text c.get_mut.follows.lender-at-none other ≡ old other =
          λ other. rw c.get_mut.follows.holds-at-none in
          record {
            same = ap keeping_of w.self-is ∙ (λ i other. before other i);
            one = ap shorter (sym none);
          })
    ] in
    let puts = btree_map_updates_text id c.match-get_mut.self.by_id c.remove.new.self None c.remove.ensures.updates in
    let now = keeping_of (record { by_id = c.remove.new.self }) in
    put-shorter id None old now before.one (subst (λ (m : Keeping). PutsAt id None m now) before.same puts)
