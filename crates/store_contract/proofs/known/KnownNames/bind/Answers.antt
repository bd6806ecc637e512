use Rattle.std.proofs.Common.{◌≡◌, ◌≤◌, ◌++◌, ◌∷◌, ◌+◌, [], ℕ, length, drop, rules, arith, sym, ap, subst, ◌∙◌}
use Rattle.std.specs.Prelude.{zip, nat_eq}
use Rattle.std.proofs.lemmas.List.{length_push, length-drop, append-nil}
use Rattle.std.proofs.lemmas.Slice.Zip.{zip_turn, zip_end}
use Rattle.indexmap.specs.IndexMap.{spare}
use Rattle.indexmap.proofs.CallerLemmas.{insert_entry-new}
use Rattle.bug_record.specs.Words.{Names}
use Rattle.bug_record.specs.Clones.{name_refusal}
use Rattle.store_contract.specs.Known.{Known}
use Rattle.store_contract.proofs.KnownLemmas.{AreFree, all-free, is-left, free-after, pairs-left, none-left, number-got, from_ok}
use Rattle.store_contract.proofs.known.KnownNames.bind.Goals as goal

pub loop-name-init : goal.loop-name-init
loop-name-init c = record {
  bound = ap (λ (k : Known). k.names ++ zip c.args.names.now c.args.numbers.now) c.self.view_is;
  free = all-free c.self.inside.numbers.entries c.args.names.now
      (ap (λ (k : Known). name_refusal k.names c.args.names.now) c.self.view_is ∙ c.requires.free);
  room = subst (λ (k : Known). length c.args.names.now ≤ k.room) (sym c.self.view_is) c.requires.room;
}

pub loop-name-preserved : goal.loop-name-preserved
loop-name-preserved c =
    let turn = zip_turn c.args.names.now c.args.numbers.now c.loop-name.yielded c.into_iter-name-iterator.result
    c.loop-name.name-iterator c.next.new.self c.next.result (search rules) (search rules) c.loop-name.yielded_by
    (c.in-Some.name, c.in-Some.number) c.in-Some.is c.next.ensures.steps in
    let names : Names = c.loop-name.self-inside.numbers.entries in
    let i : ℕ = length c.loop-name.yielded in
    let free : AreFree names (c.in-Some.name.now ∷ drop (i + 1) c.args.names.now)
    = is-left names c.args.names.now i c.in-Some.name.now turn.0 (turn.2 0) c.loop-name.invariant.free in
    let some = length-drop i c.args.names.now in
    let push = length_push c.loop-name.yielded (c.in-Some.name, c.in-Some.number) in
    let room = c.loop-name.invariant.room in
    let done = from_ok c.insert.result _ (c.insert.ensures.succeeds (omega (arith, some, room, turn.0))) c.insert.ensures.entries in
    let new : c.insert.new.self.entries ≡ names ++ (c.in-Some.name.now, c.in-Some.number.now) ∷ []
    = done ∙ insert_entry-new nat_eq c.loop-name.self-inside.numbers c.in-Some.name.now c.in-Some.number.now
    (number-got names c.in-Some.name.now ∙ free.0) in
    record {
      bound = ap (λ (k : ℕ). c.insert.new.self.entries ++ zip (drop k c.args.names.now) (drop k c.args.numbers.now)) push
          ∙ (ap (λ (es : Names). es ++ zip (drop (i + 1) c.args.names.now) (drop (i + 1) c.args.numbers.now)) new
          ∙ (pairs-left names c.args.names.now c.args.numbers.now i c.in-Some.name.now c.in-Some.number.now turn.0 turn.1
          (turn.2 0) (turn.3 0)
          ∙ c.loop-name.invariant.bound));
      free = subst (λ (k : ℕ). AreFree c.insert.new.self.entries (drop k c.args.names.now)) (sym push)
          (subst (λ (es : Names). AreFree es (drop (i + 1) c.args.names.now)) (sym new)
          (free-after names c.in-Some.name.now c.in-Some.number.now (drop (i + 1) c.args.names.now) free.1 free.2));
      room = subst (λ (k : ℕ). length (drop k c.args.names.now) ≤ spare c.insert.new.self) (sym push)
          (omega (arith, some, length-drop (i + 1) c.args.names.now, room, c.insert.ensures.spare, turn.0));
    }

pub returns : goal.returns
returns c =
    let end = zip_end c.args.names.now c.args.numbers.now c.loop-name.yielded c.into_iter-name-iterator.result
    c.loop-name.name-iterator c.next.new.self c.next.result (search rules) (search rules) c.loop-name.yielded_by
    c.in-None.is c.next.ensures.steps in
    sym (append-nil c.loop-name.self-inside.numbers.entries)
    ∙ (ap (λ (ps : Names). c.loop-name.self-inside.numbers.entries ++ ps)
    (sym (none-left c.args.names.now c.args.numbers.now (length c.loop-name.yielded) end))
    ∙ c.loop-name.invariant.bound)
