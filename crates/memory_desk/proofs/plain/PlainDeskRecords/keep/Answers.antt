use Rattle.std.proofs.Common.{◌≡◌, ◌∙◌, ℕ, List, true, false, Result, Ok, Err, OnOk, OnErr, refl, sym, ap, subst}
use Rattle.std.specs.Option.{option_copied}
use Rattle.std.specs.Result.{is_err}
use Rattle.std.proofs.lemmas.Bool.{false≢true}
use Rattle.store_contract.specs.Kept.{Keeping, AreGoodKept, kept_also}
use Rattle.store_sets.specs.Plain.{desk_of}
use Rattle.bug_record.specs.declared.outcome.Outcome.{Outcome}
use Rattle.memory_desk.specs.KeptMessages.{keeping_of, without_last}
use Rattle.store_contract.specs.Store.{with_change}
use Rattle.memory_desk.proofs.PlainLemmas.{desk_of-same, made-sound}
use Rattle.memory_desk.proofs.KeptMessageLemmas.{without_last-also, added-good}
use Rattle.store_contract.proofs.KeepLemmas.{kept_also-good}
use Rattle.memory_desk.proofs.plain.PlainDeskRecords.keep.Goals as goal

pub invariant_of-self : goal.invariant_of-self
invariant_of-self c =
    let old = c.args.self.now in
    let kept = keeping_of old.messages in
    let more : AreGoodKept (kept_also c.args.id.now c.args.from.now c.args.message.now c.in-Ok.outcome kept) =
    subst (λ (o : Outcome). AreGoodKept (kept_also c.args.id.now c.args.from.now c.args.message.now o kept)) (sym c.in-Ok.ensures)
    (kept_also-good c.args.id.now c.args.from.now c.args.message.now kept (desk_of old.bugs old.tree old.next) c.args.outcome.now
    (with_change (option_copied c.args.change) (desk_of old.bugs old.tree old.next)) c.requires.may.next old.sound c.requires.sender c.requires.may.good old.good) in
    record {
      sound = old.sound;
      good = added-good c.add.result c.args.id.now c.args.from.now c.args.message.now c.in-Ok.outcome kept (keeping_of c.add.new.self)
          old.good more c.add.ensures.ok c.add.ensures.err;
    }

on_failure : {T E : Type 0} {P : Type 0} (r : Result T E) → is_err r ≡ true → OnErr r P → P
on_failure (Ok t) e p = absurd (false≢true e)
on_failure (Err x) e p = p

pub returns-then-is_err-clause-kept : goal.returns-then-is_err-clause-kept
returns-then-is_err-clause-kept c =
    (refl, on_failure c.add.result (sym c.is_err.ensures.value ∙ c.if-is_err.true) c.add.ensures.err)

pub invariant_of-self-in-Ok-make : goal.invariant_of-self-in-Ok-make
invariant_of-self-in-Ok-make c =
    let old = c.args.self.now in
    let kept = keeping_of old.messages in
    let more : AreGoodKept (kept_also c.args.id.now c.args.from.now c.args.message.now c.in-Ok.outcome kept) =
    subst (λ (o : Outcome). AreGoodKept (kept_also c.args.id.now c.args.from.now c.args.message.now o kept)) (sym c.in-Ok.ensures)
    (kept_also-good c.args.id.now c.args.from.now c.args.message.now kept (desk_of old.bugs old.tree old.next) c.args.outcome.now
    (with_change (option_copied c.args.change) (desk_of old.bugs old.tree old.next)) c.requires.may.next old.sound c.requires.sender c.requires.may.good old.good) in
    record {
      sound = made-sound c.make.result old.bugs c.make.new.bugs old.tree old.next c.make.new.next (option_copied c.args.change) old.sound
          c.requires.fits c.make.ensures.ok c.make.ensures.bugs c.make.ensures.next;
      good = added-good c.add.result c.args.id.now c.args.from.now c.args.message.now c.in-Ok.outcome kept (keeping_of c.add.new.self)
          old.good more c.add.ensures.ok c.add.ensures.err;
    }

-- what is kept, once the outcome is taken back
on_success : {T E : Type 0} {P : Type 0} (r : Result T E) → is_err r ≡ false → OnOk r P → P
on_success (Ok t) e p = p
on_success (Err x) e p = absurd (false≢true (sym e))

taken_back : (now later old more : Keeping) (id : List ℕ) → now ≡ more → later ≡ without_last id now → without_last id more ≡ old → later ≡ old
taken_back now later old more id added taken e = taken ∙ ap (without_last id) added ∙ e

pub invariant_of-self-in-Err : goal.invariant_of-self-in-Err
invariant_of-self-in-Err c =
    let old = c.args.self.now in
    let kept = keeping_of old.messages in
    let more = kept_also c.args.id.now c.args.from.now c.args.message.now c.in-Ok.outcome kept in
    let back : keeping_of c.take_back.new.self ≡ kept =
    taken_back (keeping_of c.add.new.self) (keeping_of c.take_back.new.self) kept more c.args.id.now
    (on_success c.add.result (sym c.is_err.ensures.value ∙ c.if-is_err.false) c.add.ensures.ok) c.take_back.ensures
    (without_last-also c.args.id.now c.args.from.now c.args.message.now c.in-Ok.outcome kept c.requires.may.next.same old.good) in
    record {
      sound = made-sound c.make.result old.bugs c.make.new.bugs old.tree old.next c.make.new.next (option_copied c.args.change) old.sound
          c.requires.fits c.make.ensures.ok c.make.ensures.bugs c.make.ensures.next;
      good = subst AreGoodKept (sym back) old.good;
    }

pub returns-in-Err-clause-kept : goal.returns-in-Err-clause-kept
returns-in-Err-clause-kept c =
    let old = c.args.self.now in
    let kept = keeping_of old.messages in
    let more = kept_also c.args.id.now c.args.from.now c.args.message.now c.in-Ok.outcome kept in
    let back : keeping_of c.take_back.new.self ≡ kept =
    taken_back (keeping_of c.add.new.self) (keeping_of c.take_back.new.self) kept more c.args.id.now
    (on_success c.add.result (sym c.is_err.ensures.value ∙ c.if-is_err.false) c.add.ensures.ok) c.take_back.ensures
    (without_last-also c.args.id.now c.args.from.now c.args.message.now c.in-Ok.outcome kept c.requires.may.next.same old.good) in
    (desk_of-same old.bugs c.make.new.bugs old.tree old.next c.make.new.next c.in-Err.ensures.bugs c.in-Err.ensures.next, back)
