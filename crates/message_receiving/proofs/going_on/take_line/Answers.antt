use Rattle.std.proofs.Math.Nat.{add-zero}
use Rattle.std.proofs.Common.{ℕ, List, ◌+◌, sym, ap, subst, ◌∙◌, length, length-append}
use Rattle.message_recall.proofs.ToldLemmas.{line-told, line-untold}
use Rattle.std.specs.Option.{option_copied}
use Rattle.std.proofs.lemmas.Result.{err_from_is_err_and}
use Rattle.bug_record.specs.Images.{AreApart, HasMember, FitsDesk}
use Rattle.bug_record.specs.Sets.{Each}
use Rattle.base_words.specs.Texts.{IfGiven}
use Rattle.bug_record.specs.declared.command.Change.{Change}
use Rattle.store_contract.specs.Store.{with_change}
use Rattle.store_contract.specs.Kept.{kept_also}
use Rattle.store_contract.proofs.HoldsLemmas.{holds_then, holds_both}
use Rattle.message_receiving.proofs.GoingLemmas.{may-keep-since, takes-since, takes-none, carry}
use Rattle.message_receiving.proofs.CrashLemmas.{failed_since, made_since, asked_left, asked_once}
use Rattle.message_receiving.proofs.FailedLemmas.{on_err}
use Rattle.message_receiving.proofs.going_on.take_line.Goals as goal

pub keep-requires-clause-members : goal.keep-requires-clause-members
keep-requires-clause-members g c =
    let m = rw c.in-Ok-Some.field-0-is at c.in-Ok-Some.ensures.members in
    subst (IfGiven (λ (x : Change). Each HasMember x.images)) (sym c.as_ref.ensures.value) m

pub keep-requires-clause-apart : goal.keep-requires-clause-apart
keep-requires-clause-apart g c = λ k h.
    let f = rw c.in-Ok-Some.field-0-is at c.in-Ok-Some.ensures.fits in
    subst (IfGiven (λ (x : Change). AreApart x.images)) (sym c.as_ref.ensures.value) (f k h).apart

pub keep-requires-clause-fits : goal.keep-requires-clause-fits
keep-requires-clause-fits g c = λ k h.
    let f = rw c.in-Ok-Some.field-0-is at c.in-Ok-Some.ensures.fits in
    subst (IfGiven (FitsDesk _)) (sym c.as_ref.ensures.value) (f k h).fits

pub keep-requires-clause-next : goal.keep-requires-clause-next
keep-requires-clause-next g c =
    let a = rw c.in-Ok-Some.field-0-is at c.in-Ok-Some.ensures.answer in
    let there = rw c.in-Ok-Some.field-0-is at c.in-Ok-Some.ensures.told in
    record {
      earlier = c.requires.begun.earlier;
      holds = may-keep-since g.S.Records.is_kept g.S.Records.is_honest c.requires.begun.earlier c.args.store.now c.decide_line.new.store
          c.args.id.now c.args.from.now c.args.message.now c.args.line.now (g.S.Records.keeping c.args.store.now)
          (g.S.Records.keeping c.decide_line.new.store) (g.S.Records.desk c.args.store.now) (g.S.Records.desk c.decide_line.new.store)
          c.args.progress.now.outcomes.items c.args.progress.now.known.names c.decide_line.new.progress.known.names c.in-Ok-Some.decision
          (option_copied c.as_ref.result) c.requires.id c.requires.in_step.goes_on (c.requires.place (sym there)) c.decide_line.ensures.stays
          c.as_ref.ensures.value c.requires.begun.holds a.holds;
    }

pub returns-in_ok-keep-in-Ok-Some-clause-answer : goal.returns-in_ok-keep-in-Ok-Some-clause-answer
returns-in_ok-keep-in-Ok-Some-clause-answer g c = λ earlier h.
    let a = rw c.in-Ok-Some.field-0-is at c.in-Ok-Some.ensures.answer in
    let there = rw c.in-Ok-Some.field-0-is at c.in-Ok-Some.ensures.told in
    let ready = rw c.in-Ok-Some.field-0-is at c.in-Ok-Some.ensures.ready in
    takes-since g.S.Records.is_kept g.S.Records.is_honest earlier c.args.store.now c.decide_line.new.store c.keep.new.self c.args.id.now
    c.args.from.now c.args.message.now c.args.line.now _ (g.S.Records.keeping c.args.store.now)
    (g.S.Records.keeping c.decide_line.new.store) (g.S.Records.keeping c.keep.new.self) (g.S.Records.desk c.args.store.now)
    (g.S.Records.desk c.decide_line.new.store) (g.S.Records.desk c.keep.new.self) c.args.progress.now.outcomes.items
    c.decide_line.new.progress.outcomes.items c.settle.new.progress.outcomes.items c.args.progress.now.known.names
    c.decide_line.new.progress.known.names c.settle.new.progress.known.names c.in-Ok-Some.decision (option_copied c.as_ref.result)
    (c.requires.place (sym there)) c.decide_line.ensures.stays c.as_ref.ensures.value c.settle.ensures.names
    c.decide_line.ensures.outcomes ready.0 c.settle.ensures.added h a.holds
    (c.in_ok-keep-in-Ok-Some.ensures.answer earlier
    (may-keep-since g.S.Records.is_kept g.S.Records.is_honest earlier c.args.store.now c.decide_line.new.store c.args.id.now
    c.args.from.now c.args.message.now c.args.line.now (g.S.Records.keeping c.args.store.now)
    (g.S.Records.keeping c.decide_line.new.store) (g.S.Records.desk c.args.store.now) (g.S.Records.desk c.decide_line.new.store)
    c.args.progress.now.outcomes.items c.args.progress.now.known.names c.decide_line.new.progress.known.names c.in-Ok-Some.decision
    (option_copied c.as_ref.result) c.requires.id c.requires.in_step.goes_on (c.requires.place (sym there)) c.decide_line.ensures.stays
    c.as_ref.ensures.value h a.holds))
    c.in_ok-keep-in-Ok-Some.ensures.honest

pub returns-in_err-keep-in-Ok-Some-clause-crash : goal.returns-in_err-keep-in-Ok-Some-clause-crash
returns-in_err-keep-in-Ok-Some-clause-crash g c = λ earlier h.
    let a = rw c.in-Ok-Some.field-0-is at c.in-Ok-Some.ensures.answer in
    let there = rw c.in-Ok-Some.field-0-is at c.in-Ok-Some.ensures.told in
    let fault = err_from_is_err_and c.from_residual.result c.from_residual.ensures.1 in
    let may = may-keep-since g.S.Records.is_kept g.S.Records.is_honest earlier c.args.store.now c.decide_line.new.store c.args.id.now
    c.args.from.now c.args.message.now c.args.line.now (g.S.Records.keeping c.args.store.now)
    (g.S.Records.keeping c.decide_line.new.store) (g.S.Records.desk c.args.store.now) (g.S.Records.desk c.decide_line.new.store)
    c.args.progress.now.outcomes.items c.args.progress.now.known.names c.decide_line.new.progress.known.names c.in-Ok-Some.decision
    (option_copied c.as_ref.result) c.requires.id c.requires.in_step.goes_on (c.requires.place (sym there)) c.decide_line.ensures.stays
    c.as_ref.ensures.value h a.holds in
    rw fault.1 (failed_since g.S.Records.leaves g.S.Records.is_kept g.S.Records.is_honest earlier c.args.store.now
    c.decide_line.new.store c.keep.new.self c.args.id.now c.args.from.now c.args.message.now c.args.line.now
    (g.S.Records.keeping c.args.store.now) (g.S.Records.keeping c.decide_line.new.store) (g.S.Records.keeping c.keep.new.self)
    (g.S.Records.desk c.args.store.now) (g.S.Records.desk c.decide_line.new.store) (g.S.Records.desk c.keep.new.self)
    c.args.progress.now.outcomes.items c.args.progress.now.known.names c.decide_line.new.progress.known.names c.in-Ok-Some.decision
    (option_copied c.as_ref.result) c.decide_line.ensures.stays c.as_ref.ensures.value h a (c.in_err-keep-in-Ok-Some.ensures.answer earlier may)
    (c.in_err-keep-in-Ok-Some.ensures.crash earlier may) c.in_err-keep-in-Ok-Some.ensures.honest)

pub returns-in_ok-keep-in-Ok-Some-clause-crash : goal.returns-in_ok-keep-in-Ok-Some-clause-crash
returns-in_ok-keep-in-Ok-Some-clause-crash g c = λ earlier h.
    let a = rw c.in-Ok-Some.field-0-is at c.in-Ok-Some.ensures.answer in
    let there = rw c.in-Ok-Some.field-0-is at c.in-Ok-Some.ensures.told in
    let may = may-keep-since g.S.Records.is_kept g.S.Records.is_honest earlier c.args.store.now c.decide_line.new.store c.args.id.now
    c.args.from.now c.args.message.now c.args.line.now (g.S.Records.keeping c.args.store.now)
    (g.S.Records.keeping c.decide_line.new.store) (g.S.Records.desk c.args.store.now) (g.S.Records.desk c.decide_line.new.store)
    c.args.progress.now.outcomes.items c.args.progress.now.known.names c.decide_line.new.progress.known.names c.in-Ok-Some.decision
    (option_copied c.as_ref.result) c.requires.id c.requires.in_step.goes_on (c.requires.place (sym there)) c.decide_line.ensures.stays
    c.as_ref.ensures.value h a.holds in
    let made = (with_change (option_copied c.as_ref.result) (g.S.Records.desk c.decide_line.new.store)) in
    let keeps = kept_also c.args.id.now c.args.from.now c.args.message.now c.in-Ok-Some.decision.outcome
    (g.S.Records.keeping c.decide_line.new.store) in
    made_since g.S.Records.leaves g.S.Records.is_kept g.S.Records.is_honest earlier c.args.store.now c.keep.new.self
    (g.S.Records.desk c.args.store.now, g.S.Records.keeping c.args.store.now) (g.S.Records.desk c.keep.new.self) made
    (g.S.Records.keeping c.keep.new.self) keeps (c.in_ok-keep-in-Ok-Some.ensures.answer earlier may) (c.in_ok-keep-in-Ok-Some.ensures.crash earlier may)

pub returns-in_err-keep-in-Ok-Some-clause-answer : goal.returns-in_err-keep-in-Ok-Some-clause-answer
returns-in_err-keep-in-Ok-Some-clause-answer g c = λ earlier h.
    let a = rw c.in-Ok-Some.field-0-is at c.in-Ok-Some.ensures.answer in
    let there = rw c.in-Ok-Some.field-0-is at c.in-Ok-Some.ensures.told in
    let fault = err_from_is_err_and c.from_residual.result c.from_residual.ensures.1 in
    let may = may-keep-since g.S.Records.is_kept g.S.Records.is_honest earlier c.args.store.now c.decide_line.new.store c.args.id.now
    c.args.from.now c.args.message.now c.args.line.now (g.S.Records.keeping c.args.store.now)
    (g.S.Records.keeping c.decide_line.new.store) (g.S.Records.desk c.args.store.now) (g.S.Records.desk c.decide_line.new.store)
    c.args.progress.now.outcomes.items c.args.progress.now.known.names c.decide_line.new.progress.known.names c.in-Ok-Some.decision
    (option_copied c.as_ref.result) c.requires.id c.requires.in_step.goes_on (c.requires.place (sym there)) c.decide_line.ensures.stays
    c.as_ref.ensures.value h a.holds in
    rw fault.1 (carry (holds_both h a.holds) (c.in_err-keep-in-Ok-Some.ensures.answer earlier may)
    c.in_err-keep-in-Ok-Some.ensures.honest (λ p q. (q.0 ∙ p.1.1, q.1 ∙ c.decide_line.ensures.stays)))

pub returns-in-Err-clause-answer : goal.returns-in-Err-clause-answer
returns-in-Err-clause-answer g c = λ earlier h.
    holds_then h c.in-Err.ensures.answer.holds (λ b e. (e, c.decide_line.ensures.stays))

pub returns-in-Err-clause-crash : goal.returns-in-Err-clause-crash
returns-in-Err-clause-crash g c = λ earlier h.
    holds_then h (asked_left c.in-Err.ensures.answer)
    (λ b p first at_first.
    asked_once g.S.Records.leaves g.met.S.Records.either c.args.store.now c.decide_line.new.store _ _ _ _ _ p.0
    c.decide_line.ensures.stays p.1)

pub returns-in-Ok-None-clause-answer : goal.returns-in-Ok-None-clause-answer
returns-in-Ok-None-clause-answer g c = λ earlier h.
    let a = rw c.in-Ok-None.field-0-is at c.in-Ok-None.ensures.answer in
    holds_then h a.holds
    (λ b p. takes-none c.args.id.now c.args.from.now c.args.message.now c.args.line.now _ _ _ _ _ _ _ _ b (p.0 b.numbers).0
    c.decide_line.ensures.stays p.1 (p.0 b.numbers).1 c.decide_line.ensures.outcomes)

pub returns-in-Ok-None-clause-crash : goal.returns-in-Ok-None-clause-crash
returns-in-Ok-None-clause-crash g c = λ earlier h.
    let a = rw c.in-Ok-None.field-0-is at c.in-Ok-None.ensures.answer in
    holds_then h (asked_left a)
    (λ b p. asked_once g.S.Records.leaves g.met.S.Records.either c.args.store.now c.decide_line.new.store _ _ _ _ _ p.0.1
    c.decide_line.ensures.stays p.1)

pub returns-in-Ok-None-clause-length : goal.returns-in-Ok-None-clause-length
returns-in-Ok-None-clause-length g c =
    let there = rw c.in-Ok-None.field-0-is at c.in-Ok-None.ensures.told in
    ap length c.decide_line.ensures.outcomes
    ∙ (sym (add-zero (length c.args.progress.now.outcomes.items))
    ∙ ap (λ (w : List (List ℕ)). length c.args.progress.now.outcomes.items + length w) (sym (line-untold c.args.line.now (sym there))))

pub returns-in_ok-keep-in-Ok-Some-clause-length : goal.returns-in_ok-keep-in-Ok-Some-clause-length
returns-in_ok-keep-in-Ok-Some-clause-length g c =
    let there = rw c.in-Ok-Some.field-0-is at c.in-Ok-Some.ensures.told in
    ap length c.settle.ensures.added
    ∙ (length-append c.decide_line.new.progress.outcomes.items _
    ∙ (λ i. length (c.decide_line.ensures.outcomes i) + length (sym (line-told c.args.line.now (sym there)) i)))

pub returns-in-Err-clause-honest : goal.returns-in-Err-clause-honest
returns-in-Err-clause-honest g c = c.decide_line.ensures.answer.holds.honest

pub returns-in-Ok-None-clause-honest : goal.returns-in-Ok-None-clause-honest
returns-in-Ok-None-clause-honest g c = c.decide_line.ensures.answer.holds.honest

pub returns-in_err-keep-in-Ok-Some-clause-honest : goal.returns-in_err-keep-in-Ok-Some-clause-honest
returns-in_err-keep-in-Ok-Some-clause-honest g c = λ w.
    c.decide_line.ensures.answer.holds.honest (c.in_err-keep-in-Ok-Some.ensures.honest w)

pub returns-in_ok-keep-in-Ok-Some-clause-honest : goal.returns-in_ok-keep-in-Ok-Some-clause-honest
returns-in_ok-keep-in-Ok-Some-clause-honest g c = λ w.
    c.decide_line.ensures.answer.holds.honest (c.in_ok-keep-in-Ok-Some.ensures.honest w)

pub returns-in_ok-keep-in-Ok-Some-clause-count : goal.returns-in_ok-keep-in-Ok-Some-clause-count
returns-in_ok-keep-in-Ok-Some-clause-count g c = c.in_ok-keep-in-Ok-Some.ensures.count ∙ c.in-Ok-Some.ensures.count

pub returns-in_err-keep-in-Ok-Some-clause-failed : goal.returns-in_err-keep-in-Ok-Some-clause-failed
returns-in_err-keep-in-Ok-Some-clause-failed g c =
    let there = rw c.in-Ok-Some.field-0-is at c.in-Ok-Some.ensures.told in
    on_err c.from_residual.result (sym there)
