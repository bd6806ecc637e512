use Rattle.std.proofs.Common.{◌≡◌, ◌≢◌, [], ◌∷◌, OnErr, Result, Ok, Err, arith, ℕ, ◌+◌, ◌<◌, List, ◌++◌, length, get_or, drop, refl, sym, ap, ◌∙◌}
use Rattle.std.proofs.lemmas.List.{append_assoc, append-nil, at_drop_all, at_drop_more}
use Rattle.std.proofs.lemmas.Result.{IfOk-from_err}
use Rattle.store_contract.specs.Message.{Entry}
use Rattle.desk_text.specs.Texts.{outcome_text}
use Rattle.message_directives.specs.Transcripts.{transcript}
use Rattle.message_directives.proofs.transcript.append_outcomes.Goals as goal

-- the text of the next outcome, and of those that are left
next : (entries : List Entry) (i : ℕ) (d x : Entry) (a b c : List ℕ) → i < length entries → get_or entries i d ≡ x
    → a ++ transcript (drop i entries) ≡ b → c ≡ a ++ outcome_text x.0 x.1 → c ++ transcript (drop (i + 1) entries) ≡ b
next entries i d x a b c lt is h e =
    let rest = transcript (drop (i + 1) entries) in
    ap (λ w. w ++ rest) e ∙ append_assoc a (outcome_text x.0 x.1) rest
    ∙ ap (λ w. a ++ w) (ap (λ (y : Entry). outcome_text y.0 y.1 ++ rest) (sym is) ∙ sym (at_drop_more transcript entries i d lt))
    ∙ h

some_entries : (entries : List Entry) (i : ℕ) → i < length entries → entries ≢ []
some_entries [] i lt e = absurd (omega (arith, lt))
some_entries (entry ∷ entries) i lt e = cc

on_err : {T E P : Type 0} (r : Result T E) → P → OnErr r P
on_err (Ok done) p = tt
on_err (Err fault) p = p

pub loop-entry-init : goal.loop-entry-init
loop-entry-init c = record { text = refl; utf8 = λ of_a. of_a }

pub returns-in_err-outcome_text : goal.returns-in_err-outcome_text
returns-in_err-outcome_text c = record {
  ok =
      IfOk-from_err c.from_residual.result
      (λ _. c.outcome_text.new.out.items ≡ c.args.out.now.items ++ transcript c.args.outcomes.now) c.from_residual.ensures.0;
  utf8 = λ of_a. c.outcome_text.ensures.utf8 (c.loop-entry.invariant.utf8 of_a);
  some = on_err c.from_residual.result (some_entries c.args.outcomes.now c.loop-entry.entry-index c.loop-entry-test.true);
}

pub loop-entry-preserved : goal.loop-entry-preserved
loop-entry-preserved c =
    let l = c.loop-entry in
    let entry = c.entry-item.result in
    record {
      text =
          next c.args.outcomes.now l.entry-index entry entry l.out.items _ _ c.loop-entry-test.true (sym c.entry-item.is)
          l.invariant.text (rw c.as_str.ensures at c.in_ok-outcome_text.ensures.ok);
      utf8 = λ of_a. c.outcome_text.ensures.utf8 (l.invariant.utf8 of_a);
    }

pub returns : goal.returns
returns c =
    let l = c.loop-entry in
    let out = l.out.items in
    record {
      ok =
          sym (append-nil out)
          ∙ ap (λ w. out ++ w) (sym (at_drop_all transcript c.args.outcomes.now l.entry-index c.loop-entry-test.false))
          ∙ l.invariant.text;
      utf8 = l.invariant.utf8;
      some = tt;
    }
