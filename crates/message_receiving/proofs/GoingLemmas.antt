-- A message that goes on after what is kept of it.
use Rattle.std.proofs.Common.{◌≡◌, ◌≤◌, ◌<◌, ◌+◌, ℕ, true, false, cond, List, [], ◌∷◌, ◌++◌, Option, Some, Result, Ok, Err}
use Rattle.std.proofs.Common.{refl, sym, ap, subst, ◌∙◌, arith, take, drop, length, get_or, length-append}
use Rattle.std.specs.Prelude.{◌-◌, suc, slice_get}
use Rattle.std.proofs.lemmas.List.{drop-append-le, append-nil}
use Rattle.std.proofs.Math.Seq.{drop-append_seam}
use Rattle.bug_record.specs.Desk.{Desk}
use Rattle.bug_record.specs.Words.{Names}
use Rattle.bug_record.specs.declared.command.Change.{Change}
use Rattle.bug_record.specs.declared.command.Refusal.{Refusal}
use Rattle.control_grammar.specs.Lines.{reading}
use Rattle.control_grammar.specs.declared.line.Line.{Line}
use Rattle.control_grammar.specs.declared.line.Line.TheVariants.{Blank, Comment, Stop, Do}
use Rattle.control_lines.specs.Lines.{lines_of}
use Rattle.base_words.specs.Ids.{IsId}
use Rattle.store_contract.specs.Progress.{HaveNumbers}
use Rattle.store_contract.specs.Progress.{goes_on}
use Rattle.message_receiving.specs.Taking.{IsDecision}
use Rattle.message_receiving.specs.declared.command_decision.Decision.{Decision}
use Rattle.message_receiving.proofs.MachineLemmas.{after_append, after_ended}
use Rattle.store_contract.proofs.EndLemmas.{never_store}
use Rattle.store_contract.specs.Store.{Holds, MayBeKept, with_change}
use Rattle.store_contract.proofs.HoldsLemmas.{holds_then, holds_both}
use Rattle.bug_record.specs.declared.outcome.Outcome.{Outcome}
use Rattle.base_faults.specs.declared.store_fault.End.{End}
use Rattle.base_faults.specs.declared.store_fault.End.TheVariants as ends
use Rattle.base_faults.specs.declared.store_fault.StoreFault.{StoreFault}
use Rattle.store_contract.specs.Message.{Entry, Machine, machine, after_lines, takes, takes_at, end_of}
use Rattle.store_contract.specs.Kept.{Keeping, has_outcome, reads_as_command, lines_told, told, outcomes_in, outcomes_kept, kept_with, kept_also}
use Rattle.store_contract.specs.Kept.{IsNextOutcome, IsResumed, IsOfMessage}
use Rattle.message_receiving.specs.GoingOn.{IsBegun, KeepsOn, TakesOn, Resumes}
use Rattle.message_receiving.proofs.KeepLemmas.{also-same, also-outcomes, keeps-also, outcomes-push, told-place}
use Rattle.message_recall.proofs.ToldLemmas.{lines-more, lines-split, line-told, line-untold}

pub length-outcomes : (es : List Entry) → length (outcomes_in es) ≡ length es
length-outcomes [] = refl
length-outcomes (e ∷ es) = ap suc (length-outcomes es)

-- ---- one line

-- what is decided of a line is the message's next outcome
pub next-of : (id sender message line : List ℕ) (k k1 : Keeping) (d d1 : Desk) (before : List Entry) (known : Names)
    (decision : Decision) → IsId id → IsBegun id sender message k before known → end_of before ≡ ends.All
    → slice_get (lines_told (lines_of message)) (length before) ≡ Some line → IsDecision sender d before line decision
    → k1 ≡ k → d1 ≡ d
    → IsNextOutcome id sender message k1 d1 decision.outcome (with_change decision.change d1)
next-of id sender message line k k1 d d1 before known decision named b on at h same_kept same =
    subst (λ (z : Keeping). IsNextOutcome id sender message z d1 decision.outcome (with_change decision.change d1)) (sym same_kept)
    (subst (λ (z : Desk). IsNextOutcome id sender message k z decision.outcome (with_change decision.change z)) (sym same) (
    let base : told (lines_of message) (outcomes_kept (k id)) ≡ before =
    ap (told (lines_of message)) b.kept_are ∙ b.told_are in
    record {
      is_id = named;
      same = b.same;
      goes_on = ap end_of base ∙ on;
      line = line;
      is_next = ap (λ (n : ℕ). slice_get (lines_told (lines_of message)) n) (ap length b.kept_are ∙ length-outcomes before) ∙ at;
      takes = ap (λ (w : List Entry). takes sender (machine d w) line (reading line)) base
          ∙ (h.takes_line
          ∙ ap (λ (w : List Entry). machine (with_change decision.change d) (w ++ (line, decision.outcome) ∷ [])) (sym base));
    }
    ))

-- once it is kept, the message goes on
pub takes-on : (id sender message line text : List ℕ) (k k1 now : Keeping) (d d1 new : Desk) (before room after : List Entry)
    (known named later : Names) (decision : Decision) → IsBegun id sender message k before known
    → slice_get (lines_told (lines_of message)) (length before) ≡ Some line → IsDecision sender d before line decision
    → k1 ≡ k → d1 ≡ d → HaveNumbers named → later ≡ named → room ≡ before → text ≡ line
    → after ≡ room ++ (text, decision.outcome) ∷ [] → new ≡ with_change decision.change d1
    → now ≡ kept_also id sender message decision.outcome k1
    → TakesOn id sender message d new k now before after later line
takes-on id sender message line text k k1 now d d1 new before room after known named later decision b at h same_kept same have names r t pushed made kept_now =
    let added : after ≡ before ++ (line, decision.outcome) ∷ [] = pushed ∙ (λ i. r i ++ (t i, decision.outcome) ∷ []) in
    let is : now ≡ kept_also id sender message decision.outcome k =
    kept_now ∙ ap (kept_also id sender message decision.outcome) same_kept in
    record {
      takes_line = h.takes_line ∙ (λ i. machine (sym (made ∙ ap (with_change decision.change) same) i) (sym added i));
      begun = record {
        same = subst (λ (z : Keeping). IsOfMessage sender message (z id)) (sym is) (also-same id sender message decision.outcome k);
        kept_are = ap (λ (z : Keeping). outcomes_kept (z id)) is
            ∙ (also-outcomes id sender message decision.outcome k
            ∙ (ap (λ (w : List Outcome). w ++ decision.outcome ∷ []) b.kept_are
            ∙ sym (ap outcomes_in added ∙ outcomes-push before line decision.outcome)));
        told_are = ap (λ (w : List Entry). told (lines_of message) (outcomes_in w)) added
            ∙ (told-place (lines_told (lines_of message)) before line decision.outcome b.told_are at ∙ sym added);
        numbers = subst HaveNumbers (sym names) have;
      };
      keeps = keeps-also id sender message k now before after line decision.outcome b.kept_are is added;
    }

-- a line that has no outcome
pub takes-none : (id sender message line : List ℕ) (k k1 : Keeping) (d d1 : Desk) (before room : List Entry) (known later : Names)
    → IsBegun id sender message k before known
    → takes sender (machine d before) line (reading line) ≡ machine d before → k1 ≡ k → d1 ≡ d → HaveNumbers later
    → room ≡ before → TakesOn id sender message d d1 k k1 before room later line
takes-none id sender message line k k1 d d1 before room known later b t same_kept same have r = record {
  takes_line = t ∙ (λ i. machine (sym same i) (sym r i));
  begun = record {
    same = subst (λ (z : Keeping). IsOfMessage sender message (z id)) (sym same_kept) b.same;
    kept_are = ap (λ (z : Keeping). outcomes_kept (z id)) same_kept ∙ (b.kept_are ∙ ap outcomes_in (sym r));
    told_are = ap (λ (w : List Entry). told (lines_of message) (outcomes_in w)) r ∙ (b.told_are ∙ sym r);
    numbers = have;
  };
  keeps = λ first e. same_kept ∙ (e ∙ ap (λ (w : List Entry). kept_with id sender message (outcomes_in w) first) (sym r));
}

-- ---- the lines that have no kept outcome

-- the rest, with one line more
pub rest-more : (lines : List (List ℕ)) (n i : ℕ) (line : List ℕ) → i < length lines → line ≡ get_or lines i line
    → n ≤ length (lines_told (take i lines))
    → drop n (lines_told (take (i + 1) lines)) ≡ drop n (lines_told (take i lines)) ++ lines_told (line ∷ [])
rest-more lines n i line lt is le =
    ap (drop n) (lines-more lines i line lt is) ∙ drop-append-le n (lines_told (take i lines)) (lines_told (line ∷ [])) le

-- a line that has no outcome is not taken
untold : (sender line : List ℕ) (n : Machine) (r : Result Line Refusal) → reads_as_command r ≡ false → takes sender n line r ≡ n
untold sender line n (Ok Blank) e = refl
untold sender line n (Ok Comment) e = refl
untold sender line n (Ok Stop) e = absurd (cc)
untold sender line n (Ok (Do command)) e = absurd (cc)
untold sender line n (Err refusal) e = absurd (cc)

-- what the machine does with one line, whether it has an outcome or not
one-line : (sender line : List ℕ) (n o : Machine) → end_of n.outcomes ≡ ends.All → takes sender n line (reading line) ≡ o
    → after_lines sender n (lines_told (line ∷ [])) ≡ o
one-line sender line n o on e =
    elim (has_outcome line) as (λ t. has_outcome line ≡ t → after_lines sender n (cond t (line ∷ []) []) ≡ o) [
      | true ↦ λ _. ap (λ (end : End). takes_at end sender n line) on ∙ e
      | false ↦ λ f. sym (untold sender line n (reading line) f) ∙ e
    ] refl

-- the lines so far, with one more
pub after-more : (sender line : List ℕ) (m n o : Machine) (lines : List (List ℕ)) (k i : ℕ) → i < length lines
    → line ≡ get_or lines i line → k ≤ length (lines_told (take i lines)) → end_of n.outcomes ≡ ends.All
    → after_lines sender m (drop k (lines_told (take i lines))) ≡ n → takes sender n line (reading line) ≡ o
    → after_lines sender m (drop k (lines_told (take (i + 1) lines))) ≡ o
after-more sender line m n o lines k i lt is le on so_far e =
    ap (after_lines sender m) (rest-more lines k i line lt is le)
    ∙ (after_append sender m (drop k (lines_told (take i lines))) (lines_told (line ∷ []))
    ∙ (ap (λ (z : Machine). after_lines sender z (lines_told (line ∷ []))) so_far ∙ one-line sender line n o on e))

-- what it has come to at its end it has come to in all lines
pub after-all : (sender : List ℕ) (m n : Machine) (lines : List (List ℕ)) (k i : ℕ) → k ≤ length (lines_told (take i lines))
    → goes_on (end_of n.outcomes) ≡ false → after_lines sender m (drop k (lines_told (take i lines))) ≡ n
    → after_lines sender m (drop k (lines_told lines)) ≡ n
after-all sender m n lines k i le ended so_far =
    ap (after_lines sender m) (ap (drop k) (lines-split lines i)
    ∙ drop-append-le k (lines_told (take i lines)) (lines_told (drop i lines)) le)
    ∙ (after_append sender m (drop k (lines_told (take i lines))) (lines_told (drop i lines))
    ∙ (ap (λ (z : Machine). after_lines sender z (lines_told (drop i lines))) so_far
    ∙ after_ended sender n (lines_told (drop i lines)) ended))

-- a message that has ended is resumed
pub resumed-ended : (sender : List ℕ) (lines : List (List ℕ)) (kept : List Outcome) (old new : Desk) (outcomes : List Entry) (end : End)
    → end_of outcomes ≡ end
    → after_lines sender (machine old (told lines kept)) (drop (length kept) (lines_told lines)) ≡ machine new outcomes
    → IsResumed sender lines kept old outcomes end new
resumed-ended sender lines kept old new outcomes ends.All e a = record { after = a; end_is = e }
resumed-ended sender lines kept old new outcomes ends.Stopped e a = record { after = a; end_is = e }
resumed-ended sender lines kept old new outcomes ends.TooManyUnreadable e a = record { after = a; end_is = e }
resumed-ended sender lines kept old new outcomes (ends.Store fault k) e a = absurd (never_store outcomes fault k e)

-- ---- calls since an earlier moment

-- what was known at a call is still known after the next one
pub carry : {S : Type 0} {k h : S → Type 0} {a b c : S} {P Q R : Type 0} → Holds k h a b P → Holds k h a c Q → (h c → h b)
    → (P → Q → R) → Holds k h a c R
carry x y back f = record { honest = y.honest; kept = y.kept; fact = λ u w. f (x.fact u (back w)) (y.fact u w) }

pub carry_both : {S : Type 0} {k h : S → Type 0} {a b c : S} {P Q : Type 0} → Holds k h a b P → Holds k h a c Q → (h c → h b)
    → Holds k h a c (P × Q)
carry_both x y back = carry x y back (λ p q. (p, q))

-- what is known where the store was kept
pub where_kept : {S : Type 0} {k h : S → Type 0} {a b : S} {P Q : Type 0} → Holds k h a b P → (k a → h b → P → Q)
    → Holds k h a b (P × Q)
where_kept x f = record { honest = x.honest; kept = x.kept; fact = λ u w. (x.fact u w, f u w (x.fact u w)) }

-- the message, as far as its lines were taken
pub record Going (id sender message : List ℕ) (old new : Desk) (kept now : Keeping) (before after : List Entry) (known : Names)
    (rest : List (List ℕ)) : Type 0 where
  pub after_rest : after_lines sender (machine old before) rest ≡ machine new after
  pub begun : IsBegun id sender message now after known
  pub keeps : KeepsOn id sender message kept before now after

drop-all : {A : Type 0} (xs : List A) (n : ℕ) → length xs ≡ n → drop n xs ≡ []
drop-all xs n e = ap (λ (m : ℕ). drop m xs) (sym e) ∙ (ap (drop (length xs)) (sym (append-nil xs)) ∙ drop-append_seam xs [])

-- before the first of them
pub going-first : (id sender message : List ℕ) (d : Desk) (k : Keeping) (outcomes : List Entry) (known : Names)
    (lines : List (List ℕ)) (i : ℕ) → length (lines_told (take i lines)) ≡ length outcomes
    → IsBegun id sender message k outcomes known
    → Going id sender message d d k k outcomes outcomes known (drop (length outcomes) (lines_told (take i lines)))
going-first id sender message d k outcomes known lines i all b = record {
  after_rest = ap (after_lines sender (machine d outcomes)) (drop-all (lines_told (take i lines)) (length outcomes) all);
  begun = b;
  keeps = λ first e. e;
}

-- after one more
pub going-more : (id sender message line : List ℕ) (d now new : Desk) (k know knew : Keeping) (before so_far after : List Entry)
    (known later : Names) (lines : List (List ℕ)) (i : ℕ) → i < length lines → line ≡ get_or lines i line
    → length before ≤ length (lines_told (take i lines)) → end_of so_far ≡ ends.All
    → Going id sender message d now k know before so_far known (drop (length before) (lines_told (take i lines)))
    → TakesOn id sender message now new know knew so_far after later line
    → Going id sender message d new k knew before after later (drop (length before) (lines_told (take (i + 1) lines)))
going-more id sender message line d now new k know knew before so_far after known later lines i lt is le on g t = record {
  after_rest = after-more sender line (machine d before) (machine now so_far) (machine new after) lines (length before) i lt is le on
      g.after_rest t.takes_line;
  begun = t.begun;
  keeps = λ first e. t.keeps first (g.keeps first e);
}

-- the message has ended
pub resumes-ended : (id sender message : List ℕ) (d new : Desk) (k now : Keeping) (before after outcomes : List Entry)
    (known : Names) (first_known : Names) (end : End) (rest : List (List ℕ)) → IsBegun id sender message k before first_known
    → rest ≡ drop (length before) (lines_told (lines_of message)) → end_of after ≡ end → outcomes ≡ after
    → Going id sender message d new k now before after known rest
    → Resumes id sender message d new k now before outcomes end
resumes-ended id sender message d new k now before after outcomes known first_known end rest b is ended same g = record {
  resumed = resumed-ended sender (lines_of message) (outcomes_in before) d new outcomes end (ap end_of same ∙ ended)
      (ap (λ (w : List Entry). after_lines sender (machine d w) (drop (length (outcomes_in before)) (lines_told (lines_of message)))) b.told_are
      ∙ (ap (λ (n : ℕ). after_lines sender (machine d before) (drop n (lines_told (lines_of message)))) (length-outcomes before)
      ∙ (ap (after_lines sender (machine d before)) (sym is) ∙ (g.after_rest ∙ ap (machine new) (sym same)))));
  keeps = λ first e. g.keeps first e ∙ ap (λ (w : List Entry). kept_with id sender message (outcomes_in w) first) (sym same);
}

-- the store failed at a line
pub resumes-failed : (id sender message : List ℕ) (d now new : Desk) (k know knew : Keeping) (before after outcomes : List Entry)
    (known : Names) (first_known : Names) (fault : StoreFault) (i : ℕ) → i < length (lines_of message)
    → length before ≤ length (lines_told (take i (lines_of message))) → IsBegun id sender message k before first_known
    → end_of after ≡ ends.All → outcomes ≡ after
    → Going id sender message d now k know before after known (drop (length before) (lines_told (take i (lines_of message))))
    → (new ≡ now) × (knew ≡ know)
    → Resumes id sender message d new k knew before outcomes (ends.Store fault (i + 1))
resumes-failed id sender message d now new k know knew before after outcomes known first_known fault i lt le b on same g f = record {
  resumed = (
    omega arith,
    omega arith,
    subst (λ (j : ℕ). length (outcomes_in before) ≤ length (lines_told (take j (lines_of message)))) back
        (subst (λ (n : ℕ). n ≤ length (lines_told (take i (lines_of message)))) (sym (length-outcomes before)) le),
    record {
      after = ap (λ (w : List Entry). after_lines sender (machine d w)
          (drop (length (outcomes_in before)) (lines_told (take (i + 1 - 1) (lines_of message))))) b.told_are
          ∙ (ap (λ (n : ℕ). after_lines sender (machine d before) (drop n (lines_told (take (i + 1 - 1) (lines_of message))))) (length-outcomes before)
          ∙ (ap (λ (j : ℕ). after_lines sender (machine d before) (drop (length before) (lines_told (take j (lines_of message))))) (sym back)
          ∙ (g.after_rest ∙ (λ j. machine (sym f.0 j) (sym same j)))));
      end_is = ap end_of same ∙ on;
    },
  );
  keeps = λ first e. f.1 ∙ (g.keeps first e ∙ ap (λ (w : List Entry). kept_with id sender message (outcomes_in w) first) (sym same));
}
  where
    back : i ≡ i + 1 - 1
    back = omega arith

-- ---- what may be kept

pub may-keep : (id sender message line : List ℕ) (k k1 : Keeping) (d d1 : Desk) (before : List Entry) (known later : Names)
    (decision : Decision) (change : Option Change) → IsId id → IsBegun id sender message k before known → end_of before ≡ ends.All
    → slice_get (lines_told (lines_of message)) (length before) ≡ Some line
    → (HaveNumbers known → IsDecision sender d before line decision × HaveNumbers later) × (d1 ≡ d) → k1 ≡ k
    → change ≡ decision.change → MayBeKept id sender message k1 d1 decision.outcome change
may-keep id sender message line k k1 d d1 before known later decision change named b on at p same_kept is =
    let h = p.0 b.numbers in
    subst (MayBeKept id sender message k1 d1 decision.outcome) (sym is) (record {
      good = h.0.good;
      next = next-of id sender message line k k1 d d1 before known decision named b on at h.0 same_kept p.1;
    })

-- the same at a call, since an earlier moment
pub may-keep-since : {S : Type 0} (kept honest : S → Type 0) (earlier a b : S) (id sender message line : List ℕ) (k k1 : Keeping)
    (d d1 : Desk) (before : List Entry) (known later : Names) (decision : Decision) (change : Option Change) → IsId id
    → end_of before ≡ ends.All → slice_get (lines_told (lines_of message)) (length before) ≡ Some line → k1 ≡ k
    → change ≡ decision.change → Holds kept honest earlier a (IsBegun id sender message k before known)
    → Holds kept honest a b ((HaveNumbers known → IsDecision sender d before line decision × HaveNumbers later) × (d1 ≡ d))
    → Holds kept honest earlier b (MayBeKept id sender message k1 d1 decision.outcome change)
may-keep-since kept honest earlier a b id sender message line k k1 d d1 before known later decision change named on at same_kept is x y =
    holds_then x y
    (λ p q. may-keep id sender message line k k1 d d1 before known later decision change named p on at q same_kept is)

-- a line taken, since an earlier moment
pub takes-since : {S : Type 0} (kept honest : S → Type 0) (earlier a b c : S) (id sender message line text : List ℕ)
    (k k1 now : Keeping) (d d1 new : Desk) (before room after : List Entry) (known named later : Names) (decision : Decision)
    (change : Option Change) → slice_get (lines_told (lines_of message)) (length before) ≡ Some line → k1 ≡ k
    → change ≡ decision.change → later ≡ named → room ≡ before → text ≡ line → after ≡ room ++ (text, decision.outcome) ∷ []
    → Holds kept honest earlier a (IsBegun id sender message k before known)
    → Holds kept honest a b ((HaveNumbers known → IsDecision sender d before line decision × HaveNumbers named) × (d1 ≡ d))
    → Holds kept honest earlier c ((new ≡ with_change change d1) × (now ≡ kept_also id sender message decision.outcome k1))
    → (honest c → honest b) → Holds kept honest earlier c (TakesOn id sender message d new k now before after later line)
takes-since kept honest earlier a b c id sender message line text k k1 now d d1 new before room after known named later decision change at same_kept is names r t pushed x y z back =
    carry (holds_both x y) z back
    (λ p q.
    let decided = p.1.0 p.0.numbers in
    takes-on id sender message line text k k1 now d d1 new before room after known named later decision p.0 at decided.0 same_kept p.1.1
    decided.1 names r t pushed (q.0 ∙ ap (λ (o : Option Change). with_change o d1) is) q.1)

pub length-some : (before room after : List Entry) (line : List ℕ) (entry : Entry) → true ≡ has_outcome line → room ≡ before
    → after ≡ room ++ entry ∷ [] → length after ≡ length before + length (lines_told (line ∷ []))
length-some before room after line entry there r pushed =
    ap length (pushed ∙ ap (λ (w : List Entry). w ++ entry ∷ []) r)
    ∙ (length-append before (entry ∷ []) ∙ ap (λ (w : List (List ℕ)). length before + length w) (sym (line-told line (sym there))))

pub length-none : (before after : List Entry) (line : List ℕ) → false ≡ has_outcome line → after ≡ before
    → length after ≡ length before + length (lines_told (line ∷ []))
length-none before after line untold r =
    ap length r ∙ (omega arith ∙ ap (λ (w : List (List ℕ)). length before + length w) (sym (line-untold line (sym untold))))

-- once it has ended, all lines are taken
pub going-all : (id sender message : List ℕ) (d new : Desk) (k now : Keeping) (before after : List Entry) (known : Names)
    (lines : List (List ℕ)) (i : ℕ) → length before ≤ length (lines_told (take i lines)) → goes_on (end_of after) ≡ false
    → Going id sender message d new k now before after known (drop (length before) (lines_told (take i lines)))
    → Going id sender message d new k now before after known (drop (length before) (lines_told lines))
going-all id sender message d new k now before after known lines i le ended g = record {
  after_rest = after-all sender (machine d before) (machine new after) lines (length before) i le ended g.after_rest;
  begun = g.begun;
  keeps = g.keeps;
}

-- the store failed at one of these lines
pub resumes-failed-in : (id sender message : List ℕ) (d now new : Desk) (k know knew : Keeping) (before after outcomes : List Entry)
    (known first_known : Names) (fault : StoreFault) (lines : List (List ℕ)) (i : ℕ) (end : End) → lines ≡ lines_of message
    → end ≡ ends.Store fault (i + 1) → i < length lines → length before ≤ length (lines_told (take i lines))
    → IsBegun id sender message k before first_known → end_of after ≡ ends.All → outcomes ≡ after
    → Going id sender message d now k know before after known (drop (length before) (lines_told (take i lines)))
    → (new ≡ now) × (knew ≡ know) → Resumes id sender message d new k knew before outcomes end
resumes-failed-in id sender message d now new k know knew before after outcomes known first_known fault lines i end ls is lt le b on same g f =
    subst (λ (e : End). Resumes id sender message d new k knew before outcomes e) (sym is)
    (subst (λ (w : List (List ℕ)). i < length w → length before ≤ length (lines_told (take i w))
    → Going id sender message d now k know before after known (drop (length before) (lines_told (take i w)))
    → Resumes id sender message d new k knew before outcomes (ends.Store fault (i + 1))) (sym ls)
    (λ lt le g. resumes-failed id sender message d now new k know knew before after outcomes known first_known fault i lt le b on same g f)
    lt le g)
