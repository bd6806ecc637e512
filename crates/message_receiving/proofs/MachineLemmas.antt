-- The machine over lists of lines.
use Rattle.std.proofs.Common.{◌≡◌, ℕ, ◌<◌, ◌≤◌, ◌+◌, List, [], ◌∷◌, ◌++◌, length, get_or, take, drop, sym, ◌∙◌, ap, subst, refl, true}
use Rattle.std.proofs.Common.{false, arith, IsTrue, ◌-◌}
use Rattle.std.proofs.lemmas.List.{take_all, take_more, take-append-drop, get_or_default}
use Rattle.bug_record.specs.Desk.{Desk}
use Rattle.bug_record.specs.Words.{Names}
use Rattle.control_grammar.specs.Lines.{reading}
use Rattle.base_faults.specs.declared.store_fault.End.{End}
use Rattle.base_faults.specs.declared.store_fault.End.TheVariants as ends
use Rattle.base_faults.specs.declared.store_fault.StoreFault.{StoreFault}
use Rattle.store_contract.specs.Kept.{has_outcome}
use Rattle.store_contract.specs.Store.{Faults, faults_after_end, with_change}
use Rattle.store_contract.specs.Message.{Entry, Machine, machine, after_lines, at_start, takes, takes_at, end_of}
use Rattle.store_contract.specs.Message.{Comes, IsReceived}
use Rattle.store_contract.specs.Progress.{HaveNumbers}
use Rattle.store_contract.specs.Progress.{goes_on}
use Rattle.message_receiving.specs.Taking.{IsDecision}
use Rattle.message_receiving.specs.declared.command_decision.Decision.{Decision}
use Rattle.store_contract.specs.Tried.{tried_at}
use Rattle.message_receiving.specs.Ends.{IsLineOf}
use Rattle.store_contract.proofs.EndLemmas.{never_store, at_start_open}

-- a decision carried out
pub took_decision : (sender line text : List ℕ) (d d1 new : Desk) (before room after : List Entry) (named later : Names)
    (decision : Decision) → IsDecision sender d before line decision × HaveNumbers named → d1 ≡ d
    → new ≡ with_change decision.change d1 → room ≡ before → text ≡ line → after ≡ room ++ (text, decision.outcome) ∷ []
    → later ≡ named
    → (takes sender (machine d before) line (reading line) ≡ machine new after) × HaveNumbers later
took_decision sender line text d d1 new before room after named later decision h same made r t pushed names = (
  h.0.takes_line
      ∙ (λ i. machine (sym (made ∙ ap (with_change decision.change) same) i)
      (sym (pushed ∙ (λ j. r j ++ (t j, decision.outcome) ∷ [])) i)),
  subst HaveNumbers (sym names) h.1,
)

pub after_append : (sender : List ℕ) (m : Machine) (xs ys : List (List ℕ))
    → after_lines sender m (xs ++ ys) ≡ after_lines sender (after_lines sender m xs) ys
after_append sender m [] ys = refl
after_append sender m (x ∷ xs) ys = after_append sender (takes_at (end_of m.outcomes) sender m x) xs ys

stays_at : (end : End) (sender : List ℕ) (m : Machine) (x : List ℕ) → goes_on end ≡ false → takes_at end sender m x ≡ m
stays_at ends.All sender m x h = absurd (cc)
stays_at ends.Stopped sender m x h = refl
stays_at ends.TooManyUnreadable sender m x h = refl
stays_at (ends.Store fault k) sender m x h = refl

-- once it has ended, the machine stays
pub after_ended : (sender : List ℕ) (m : Machine) (xs : List (List ℕ)) → goes_on (end_of m.outcomes) ≡ false
    → after_lines sender m xs ≡ m
after_ended sender m [] h = refl
after_ended sender m (x ∷ xs) h =
    ap (λ (n : Machine). after_lines sender n xs) (stays_at (end_of m.outcomes) sender m x h) ∙ after_ended sender m xs h

-- one line more
pub line_more : (sender : List ℕ) (m : Machine) (lines : List (List ℕ)) (i : ℕ) (line : List ℕ) (n o : Machine) → i < length lines
    → line ≡ get_or lines i line → end_of n.outcomes ≡ ends.All → after_lines sender m (take i lines) ≡ n
    → takes sender n line (reading line) ≡ o → after_lines sender m (take (i + 1) lines) ≡ o
line_more sender m lines i line n o lt is on e f =
    ap (after_lines sender m) (take_more lines i line lt ∙ ap (λ (x : List ℕ). take i lines ++ x ∷ []) (sym is))
    ∙ (after_append sender m (take i lines) (line ∷ [])
    ∙ (ap (λ (k : Machine). after_lines sender k (line ∷ [])) e
    ∙ (ap (λ (end : End). takes_at end sender n line) on ∙ f)))

-- what it has come to at its end it has come to in all lines
pub all_ended : (sender : List ℕ) (m : Machine) (lines : List (List ℕ)) (i : ℕ) (n : Machine)
    → goes_on (end_of n.outcomes) ≡ false → after_lines sender m (take i lines) ≡ n → after_lines sender m lines ≡ n
all_ended sender m lines i n h e =
    ap (after_lines sender m) (sym (take-append-drop i lines))
    ∙ (after_append sender m (take i lines) (drop i lines)
    ∙ (ap (λ (k : Machine). after_lines sender k (drop i lines)) e ∙ after_ended sender n (drop i lines) h))

-- a message that ended is received
pub received_ended : (sender : List ℕ) (lines : List (List ℕ)) (old new : Desk) (outcomes : List Entry) (end : End)
    → goes_on end ≡ false → end_of outcomes ≡ end → after_lines sender (at_start old) lines ≡ machine new outcomes
    → IsReceived sender lines old outcomes end new
received_ended sender lines old new outcomes ends.All h e a = absurd (cc)
received_ended sender lines old new outcomes ends.Stopped h e a = record { after = a; end_is = e }
received_ended sender lines old new outcomes ends.TooManyUnreadable h e a = record { after = a; end_is = e }
received_ended sender lines old new outcomes (ends.Store fault k) h e a = absurd (never_store outcomes fault k e)

-- a message that goes on is at `All`
pub goes_on-all : (end : End) → goes_on end ≡ true → end ≡ ends.All
goes_on-all ends.All h = refl
goes_on-all ends.Stopped h = absurd (cc)
goes_on-all ends.TooManyUnreadable h = absurd (cc)
goes_on-all (ends.Store fault k) h = absurd (cc)

-- a message that ended without a fault has counted none
pub settled_faults : (es : List Entry) (end : End) (faults : Faults) → end_of es ≡ end → faults_after_end end faults ≡ faults
settled_faults es ends.All faults h = refl
settled_faults es ends.Stopped faults h = refl
settled_faults es ends.TooManyUnreadable faults h = refl
settled_faults es (ends.Store fault k) faults h = absurd (never_store es fault k h)

-- no line taken
pub comes_to_nothing : (sender : List ℕ) (d : Desk) (outcomes : List Entry) → outcomes ≡ []
    → Comes sender [] d outcomes ends.All d
comes_to_nothing sender d outcomes e = record { after = ap (machine d) (sym e); end_is = ap end_of e ∙ at_start_open }

pub received_nothing : (sender : List ℕ) (lines : List (List ℕ)) (d : Desk) (outcomes : List Entry) → lines ≡ [] → outcomes ≡ []
    → Comes sender lines d outcomes ends.All d
received_nothing sender lines d outcomes e f =
    subst (λ (w : List (List ℕ)). Comes sender w d outcomes ends.All d) (sym e) (comes_to_nothing sender d outcomes f)

-- outcomes never end at a line where the store failed
pub settled_line : (es : List Entry) (end : End) (lines : List (List ℕ)) → end_of es ≡ end → IsLineOf end lines
settled_line es ends.All lines h = tt
settled_line es ends.Stopped lines h = tt
settled_line es ends.TooManyUnreadable lines h = tt
settled_line es (ends.Store fault k) lines h = absurd (never_store es fault k h)

-- where the store failed at this line, that is the line that is told
pub failed_line : (lines : List (List ℕ)) (i : ℕ) (line : List ℕ) (fault : StoreFault) (end : End) → i < length lines
    → line ≡ get_or lines i line → IsTrue (has_outcome line) → end ≡ ends.Store fault (i + 1) → IsLineOf end lines
failed_line lines i line fault end lt is there at =
    let back : i ≡ i + 1 - 1 = omega arith in
    subst (λ (e : End). IsLineOf e lines) (sym at) (
      omega arith,
      omega (arith, lt),
      subst (λ (l : List ℕ). IsTrue (has_outcome l))
          (is ∙ get_or_default lines i line [] lt ∙ ap (λ (j : ℕ). get_or lines j []) back) there,
    )

-- all lines were taken
pub received_all : (sender : List ℕ) (lines : List (List ℕ)) (old new : Desk) (i : ℕ) (items outcomes : List Entry) → length lines ≤ i
    → end_of items ≡ ends.All → after_lines sender (at_start old) (take i lines) ≡ machine new items → outcomes ≡ items
    → IsReceived sender lines old outcomes ends.All new
received_all sender lines old new i items outcomes le on a same = record {
  after = ap (after_lines sender (at_start old)) (sym (take_all i lines le)) ∙ (a ∙ ap (machine new) (sym same));
  end_is = ap end_of same ∙ on;
}

-- a message that the store did not end has tried nothing else
pub tried_settled : (sender : List ℕ) (lines : List (List ℕ)) (old now : Desk) (es : List Entry) (end : End) → end_of es ≡ end
    → tried_at sender lines old end now ≡ now
tried_settled sender lines old now es ends.All h = refl
tried_settled sender lines old now es ends.Stopped h = refl
tried_settled sender lines old now es ends.TooManyUnreadable h = refl
tried_settled sender lines old now es (ends.Store fault k) h = absurd (never_store es fault k h)
