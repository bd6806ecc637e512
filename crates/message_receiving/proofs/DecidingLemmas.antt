-- A line that is decided.
use Rattle.std.proofs.Common.{◌≡◌, ℕ, List, [], ◌∷◌, ◌++◌, Option, Some, Result, Ok, Err, sym, ap, subst, refl, ◌∙◌}
use Rattle.std.specs.Prelude.{IfOk, IfErr, OnErr}
use Rattle.bug_record.specs.Sets.{Each}
use Rattle.bug_record.specs.Desk.{Desk}
use Rattle.bug_record.specs.Commands.{names_in}
use Rattle.bug_record.specs.Words.{Names}
use Rattle.bug_record.specs.declared.command.Command.{Command}
use Rattle.bug_record.specs.declared.command.Command.TheVariants as commands
use Rattle.bug_record.specs.declared.command.Refusal.{Refusal}
use Rattle.base_words.specs.Numbers.{IsGoodNumber}
use Rattle.base_words.specs.declared.named.Named.{Named}
use Rattle.control_grammar.specs.Lines.{reading, IsRefusalOfLine}
use Rattle.control_grammar.specs.WellFormed.{IsSpellable}
use Rattle.control_grammar.specs.declared.line.Line.{Line}
use Rattle.control_grammar.specs.declared.line.Line.TheVariants.{Stop, Do}
use Rattle.control_grammar.proofs.RefusalLemmas.{reading-of}
use Rattle.bug_record.specs.declared.outcome.Outcome.{Outcome}
use Rattle.bug_record.specs.declared.outcome.Outcome.TheVariants.{Refused, Stopped}
use Rattle.base_faults.specs.declared.store_fault.StoreFault.{StoreFault}
use Rattle.base_faults.specs.declared.store_fault.StoreFault.TheVariants.{Memory}
use Rattle.store_contract.specs.Store.{Answers, Faults, faults_after}
use Rattle.base_words.specs.Texts.{IfGiven}
use Rattle.store_contract.specs.Kept.{IsGoodOutcome}
use Rattle.store_contract.specs.Message.{Entry, machine, takes, does, with_outcome, names_given, names_of, known_names, unreadable_count, end_of}
use Rattle.store_contract.specs.Progress.{HaveNumbers}
use Rattle.message_receiving.specs.Commands.{Decides}
use Rattle.store_contract.specs.Progress.{IsInStep, IsReady}
use Rattle.message_receiving.specs.Taking.{IsDecision, DecidesLine, FitsDecided, HasMembers, plainly}
use Rattle.message_receiving.specs.declared.command_decision.Decision.{Decision}
use Rattle.store_contract.proofs.GivenLemmas.{known-push, known-same, given-of}
use Rattle.store_contract.proofs.RefusalLemmas.{line-good}

-- ---- what is ready for an outcome

-- the same, where room was made and the line was copied
ready-at : (es room : List Entry) (count : ℕ) (known : Names) (line text : List ℕ) (outcome said : Outcome) → room ≡ es → text ≡ line
    → said ≡ outcome → IsReady es count known (line, outcome) → IsReady room count known (text, said)
ready-at es room count known line text outcome said r t s h = record {
  counted = h.counted ∙ ap unreadable_count (sym r);
  known_are = h.known_are ∙ (λ i. known_names (sym r i ++ (sym t i, sym s i) ∷ []));
  goes_on = ap end_of r ∙ h.goes_on;
}

pub ready-plain : (es room : List Entry) (count : ℕ) (known : Names) (line text : List ℕ) (outcome said : Outcome)
    → IsInStep es count known → room ≡ es → text ≡ line → said ≡ outcome → names_given (line, outcome) ≡ []
    → IsReady room count known (text, said)
ready-plain es room count known line text outcome said s r t o none =
    ready-at es room count known line text outcome said r t o (record {
      counted = s.counted;
      known_are = known-same known known es (es ++ (line, outcome) ∷ []) (line, outcome) s.known_are refl none refl;
      goes_on = s.goes_on;
    })

pub ready-named : (es room : List Entry) (count : ℕ) (known new : Names) (line text : List ℕ) (command : Command Named)
    (outcome : Outcome) → IsInStep es count known → room ≡ es → text ≡ line → reading line ≡ Ok (Do command)
    → new ≡ known ++ names_of (names_in command) outcome → IsReady room count new (text, outcome)
ready-named es room count known new line text command outcome s r t reads named =
    ready-at es room count new line text outcome outcome r t refl (record {
      counted = s.counted;
      known_are = named
          ∙ ((λ i. s.known_are i ++ sym (given-of line command outcome reads) i) ∙ sym (known-push es (line, outcome)));
      goes_on = s.goes_on;
    })

-- ---- what the machine does

-- a command decided
pub decides_line : (sender line : List ℕ) (names : Names) (d : Desk) (before : List Entry) (command : Command Named)
    (decision : Decision) → names ≡ known_names before → reading line ≡ Ok (Do command)
    → Decides sender names d command decision → IsDecision sender d before line decision
decides_line sender line names d before command decision known reads h = record {
  takes_line = ap (takes sender (machine d before) line) reads
      ∙ (ap (λ (ks : Names). with_outcome (machine d before) line (does sender ks d command)) (sym known)
      ∙ ap (with_outcome (machine d before) line) h.step);
  good = h.good;
}

-- a line decided without a change
pub decides_plainly : (sender line : List ℕ) (d : Desk) (before : List Entry) (known new : Names) (outcome : Outcome)
    (result : Result (Option (List ℕ × Decision)) StoreFault)
    → takes sender (machine d before) line (reading line) ≡ machine d (before ++ (line, outcome) ∷ []) → IsGoodOutcome outcome
    → new ≡ known → IfOk result (λ decided. decided ≡ Some (plainly line outcome))
    → Answers d d result (λ decided. HaveNumbers known → DecidesLine sender d before line decided × HaveNumbers new)
decides_plainly sender line d before known new outcome (Err fault) t g same h = refl
decides_plainly sender line d before known new outcome (Ok decided) t g same h = (
  λ have. (
    subst (DecidesLine sender d before line) (sym h)
        (record { takes_line = t; good = g }),
    subst HaveNumbers (sym same) have,
  ),
  refl,
)

-- it makes no change
pub fits_plainly : (d : Desk) (line : List ℕ) (outcome : Outcome) (result : Result (Option (List ℕ × Decision)) StoreFault)
    → IfOk result (λ decided. decided ≡ Some (plainly line outcome)) → IfOk result (FitsDecided d)
fits_plainly d line outcome (Err fault) h = tt
fits_plainly d line outcome (Ok decided) h = subst (FitsDecided d) (sym h) (record { apart = tt; fits = tt })

pub members_plainly : (line : List ℕ) (outcome : Outcome) (result : Result (Option (List ℕ × Decision)) StoreFault)
    → IfOk result (λ decided. decided ≡ Some (plainly line outcome))
    → IfOk result (λ decided. IfGiven (λ p. HasMembers p.1.change) decided)
members_plainly line outcome (Err fault) h = tt
members_plainly line outcome (Ok decided) h = subst (IfGiven (λ (p : List ℕ × Decision). HasMembers p.1.change)) (sym h) tt

-- where memory alone may fail no fault is counted
pub counts_memory : {T : Type 0} (result : Result T StoreFault) (faults : Faults) → OnErr result (result ≡ Err Memory)
    → faults ≡ faults_after result faults
counts_memory (Ok answer) faults h = refl
counts_memory (Err fault) faults h = sym (ap (λ r. faults_after r faults) h)

pub takes_stop : (sender line : List ℕ) (d : Desk) (before : List Entry) → reading line ≡ Ok Stop
    → takes sender (machine d before) line (reading line) ≡ machine d (before ++ (line, Stopped) ∷ [])
takes_stop sender line d before reads = ap (takes sender (machine d before) line) reads

pub takes_refused : (sender line : List ℕ) (d : Desk) (before : List Entry) (refusal : Refusal) → reading line ≡ Err refusal
    → takes sender (machine d before) line (reading line) ≡ machine d (before ++ (line, Refused refusal) ∷ [])
takes_refused sender line d before refusal reads = ap (takes sender (machine d before) line) reads

-- ---- what a line gives

pub refused-good : (line : List ℕ) (refusal : Refusal) → reading line ≡ Err refusal → IsGoodOutcome (Refused refusal)
refused-good line refusal reads =
    line-good refusal (subst (λ (r : Result Line Refusal). IfErr r IsRefusalOfLine) reads (reading-of line))

-- the names of a command that was read are good numbers
pub names-spelled : (command : Command Named) → IsSpellable command → Each IsGoodNumber (names_in command)
names-spelled (commands.Clone n ks) h = h.0
names-spelled _ h = tt
