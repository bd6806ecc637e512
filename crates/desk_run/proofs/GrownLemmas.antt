-- Lines that have an outcome, taken one after another.
use Rattle.std.proofs.Common.{◌≡◌, ◌≢◌, ℕ, true, List, [], ◌∷◌, ◌++◌, map, Result, Ok, Err}
use Rattle.std.proofs.Common.{refl, ap, sym, ◌∙◌, append-nil, append_assoc}
use Rattle.std.proofs.lemmas.Bool.{false≢true}
use Rattle.bug_record.specs.Sets.{Each}
use Rattle.bug_record.specs.declared.command.Refusal.{Refusal}
use Rattle.control_grammar.specs.Lines.{reading}
use Rattle.control_grammar.specs.declared.line.Line.{Line}
use Rattle.control_grammar.specs.declared.line.Line.TheVariants.{Blank, Comment, Stop, Do}
use Rattle.bug_record.specs.declared.outcome.Outcome.{Outcome}
use Rattle.bug_record.specs.declared.outcome.Outcome.TheVariants.{Refused, Stopped}
use Rattle.base_faults.specs.declared.store_fault.End.{End}
use Rattle.base_faults.specs.declared.store_fault.End.TheVariants as ends
use Rattle.store_contract.specs.Message.{Machine, takes, takes_at, after_lines, end_of, does, known_names}
use Rattle.store_contract.specs.Kept.{reads_as_command, has_outcome}
use Rattle.desk_run.specs.Grown.{Grown}

-- after its end the machine stays
stays_at : (end : End) → end ≢ ends.All → (sender : List ℕ) (m : Machine) (line : List ℕ) → takes_at end sender m line ≡ m
stays_at ends.All other sender m line = absurd (other refl)
stays_at ends.Stopped other sender m line = refl
stays_at ends.TooManyUnreadable other sender m line = refl
stays_at (ends.Store fault k) other sender m line = refl

absorbs : (sender : List ℕ) (m : Machine) (lines : List (List ℕ)) → end_of m.outcomes ≢ ends.All → after_lines sender m lines ≡ m
absorbs sender m [] other = refl
absorbs sender m (line ∷ lines) other =
    ap (λ (x : Machine). after_lines sender x lines) (stays_at (end_of m.outcomes) other sender m line)
    ∙ absorbs sender m lines other

-- a line that has an outcome adds it
adds_one : (sender : List ℕ) (m : Machine) (line : List ℕ) (read : Result Line Refusal) → reads_as_command read ≡ true
    → (o : Outcome) × ((takes sender m line read).outcomes ≡ m.outcomes ++ (line, o) ∷ [])
adds_one sender m line (Ok Blank) e = absurd (false≢true e)
adds_one sender m line (Ok Comment) e = absurd (false≢true e)
adds_one sender m line (Ok Stop) e = (Stopped, refl)
adds_one sender m line (Ok (Do command)) e = ((does sender (known_names m.outcomes) m.desk command).0, refl)
adds_one sender m line (Err refusal) e = (Refused refusal, refl)

-- no line is taken after the end
none_grown : (sender : List ℕ) (m : Machine) (lines : List (List ℕ)) (last : Machine) → m ≡ last → end_of m.outcomes ≢ ends.All
    → Grown sender m lines last
none_grown sender m lines last same other = record {
  taken = [];
  outcomes = ap (λ (x : Machine). x.outcomes) (sym same) ∙ sym (append-nil m.outcomes);
  next = refl;
  after = same;
  whole = λ e. absurd (other (ap (λ (x : Machine). end_of x.outcomes) same ∙ e));
}

-- the first line is taken, or the message is at its end
first_grown : (sender : List ℕ) (m : Machine) (line : List ℕ) (lines : List (List ℕ))
    → ((x : Machine) → Grown sender x lines (after_lines sender x lines)) → has_outcome line ≡ true → (end : End)
    → end_of m.outcomes ≡ end → Grown sender m (line ∷ lines) (after_lines sender (takes_at end sender m line) lines)
first_grown sender m line lines rest told ends.All e =
    let o = adds_one sender m line (reading line) told in
    let g = rest (takes sender m line (reading line)) in
    record {
      taken = (line, o.0) ∷ g.taken;
      outcomes = g.outcomes ∙ ap (λ l. l ++ g.taken) o.1 ∙ append_assoc m.outcomes ((line, o.0) ∷ []) g.taken;
      next = ap (λ l. line ∷ l) g.next;
      after = ap (λ (x : End). after_lines sender (takes_at x sender m line) (map (λ entry. entry.0) g.taken)) e ∙ g.after;
      whole = λ at_end. ap (λ l. line ∷ l) (g.whole at_end);
    }
first_grown sender m line lines rest told ends.Stopped e =
    let other : end_of m.outcomes ≢ ends.All = λ all. absurd (cc) in
    none_grown sender m (line ∷ lines) (after_lines sender m lines) (sym (absorbs sender m lines other)) other
first_grown sender m line lines rest told ends.TooManyUnreadable e =
    let other : end_of m.outcomes ≢ ends.All = λ all. absurd (cc) in
    none_grown sender m (line ∷ lines) (after_lines sender m lines) (sym (absorbs sender m lines other)) other
first_grown sender m line lines rest told (ends.Store fault k) e =
    let other : end_of m.outcomes ≢ ends.All = λ all. absurd (cc) in
    none_grown sender m (line ∷ lines) (after_lines sender m lines) (sym (absorbs sender m lines other)) other

pub grows : (sender : List ℕ) (lines : List (List ℕ)) → Each (λ line. has_outcome line ≡ true) lines → (m : Machine)
    → Grown sender m lines (after_lines sender m lines)
grows sender [] all m = record {
  taken = [];
  outcomes = sym (append-nil m.outcomes);
  next = refl;
  after = refl;
  whole = λ e. refl;
}
grows sender (line ∷ lines) all m =
    first_grown sender m line lines (grows sender lines all.1) all.0 (end_of m.outcomes) refl
