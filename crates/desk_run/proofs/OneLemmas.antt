-- A line whose outcome may be kept is the message's next line.
use Rattle.std.proofs.Common.{◌≡◌, ℕ, zero, suc, List, [], ◌∷◌, length, take, drop, Option, Some}
use Rattle.std.proofs.Common.{refl, ap, sym, ◌∙◌}
use Rattle.std.specs.Prelude.{slice_get}
use Rattle.bug_record.specs.Desk.{Desk}
use Rattle.bug_record.specs.declared.command.Change.{Change}
use Rattle.bug_record.specs.declared.outcome.Outcome.{Outcome}
use Rattle.base_faults.specs.declared.store_fault.End.{End}
use Rattle.base_faults.specs.declared.store_fault.End.TheVariants as ends
use Rattle.control_grammar.specs.Lines.{reading}
use Rattle.control_lines.specs.Lines.{lines_of}
use Rattle.store_contract.specs.Store.{MayBeKept, with_change}
use Rattle.store_contract.specs.Message.{Machine, takes, takes_at, machine, end_of}
use Rattle.store_contract.specs.Kept.{Keeping, kept_also, lines_told, told, outcomes_kept}
use Rattle.desk_run.specs.Calls.{TookOne}

-- the item at a place is the first of those from there on
first_there : (xs : List (List ℕ)) (n : ℕ) (x : List ℕ) → slice_get xs n ≡ Some x → x ∷ [] ≡ take 1 (drop n xs)
first_there [] zero x is = absurd (cc)
first_there [] (suc n) x is = absurd (cc)
first_there (y ∷ ys) zero x is = let same : y ≡ x = cc in ap (λ z. z ∷ []) (sym same)
first_there (y ∷ ys) (suc n) x is = first_there ys n x is

-- a message that is not at its end takes its next line
goes_on : (end : End) (sender : List ℕ) (m : Machine) (line : List ℕ) → end ≡ ends.All → takes_at end sender m line ≡ takes sender m line (reading line)
goes_on ends.All sender m line is = refl
goes_on ends.Stopped sender m line is = absurd (cc)
goes_on ends.TooManyUnreadable sender m line is = absurd (cc)
goes_on (ends.Store fault k) sender m line is = absurd (cc)

pub took_one : (id sender message : List ℕ) (outcome : Outcome) (change : Option Change) (d : Desk) (k : Keeping)
    → MayBeKept id sender message k d outcome change
    → TookOne id sender message outcome (d, k) (with_change change d, kept_also id sender message outcome k)
took_one id sender message outcome change d k may =
    let next = may.next in (
      next.line,
      record {
        same = next.same;
        next = first_there (lines_told (lines_of message)) (length (outcomes_kept (k id))) next.line next.is_next;
        machine_took =
            goes_on (end_of (told (lines_of message) (outcomes_kept (k id)))) sender (machine d (told (lines_of message) (outcomes_kept (k id)))) next.line next.goes_on
            ∙ next.takes;
        kept = refl;
      },
    )
