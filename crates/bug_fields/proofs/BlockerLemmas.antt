-- A command that is not refused keeps blockers: they are there, and outside the bug's own set.
use Rattle.std.proofs.Common.{◌≡◌, ◌≢◌, ℕ, Bool, true, false, cond, ◌||◌, not, List, [], ◌∷◌, ◌++◌, Option, Some, None, refl, sym, ap, ◌∙◌}
use Rattle.std.specs.Prelude.{◌==◌, filter, option_map}
use Rattle.std.specs.List.{find}
use Rattle.std.specs.Option.{option_or}
use Rattle.std.specs.Str.{bytes_eq}
use Rattle.std.proofs.lemmas.Bool.{false≢true, eqb-true, and_parts}
use Rattle.std.proofs.lemmas.Option.{none-some}
use Rattle.version_nodes.specs.Nodes.{Node}
use Rattle.bug_record.specs.Sets.{has, number_set}
use Rattle.bug_record.specs.Desk.{Desk, AreGoodBlockers}
use Rattle.bug_record.specs.Bugs.{first_of}
use Rattle.bug_record.specs.Commands.{other_bugs}
use Rattle.bug_record.specs.Words.{bug_refusal, first_bug_refusal, others_may_be_archived}
use Rattle.bug_record.specs.Steps.{opened, own_tests, shared_after}
use Rattle.bug_record.specs.declared.bug.Bug.{Bug}
use Rattle.bug_record.specs.declared.bug.Shared.{Shared}
use Rattle.bug_record.specs.declared.command.Command.{Command}
use Rattle.bug_record.specs.declared.command.Command.TheVariants as commands
use Rattle.bug_record.specs.declared.command.Refusal.TheVariants.{NoBug, OwnSet}
use Rattle.bug_record.proofs.RefusalLemmas.{first-none, later-none}
use Rattle.base_sequences.proofs.SetLemmas.{has-append, has-number_set, has-filter, IsAscending-number_set, IsAscending-filter}

-- bugs that are not refused are there
there : (may_be : Bool) (bug : ℕ → Option Bug) (ns : List ℕ) (m : ℕ) → first_bug_refusal may_be bug ns ≡ None → has ns m ≡ true
    → bug m ≢ None
there may_be bug [] m e h = absurd (false≢true h)
there may_be bug (n ∷ ns) m e h =
    elim (n == m) as (λ t. (n == m) ≡ t → (t || has ns m) ≡ true → bug m ≢ None) [
      | true ↦ λ q _ none. none-some (NoBug n)
          (sym (first-none (bug_refusal may_be (bug n) n) (first_bug_refusal may_be bug ns) e)
          ∙ ap (λ (o : Option Bug). bug_refusal may_be o n) (ap bug (eqb-true n m q) ∙ none))
      | false ↦ λ q h. there may_be bug ns m (later-none (bug_refusal may_be (bug n) n) (first_bug_refusal may_be bug ns) e) h
    ] refl h

-- numbers none of which passes a test
none-passes : (test : ℕ → Bool) (ns : List ℕ) (m : ℕ) → find test ns ≡ None → has ns m ≡ true → test m ≡ false
none-passes test [] m e h = absurd (false≢true h)
none-passes test (n ∷ ns) m e h =
    elim (test n) as (λ s. test n ≡ s → cond s (Some n) (find test ns) ≡ None → test m ≡ false) [
      | true ↦ λ p e. absurd (none-some n (sym e))
      | false ↦ λ p e. elim (n == m) as (λ t. (n == m) ≡ t → (t || has ns m) ≡ true → test m ≡ false) [
        | true ↦ λ q _. ap test (sym (eqb-true n m q)) ∙ p
        | false ↦ λ q h. none-passes test ns m e h
      ] refl h
    ] refl e

-- where no blocker is in the bug's own set
none-own : (merged ns : List ℕ) → first_of (option_map OwnSet (find (has merged) ns) ∷ []) ≡ None → find (has merged) ns ≡ None
none-own merged ns e = cases (find (has merged) ns) e
  where
    cases : (o : Option ℕ) → option_or (option_map OwnSet o) None ≡ None → o ≡ None
    cases None e = refl
    cases (Some n) e = absurd (none-some (OwnSet n) (sym e))

either : (a b : Bool) (P : Type 0) → (a ≡ true → P) → (b ≡ true → P) → (a || b) ≡ true → P
either true b P f g h = f refl
either false b P f g h = g h

-- more blockers
good-blocked : (d : Desk) (merged blockers ns : List ℕ) → AreGoodBlockers d merged blockers
    → first_bug_refusal true d.bug ns ≡ None → find (has merged) ns ≡ None
    → AreGoodBlockers d merged (number_set (blockers ++ ns))
good-blocked d merged blockers ns h words own = record {
  ascending = IsAscending-number_set (blockers ++ ns);
  there = λ m e. either (has blockers m) (has ns m) (d.bug m ≢ None) (h.there m) (there true d.bug ns m words) (parts m e);
  outside = λ m e. either (has blockers m) (has ns m) (has merged m ≡ false) (h.outside m) (none-passes (has merged) ns m own)
      (parts m e);
}
  where
    parts : (m : ℕ) → has (number_set (blockers ++ ns)) m ≡ true → (has blockers m || has ns m) ≡ true
    parts m e = sym (has-append blockers ns m) ∙ sym (has-number_set (blockers ++ ns) m) ∙ e

-- some of the blockers
good-filter : (d : Desk) (merged blockers : List ℕ) (test : ℕ → Bool) → AreGoodBlockers d merged blockers
    → AreGoodBlockers d merged (filter test blockers)
good-filter d merged blockers test h = record {
  ascending = IsAscending-filter test blockers h.ascending;
  there = λ m e. h.there m (kept m e);
  outside = λ m e. h.outside m (kept m e);
}
  where
    kept : (m : ℕ) → has (filter test blockers) m ≡ true → has blockers m ≡ true
    kept m e = (and_parts (has blockers m) (test m) (sym (has-filter test blockers m) ∙ e)).0

pub good-blockers_after : (d : Desk) (sender : List ℕ) (command : Command ℕ) (head : Option Node) (merged : List ℕ) (f : Shared)
    → AreGoodBlockers d merged f.blockers
    → first_bug_refusal (others_may_be_archived command) d.bug (other_bugs command) ≡ None
    → first_of (own_tests command head merged f) ≡ None
    → AreGoodBlockers d merged (shared_after sender command f).blockers
good-blockers_after d sender (commands.Block n ns) head merged f h words tests =
    good-blocked d merged f.blockers ns h words (none-own merged ns tests)
good-blockers_after d sender (commands.Unblock n ns) head merged f h words tests =
    good-filter d merged f.blockers (λ m. not (has ns m)) h
good-blockers_after d sender (commands.Reopen n who) head merged f h words tests =
    elim f.closed as (λ t. AreGoodBlockers d merged (cond t (opened f) f).blockers) [ true ↦ h | false ↦ h ]
good-blockers_after d sender (commands.Reassign n to None) head merged f h words tests =
    elim (bytes_eq to f.«package») as (λ t. AreGoodBlockers d merged
    (cond t f (record f { «package» = to; found = []; fixed = [] })).blockers) [ true ↦ h | false ↦ h ]
good-blockers_after d sender (commands.Reassign n to (Some version)) head merged f h words tests =
    elim (bytes_eq to f.«package») as (λ t. AreGoodBlockers d merged
    (cond t f (record f { «package» = to; found = []; fixed = [] })).blockers) [ true ↦ h | false ↦ h ]
good-blockers_after d sender (commands.Found n None) head merged f h words tests = h
good-blockers_after d sender (commands.Found n (Some version)) head merged f h words tests = h
good-blockers_after d sender (commands.Close n None) head merged f h words tests = h
good-blockers_after d sender (commands.Close n (Some version)) head merged f h words tests = h
good-blockers_after d sender _ head merged f h words tests = h
