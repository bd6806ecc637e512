-- The step of a command whose bugs are given as numbers.
use Rattle.std.proofs.Common.{◌≡◌, ℕ, false, List, [], ◌∷◌, Option, Some, None, Result, Ok, refl, ap, subst}
use Rattle.std.specs.Prelude.{map}
use Rattle.bug_record.specs.Words.{first_bug_refusal, words_refusal}
use Rattle.bug_record.specs.Desk.{Desk}
use Rattle.bug_record.specs.Differences.{first_difference, package_difference}
use Rattle.bug_record.specs.Merges.{sets_joined}
use Rattle.version_nodes.specs.Nodes.{Node}
use Rattle.bug_record.specs.Bugs.{at_bug, unless, first_of}
use Rattle.bug_record.specs.Heads.{open_head}
use Rattle.bug_record.specs.Commands.{bugs_named}
use Rattle.bug_record.specs.Plans.{IsOpenHeadFor}
use Rattle.bug_record.specs.Steps.{own_tests, records_changed, change_set, shared_after, new_title, new_submitter, step_of_numbers}
use Rattle.bug_record.specs.declared.bug.Bug.{Bug}
use Rattle.bug_record.specs.declared.command.Command.{Command}
use Rattle.bug_record.specs.declared.bug.SetImage.{SetImage}
use Rattle.bug_record.specs.declared.command.Change.{Change}
use Rattle.bug_record.specs.declared.command.Command.TheVariants as commands
use Rattle.bug_record.specs.declared.command.PlanFault.{PlanFault}
use Rattle.bug_core.specs.Planned.{step_with, IsPlanned, IsPlannedOf, IsRecordsPlan}

-- numbers mean themselves
map-same : (ns : List ℕ) → ns ≡ map (λ n. n) ns
map-same [] = refl
map-same (n ∷ ns) = ap (λ ks. n ∷ ks) (map-same ns)

pub planned-merge : (head : Option Node) (sender : List ℕ) (n : ℕ) (ns : List ℕ) (is : List SetImage) (next : ℕ) (result : Result Change PlanFault)
    → IsPlannedOf (n ∷ ns) (λ d. sets_joined first_difference d n ns) is next result
    → IsPlanned (n ∷ ns) (step_with head sender (commands.Merge n ns)) is next result
planned-merge head sender n ns is next result h =
    subst (λ (ks : List ℕ). IsPlanned (n ∷ ns)
    (λ d. unless (first_bug_refusal false d.bug (n ∷ ns)) (sets_joined first_difference d n ks)) is next result) (map-same ns) h

pub planned-forcemerge : (head : Option Node) (sender : List ℕ) (n : ℕ) (ns : List ℕ) (is : List SetImage) (next : ℕ)
    (result : Result Change PlanFault)
    → IsPlannedOf (n ∷ ns) (λ d. sets_joined package_difference d n ns) is next result
    → IsPlanned (n ∷ ns) (step_with head sender (commands.ForceMerge n ns)) is next result
planned-forcemerge head sender n ns is next result h =
    subst (λ (ks : List ℕ). IsPlanned (n ∷ ns)
    (λ d. unless (first_bug_refusal false d.bug (n ∷ ns)) (sets_joined package_difference d n ks)) is next result) (map-same ns) h

-- the open head that is handed in is the desk's
changed-with : (d : Desk) (head : Option Node) (sender : List ℕ) (n : ℕ)
    → ((b : Bug) → d.bug n ≡ Some b → head ≡ open_head d.tree b.shared)
    → records_changed (λ _. head) sender (commands.Archive n) d ≡ records_changed (open_head d.tree) sender (commands.Archive n) d
changed-with d head sender n h = at (d.bug n) h
  where
    new : Desk
    new = change_set d n (shared_after sender (commands.Archive n)) (new_title (commands.Archive n))
        (new_submitter sender (commands.Archive n))

    at : (o : Option Bug) → ((b : Bug) → o ≡ Some b → head ≡ open_head d.tree b.shared)
        → at_bug o n (λ b. unless (first_of (own_tests (commands.Archive n) head b.merged b.shared)) (Ok new))
        ≡ at_bug o n (λ b. unless (first_of (own_tests (commands.Archive n) (open_head d.tree b.shared) b.merged b.shared)) (Ok new))
    at None k = refl
    at (Some b) k = λ j. unless (first_of (own_tests (commands.Archive n) (k b refl j) b.merged b.shared)) (Ok new)

pub step-with : (d : Desk) (head : Option Node) (sender : List ℕ) (command : Command ℕ) → IsOpenHeadFor d command head
    → step_with head sender command d ≡ step_of_numbers d sender command
step-with d head sender (commands.Archive n) h =
    ap (unless (first_bug_refusal false d.bug (n ∷ []))) (changed-with d head sender n h)
step-with d head sender (commands.Found n version) h = refl
step-with d head sender _ h = refl

-- a command that changes no set
pub planned-others : (head : Option Node) (sender : List ℕ) (command : Command ℕ) (is : List SetImage) (next : ℕ)
    (result : Result Change PlanFault) → ((n : ℕ) (ns : List ℕ) → command ≡ commands.Merge n ns → ⊥)
    → ((n : ℕ) (ns : List ℕ) → command ≡ commands.ForceMerge n ns → ⊥) → ((n : ℕ) → command ≡ commands.Unmerge n → ⊥)
    → ((n : ℕ) (ks : List ℕ) → command ≡ commands.Clone n ks → ⊥)
    → IsRecordsPlan head sender command is next result
    → IsPlanned (bugs_named command) (step_with head sender command) is next result
planned-others head sender (commands.Merge n ns) is next result a b c e h = absurd (a n ns refl)
planned-others head sender (commands.ForceMerge n ns) is next result a b c e h = absurd (b n ns refl)
planned-others head sender (commands.Unmerge n) is next result a b c e h = absurd (c n refl)
planned-others head sender (commands.Clone n ks) is next result a b c e h = absurd (e n ks refl)
planned-others head sender (commands.Block n ns) is next result a b c e h =
    subst (λ (ks : List ℕ). IsPlanned (n ∷ ns) (λ d. unless (words_refusal (λ n. Ok n) d.bug (commands.Block n ns))
    (records_changed (λ _. head) sender (commands.Block n ks) d)) is next result) (map-same ns) h
planned-others head sender (commands.Unblock n ns) is next result a b c e h =
    subst (λ (ks : List ℕ). IsPlanned (n ∷ ns) (λ d. unless (words_refusal (λ n. Ok n) d.bug (commands.Unblock n ns))
    (records_changed (λ _. head) sender (commands.Unblock n ks) d)) is next result) (map-same ns) h
planned-others head sender _ is next result a b c e h = h
