-- A command that was told comes to what it means.
use Rattle.std.proofs.Common.{◌≡◌, ◌+◌, ℕ, List, [], ◌∷◌, true, false, Bool, Option, Some, None, Result, Ok, Err}
use Rattle.std.proofs.Common.{◌∙◌, ap, sym, refl}
use Rattle.std.specs.Prelude.{nat_lt, option_map, length, if◌then◌else◌}
use Rattle.std.specs.List.{find}
use Rattle.std.specs.Option.{option_or}
use Rattle.std.proofs.lemmas.Option.{none-some}
use Rattle.base_words.specs.Bugs.{IsGoodBug}
use Rattle.base_words.specs.declared.named.Named.{Named}
use Rattle.version_nodes.specs.Nodes.{Node}
use Rattle.bug_record.specs.Sets.{has, Each}
use Rattle.base_words.specs.Texts.{IfGiven}
use Rattle.bug_record.specs.Desk.{Desk, IsSound}
use Rattle.bug_record.specs.Bugs.{with_new_bugs, at_bug, unless, first_of, first_refusal, bugs_at}
use Rattle.bug_record.specs.Words.{Names, meaning, bug_refusal, number_by, first_bug_refusal, words_refusal}
use Rattle.bug_record.specs.Words.{first_may_be_archived, others_may_be_archived}
use Rattle.bug_record.specs.Heads.{open_head}
use Rattle.bug_record.specs.Clones.{is_taken, name_refusal, merged_refusal, full_refusal, clone_of, cloned}
use Rattle.bug_record.specs.Differences.{differing, first_difference, package_difference}
use Rattle.bug_record.specs.Merges.{sets_joined, with_merged, all_merged, joined_shared, taken_out, others_merged}
use Rattle.bug_record.specs.Commands.{bug_named, other_bugs, bugs_named, command_over}
use Rattle.bug_record.specs.Steps.{own_tests, records_changed, change_set, shared_after, new_title, new_submitter}
use Rattle.bug_record.specs.Steps.{carried_out, step}
use Rattle.bug_record.specs.declared.bug.Bug.{Bug}
use Rattle.bug_record.specs.declared.bug.Shared.{Shared}
use Rattle.bug_record.specs.declared.command.Command.{Command}
use Rattle.bug_record.specs.declared.command.Command.TheVariants as commands
use Rattle.bug_record.specs.declared.command.Field.{Field}
use Rattle.bug_record.specs.declared.command.Refusal.{Refusal}
use Rattle.bug_record.specs.declared.command.Refusal.TheVariants.{NoBug, NotArchived, NotDone, StillFound, OwnSet, Merged, NameTaken, Full}
use Rattle.store_contract.specs.Known.{AreOfBugs}
use Rattle.store_contract.specs.Telling.{number_told, command_told, refusal_meant, result_meant, step_among}
use Rattle.store_contract.proofs.OverLemmas.{bug-over, over-agree}
use Rattle.store_contract.proofs.ToldLemmas.{command-numbers, command-told}

-- the refusals that follow those of the bugs are told as they are
abbrev Stays : Result Desk Refusal → Type 0
Stays result = result_meant result ≡ result

-- so is a refusal, if there is one
abbrev AsIs : Option Refusal → Type 0
AsIs o = IfGiven (λ refusal. refusal_meant refusal ≡ refusal) o

either : (o p : Option Refusal) → AsIs o → AsIs p → AsIs (option_or o p)
either None p h k = k
either (Some refusal) p h k = h

at-stays : (o : Option Bug) (n : ℕ) (f : Bug → Result Desk Refusal) (b : Bug) → o ≡ Some b → ((c : Bug) → Stays (f c))
    → Stays (at_bug o n f)
at-stays None n f b e h = absurd (none-some b e)
at-stays (Some c) n f b e h = h c

unless-stays : (o : Option Refusal) (new : Desk) → AsIs o → Stays (unless o (Ok new))
unless-stays None new h = refl
unless-stays (Some refusal) new h = ap Err h

differing-stays : (difference : Shared → Option Field) (bug : ℕ → Option Bug) (ns : List ℕ)
    → AsIs (first_refusal (differing difference) bug ns)
differing-stays difference bug [] = tt
differing-stays difference bug (n ∷ ns) =
    either (differing difference (bug n) n) (first_refusal (differing difference) bug ns) (one (bug n))
    (differing-stays difference bug ns)
  where
    one : (o : Option Bug) → AsIs (differing difference o n)
    one None = tt
    one (Some b) = elim (difference b.shared) as (λ f. AsIs (differing (λ _. f) (Some b) n)) [ None ↦ tt | Some field ↦ refl ]

joined-stays : (d : Desk) (difference : Shared → Shared → Option Field) (n : ℕ) (ns : List ℕ) (b : Bug) → d.bug n ≡ Some b
    → Stays (sets_joined difference d n ns)
joined-stays d difference n ns b e =
    at-stays (d.bug n) n _ b e (λ first.
    unless-stays (first_refusal (differing (difference first.shared)) d.bug ns)
    (with_merged d (all_merged (bugs_at d.bug (n ∷ ns))) (joined_shared first.shared (bugs_at d.bug (n ∷ ns))))
    (differing-stays (difference first.shared) d.bug ns))

taken-stays : (d : Desk) (n : ℕ) (rest : List ℕ) → Stays (taken_out d n rest)
taken-stays d n [] = refl
taken-stays d n (m ∷ rest) = refl

-- the refusals of a clone
merged-stays : (n : ℕ) (merged : List ℕ) → AsIs (merged_refusal n merged)
merged-stays n merged =
    elim (nat_lt 1 (length merged)) as (λ t. AsIs (if t then Some (Merged n) else None)) [ true ↦ refl | false ↦ tt ]

name-stays : (names : Names) (ks : List ℕ) → AsIs (name_refusal names ks)
name-stays names ks = elim (find (is_taken names ks) ks) as (λ o. AsIs (option_map NameTaken o)) [ None ↦ tt | Some k ↦ refl ]

full-stays : (next asked : ℕ) → AsIs (full_refusal next asked)
full-stays next asked =
    elim (nat_lt 1000000000 (next + asked)) as (λ t. AsIs (if t then Some Full else None)) [ true ↦ refl | false ↦ tt ]

cloned-stays : (names : Names) (d : Desk) (n : ℕ) (ks : List ℕ) (b : Bug) → d.bug n ≡ Some b
    → Stays (cloned (name_refusal names) d n ks)
cloned-stays names d n ks b e =
    at-stays (d.bug n) n _ b e (λ c.
    unless-stays (first_of (merged_refusal n c.merged ∷ name_refusal names ks ∷ full_refusal d.next (length ks) ∷ []))
    (with_new_bugs d (clone_of c) (length ks))
    (either (merged_refusal n c.merged) (first_of (name_refusal names ks ∷ full_refusal d.next (length ks) ∷ []))
    (merged-stays n c.merged)
    (either (name_refusal names ks) (first_of (full_refusal d.next (length ks) ∷ [])) (name-stays names ks)
    (either (full_refusal d.next (length ks)) None (full-stays d.next (length ks)) tt))))

tests-stay : (command : Command ℕ) (head : Option Node) (merged : List ℕ) (f : Shared)
    → AsIs (first_of (own_tests command head merged f))
tests-stay (commands.Block n ns) head merged f =
    elim (find (has merged) ns) as (λ o. AsIs (option_or (option_map OwnSet o) None)) [ None ↦ tt | Some m ↦ refl ]
tests-stay (commands.Archive n) head merged f =
    elim f.closed as (λ t. AsIs (option_or (if t then None else Some (NotDone n)) (option_or (option_map StillFound head) None))) [
      | true ↦ elim head as (λ h. AsIs (option_or (option_map StillFound h) None)) [ None ↦ tt | Some v ↦ refl ]
      | false ↦ refl
    ]
tests-stay (commands.Unarchive n) head merged f =
    elim f.archived as (λ t. AsIs (option_or (if t then None else Some (NotArchived n)) None)) [ true ↦ tt | false ↦ refl ]
tests-stay (commands.Affects n step names) head merged f = tt
tests-stay _ head merged f = tt

records-stay : (d : Desk) (sender : List ℕ) (command : Command ℕ) (b : Bug) → d.bug (bug_named command) ≡ Some b
    → Stays (records_changed (open_head d.tree) sender command d)
records-stay d sender command b e =
    at-stays (d.bug (bug_named command)) (bug_named command) _ b e (λ c.
    unless-stays (first_of (own_tests command (open_head d.tree c.shared) c.merged c.shared))
    (change_set d (bug_named command) (shared_after sender command) (new_title command) (new_submitter sender command))
    (tests-stay command (open_head d.tree c.shared) c.merged c.shared))

stays : (names : Names) (d : Desk) (sender : List ℕ) (command : Command ℕ) (b : Bug) → d.bug (bug_named command) ≡ Some b
    → Stays (carried_out (name_refusal names) (open_head d.tree) d sender command)
stays names d sender (commands.Merge n ns) b e = joined-stays d first_difference n ns b e
stays names d sender (commands.ForceMerge n ns) b e = joined-stays d package_difference n ns b e
stays names d sender (commands.Unmerge n) b e = at-stays (d.bug n) n _ b e (λ c. taken-stays d n (others_merged n c.merged))
stays names d sender (commands.Clone n ks) b e = cloned-stays names d n ks b e
stays names d sender command b e = records-stay d sender command b e

-- the first bug is there where none is refused
first-there : (may_be : Bool) (o : Option Bug) (n : ℕ) (p : Option Refusal) → option_or (bug_refusal may_be o n) p ≡ None
    → (b : Bug) × (o ≡ Some b)
first-there may_be None n p e = absurd (none-some (NoBug n) (sym e))
first-there may_be (Some b) n p e = (b, refl)

-- a command that was told comes to what it means
pub step-told : (names : Names) → AreOfBugs names → (d : Desk) (sender : List ℕ) (command : Command Named) → IsSound d
    → Each IsGoodBug (bugs_named command)
    → result_meant (step_among names d sender (command_told names command)) ≡ step names d sender command
step-told names known d sender command sound good = by (words_refusal (λ n. Ok n) d.bug (command_told names command)) refl
  where
    own : Command ℕ
    own = command_over (number_by (λ n. Ok n)) (command_told names command)

    meant : Command ℕ
    meant = command_over (number_by (meaning names)) command

    comes_to : Command ℕ → Result Desk Refusal
    comes_to c = carried_out (name_refusal names) (open_head d.tree) d sender c

    told : option_map refusal_meant (words_refusal (λ n. Ok n) d.bug (command_told names command))
        ≡ words_refusal (meaning names) d.bug command
    told = command-told names known d sound command good

    by : (o : Option Refusal) → words_refusal (λ n. Ok n) d.bug (command_told names command) ≡ o
        → result_meant (unless (words_refusal (λ n. Ok n) d.bug (command_told names command)) (comes_to own))
        ≡ unless (words_refusal (meaning names) d.bug command) (comes_to meant)
    by None e =
        let none : words_refusal (meaning names) d.bug command ≡ None = sym told ∙ ap (option_map refusal_meant) e in
        let same : own ≡ meant =
        over-agree (number_told names) (number_by (λ n. Ok n)) (number_by (meaning names)) command
        (command-numbers names d command none) in
        let there = first-there (first_may_be_archived (command_told names command)) (d.bug (bug_named (command_told names command)))
        (bug_named (command_told names command))
        (first_bug_refusal (others_may_be_archived (command_told names command)) d.bug (other_bugs (command_told names command))) e in
        (λ i. result_meant (unless (e i) (comes_to own)))
        ∙ (stays names d sender own there.0 (ap d.bug (bug-over (number_by (λ n. Ok n)) (command_told names command)) ∙ there.1)
        ∙ (λ i. unless (sym none i) (comes_to (same i))))
    by (Some refusal) e =
        let some : words_refusal (meaning names) d.bug command ≡ Some (refusal_meant refusal)
        = sym told ∙ ap (option_map refusal_meant) e in
        (λ i. result_meant (unless (e i) (comes_to own))) ∙ (λ i. unless (sym some i) (comes_to meant))
