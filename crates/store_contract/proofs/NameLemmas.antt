-- The names that an accepted `clone` gives stand for its copies, in order.
use Rattle.std.proofs.Common.{◌≡◌, ◌+◌, ℕ, List, [], ◌∷◌, length, Option, Some, None, map, zip, sym, ap, ◌∙◌}
use Rattle.std.specs.Prelude.{Result, Ok}
use Rattle.std.specs.Result.{is_ok, result_unwrap_or}
use Rattle.std.proofs.lemmas.Bool.{false≢true}
use Rattle.base_words.specs.declared.named.Named.{Named}
use Rattle.bug_record.specs.Bugs.{with_new_bugs, at_bug, unless, first_of}
use Rattle.bug_record.specs.Changed.{changed_numbers}
use Rattle.bug_record.specs.Sets.{numbers_below}
use Rattle.bug_record.specs.Clones.{clone_of, merged_refusal, full_refusal, name_refusal, cloned}
use Rattle.bug_record.specs.Desk.{Desk, IsSound}
use Rattle.bug_record.specs.Steps.{step}
use Rattle.bug_record.specs.Words.{Names, meaning, words_refusal, number_by}
use Rattle.bug_record.specs.declared.bug.Bug.{Bug}
use Rattle.bug_record.specs.declared.command.Command.TheVariants.{Clone}
use Rattle.bug_record.specs.declared.command.Refusal.{Refusal}
use Rattle.bug_record.proofs.NewBugLemmas.{changed-new}

-- a desk that comes of a test, which refused nothing
pub passed : (o : Option Refusal) (r : Result Desk Refusal) (new : Desk) → unless o r ≡ Ok new → r ≡ Ok new
passed None r new e = e
passed (Some refusal) r new e = absurd (false≢true (ap is_ok e))

-- the numbers of the copies, where there are some
pub copies : (d : Desk) (refusals : Bug → Option Refusal) (many n : ℕ) (o : Option Bug) (new : Desk) → IsSound d
    → at_bug o n (λ b. unless (refusals b) (Ok (with_new_bugs d (clone_of b) many))) ≡ Ok new
    → changed_numbers d new ≡ map (λ k. d.next + k) (numbers_below many)
copies d refusals many n None new sound e = absurd (false≢true (ap is_ok e))
copies d refusals many n (Some b) new sound e =
    let made = with_new_bugs d (clone_of b) many in
    ap (λ r. changed_numbers d (result_unwrap_or r made)) (sym (passed (refusals b) (Ok made) new e))
    ∙ changed-new d (clone_of b) many sound

pub names-of_copies : (names : Names) (d : Desk) (sender : List ℕ) (n : Named) (ks : List ℕ) (new : Desk) → IsSound d
    → step names d sender (Clone n ks) ≡ Ok new
    → zip ks (changed_numbers d new) ≡ zip ks (map (λ k. d.next + k) (numbers_below (length ks)))
names-of_copies names d sender n ks new sound e =
    let m = number_by (meaning names) n in
    ap (zip ks) (copies d
    (λ b. first_of (merged_refusal m b.merged ∷ name_refusal names ks ∷ full_refusal d.next (length ks) ∷ []))
    (length ks) m (d.bug m) new sound
    (passed (words_refusal (meaning names) d.bug (Clone n ks)) (cloned (name_refusal names) d m ks) new e))
