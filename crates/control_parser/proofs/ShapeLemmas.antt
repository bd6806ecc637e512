-- Lists of another number of words are malformed.
use Rattle.std.proofs.Common.{◌≡◌, ◌≢◌, ℕ, List, [], ◌∷◌, length, Err, refl}
use Rattle.bug_record.specs.declared.command.Refusal.TheVariants.{Malformed}
use Rattle.control_grammar.specs.Commands.{bug_alone, bug_and_version, bug_and_optional_version, severity_command}
use Rattle.control_grammar.specs.Commands.{reassign_command}

pub not_alone : (ws : List (List ℕ)) → length ws ≢ 1 → bug_alone ws ≡ Err Malformed
not_alone [] h = refl
not_alone (n ∷ []) h = absurd (h refl)
not_alone (n ∷ m ∷ ws) h = refl

pub no_version : (ws : List (List ℕ)) → length ws ≢ 2 → bug_and_version ws ≡ Err Malformed
no_version [] h = refl
no_version (n ∷ []) h = refl
no_version (n ∷ v ∷ []) h = absurd (h refl)
no_version (n ∷ v ∷ w ∷ ws) h = refl

pub no_optional_version : (ws : List (List ℕ)) → length ws ≢ 1 → length ws ≢ 2 → bug_and_optional_version ws ≡ Err Malformed
no_optional_version [] one two = refl
no_optional_version (n ∷ []) one two = absurd (one refl)
no_optional_version (n ∷ v ∷ []) one two = absurd (two refl)
no_optional_version (n ∷ v ∷ w ∷ ws) one two = refl

pub no_severity : (ws : List (List ℕ)) → length ws ≢ 2 → severity_command ws ≡ Err Malformed
no_severity [] h = refl
no_severity (n ∷ []) h = refl
no_severity (n ∷ s ∷ []) h = absurd (h refl)
no_severity (n ∷ s ∷ w ∷ ws) h = refl

pub no_package : (ws : List (List ℕ)) → length ws ≢ 2 → length ws ≢ 3 → reassign_command ws ≡ Err Malformed
no_package [] two three = refl
no_package (n ∷ []) two three = refl
no_package (n ∷ p ∷ []) two three = absurd (two refl)
no_package (n ∷ p ∷ v ∷ []) two three = absurd (three refl)
no_package (n ∷ p ∷ v ∷ w ∷ ws) two three = refl
