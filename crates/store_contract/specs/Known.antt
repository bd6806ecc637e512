-- The names that are known within a message.
-- This project's own rule.
use Rattle.std.specs.Prelude.{ℕ, ◌≤◌}
use Rattle.base_words.specs.declared.named.TheConstants.{LARGEST_NUMBER}
use Rattle.bug_record.specs.Sets.{Each}
use Rattle.bug_record.specs.Words.{Names}

-- The names that are known, each with its number, and how many more there is room for.
pub record Known : Type 0 where
  pub names : Names
  pub room : ℕ

-- the names stand for numbers that bugs may have
abbrev pub AreOfBugs : Names → Type 0
AreOfBugs names = Each (λ p. p.1 ≤ LARGEST_NUMBER) names
