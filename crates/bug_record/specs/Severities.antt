-- Severities (the BTS page 'control and manipulation').
use Rattle.std.specs.Prelude.{ℕ, List, [], ◌∷◌, Option, codes}
use Rattle.std.specs.List.{find}
use Rattle.base_words.specs.AnyCase.{is_word}
use Rattle.bug_record.specs.declared.severity.Severity.{Severity}
use Rattle.bug_record.specs.declared.severity.Severity.TheVariants.{Critical, Grave, Serious, Important, Normal, Minor, Wishlist}

-- all severities, from the most severe down
abbrev pub all_severities : List Severity
all_severities = Critical ∷ Grave ∷ Serious ∷ Important ∷ Normal ∷ Minor ∷ Wishlist ∷ []

-- a severity's place among them, counted from 0
abbrev pub rank : Severity → ℕ
rank Critical = 0
rank Grave = 1
rank Serious = 2
rank Important = 3
rank Normal = 4
rank Minor = 5
rank Wishlist = 6

abbrev pub severity_name : Severity → List ℕ
severity_name Critical = codes "critical"
severity_name Grave = codes "grave"
severity_name Serious = codes "serious"
severity_name Important = codes "important"
severity_name Normal = codes "normal"
severity_name Minor = codes "minor"
severity_name Wishlist = codes "wishlist"

-- the severity that a word names, in any ASCII case
abbrev pub severity_of : List ℕ → Option Severity
severity_of word = find (λ severity. is_word word (severity_name severity)) all_severities
