-- Bug words (the BTS page 'control and manipulation'; the limits are this project's own rule).
use Rattle.std.specs.Prelude.{ℕ, ◌==◌, if◌then◌else◌, List, [], ◌∷◌, Option, Some, None, option_map}
use Rattle.base_words.specs.Numbers.{without_hash, number_of_digits, IsGoodNumber}
use Rattle.base_words.specs.declared.named.Named.{Named}
use Rattle.base_words.specs.declared.named.Named.TheVariants.{Number, Name}

-- a number by its digits, or a name by a `-` and digits
abbrev pub bug_of_text : List ℕ → Option Named
bug_of_text [] = None
bug_of_text (c ∷ s) = if c == 45 then option_map Name (number_of_digits s) else option_map Number (number_of_digits (c ∷ s))

-- the bug of a bug word: a number word, or an optional `#`, a `-` and such digits
abbrev pub bug_of_word : List ℕ → Option Named
bug_of_word word = bug_of_text (without_hash word)

-- the number k of a bug that is the name -k
abbrev pub name_of_bug : Option Named → Option ℕ
name_of_bug (Some (Name k)) = Some k
name_of_bug bug = None

-- the number k of a bug word that is the name -k, as `clone` gives names
abbrev pub name_of_word : List ℕ → Option ℕ
name_of_word word = name_of_bug (bug_of_word word)

-- the number, or the number of the name, is from 1 to 999,999,999
abbrev pub IsGoodBug : Named → Type 0
IsGoodBug (Number n) = IsGoodNumber n
IsGoodBug (Name k) = IsGoodNumber k
