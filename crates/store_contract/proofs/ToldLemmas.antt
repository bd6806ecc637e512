-- Names that are not known are told as numbers that no bug has, and refused by name.
use Rattle.std.proofs.Common.{◌≡◌, ◌<◌, ◌≤◌, ◌+◌, ◌-◌, ℕ, Bool, List, [], ◌∷◌, true, false, Option, Some, None, Ok}
use Rattle.std.proofs.Common.{◌∙◌, ap, sym, subst, refl, arith}
use Rattle.std.specs.Prelude.{◌==◌, nat_lt, map, option_map, ok_or, unwrap_or, not, ◌&&◌, if◌then◌else◌}
use Rattle.std.specs.Option.{option_or}
use Rattle.std.proofs.lemmas.Bool.{lt-ltb, le-ltb}
use Rattle.std.proofs.lemmas.Option.{none-some, same_Some}
use Rattle.base_words.specs.Bugs.{IsGoodBug}
use Rattle.base_words.specs.declared.named.Named.{Named}
use Rattle.base_words.specs.declared.named.Named.TheVariants.{Number, Name}
use Rattle.bug_record.specs.Sets.{Each}
use Rattle.bug_record.specs.Desk.{Desk, IsSound}
use Rattle.bug_record.specs.Words.{Names, number_of_name, meaning, number_by, bug_refusal, word_refusal, first_word_refusal}
use Rattle.bug_record.specs.Words.{first_bug_refusal, first_may_be_archived, others_may_be_archived, words_refusal}
use Rattle.bug_record.specs.Commands.{bug_named, other_bugs, bugs_named}
use Rattle.bug_record.proofs.RefusalLemmas.{first-none, later-none}
use Rattle.bug_record.specs.declared.bug.Bug.{Bug}
use Rattle.bug_record.specs.declared.command.Command.{Command}
use Rattle.bug_record.specs.declared.command.Refusal.{Refusal}
use Rattle.bug_record.specs.declared.command.Refusal.TheVariants.{NoName, NoBug, Archived}
use Rattle.store_contract.specs.Known.{AreOfBugs}
use Rattle.store_contract.specs.Telling.{number_told, command_told, refusal_meant}
use Rattle.store_contract.proofs.OverLemmas.{bug-over, may-over, others-may-over, others-over}

-- a sound desk has no bug above its last number
none_above : (d : Desk) (n : ℕ) → IsSound d → 1000000000 < n → d.bug n ≡ None
none_above d n sound above =
    elim (d.bug n) as (λ o. d.bug n ≡ o → o ≡ None) [
      | None ↦ λ e. refl
      | Some b ↦ λ e. absurd (omega (arith, (sound.in_range n b e).1, sound.next_in_range.1))
    ] refl

meant_name : (k : ℕ) → 0 < k → refusal_meant (NoBug (1000000000 + k)) ≡ NoName k
meant_name k some =
    let above : nat_lt 1000000000 (1000000000 + k) ≡ true = lt-ltb 1000000000 (1000000000 + k) (omega arith) in
    let back : 1000000000 + k - 1000000000 ≡ k = omega arith in
    ap (λ (b : Bool). if b then NoName (1000000000 + k - 1000000000) else NoBug (1000000000 + k)) above ∙ ap NoName back

meant_number : (n : ℕ) → n ≤ 999999999 → refusal_meant (NoBug n) ≡ NoBug n
meant_number n few =
    let below : nat_lt 1000000000 n ≡ false = le-ltb 1000000000 n (omega arith) in
    ap (λ (b : Bool). if b then NoName (n - 1000000000) else NoBug n) below

-- the number of a name that is known
number-known : (names : Names) (k n : ℕ) → AreOfBugs names → number_of_name names k ≡ Some n → n ≤ 999999999
number-known [] k n h e = absurd (none-some n e)
number-known (p ∷ names) k n h e =
    elim (p.0 == k) as (λ t. (if t then Some p.1 else number_of_name names k) ≡ Some n → n ≤ 999999999)
    [ true ↦ λ e. subst (λ m. m ≤ 999999999) (same_Some p.1 n e) h.0 | false ↦ λ e. number-known names k n h.1 e ] e

-- the refusal of a bug word that is told as a number is that of the word
option-told : (o p : Option Refusal) → option_map refusal_meant (option_or o p) ≡ option_or (option_map refusal_meant o) (option_map refusal_meant p)
option-told None p = refl
option-told (Some refusal) p = refl

bug-told : (may_be : Bool) (o : Option Bug) (n : ℕ) → n ≤ 999999999
    → option_map refusal_meant (bug_refusal may_be o n) ≡ bug_refusal may_be o n
bug-told may_be None n few = ap Some (meant_number n few)
bug-told may_be (Some b) n few =
    elim (b.shared.archived && not may_be) as (λ t. option_map refusal_meant (if t then Some (Archived n) else None)
    ≡ (if t then Some (Archived n) else None)) [ true ↦ refl | false ↦ refl ]

name-told : (may_be : Bool) (d : Desk) → IsSound d → (k : ℕ) → 0 < k → (o : Option ℕ) → ((n : ℕ) → o ≡ Some n → n ≤ 999999999)
    → option_map refusal_meant (bug_refusal may_be (d.bug (unwrap_or o (1000000000 + k))) (unwrap_or o (1000000000 + k)))
    ≡ word_refusal may_be d.bug (ok_or o (NoName k))
name-told may_be d sound k some (Some n) h = bug-told may_be (d.bug n) n (h n refl)
name-told may_be d sound k some None h =
    ap (λ (o : Option Bug). option_map refusal_meant (bug_refusal may_be o (1000000000 + k)))
    (none_above d (1000000000 + k) sound (omega arith))
    ∙ ap Some (meant_name k some)

word-told : (names : Names) → AreOfBugs names → (may_be : Bool) (d : Desk) → IsSound d → (word : Named) → IsGoodBug word
    → option_map refusal_meant (bug_refusal may_be (d.bug (number_told names word)) (number_told names word))
    ≡ word_refusal may_be d.bug (meaning names word)
word-told names known may_be d sound (Number n) good = bug-told may_be (d.bug n) n good.most
word-told names known may_be d sound (Name k) good =
    name-told may_be d sound k (let least = good.least in omega arith) (number_of_name names k)
    (λ n e. number-known names k n known e)

words-told : (names : Names) → AreOfBugs names → (may_be : Bool) (d : Desk) → IsSound d → (words : List Named)
    → Each IsGoodBug words
    → option_map refusal_meant (first_bug_refusal may_be d.bug (map (number_told names) words))
    ≡ first_word_refusal may_be (meaning names) d.bug words
words-told names known may_be d sound [] good = refl
words-told names known may_be d sound (word ∷ words) good =
    option-told (bug_refusal may_be (d.bug (number_told names word)) (number_told names word))
    (first_bug_refusal may_be d.bug (map (number_told names) words))
    ∙ (λ i. option_or (word-told names known may_be d sound word good.0 i) (words-told names known may_be d sound words good.1 i))

-- where no word is refused, each is a number
name-number : (may_be : Bool) (d : Desk) (k : ℕ) (o : Option ℕ) → word_refusal may_be d.bug (ok_or o (NoName k)) ≡ None
    → unwrap_or o (1000000000 + k) ≡ number_by (λ (p : Option ℕ). ok_or p (NoName k)) o
name-number may_be d k (Some n) e = refl
name-number may_be d k None e = absurd (none-some (NoName k) (sym e))

word-number : (names : Names) (may_be : Bool) (d : Desk) (word : Named) → word_refusal may_be d.bug (meaning names word) ≡ None
    → number_told names word ≡ number_by (meaning names) word
word-number names may_be d (Number n) e = refl
word-number names may_be d (Name k) e = name-number may_be d k (number_of_name names k) e

words-numbers : (names : Names) (may_be : Bool) (d : Desk) (words : List Named)
    → first_word_refusal may_be (meaning names) d.bug words ≡ None
    → Each (λ word. number_told names word ≡ number_by (meaning names) word) words
words-numbers names may_be d [] e = tt
words-numbers names may_be d (word ∷ words) e = (
  word-number names may_be d word
      (first-none (word_refusal may_be d.bug (meaning names word)) (first_word_refusal may_be (meaning names) d.bug words) e),
  words-numbers names may_be d words
      (later-none (word_refusal may_be d.bug (meaning names word)) (first_word_refusal may_be (meaning names) d.bug words) e),
)

pub command-numbers : (names : Names) (d : Desk) (command : Command Named) → words_refusal (meaning names) d.bug command ≡ None
    → Each (λ word. number_told names word ≡ number_by (meaning names) word) (bugs_named command)
command-numbers names d command e = (
  word-number names (first_may_be_archived command) d (bug_named command) (first-none first others e),
  words-numbers names (others_may_be_archived command) d (other_bugs command) (later-none first others e),
)
  where
    first : Option Refusal
    first = word_refusal (first_may_be_archived command) d.bug (meaning names (bug_named command))

    others : Option Refusal
    others = first_word_refusal (others_may_be_archived command) (meaning names) d.bug (other_bugs command)

-- the refusal of a command's words that are told as numbers is that of the words
pub command-told : (names : Names) → AreOfBugs names → (d : Desk) → IsSound d → (command : Command Named)
    → Each IsGoodBug (bugs_named command)
    → option_map refusal_meant (words_refusal (λ n. Ok n) d.bug (command_told names command))
    ≡ words_refusal (meaning names) d.bug command
command-told names known d sound command good =
    (λ i. option_map refusal_meant (option_or (word_refusal (may-over f command i) d.bug (Ok (bug-over f command i)))
    (first_bug_refusal (others-may-over f command i) d.bug (others-over f command i))))
    ∙ option-told (word_refusal (first_may_be_archived command) d.bug (Ok (f (bug_named command))))
    (first_bug_refusal (others_may_be_archived command) d.bug (map f (other_bugs command)))
    ∙ (λ i. option_or (word-told names known (first_may_be_archived command) d sound (bug_named command) good.0 i)
    (words-told names known (others_may_be_archived command) d sound (other_bugs command) good.1 i))
  where
    f : Named → ℕ
    f = number_told names
