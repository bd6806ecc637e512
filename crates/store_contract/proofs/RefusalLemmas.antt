-- What a step answers is good: the numbers and names of its refusal are those of the command's, and
-- its changed numbers are those of bugs.
use Rattle.std.proofs.Common.{◌≡◌, ◌≤◌, ◌<◌, ℕ, Bool, true, false, not, ◌&&◌, cond, List, [], ◌∷◌, Option, Some, None, Result, Ok, Err}
use Rattle.std.proofs.Common.{sym, ap, subst, refl, ◌∙◌, arith}
use Rattle.std.specs.Prelude.{suc, zero, nat_lt, ◌==◌, ◌||◌, filter, map, length, option_map, ok_or, IfErr, if◌then◌else◌}
use Rattle.std.specs.Result.{result_unwrap_or}
use Rattle.std.specs.List.{find}
use Rattle.std.specs.Option.{option_or}
use Rattle.std.proofs.lemmas.Bool.{false≢true, and_parts}
use Rattle.std.proofs.lemmas.Bool.Decides.{nat_tests}
use Rattle.std.specs.Map.{keys_of}
use Rattle.version_nodes.specs.Nodes.{Node, IsNode}
use Rattle.version_nodes.specs.Trees.{Ancestry, has_node, IsForest, heads}
use Rattle.version_nodes.proofs.NodeLemmas.{has_head, has_tail, listed_valid}
use Rattle.bug_record.specs.Sets.{has, Each, IsAscending, numbers_below}
use Rattle.base_words.specs.Texts.{IfGiven}
use Rattle.bug_record.specs.Desk.{Desk, IsSound}
use Rattle.bug_record.specs.Heads.{open_head}
use Rattle.bug_record.specs.Changed.{same_at, changed_numbers}
use Rattle.bug_record.specs.Commands.{bug_named, other_bugs, bugs_named, names_in, command_over}
use Rattle.bug_record.specs.Bugs.{at_bug, unless, first_of, first_refusal}
use Rattle.bug_record.specs.Clones.{is_taken, name_refusal, merged_refusal, full_refusal, cloned}
use Rattle.bug_record.specs.Differences.{differing, first_difference, package_difference}
use Rattle.bug_record.specs.Merges.{sets_joined, others_merged, taken_out}
use Rattle.bug_record.specs.Steps.{own_tests, records_changed, carried_out, step}
use Rattle.bug_record.specs.Words.{Names, number_of_name, meaning, bug_refusal, word_refusal, first_word_refusal, words_refusal, number_by}
use Rattle.bug_record.specs.Words.{first_may_be_archived, others_may_be_archived}
use Rattle.base_sequences.proofs.SetLemmas.{has-filter, has-numbers_below, IsAscending-filter, IsAscending-numbers_below}
use Rattle.bug_record.specs.declared.bug.Bug.{Bug}
use Rattle.bug_record.specs.declared.bug.Shared.{Shared}
use Rattle.bug_record.specs.declared.command.Command.{Command}
use Rattle.bug_record.specs.declared.command.Command.TheVariants as commands
use Rattle.bug_record.specs.declared.command.Field.{Field}
use Rattle.bug_record.specs.declared.command.Refusal.{Refusal}
use Rattle.bug_record.specs.declared.command.Refusal.TheVariants as refusals
use Rattle.base_words.specs.Numbers.{IsGoodNumber}
use Rattle.base_words.specs.Bugs.{IsGoodBug}
use Rattle.base_words.specs.declared.named.Named.{Named}
use Rattle.base_words.specs.declared.named.Named.TheVariants.{Number, Name}
use Rattle.control_grammar.specs.Lines.{IsRefusalOfLine}
use Rattle.bug_record.specs.declared.outcome.Outcome.{Outcome}
use Rattle.store_contract.specs.Message.{outcome_of, does}
use Rattle.store_contract.proofs.OverLemmas.{bug-over, others-over, names-over}
use Rattle.store_contract.specs.Kept.{IsGoodRefusal, IsGoodOutcome}
use Rattle.store_contract.specs.Progress.{HaveNumbers}

-- ---- lists

find-each : {T : Type 0} (P : T → Type 0) (p : T → Bool) (xs : List T) → Each P xs → IfGiven P (find p xs)
find-each P p [] h = tt
find-each P p (x ∷ xs) h = elim (p x) as (λ t. IfGiven P (cond t (Some x) (find p xs))) [ true ↦ h.0 | false ↦ find-each P p xs h.1 ]

filter-each : {T : Type 0} (P : T → Type 0) (test : T → Bool) (xs : List T) → Each P xs → Each P (filter test xs)
filter-each P test [] h = tt
filter-each P test (x ∷ xs) h =
    elim (test x) as (λ t. Each P (cond t (x ∷ filter test xs) (filter test xs)))
    [ true ↦ (h.0, filter-each P test xs h.1) | false ↦ filter-each P test xs h.1 ]

each-from : (P : ℕ → Type 0) (xs : List ℕ) → ((n : ℕ) → has xs n ≡ true → P n) → Each P xs
each-from P [] h = tt
each-from P (x ∷ xs) h = (
  h x (ap (λ t. t || has xs x) (first x)),
  each-from P xs (λ n there. h n (later (x == n) (has xs n) there)),
)
  where
    first : (n : ℕ) → (n == n) ≡ true
    first n = grind (arith, nat_tests)

    later : (s t : Bool) → t ≡ true → (s || t) ≡ true
    later true t e = refl
    later false t e = e

-- ---- the heads of a sound desk are nodes

keys-each : (es : Ancestry) → ((q : Node) → has_node (keys_of es) q ≡ true → IsNode q) → Each IsNode (keys_of es)
keys-each [] h = tt
keys-each (e ∷ es) h = (h e.0 (has_head e.0 (keys_of es)), keys-each es (λ q there. h q (has_tail q e.0 (keys_of es) there)))

head-node : (tree : Ancestry) (f : Shared) → IsForest tree → IfGiven IsNode (open_head tree f)
head-node tree f forest =
    find-each IsNode _ (heads tree f.«package»)
    (filter-each IsNode _ (keys_of tree) (keys-each tree (λ q there. listed_valid tree q forest there)))

-- ---- refusals, one after another

abbrev pub Good : Option Refusal → Type 0
Good refusal = IfGiven IsGoodRefusal refusal

abbrev pub GoodResult : Result Desk Refusal → Type 0
GoodResult result = IfErr result IsGoodRefusal

or-good : (a b : Option Refusal) → Good a → Good b → Good (option_or a b)
or-good None b g h = h
or-good (Some r) b g h = g

unless-good : (refusal : Option Refusal) (result : Result Desk Refusal) → Good refusal → GoodResult result
    → GoodResult (unless refusal result)
unless-good None result g h = h
unless-good (Some refusal) result g h = g

at-good : (b : Option Bug) (n : ℕ) (f : Bug → Result Desk Refusal) → IsGoodNumber n → ((b : Bug) → GoodResult (f b))
    → GoodResult (at_bug b n f)
at-good None n f g h = g
at-good (Some b) n f g h = h b

mapped-good : {T : Type 0} (P : T → Type 0) (f : T → Refusal) (o : Option T) → ((x : T) → P x → IsGoodRefusal (f x)) → IfGiven P o
    → Good (option_map f o)
mapped-good P f None h g = tt
mapped-good P f (Some x) h g = h x g

if-good : (t : Bool) (refusal : Refusal) → IsGoodRefusal refusal → Good (if t then Some refusal else None)
if-good true refusal g = g
if-good false refusal g = tt

if-not-good : (t : Bool) (refusal : Refusal) → IsGoodRefusal refusal → Good (if t then None else Some refusal)
if-not-good true refusal g = tt
if-not-good false refusal g = g

-- ---- the tests of commands

own-good : (c : Command ℕ) (head : Option Node) (merged : List ℕ) (f : Shared) → IsGoodNumber (bug_named c)
    → Each IsGoodNumber (other_bugs c) → IfGiven IsNode head → Good (first_of (own_tests c head merged f))
own-good (commands.Block n ns) head merged f g o h =
    or-good _ None (mapped-good IsGoodNumber refusals.OwnSet (find (has merged) ns) (λ x p. p) (find-each IsGoodNumber (has merged) ns o)) tt
own-good (commands.Archive n) head merged f g o h =
    or-good _ _ (if-not-good f.closed (refusals.NotDone n) g)
    (or-good _ None (mapped-good IsNode refusals.StillFound head (λ x p. p) h) tt)
own-good (commands.Unarchive n) head merged f g o h = or-good _ None (if-not-good f.archived (refusals.NotArchived n) g) tt
own-good _ head merged f g o h = tt

records-good : (head_of : Shared → Option Node) (sender : List ℕ) (c : Command ℕ) (d : Desk) → IsGoodNumber (bug_named c)
    → Each IsGoodNumber (other_bugs c) → ((f : Shared) → IfGiven IsNode (head_of f))
    → GoodResult (records_changed head_of sender c d)
records-good head_of sender c d g o h =
    at-good (d.bug (bug_named c)) (bug_named c) _ g
    (λ b. unless-good _ _ (own-good c (head_of b.shared) b.merged b.shared g o (h b.shared)) tt)

differ-good : (difference : Shared → Option Field) (b : Option Bug) (n : ℕ) → IsGoodNumber n → Good (differing difference b n)
differ-good difference None n g = tt
differ-good difference (Some b) n g =
    elim (difference b.shared) as (λ (o : Option Field).
    Good (elim o as (λ _. Option Refusal) [ None ↦ None | Some field ↦ Some (refusals.Differ field n) ]))
    [ None ↦ tt | Some field ↦ g ]

first-good : (difference : Shared → Option Field) (bug : ℕ → Option Bug) (ns : List ℕ) → Each IsGoodNumber ns
    → Good (first_refusal (differing difference) bug ns)
first-good difference bug [] g = tt
first-good difference bug (n ∷ ns) g =
    or-good (differing difference (bug n) n) _ (differ-good difference (bug n) n g.0) (first-good difference bug ns g.1)

joined-good : (difference : Shared → Shared → Option Field) (d : Desk) (n : ℕ) (ns : List ℕ) → IsGoodNumber n
    → Each IsGoodNumber ns → GoodResult (sets_joined difference d n ns)
joined-good difference d n ns g o =
    at-good (d.bug n) n _ g (λ b. unless-good _ _ (first-good (difference b.shared) d.bug ns o) tt)

taken-good : (d : Desk) (n : ℕ) (ms : List ℕ) → IsGoodNumber n → GoodResult (taken_out d n ms)
taken-good d n [] g = g
taken-good d n (m ∷ ms) g = tt

cloned-good : (names : Names) (d : Desk) (n : ℕ) (ks : List ℕ) → IsGoodNumber n → Each IsGoodNumber ks
    → GoodResult (cloned (name_refusal names) d n ks)
cloned-good names d n ks g o =
    at-good (d.bug n) n _ g
    (λ b. unless-good _ _
    (or-good (merged_refusal n b.merged) _ (if-good _ (refusals.Merged n) g)
    (or-good (name_refusal names ks) _
    (mapped-good IsGoodNumber refusals.NameTaken (find (is_taken names ks) ks) (λ x p. p) (find-each IsGoodNumber _ ks o))
    (or-good (full_refusal d.next (length ks)) None (if-good _ refusals.Full tt) tt)))
    tt)

carried-good : (names : Names) (head_of : Shared → Option Node) (d : Desk) (sender : List ℕ) (c : Command ℕ)
    → IsGoodNumber (bug_named c) → Each IsGoodNumber (other_bugs c) → Each IsGoodNumber (names_in c)
    → ((f : Shared) → IfGiven IsNode (head_of f)) → GoodResult (carried_out (name_refusal names) head_of d sender c)
carried-good names head_of d sender (commands.Merge n ns) g o k h = joined-good first_difference d n ns g o
carried-good names head_of d sender (commands.ForceMerge n ns) g o k h = joined-good package_difference d n ns g o
carried-good names head_of d sender (commands.Unmerge n) g o k h =
    at-good (d.bug n) n _ g (λ b. taken-good d n (others_merged n b.merged) g)
carried-good names head_of d sender (commands.Clone n ks) g o k h = cloned-good names d n ks g k
carried-good names head_of d sender c g o k h = records-good head_of sender c d g o h

-- ---- bug words

name-good : (names : Names) (k : ℕ) → HaveNumbers names → IfGiven IsGoodNumber (number_of_name names k)
name-good [] k h = tt
name-good (p ∷ names) k h =
    elim (p.0 == k) as (λ t. IfGiven IsGoodNumber (cond t (Some p.1) (number_of_name names k)))
    [ true ↦ h.0 | false ↦ name-good names k h.1 ]

-- a word means a good number, or its refusal is good
abbrev Means : Result ℕ Refusal → Type 0
Means (Ok n) = IsGoodNumber n
Means (Err refusal) = IsGoodRefusal refusal

ok_or-means : (o : Option ℕ) (refusal : Refusal) → IfGiven IsGoodNumber o → IsGoodRefusal refusal → Means (ok_or o refusal)
ok_or-means None refusal h g = g
ok_or-means (Some n) refusal h g = h

meaning-good : (names : Names) (word : Named) → HaveNumbers names → IsGoodBug word → Means (meaning names word)
meaning-good names (Number n) h g = g
meaning-good names (Name k) h g = ok_or-means (number_of_name names k) (refusals.NoName k) (name-good names k h) g

bug-good : (may_be : Bool) (b : Option Bug) (n : ℕ) → IsGoodNumber n → Good (bug_refusal may_be b n)
bug-good may_be None n g = g
bug-good may_be (Some b) n g = if-good (b.shared.archived && not may_be) (refusals.Archived n) g

word-good : (may_be : Bool) (bug : ℕ → Option Bug) (means : Result ℕ Refusal) → Means means → Good (word_refusal may_be bug means)
word-good may_be bug (Ok n) m = bug-good may_be (bug n) n m
word-good may_be bug (Err refusal) m = m

-- where it isn't refused, its number is good
word-number : (may_be : Bool) (bug : ℕ → Option Bug) (means : Result ℕ Refusal) → Means means
    → word_refusal may_be bug means ≡ None → IsGoodNumber (result_unwrap_or means 0)
word-number may_be bug (Ok n) m e = m
word-number may_be bug (Err refusal) m e = absurd (cc)

first-words-good : (may_be : Bool) (names : Names) (bug : ℕ → Option Bug) (words : List Named) → HaveNumbers names
    → Each IsGoodBug words → Good (first_word_refusal may_be (meaning names) bug words)
first-words-good may_be names bug [] h g = tt
first-words-good may_be names bug (word ∷ words) h g =
    or-good _ _ (word-good may_be bug (meaning names word) (meaning-good names word h g.0))
    (first-words-good may_be names bug words h g.1)

or-none : (a b : Option Refusal) → option_or a b ≡ None → (a ≡ None) × (b ≡ None)
or-none None b e = (refl, e)
or-none (Some r) b e = absurd (cc)

numbers-good : (may_be : Bool) (names : Names) (bug : ℕ → Option Bug) (words : List Named) → HaveNumbers names
    → Each IsGoodBug words → first_word_refusal may_be (meaning names) bug words ≡ None
    → Each IsGoodNumber (map (number_by (meaning names)) words)
numbers-good may_be names bug [] h g e = tt
numbers-good may_be names bug (word ∷ words) h g e =
    let parts = or-none (word_refusal may_be bug (meaning names word)) (first_word_refusal may_be (meaning names) bug words) e in (
      word-number may_be bug (meaning names word) (meaning-good names word h g.0) parts.0,
      numbers-good may_be names bug words h g.1 parts.1,
    )

-- ---- a step

step-good : (names : Names) (d : Desk) (sender : List ℕ) (command : Command Named) → IsForest d.tree
    → Each IsGoodBug (bugs_named command) → Each IsGoodNumber (names_in command) → HaveNumbers names
    → GoodResult (step names d sender command)
step-good names d sender command forest bugs ks h =
    elim (words_refusal (meaning names) d.bug command) as (λ r. words_refusal (meaning names) d.bug command ≡ r
    → GoodResult (unless r (carried_out (name_refusal names) (open_head d.tree) d sender (command_over f command)))) [
      | Some refusal ↦ λ e. subst Good e (or-good _ _ (word-good _ d.bug (meaning names (bug_named command))
          (meaning-good names (bug_named command) h bugs.0))
          (first-words-good (others_may_be_archived command) names d.bug (other_bugs command) h bugs.1))
      | None ↦ λ e.
          let parts = or-none (word_refusal (first_may_be_archived command) d.bug (meaning names (bug_named command)))
          (first_word_refusal (others_may_be_archived command) (meaning names) d.bug (other_bugs command)) e in
          carried-good names (open_head d.tree) d sender (command_over f command)
          (subst IsGoodNumber (sym (bug-over f command))
          (word-number (first_may_be_archived command) d.bug (meaning names (bug_named command))
          (meaning-good names (bug_named command) h bugs.0) parts.0))
          (subst (Each IsGoodNumber) (sym (others-over f command))
          (numbers-good (others_may_be_archived command) names d.bug (other_bugs command) h bugs.1 parts.1))
          (subst (Each IsGoodNumber) (sym (names-over f command)) ks)
          (λ s. head-node d.tree s forest)
    ] refl
  where
    f : Named → ℕ
    f = number_by (meaning names)

-- ---- changed numbers

no-zero : (d : Desk) → IsSound d → d.bug 0 ≡ None
no-zero d sound =
    elim (d.bug 0) as (λ o. d.bug 0 ≡ o → o ≡ None) [
      | None ↦ λ e. refl
      | Some b ↦ λ e. let low : 0 < 0 = (sound.in_range 0 b e).0 in absurd (omega (arith, low))
    ] refl

pub changed-good : (old new : Desk) → IsSound old → IsSound new
    → IsAscending (changed_numbers old new) × Each IsGoodNumber (changed_numbers old new)
changed-good old new s t = (
  IsAscending-filter differs (numbers_below new.next) (IsAscending-numbers_below new.next),
  each-from IsGoodNumber (changed_numbers old new) good,
)
  where
    differs : ℕ → Bool
    differs n = not (same_at (old.bug n) (new.bug n))

    positive : (n : ℕ) → differs n ≡ true → 1 ≤ n
    positive zero e =
        let same : differs 0 ≡ false = (λ i. not (same_at (no-zero old s i) (no-zero new t i))) in
        absurd (false≢true (sym same ∙ e))
    positive (suc n) e = omega arith

    good : (n : ℕ) → has (changed_numbers old new) n ≡ true → IsGoodNumber n
    good n e =
        let parts = and_parts (has (numbers_below new.next) n) (differs n) (sym (has-filter differs (numbers_below new.next) n) ∙ e) in
        let below : nat_lt n new.next ≡ true = sym (has-numbers_below new.next n) ∙ parts.0 in
        let few : new.next ≤ 1000000000 = t.next_in_range.1 in
        record { least = positive n parts.1; most = grind (arith, nat_tests) }

-- ---- outcomes

outcome-good : (old new : Desk) (result : Result Desk Refusal) (outcome : Outcome) → outcome_of old result ≡ (outcome, new)
    → IsSound old → IsSound new → GoodResult result → IsGoodOutcome outcome
outcome-good old new (Ok after) outcome e s t g =
    subst IsGoodOutcome (ap (λ (p : Outcome × Desk). p.0) e)
    (changed-good old after s (subst IsSound (sym (ap (λ (p : Outcome × Desk). p.1) e)) t))
outcome-good old new (Err refusal) outcome e s t g = subst IsGoodOutcome (ap (λ (p : Outcome × Desk). p.0) e) g

-- what a command comes to is good
pub does-good : (sender : List ℕ) (names : Names) (old new : Desk) (command : Command Named) (outcome : Outcome)
    → does sender names old command ≡ (outcome, new) → IsSound old → IsSound new → Each IsGoodBug (bugs_named command)
    → Each IsGoodNumber (names_in command) → HaveNumbers names → IsGoodOutcome outcome
unfolding does
does-good sender names old new command outcome e s t bugs ks h =
    outcome-good old new (step names old sender command) outcome e s t (step-good names old sender command s.forest bugs ks h)

-- so is the refusal of a line that could not be read as a command
pub line-good : (refusal : Refusal) → IsRefusalOfLine refusal → IsGoodRefusal refusal
line-good refusals.Unknown h = tt
line-good refusals.Malformed h = tt
line-good refusals.TooLong h = tt
line-good refusals.BadSeverity h = tt
line-good refusals.BadTag h = tt
line-good refusals.BadVersion h = tt
line-good refusals.BadPackage h = tt
line-good _ h = absurd h
