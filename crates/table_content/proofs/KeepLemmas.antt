-- A content in which an outcome is kept.
use Rattle.std.proofs.Common.{◌≡◌, ℕ, Bool, true, false, cond, ◌||◌, ◌&&◌, List, [], ◌∷◌, ◌++◌, length, Option, Some, None, option_map, sym, refl, ap, subst, ◌∙◌, arith}
use Rattle.std.specs.Prelude.{nat_lt, ◌==◌, ◌+◌, suc}
use Rattle.std.specs.Cmp.Lexicographic.{bytes_decides}
use Rattle.std.specs.Str.{bytes_eq}
use Rattle.std.proofs.lemmas.Bool.{eq-eqb, false≢true}
use Rattle.std.proofs.lemmas.Bool.Decides.{nat_tests}
use Rattle.std.proofs.lemmas.List.{map-append, length-append}
use Rattle.std.proofs.lemmas.Option.{none-some}
use Rattle.bug_record.specs.Sets.{has, numbers_below}
use Rattle.bug_record.specs.declared.bug.SetImage.{SetImage}
use Rattle.bug_record.specs.declared.command.Change.{Change}
use Rattle.base_sequences.proofs.SetLemmas.{has-numbers_below}
use Rattle.bug_record.specs.declared.outcome.Outcome.{Outcome}
use Rattle.bug_record.specs.declared.outcome.Outcome.TheVariants.{Changed, Refused, Stopped}
use Rattle.store_contract.specs.Kept.{Keeping, outcomes_kept, kept_with, kept_also, AreGoodKept}
use Rattle.store_contract.specs.declared.kept.Kept.{Kept}
use Rattle.table_content.specs.Content.{Content}
use Rattle.table_content.specs.Changes.{keeps_marks, without_images, with_images, changed}
use Rattle.table_content.specs.Edits.{put_at, places_of}
use Rattle.table_content.specs.Images.{without_image, with_image}
use Rattle.table_content.specs.KeptOutcomes.{with_kept, changed_by}
use Rattle.table_content.specs.Kept.{IsKeptContent, is_accepted, is_accepted_at}
use Rattle.table_encodings.specs.Outcomes.{bare, numbered, numbers_of}
use Rattle.table_content.specs.View.{with_their_numbers, outcomes_of, keeping_in}
use Rattle.table_content.specs.declared.edit.SentMessage.{SentMessage}
use Rattle.table_content.specs.declared.edit.ToldOutcome.{ToldOutcome}

-- ---- what leaves all that is kept

pub record SaysSameOfMessages (a b : Content) : Type 0 where
  pub messages : a.messages ≡ b.messages
  pub outcomes : a.outcomes ≡ b.outcomes
  pub outcome_numbers : a.outcome_numbers ≡ b.outcome_numbers

cleared_says : (old : Content) (is : List SetImage) (c : Content) → SaysSameOfMessages (without_images old is c) c
cleared_says old [] c = record { messages = refl; outcomes = refl; outcome_numbers = refl }
cleared_says old (i ∷ is) c =
    let more = cleared_says old is (without_image (keeps_marks old i) i c) in
    record { messages = more.messages; outcomes = more.outcomes; outcome_numbers = more.outcome_numbers }

put_says : (is : List SetImage) (c : Content) → SaysSameOfMessages (with_images is c) c
put_says [] c = record { messages = refl; outcomes = refl; outcome_numbers = refl }
put_says (i ∷ is) c =
    let more = put_says is (with_image i c) in
    record { messages = more.messages; outcomes = more.outcomes; outcome_numbers = more.outcome_numbers }

pub images_say : (c : Content) (is : List SetImage) (next : ℕ) → SaysSameOfMessages (record (with_images is (without_images c is c)) { next = next }) c
images_say c is next =
    let put = put_says is (without_images c is c) in
    let cleared = cleared_says c is c in
    record {
      messages = put.messages ∙ cleared.messages;
      outcomes = put.outcomes ∙ cleared.outcomes;
      outcome_numbers = put.outcome_numbers ∙ cleared.outcome_numbers;
    }

pub says_keeping : (a b : Content) → SaysSameOfMessages a b → keeping_in a ≡ keeping_in b
says_keeping a b same = λ i. λ id.
    option_map (λ (m : SentMessage). record {
      from = m.from;
      message = m.message;
      outcomes = with_their_numbers (same.outcome_numbers i id) (same.outcomes i id);
    }) (same.messages i id)

pub change_keeping : (c : Content) (change : Change) → keeping_in (changed c change) ≡ keeping_in c
change_keeping c change = says_keeping (changed c change) c (images_say c change.images change.next)

-- what a kept content says of messages
pub record IsKeptOfMessages (c : Content) : Type 0 where
  pub no_outcomes : (id : List ℕ) → c.messages id ≡ None → c.outcomes id ≡ []
  pub places : (id : List ℕ) → places_of (c.outcomes id) ≡ numbers_below (length (c.outcomes id))
  pub no_numbers : (id : List ℕ) (place : ℕ) → is_accepted_at (c.outcomes id) place ≡ false → c.outcome_numbers id place ≡ []
  pub good : AreGoodKept (keeping_in c)

pub kept_of : (c : Content) → IsKeptContent c → IsKeptOfMessages c
kept_of c kept = record { no_outcomes = kept.no_outcomes; places = kept.places; no_numbers = kept.no_numbers; good = kept.good }

pub says_kept : (a b : Content) → SaysSameOfMessages a b → IsKeptOfMessages b → IsKeptOfMessages a
says_kept a b same kept = record {
  no_outcomes = λ id none.
      ap (λ (f : List ℕ → List ToldOutcome). f id) same.outcomes
      ∙ kept.no_outcomes id (sym (ap (λ (f : List ℕ → Option SentMessage). f id) same.messages) ∙ none);
  places = λ id. subst (λ (f : List ℕ → List ToldOutcome). places_of (f id) ≡ numbers_below (length (f id))) (sym same.outcomes) (kept.places id);
  no_numbers = λ id place off.
      ap (λ (f : List ℕ → ℕ → List ℕ). f id place) same.outcome_numbers
      ∙ kept.no_numbers id place (sym (ap (λ (f : List ℕ → List ToldOutcome). is_accepted_at (f id) place) same.outcomes) ∙ off);
  good = subst AreGoodKept (sym (says_keeping a b same)) kept.good;
}

-- ---- places

pub same_id : (a b : List ℕ) → bytes_eq a b ≡ true → a ≡ b
same_id a b = (bytes_decides a b).0

pub own_id : (a : List ℕ) → bytes_eq a a ≡ true
own_id a = (bytes_decides a a).1 refl

-- an outcome's place is below their number, so that number is no place
pub next_is_free : (ts : List ToldOutcome) → places_of ts ≡ numbers_below (length ts) → has (places_of ts) (length ts) ≡ false
next_is_free ts are = ap (λ (ns : List ℕ). has ns (length ts)) are ∙ has-numbers_below (length ts) (length ts) ∙ itself (length ts)
  where
    itself : (n : ℕ) → nat_lt n n ≡ false
    itself n = grind (arith, nat_tests)

turned : (a b : ℕ) → (a == b) ≡ false → (b == a) ≡ false
turned a b off = grind (arith, nat_tests, off)

pub or_parts : (a b : Bool) → (a || b) ≡ false → (a ≡ false) × (b ≡ false)
or_parts true b off = absurd (false≢true (sym off))
or_parts false b off = (refl, off)

-- other numbers at a place that none has
elsewhere : (ts : List ToldOutcome) (n : ℕ) (ns : List ℕ) (f : ℕ → List ℕ) → has (places_of ts) n ≡ false
    → with_their_numbers (put_at n ns f) ts ≡ with_their_numbers f ts
elsewhere [] n ns f off = refl
elsewhere (t ∷ ts) n ns f off =
    let parts = or_parts (t.place == n) (has (places_of ts) n) off in
    ap (λ b. numbered (cond b ns (f t.place)) t.outcome ∷ with_their_numbers (put_at n ns f) ts) (turned t.place n parts.0)
    ∙ ap (λ os. numbered (f t.place) t.outcome ∷ os) (elsewhere ts n ns f parts.1)

whole : (outcome : Outcome) → numbered (numbers_of outcome) (bare outcome) ≡ outcome
whole (Changed numbers) = refl
whole (Refused refusal) = refl
whole Stopped = refl

abbrev next_told : List ToldOutcome → Outcome → ToldOutcome
next_told ts outcome = record { place = length ts; outcome = bare outcome }

-- one outcome more
pub also_told : (ts : List ToldOutcome) (outcome : Outcome) (f : ℕ → List ℕ) → places_of ts ≡ numbers_below (length ts)
    → with_their_numbers (put_at (length ts) (numbers_of outcome) f) (ts ++ next_told ts outcome ∷ []) ≡ with_their_numbers f ts ++ outcome ∷ []
also_told ts outcome f are =
    map-append _ ts (next_told ts outcome ∷ [])
    ∙ ap (λ os. os ++ numbered (put_at (length ts) (numbers_of outcome) f (length ts)) (bare outcome) ∷ [])
    (elsewhere ts (length ts) (numbers_of outcome) f (next_is_free ts are))
    ∙ ap (λ b. with_their_numbers f ts ++ numbered (cond b (numbers_of outcome) (f (length ts))) (bare outcome) ∷ []) (eq-eqb (length ts) (length ts) refl)
    ∙ ap (λ o. with_their_numbers f ts ++ o ∷ []) (whole outcome)

-- ---- an outcome is kept

kept_with-is : (id sender message : List ℕ) (outcomes : List Outcome) (outcome : Outcome) (kept : Keeping) (other : List ℕ)
    → kept_with id sender message (outcomes ++ outcome ∷ []) kept other
    ≡ cond (bytes_eq id other) (Some (record { from = sender; message = message; outcomes = outcomes ++ outcome ∷ [] })) (kept other)
kept_with-is id sender message [] outcome kept other = refl
kept_with-is id sender message (o ∷ outcomes) outcome kept other = refl

module _ (c : Content) (kept : IsKeptContent c) (id sender message : List ℕ) (outcome : Outcome) where
  abbrev ts : List ToldOutcome
  ts = c.outcomes id

  abbrev after : Content
  after = with_kept id sender message outcome c

  pub outcomes_are : outcomes_kept (keeping_in c id) ≡ outcomes_of c id
  outcomes_are = cases (c.messages id) refl
    where
      cases : (o : Option SentMessage) → c.messages id ≡ o
          → outcomes_kept (option_map (λ (m : SentMessage). record { from = m.from; message = m.message; outcomes = outcomes_of c id }) o) ≡ outcomes_of c id
      cases None e = sym (ap (with_their_numbers (c.outcome_numbers id)) (kept.no_outcomes id e))
      cases (Some m) e = refl

  keeping_at : (other : List ℕ) (b : Bool)
      → option_map (λ (m : SentMessage). record {
        from = m.from;
        message = m.message;
        outcomes = with_their_numbers (cond b (put_at (length ts) (numbers_of outcome) (c.outcome_numbers id)) (c.outcome_numbers other))
            (cond b (ts ++ next_told ts outcome ∷ []) (c.outcomes other));
      }) (cond b (Some (record { from = sender; message = message })) (c.messages other))
      ≡ cond b (Some (record { from = sender; message = message; outcomes = outcomes_of c id ++ outcome ∷ [] })) (keeping_in c other)
  keeping_at other true =
      ap (λ os. Some (let k : Kept = record { from = sender; message = message; outcomes = os } in k))
      (also_told ts outcome (c.outcome_numbers id) (kept.places id))
  keeping_at other false = refl

  pub keeping_is : keeping_in after ≡ kept_also id sender message outcome (keeping_in c)
  keeping_is = λ i. λ other. (
      keeping_at other (bytes_eq id other)
      ∙ sym (kept_with-is id sender message (outcomes_of c id) outcome (keeping_in c) other)
      ∙ ap (λ os. kept_with id sender message (os ++ outcome ∷ []) (keeping_in c) other) (sym outcomes_are)
      ) i

  accepted-append : (xs : List ToldOutcome) (t : ToldOutcome) (place : ℕ)
      → is_accepted_at (xs ++ t ∷ []) place ≡ (is_accepted_at xs place || ((t.place == place) && is_accepted t.outcome))
  accepted-append [] t place = last ((t.place == place) && is_accepted t.outcome)
    where
      last : (b : Bool) → (b || false) ≡ b
      last true = refl
      last false = refl
  accepted-append (x ∷ xs) t place =
      ap (λ b. ((x.place == place) && is_accepted x.outcome) || b) (accepted-append xs t place)
      ∙ turn ((x.place == place) && is_accepted x.outcome) (is_accepted_at xs place) ((t.place == place) && is_accepted t.outcome)
    where
      turn : (a b d : Bool) → (a || (b || d)) ≡ ((a || b) || d)
      turn true b d = refl
      turn false b d = refl

  no_numbers_there : (o : Outcome) → is_accepted (bare o) ≡ false → numbers_of o ≡ []
  no_numbers_there (Changed numbers) off = absurd (false≢true (sym off))
  no_numbers_there (Refused refusal) off = refl
  no_numbers_there Stopped off = refl

  places_more : places_of (ts ++ next_told ts outcome ∷ []) ≡ numbers_below (length (ts ++ next_told ts outcome ∷ []))
  unfolding numbers_below
  places_more =
      map-append _ ts (next_told ts outcome ∷ [])
      ∙ ap (λ ns. ns ++ length ts ∷ []) (kept.places id)
      ∙ ap numbers_below (sym (length-append ts (next_told ts outcome ∷ []) ∙ more (length ts)))
    where
      more : (n : ℕ) → n + 1 ≡ suc n
      more n = omega arith

  pub keeps : AreGoodKept (kept_also id sender message outcome (keeping_in c)) → IsKeptOfMessages after
  keeps good = record {
    no_outcomes = λ other. none other (bytes_eq id other);
    places = λ other. at other (bytes_eq id other);
    no_numbers = λ other place. numbers other place (bytes_eq id other);
    good = subst AreGoodKept (sym keeping_is) good;
  }
    where
      none : (other : List ℕ) (b : Bool) → cond b (Some (let m : SentMessage = record { from = sender; message = message } in m)) (c.messages other) ≡ None
          → cond b (ts ++ next_told ts outcome ∷ []) (c.outcomes other) ≡ []
      none other true e = absurd (none-some _ (sym e))
      none other false e = kept.no_outcomes other e

      at : (other : List ℕ) (b : Bool) → places_of (cond b (ts ++ next_told ts outcome ∷ []) (c.outcomes other))
          ≡ numbers_below (length (cond b (ts ++ next_told ts outcome ∷ []) (c.outcomes other)))
      at other true = places_more
      at other false = kept.places other

      numbers : (other : List ℕ) (place : ℕ) (b : Bool) → is_accepted_at (cond b (ts ++ next_told ts outcome ∷ []) (c.outcomes other)) place ≡ false
          → cond b (put_at (length ts) (numbers_of outcome) (c.outcome_numbers id)) (c.outcome_numbers other) place ≡ []
      numbers other place false off = kept.no_numbers other place off
      numbers other place true off =
          let parts = or_parts (is_accepted_at ts place) ((length ts == place) && is_accepted (bare outcome)) (sym (accepted-append ts (next_told ts outcome) place) ∙ off) in
          here (length ts == place) parts.1 parts.0
        where
          here : (b : Bool) → (b && is_accepted (bare outcome)) ≡ false → is_accepted_at ts place ≡ false
              → cond b (numbers_of outcome) (c.outcome_numbers id place) ≡ []
          here true not_here off = no_numbers_there outcome not_here
          here false not_here off = kept.no_numbers id place off

  pub kept_also-kept : AreGoodKept (kept_also id sender message outcome (keeping_in c)) → IsKeptContent after
  kept_also-kept good = let told = keeps good in record {
    keyed = kept.keyed;
    sound = kept.sound;
    no_members = kept.no_members;
    no_found = kept.no_found;
    no_fixed = kept.no_fixed;
    no_blockers = kept.no_blockers;
    no_affects = kept.no_affects;
    near = kept.near;
    no_outcomes = told.no_outcomes;
    places = told.places;
    no_numbers = told.no_numbers;
    good = told.good;
  }

-- ---- a change comes first, if there is one

pub changed_keeping : (change : Option Change) (c : Content) → keeping_in (changed_by change c) ≡ keeping_in c
changed_keeping None c = refl
changed_keeping (Some change) c = change_keeping c change
