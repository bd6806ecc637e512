-- The edits of an outcome that is kept: what they make of a content, and that they are free.
use Rattle.std.proofs.Common.{◌≡◌, ◌≢◌, ◌<◌, ℕ, Bool, true, false, cond, ◌||◌, ◌&&◌, List, [], ◌∷◌, ◌++◌, map, length, Option, Some, None, option_map, sym, refl, ap, subst, ◌∙◌, arith}
use Rattle.std.specs.Prelude.{fold, nat_lt, ◌==◌}
use Rattle.std.specs.Str.{bytes_eq}
use Rattle.std.proofs.lemmas.Bool.Decides.{nat_tests}
use Rattle.base_words.specs.Numbers.{IsGoodNumber}
use Rattle.bug_record.specs.Sets.{has, IsAscending, Each, numbers_below}
use Rattle.base_sequences.proofs.SetLemmas.{has-numbers_below}
use Rattle.bug_record.specs.declared.outcome.Outcome.{Outcome}
use Rattle.bug_record.specs.declared.outcome.Outcome.TheVariants.{Changed, Refused, Stopped}
use Rattle.store_contract.specs.Kept.{IsGoodOutcome, IsOfMessage}
use Rattle.store_contract.specs.declared.kept.Kept.{Kept}
use Rattle.table_content.specs.Content.{Content}
use Rattle.table_content.specs.Edits.{put_at, put_of, placed, places_of, edited_all, with_outcome}
use Rattle.table_content.specs.Free.{AreFree}
use Rattle.table_content.specs.KeptOutcomes.{with_kept}
use Rattle.table_content.specs.KeptOutcomeLists.{number_puts, message_puts, keep_puts}
use Rattle.table_content.specs.Kept.{IsKeptContent, is_accepted, is_accepted_at}
use Rattle.table_encodings.specs.Outcomes.{bare, numbers_of}
use Rattle.table_content.specs.View.{outcomes_of, keeping_in}
use Rattle.table_content.specs.declared.edit.Edit.{Edit}
use Rattle.table_content.specs.declared.edit.Edit.TheVariants.{PutMessage, PutOutcome}
use Rattle.table_content.specs.declared.edit.SentMessage.{SentMessage}
use Rattle.table_content.specs.declared.edit.ToldOutcome.{ToldOutcome}
use Rattle.table_content.proofs.EditLemmas.{edited_all-append}
use Rattle.table_content.proofs.FreeLemmas.{free-append, apart, here, there, has-placed}
use Rattle.table_content.proofs.KeepLemmas.{same_id, own_id, next_is_free, or_parts}
use Rattle.table_content.proofs.PlaceLemmas.{at_itself, placed_all, same_numbers}
use Rattle.base_sequences.proofs.SetLemmas.{has-above}

-- ---- numbers that come at a place

abbrev put_each : List ℕ → ℕ → List ℕ → (List ℕ → ℕ → List ℕ) → List ℕ → ℕ → List ℕ
put_each id place [] f = f
put_each id place (n ∷ ns) f = put_each id place ns (put_of id (put_at place (placed (λ k. k) (f id place) n) (f id)) f)

put_numbers : (id : List ℕ) (place : ℕ) (ns : List ℕ) (c : Content)
    → edited_all (number_puts id place ns) c ≡ record c { outcome_numbers = put_each id place ns c.outcome_numbers }
put_numbers id place [] c = refl
put_numbers id place (n ∷ ns) c =
    put_numbers id place ns (record c {
      outcome_numbers = put_of id (put_at place (placed (λ k. k) (c.outcome_numbers id place) n) (c.outcome_numbers id)) c.outcome_numbers;
    })

-- another value at an id and a place
abbrev put_there : List ℕ → ℕ → List ℕ → (List ℕ → ℕ → List ℕ) → List ℕ → ℕ → List ℕ
put_there id place ns f other at = put_of id (put_at place ns (f id)) f other at

there_itself : (id : List ℕ) (place : ℕ) (ns : List ℕ) (f : List ℕ → ℕ → List ℕ) → put_there id place ns f id place ≡ ns
there_itself id place ns f =
    ap (λ b. cond b (put_at place ns (f id)) (f id) place) (own_id id) ∙ at_itself place ns (f id)

there_same : (id : List ℕ) (place : ℕ) (f : List ℕ → ℕ → List ℕ) (other : List ℕ) (at : ℕ) → f other at ≡ put_there id place (f id place) f other at
there_same id place f other at = elim (bytes_eq id other) as (λ b. bytes_eq id other ≡ b → f other at ≡ cond b (put_at place (f id place) (f id)) (f other) at) [
  | true ↦ λ e. ap (λ i. f i at) (sym (same_id id other e))
      ∙ elim (place == at) as (λ b. (place == at) ≡ b → f id at ≡ cond b (f id place) (f id at))
      [ true ↦ λ q. ap (f id) (sym (same place at q)) | false ↦ λ q. refl ] refl
  | false ↦ λ e. refl
] refl
  where
    same : (a b : ℕ) → (a == b) ≡ true → a ≡ b
    same a b e = grind (arith, nat_tests, e)

there_twice : (id : List ℕ) (place : ℕ) (xs ys : List ℕ) (f : List ℕ → ℕ → List ℕ) (other : List ℕ) (at : ℕ)
    → put_there id place ys (put_there id place xs f) other at ≡ put_there id place ys f other at
there_twice id place xs ys f other at = elim (bytes_eq id other) as (λ b.
    cond b (put_at place ys (put_there id place xs f id)) (cond b (put_at place xs (f id)) (f other)) at ≡ cond b (put_at place ys (f id)) (f other) at) [
      | true ↦ ap (λ b. put_at place ys (cond b (put_at place xs (f id)) (f id)) at) (own_id id)
          ∙ elim (place == at) as (λ b. cond b ys (cond b xs (f id at)) ≡ cond b ys (f id at)) [ true ↦ refl | false ↦ refl ]
      | false ↦ refl
    ]

put_each-is : (id : List ℕ) (place : ℕ) (ns : List ℕ) (f : List ℕ → ℕ → List ℕ) (other : List ℕ) (at : ℕ)
    → put_each id place ns f other at ≡ put_there id place (fold (placed (λ k. k)) (f id place) ns) f other at
put_each-is id place [] f other at = there_same id place f other at
put_each-is id place (n ∷ ns) f other at =
    let step = placed (λ k. k) (f id place) n in
    put_each-is id place ns (put_there id place step f) other at
    ∙ ap (λ ys. put_there id place (fold (placed (λ k. k)) ys ns) (put_there id place step f) other at) (there_itself id place step f)
    ∙ there_twice id place step (fold (placed (λ k. k)) step ns) f other at

-- ---- an outcome at the next place

below_all : (ts : List ToldOutcome) (n : ℕ) → ((m : ℕ) → has (places_of ts) m ≡ true → m < n) → (x : ToldOutcome) → x.place ≡ n
    → placed (λ (t : ToldOutcome). t.place) ts x ≡ ts ++ x ∷ []
below_all [] n low x is = refl
below_all (t ∷ ts) n low x is =
    ap (λ b. cond b (x ∷ t ∷ ts) (t ∷ placed (λ (t : ToldOutcome). t.place) ts x))
    (ap (λ k. nat_lt k t.place) is ∙ not_below t.place n (low t.place (here (places_of ts) t.place)))
    ∙ ap (λ us. t ∷ us) (below_all ts n (λ m e. low m (there (t.place == m) (has (places_of ts) m) e)) x is)
  where
    not_below : (a b : ℕ) → a < b → nat_lt b a ≡ false
    not_below a b l = grind (arith, nat_tests)

below : (ts : List ToldOutcome) → places_of ts ≡ numbers_below (length ts) → (m : ℕ) → has (places_of ts) m ≡ true → m < length ts
below ts are m e = lower m (length ts) (sym (ap (λ ns. has ns m) are ∙ has-numbers_below (length ts) m) ∙ e)
  where
    lower : (a b : ℕ) → nat_lt a b ≡ true → a < b
    lower a b e = grind (arith, nat_tests, e)

not_there : (ts : List ToldOutcome) (place : ℕ) → has (places_of ts) place ≡ false → is_accepted_at ts place ≡ false
not_there [] place off = refl
not_there (t ∷ ts) place off =
    let parts = or_parts (t.place == place) (has (places_of ts) place) off in
    ap (λ b. (b && is_accepted t.outcome) || is_accepted_at ts place) parts.0 ∙ not_there ts place parts.1

numbers_up : (outcome : Outcome) → IsGoodOutcome outcome → IsAscending (numbers_of outcome)
numbers_up (Changed numbers) good = good.0
numbers_up (Refused refusal) good = tt
numbers_up Stopped good = tt

numbers_good : (outcome : Outcome) → IsGoodOutcome outcome → Each IsGoodNumber (numbers_of outcome)
numbers_good (Changed numbers) good = good.1
numbers_good (Refused refusal) good = tt
numbers_good Stopped good = tt

-- ---- all edits

module _ (c : Content) (kept : IsKeptContent c) (id sender message : List ℕ) (outcome : Outcome)
    (same : IsOfMessage sender message (keeping_in c id)) (fine : IsGoodOutcome outcome) where
  abbrev ts : List ToldOutcome
  ts = c.outcomes id

  abbrev the_message : Option SentMessage
  the_message = Some (record { from = sender; message = message })

  -- where the message is not known it has no outcome, and where it is known it has one
  none_known : length ts ≡ 0 → c.messages id ≡ None
  none_known empty = cases (c.messages id) refl
    where
      nothing : (xs : List ToldOutcome) → length xs ≡ 0 → (f : ToldOutcome → Outcome) → map f xs ≡ []
      nothing [] e f = refl
      nothing (x ∷ xs) e f = absurd (omega (arith, e))

      cases : (o : Option SentMessage) → c.messages id ≡ o → o ≡ None
      cases None e = refl
      cases (Some m) e =
          absurd ((kept.good id _ (ap (option_map (λ (m : SentMessage). let k : Kept = record { from = m.from; message = m.message; outcomes = outcomes_of c id } in k)) e)).1.some
          (nothing ts empty _))

  known : length ts ≢ 0 → c.messages id ≡ the_message
  known some = cases (c.messages id) refl
    where
      cases : (o : Option SentMessage) → c.messages id ≡ o → c.messages id ≡ the_message
      cases None e = absurd (some (ap (λ (xs : List ToldOutcome). length xs) (kept.no_outcomes id e)))
      cases (Some m) e =
          let is = subst (λ (o : Option SentMessage). IsOfMessage sender message (option_map (λ (m : SentMessage). record { from = m.from; message = m.message; outcomes = outcomes_of c id }) o)) e same in
          e ∙ (λ i. Some (record { from = is.0 i; message = is.1 i }))

  -- the message is put where it is not known
  abbrev with_this_message : Content
  with_this_message = record c { messages = put_of id the_message c.messages }

  put_message : edited_all (message_puts id sender message (length ts)) c ≡ with_this_message
  put_message = cases (length ts == 0) refl
    where
      stays : c.messages id ≡ the_message → (other : List ℕ) → c.messages other ≡ put_of id the_message c.messages other
      stays there other = elim (bytes_eq id other) as (λ b. bytes_eq id other ≡ b → c.messages other ≡ cond b the_message (c.messages other)) [
        | true ↦ λ e. ap c.messages (sym (same_id id other e)) ∙ there
        | false ↦ λ e. refl
      ] refl

      is_not : (n : ℕ) → (n == 0) ≡ false → n ≢ 0
      is_not n off e = grind (arith, nat_tests, off, e)

      cases : (b : Bool) → (length ts == 0) ≡ b → edited_all (message_puts id sender message (length ts)) c ≡ with_this_message
      cases true e = ap (λ b. edited_all (cond b (PutMessage id sender message ∷ []) []) c) e
      cases false e =
          ap (λ b. edited_all (cond b (PutMessage id sender message ∷ []) []) c) e
          ∙ (λ i. record c { messages = λ other. stays (known (is_not (length ts) e)) other i })

  none_there : c.outcome_numbers id (length ts) ≡ []
  none_there = kept.no_numbers id (length ts) (not_there ts (length ts) (next_is_free ts (kept.places id)))

  all_numbers : fold (placed (λ k. k)) (c.outcome_numbers id (length ts)) (numbers_of outcome) ≡ numbers_of outcome
  all_numbers =
      ap (λ xs. fold (placed (λ k. k)) xs (numbers_of outcome)) none_there
      ∙ placed_all (λ k. k) (numbers_of outcome) (subst IsAscending (sym (same_numbers (numbers_of outcome))) (numbers_up outcome fine))

  abbrev the_outcome : ToldOutcome
  the_outcome = record { place = length ts; outcome = bare outcome }

  pub keeps_put : edited_all (keep_puts id sender message (length ts) outcome) c ≡ with_kept id sender message outcome c
  keeps_put =
      edited_all-append (message_puts id sender message (length ts)) _ c
      ∙ ap (edited_all (PutOutcome id (length ts) outcome ∷ number_puts id (length ts) (numbers_of outcome))) put_message
      ∙ put_numbers id (length ts) (numbers_of outcome) (with_outcome id (length ts) outcome with_this_message)
      ∙ (λ i. record c {
        messages = put_of id the_message c.messages;
        outcomes = put_of id (below_all ts (length ts) (below ts (kept.places id)) the_outcome refl i) c.outcomes;
        outcome_numbers = λ other at. (
            put_each-is id (length ts) (numbers_of outcome) c.outcome_numbers other at
            ∙ ap (λ ns. put_there id (length ts) ns c.outcome_numbers other at) all_numbers
            ) i;
      })

  -- ---- and they are free

  numbers_free : (ns : List ℕ) (d : Content) → IsAscending ns → Each IsGoodNumber ns
      → ((n : ℕ) → has ns n ≡ true → has (d.outcome_numbers id (length ts)) n ≡ false) → AreFree (number_puts id (length ts) ns) d
  numbers_free [] d up good h = tt
  numbers_free (x ∷ ns) d up good h = (
    (good.0.most, h x (here ns x)),
    numbers_free ns _ up.1 good.1 (λ n e.
        ap (λ (ys : List ℕ). has ys n) (there_itself id (length ts) (placed (λ k. k) (d.outcome_numbers id (length ts)) x) d.outcome_numbers)
        ∙ has-placed (d.outcome_numbers id (length ts)) x n
        ∙ ap (λ t. t || has (d.outcome_numbers id (length ts)) n) (apart x n (has-above ns x n up.0 e))
        ∙ h n (there (x == n) (has ns n) e)),
  )

  pub keeps_free : AreFree (keep_puts id sender message (length ts) outcome) c
  keeps_free =
      free-append (message_puts id sender message (length ts)) _ c (message_free (length ts == 0) refl)
      (subst (AreFree (PutOutcome id (length ts) outcome ∷ number_puts id (length ts) (numbers_of outcome))) (sym put_message) (
        next_is_free ts (kept.places id),
        numbers_free (numbers_of outcome) _ (numbers_up outcome fine) (numbers_good outcome fine)
            (λ n e. ap (λ ns. has ns n) none_there),
      ))
    where
      is_none : (n : ℕ) → (n == 0) ≡ true → n ≡ 0
      is_none n on = grind (arith, nat_tests, on)

      message_free : (b : Bool) → (length ts == 0) ≡ b → AreFree (message_puts id sender message (length ts)) c
      message_free true e = subst (λ b. AreFree (cond b (PutMessage id sender message ∷ []) []) c) (sym e) (none_known (is_none (length ts) e), tt)
      message_free false e = subst (λ b. AreFree (cond b (PutMessage id sender message ∷ []) []) c) (sym e) tt

-- the same, where the edits are these and the place is the next one
module _ (edits : List Edit) (id sender message : List ℕ) (place : ℕ) (outcome : Outcome) (are : edits ≡ keep_puts id sender message place outcome) where
  pub edits_put : (c : Content) → IsKeptContent c → place ≡ length (c.outcomes id) → IsOfMessage sender message (keeping_in c id)
      → IsGoodOutcome outcome → edited_all edits c ≡ with_kept id sender message outcome c
  edits_put c kept is same fine =
      ap (λ (es : List Edit). edited_all es c) (are ∙ ap (λ n. keep_puts id sender message n outcome) is)
      ∙ keeps_put c kept id sender message outcome same fine

  pub edits_free : (c : Content) → IsKeptContent c → place ≡ length (c.outcomes id) → IsOfMessage sender message (keeping_in c id)
      → IsGoodOutcome outcome → AreFree edits c
  edits_free c kept is same fine =
      subst (λ (es : List Edit). AreFree es c) (sym (are ∙ ap (λ n. keep_puts id sender message n outcome) is))
      (keeps_free c kept id sender message outcome same fine)
