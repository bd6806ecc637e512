-- What the loop over the words keeps.
use Rattle.std.proofs.Common.{◌≡◌, ℕ, suc, ◌+◌, ◌<◌, ◌≤◌, Bool, List, [], ◌∷◌, Some, None, refl, ap, sym, ◌∙◌, map, drop, length, get_or, add-one}
use Rattle.std.proofs.Math.ListN.{get_or-map, drop_of_length-le}
use Rattle.std.proofs.lemmas.List.{length-map}
use Rattle.std.proofs.Math.Seq.{drop-cons}
use Rattle.std.specs.Prelude.{if◌then◌else◌, not}
use Rattle.std.specs.List.{position, position_or_len}
use Rattle.control_text.specs.Tokens.{Text}
use Rattle.control_text.specs.WordLines.{lines}
use Rattle.control_text.specs.Unset.{unset, IsUnsetIn}
use Rattle.control_text.specs.Writer.{State, start, read, ended, IsUnsetAt}
use Rattle.control_text.specs.declared.fault.WordsFault.{WordsFault}
use Rattle.control_text.specs.declared.fault.WordsFault.TheVariants.{BadWord, NoCommand, ItUnset, Memory}
use Rattle.control_text.proofs.PlaceLemmas.{unread, unread_else, unread-unset}
use Rattle.control_text.proofs.LineLemmas.{finished, lines_else, finished-lines}

-- the words from a place on are the one there and those after it
pub drop_read : {A : Type 0} (f : A → Text) (xs : List A) (n : ℕ) (d : A) → n < length xs →
    drop n (map f xs) ≡ f (get_or xs n d) ∷ drop (n + 1) (map f xs)
drop_read f xs n d h =
    let within : n < length (map f xs) = simp length-map h in
    rw add-one (drop-cons (map f xs) n (f d) within ∙ ap (λ w. w ∷ drop (suc n) (map f xs)) (get_or-map f xs n d))

pub drop_none : {A : Type 0} (f : A → Text) (xs : List A) (n : ℕ) → length xs ≤ n → drop n (map f xs) ≡ []
drop_none f xs n h = let past : length (map f xs) ≤ n = simp length-map h in drop_of_length-le (map f xs) past

-- the first n words were read, and this is what the writer holds
pub record HasRead (words : List Text) (n : ℕ) (s : State) : Type 0 where
  pub unread_is : unread n s (drop n words) ≡ unread 0 start words
  pub finished_is : finished s (drop n words) ≡ finished start words

pub none_read : (words : List Text) → HasRead words 0 start
none_read words = record { unread_is = refl; finished_is = refl }

pub one_more : (words : List Text) (n : ℕ) (s t : State) (word : Text) → HasRead words n s
    → drop n words ≡ word ∷ drop (n + 1) words → read s word ≡ Some t → HasRead words (n + 1) t
one_more words n s t word h is e =
    let rest = drop (n + 1) words in
    record {
      unread_is = sym (ap (unread n s) is ∙ ap (λ o. unread_else n o (λ u. unread (n + 1) u rest)) e) ∙ h.unread_is;
      finished_is = sym (ap (finished s) is ∙ ap (λ o. lines_else o (λ u. finished u rest)) e) ∙ h.finished_is;
    }

pub one_fails : (words : List Text) (n : ℕ) (s : State) (word : Text) (fault : WordsFault) → HasRead words n s
    → drop n words ≡ word ∷ drop (n + 1) words → IsUnsetAt n (read s word) fault → IsUnsetIn words fault
one_fails words n s word Memory h is e = e
one_fails words n s word NoCommand h is e = e
one_fails words n s word (BadWord i) h is e = e
one_fails words n s word (ItUnset i) h is e =
    let rest = drop (n + 1) words in
    sym (unread-unset words) ∙ sym h.unread_is ∙ ap (unread n s) is
    ∙ ap (λ o. unread_else n o (λ u. unread (n + 1) u rest)) e.1 ∙ ap Some (sym e.0)

pub all_set : (words : List Text) (n : ℕ) (s : State) → HasRead words n s → drop n words ≡ [] → unset words ≡ None
all_set words n s h is = sym (unread-unset words) ∙ sym h.unread_is ∙ ap (unread n s) is

pub all_read : (words : List Text) (n : ℕ) (s : State) → HasRead words n s → drop n words ≡ [] → (ended s).lines ≡ lines words
all_read words n s h is =
    sym (ap (finished s) is) ∙ h.finished_is ∙ finished-lines words (sym h.unread_is ∙ ap (unread n s) is)

place-map : {A B : Type 0} (p : B → Bool) (f : A → B) (xs : List A) → position_or_len p (map f xs) ≡ position_or_len (λ x. p (f x)) xs
place-map p f [] = refl
place-map p f (x ∷ xs) = ap (λ n. if not (p (f x)) then 1 + n else 0) (place-map p f xs)

pub position-map : {A B : Type 0} (p : B → Bool) (f : A → B) (xs : List A) → position p (map f xs) ≡ position (λ x. p (f x)) xs
position-map p f xs = rw (place-map p f xs, length-map xs f)
