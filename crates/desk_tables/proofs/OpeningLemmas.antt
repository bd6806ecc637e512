-- What is remembered of a desk that is created or opened, and why there is none.
use Rattle.desk_tables.proofs.Imports.{content_seen, desk_seen, keeping_seen, IsKept, Remembered, unlimited, IsLeft, IsReason, IsDesk, HasContent, HasContentUnder, HoldsContent, IsFound, NotADesk, NewerSchema, Store, NotEmpty}
use Rattle.table_schema.proofs.Exports.{◌≡◌, ◌<◌, ◌≤◌, ℕ, Option, None, IfSome, Result, sym, ap, subst, ◌∙◌, Held, state, State, Ancestry, Content, no_content, desk_in, keeping_in, seen}
use Rattle.sqlite_trees.specs.declared.store.Store as store
use Rattle.base_words.specs.declared.named.TheConstants.{LARGEST_NUMBER}
use Rattle.store_keys.specs.Keys.{empty_desk}
use Rattle.store_contract.specs.Kept.{none_kept}
use Rattle.table_content.proofs.NewLemmas.{new_kept}
use Rattle.table_opening.specs.declared.open_fault.OpenFault.{OpenFault}
use Rattle.desk_tables.proofs.KeptLemmas.{content_is, noted_kept, none_known}

-- ---- a new desk

module _ {S : Type 0} (g : store.Ghosts S) (first : ℕ) (last conn : Held S) (is : last ≡ conn) (desk : IsDesk (state g conn) × (seen (state g conn) ≡ no_content first)) where
  pub new_is_kept : (family : Option Ancestry) → family ≡ None → (known : Remembered) → ((k : ℕ) → known.sets k ≡ None) → known.place ≡ None → known.next ≡ None → 0 < first → first ≤ LARGEST_NUMBER → IsKept g last family known
  new_is_kept family none known unknown nowhere unread low high =
      noted_kept g last conn family known (no_content first) is (ap (content_seen g) is ∙ content_is g conn ∙ desk.1) (λ clean o. desk) (new_kept first low high)
      (subst (λ f. IfSome f (λ t. t ≡ (no_content first).nodes)) (sym none) tt)
      (none_known known (no_content first) unknown nowhere unread)

  pub new_is_empty : desk_seen g last ≡ empty_desk first
  new_is_empty = ap (desk_seen g) is ∙ ap desk_in (content_is g conn ∙ desk.1)

  pub none_is_kept : keeping_seen g last ≡ none_kept
  none_is_kept = ap (keeping_seen g) is ∙ ap keeping_in (content_is g conn ∙ desk.1)

-- ---- the limit of steps

-- it says nothing of what is shown
shows_without : (c : Content) (s : State) → HasContent c s → HasContent c (unlimited s)
shows_without c s shows clean o = let h = shows clean o in (record { settled = h.0.settled; schema = h.0.schema; sound = h.0.sound; shown = h.0.shown }, h.1)

under_without : (k : ℕ) (c : Content) (s : State) → HasContentUnder k c s → HasContentUnder k c (unlimited s)
under_without k c s shows clean o = let h = shows clean o in record { settled = h.settled; schema = h.schema; sound = h.sound; shown = h.shown }

pub left_without : (s new : State) → IsLeft (unlimited s) new → IsLeft s new
left_without s new h = record { honest = h.honest; idle = h.idle; was_open = h.was_open; committed = h.committed; now = h.now; content = λ c shows. h.content c (shows_without c s shows) }

reason_without : (s new : State) (why : OpenFault) → IsReason (unlimited s) new why → IsReason s new why
reason_without s new NotADesk h = h
reason_without s new (NewerSchema n) h = h
reason_without s new (Store fault) h = h
reason_without s new NotEmpty h = h

-- the limit of a connection was taken away
pub left_before : {S : Type 0} (g : store.Ghosts S) (was conn : Held S) → conn ≡ record was { step_limit = None } → (new : State) → IsLeft (state g conn) new → IsLeft (state g was) new
left_before g was conn is new h = left_without (state g was) new (subst (λ s. IsLeft s new) (ap (state g) is) h)

-- what was found over the connection without its limit, which another one is then
pub record IsOpened {A : Type 0} (shown : A → State) (s new : State) (r : Result A OpenFault) : Type 0 where
  pub found : IsFound shown (unlimited s) new r
  pub holds : (c : Content) → HoldsContent c s → HoldsContent c (unlimited s)
  pub shows : (c : Content) → HasContent c s → HasContent c (unlimited s)
  pub under : (k : ℕ) (c : Content) → HasContentUnder k c s → HasContentUnder k c (unlimited s)
  pub left : IsLeft (unlimited s) new → IsLeft s new
  pub reason : (why : OpenFault) → IsReason (unlimited s) new why → IsReason s new why

pub opened : {S A : Type 0} (g : store.Ghosts S) (was conn new held : Held S) → conn ≡ record was { step_limit = None } → held ≡ new → (shown : A → State) (r : Result A OpenFault)
    → IsFound shown (state g conn) (state g new) r → IsOpened shown (state g was) (state g held) r
opened g was conn new held is same shown r found = record {
  found = subst (λ s. IsFound shown s (state g held) r) (ap (state g) is) (subst (λ h. IsFound shown (state g conn) (state g h) r) (sym same) found);
  holds = λ c holds. (holds.0, under_without holds.0 c (state g was) holds.1);
  shows = λ c. shows_without c (state g was);
  under = λ k c. under_without k c (state g was);
  left = left_without (state g was) (state g held);
  reason = reason_without (state g was) (state g held);
}
