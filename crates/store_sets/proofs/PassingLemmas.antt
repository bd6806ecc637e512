-- The bugs that pass a test of their shared fields, over the places of a map.
use Rattle.std.proofs.Common.{◌≡◌, ◌<◌, ℕ, suc, Bool, true, false, cond, ◌||◌, ◌&&◌, List, [], ◌∷◌, ◌++◌, Option, Some, None}
use Rattle.std.proofs.Common.{sym, refl, ap, ◌∙◌, append_assoc, arith, inl, inr}
use Rattle.std.specs.Prelude.{nat_eq, nat_lt, slice_get, option_map, flat_map}
use Rattle.std.specs.Option.{option_and_then}
use Rattle.std.specs.Cmp.{nat_eq_equiv}
use Rattle.std.specs.Map.{lookup, values_of}
use Rattle.std.specs.HashMap.{HashMap, get, values, IsUnique}
use Rattle.std.proofs.lemmas.Bool.{false≢true, or_cases, or_left, or_right}
use Rattle.std.proofs.lemmas.Bool.Decides.{nat_tests}
use Rattle.std.proofs.lemmas.Option.{none-some, same_Some}
use Rattle.std.proofs.lemmas.Map.Entries.{hash_map_get_place}
use Rattle.version_nodes.specs.Trees.{Ancestry}
use Rattle.bug_record.specs.Sets.{has, IsAscending, numbers_below}
use Rattle.bug_record.specs.Desk.{IsSound}
use Rattle.bug_record.specs.Images.{numbers_of, member_at, bug_of}
use Rattle.bug_record.specs.Asked.{passes, numbers_where}
use Rattle.bug_record.specs.declared.bug.Bug.{Bug}
use Rattle.bug_record.specs.declared.bug.SetImage.{SetImage}
use Rattle.bug_record.specs.declared.bug.Shared.{Shared}
use Rattle.base_sequences.proofs.SetLemmas.{same_test, has-append, has-filter, has-numbers_below, same-ascending}
use Rattle.base_sequences.proofs.SetLemmas.{IsAscending-filter, IsAscending-numbers_below}
use Rattle.store_keys.specs.Keys.{keyed_bug, keyed_desk, IsKeyed}
use Rattle.store_sets.specs.Places.{image_at, keys, sets}
use Rattle.store_sets.specs.Passing.{bugs_of, passing_there}
use Rattle.store_sets.specs.declared.places.Place.{Place}
use Rattle.store_sets.specs.declared.places.Place.TheVariants.{First, After}
use Rattle.store_keys.proofs.KeyLemmas.{found-image, shown-some}

-- the bugs of the sets whose images stand at these places, where they pass
abbrev pub passing_in : (Shared → Bool) → List Place → List ℕ
passing_in test ps = flat_map (passing_there test) ps

-- one place more, of what places give
pub place-more : {X : Type 0} (f : Place → List X) (left rest : List Place) (p : Place) (old new : List X) → left ≡ p ∷ rest
    → new ≡ old ++ f p → new ++ flat_map f rest ≡ old ++ flat_map f left
place-more f left rest p old new is added =
    ap (λ (xs : List _). xs ++ flat_map f rest) added
    ∙ append_assoc old (f p) (flat_map f rest)
    ∙ ap (λ (ps : List Place). old ++ flat_map f ps) (sym is)

-- ---- what is in it

-- the bug m is in a set that passes, and whose image stands among these
abbrev IsFrom : List (ℕ × Place) → (Shared → Bool) → ℕ → Type 0
IsFrom es test m =
    (i : ℕ) × (k : ℕ) × (j : SetImage) × (slice_get es i ≡ Some (k, First j)) × (test j.shared ≡ true)
    × (has (numbers_of j.members) m ≡ true)

from_here : (k : ℕ) (p : Place) (es : List (ℕ × Place)) (test : Shared → Bool) (m : ℕ) → has (passing_there test p) m ≡ true → IsFrom ((k, p) ∷ es) test m
from_here k (After l) es test m h = absurd (false≢true h)
from_here k (First j) es test m h =
    elim (test j.shared) as (λ t. test j.shared ≡ t → has (bugs_of (cond t (Some j) None)) m ≡ true
    → IsFrom ((k, First j) ∷ es) test m)
    [ true ↦ λ b h. (0, k, j, refl, b, h) | false ↦ λ b h. absurd (false≢true h) ] refl h

from_later : (e : ℕ × Place) (es : List (ℕ × Place)) (test : Shared → Bool) (m : ℕ) → IsFrom es test m → IsFrom (e ∷ es) test m
from_later e es test m f = (suc f.0, f.1, f.2, f.3, f.4, f.5)

passing-from : (es : List (ℕ × Place)) (test : Shared → Bool) (m : ℕ) → has (passing_in test (values_of es)) m ≡ true → IsFrom es test m
passing-from [] test m h = absurd (false≢true h)
passing-from (e ∷ es) test m h =
    elim (or_cases (has (passing_there test e.1) m) (has (passing_in test (values_of es)) m)
    (sym (has-append (passing_there test e.1) (passing_in test (values_of es)) m) ∙ h))
    [ inl a ↦ from_here e.0 e.1 es test m a | inr b ↦ from_later e es test m (passing-from es test m b) ]

-- and each bug of such a set is among those that pass
there-passing : (p : Place) (j : SetImage) (test : Shared → Bool) (m : ℕ) → p ≡ First j → test j.shared ≡ true
    → has (numbers_of j.members) m ≡ true → has (passing_there test p) m ≡ true
there-passing p j test m e b h =
    ap (λ (q : Place). has (passing_there test q) m) e ∙ ap (λ t. has (bugs_of (cond t (Some j) None)) m) b ∙ h

from-passing : (es : List (ℕ × Place)) (is_key : ℕ → Bool) (j : SetImage) (test : Shared → Bool) (m : ℕ) → lookup is_key es ≡ Some (First j)
    → test j.shared ≡ true → has (numbers_of j.members) m ≡ true → has (passing_in test (values_of es)) m ≡ true
from-passing [] is_key j test m e b h = absurd (none-some (First j) e)
from-passing (x ∷ es) is_key j test m e b h =
    has-append (passing_there test x.1) (passing_in test (values_of es)) m
    ∙ (elim (is_key x.0) as (λ t. cond t (Some x.1) (lookup is_key es) ≡ Some (First j)
    → (has (passing_there test x.1) m || has (passing_in test (values_of es)) m) ≡ true) [
      | true ↦ λ e. or_left _ _ (there-passing x.1 j test m (same_Some _ _ e) b h)
      | false ↦ λ e. or_right _ _ (from-passing es is_key j test m e b h)
    ] e)

-- ---- the bugs of the desk

-- the place of a set
first-place : (o : Option Place) (j : SetImage) → option_and_then image_at o ≡ Some j → o ≡ Some (First j)
first-place None j h = absurd (none-some j h)
first-place (Some (First i)) j h = ap (λ (z : SetImage). Some (First z)) (same_Some _ _ h)
first-place (Some (After k)) j h = absurd (none-some j h)

module _ {S : Type 0} (bugs : HashMap ℕ Place S) (unique : IsUnique nat_eq bugs) (keyed : IsKeyed (keys bugs) (sets bugs))
    (test : Shared → Bool) where
  abbrev bug : ℕ → Option Bug
  bug m = keyed_bug (keys bugs) (sets bugs) m

  -- it passes where its set does
  as_set : (k m : ℕ) (j : SetImage) → sets bugs k ≡ Some j → has (numbers_of j.members) m ≡ true
      → passes test (bug m) ≡ test j.shared
  as_set k m j s h = ap (λ (o : Option Bug). passes test o) (shown-some (keys bugs) (sets bugs) keyed k m j s h).1

  passing : (m : ℕ) → has (passing_in test (values bugs)) m ≡ true → passes test (bug m) ≡ true
  passing m h =
      let f = passing-from bugs.entries test m h in
      let p : get nat_eq bugs f.1 ≡ Some (First f.2) = hash_map_get_place nat_eq_equiv bugs f.0 f.1 (First f.2) unique f.3 in
      as_set f.1 m f.2 (ap (option_and_then image_at) p) f.5 ∙ f.4

  is_there : (m : ℕ) (o : Option ℕ) → keys bugs m ≡ o → passes test (bug m) ≡ true → has (passing_in test (values bugs)) m ≡ true
  is_there m None e h = absurd (false≢true (sym (ap (λ (o : Option ℕ). passes test (shown m o)) e) ∙ h))
    where
      shown : ℕ → Option ℕ → Option Bug
      shown m o = option_and_then (λ i. option_map (bug_of i) (member_at i.members m)) (option_and_then (sets bugs) o)
  is_there m (Some k) e h =
      let j = found-image (keys bugs) (sets bugs) keyed m k e in
      from-passing bugs.entries (nat_eq k) j.0 test m (first-place (get nat_eq bugs k) j.0 j.1)
      (sym (as_set k m j.0 j.1 j.2) ∙ h) j.2

  pub has-passing : (m : ℕ) → has (passing_in test (values bugs)) m ≡ passes test (bug m)
  has-passing m = same_test _ _ (passing m) (is_there m (keys bugs m) refl)

  -- those are the bugs of the desk that pass, in order
  pub passing-is : (tree : Ancestry) (next : ℕ) → IsSound (keyed_desk (keys bugs) (sets bugs) tree next) → (r : List ℕ)
      → IsAscending r → ((m : ℕ) → has r m ≡ has (passing_in test (values bugs)) m)
      → r ≡ numbers_where test (keyed_desk (keys bugs) (sets bugs) tree next)
  passing-is tree next sound r up same =
      same-ascending r (numbers_where test (keyed_desk (keys bugs) (sets bugs) tree next)) up
      (IsAscending-filter (λ m. passes test (bug m)) (numbers_below next) (IsAscending-numbers_below next))
      (λ m. same m ∙ has-passing m ∙ below m (bug m) refl
      ∙ sym (ap (λ t. t && passes test (bug m)) (has-numbers_below next m))
      ∙ sym (has-filter (λ m. passes test (bug m)) (numbers_below next) m))
    where
      lower : (m : ℕ) → m < next → nat_lt m next ≡ true
      lower m l = grind (arith, nat_tests)

      below : (m : ℕ) (o : Option Bug) → bug m ≡ o → passes test (bug m) ≡ (nat_lt m next && passes test (bug m))
      below m None e = none (nat_lt m next) (ap (λ (o : Option Bug). passes test o) e)
        where
          none : (t : Bool) {w : Bool} → w ≡ false → w ≡ (t && w)
          none true h = refl
          none false h = h
      below m (Some b) e = sym (ap (λ t. t && passes test (bug m)) (lower m (sound.in_range m b e).1))
