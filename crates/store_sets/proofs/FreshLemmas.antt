-- The numbers of members, of some in a row, and of the first one.
use Rattle.std.proofs.Common.{◌≡◌, ℕ, zero, suc, true, eqb, List, [], ◌∷◌, take, drop, Some, ap, ◌∙◌}
use Rattle.std.proofs.Common.{inl, inr}
use Rattle.std.specs.Prelude.{slice_get}
use Rattle.std.proofs.lemmas.Bool.{false≢true, or_cases, or_left, or_right}
use Rattle.std.proofs.lemmas.Option.{none-some, same_Some}
use Rattle.bug_record.specs.Sets.{has}
use Rattle.bug_record.specs.Images.{numbers_of}
use Rattle.bug_record.specs.declared.bug.Member.{Member}

-- the bugs of a part of the members are theirs
has_later : (ms : List Member) (k n : ℕ) → has (numbers_of (drop k ms)) n ≡ true → has (numbers_of ms) n ≡ true
has_later ms zero n h = h
has_later [] (suc k) n h = h
has_later (m ∷ ms) (suc k) n h = or_right _ _ (has_later ms k n h)

has_earlier : (ms : List Member) (k n : ℕ) → has (numbers_of (take k ms)) n ≡ true → has (numbers_of ms) n ≡ true
has_earlier ms zero n h = absurd (false≢true h)
has_earlier [] (suc k) n h = h
has_earlier (m ∷ ms) (suc k) n h =
    elim (or_cases (eqb m.number n) (has (numbers_of (take k ms)) n) h)
    [ inl a ↦ or_left _ _ a | inr b ↦ or_right _ _ (has_earlier ms k n b) ]

pub has_part : (ms : List Member) (k j n : ℕ) → has (numbers_of (take j (drop k ms))) n ≡ true → has (numbers_of ms) n ≡ true
has_part ms k j n h = has_later ms k n (has_earlier (drop k ms) j n h)

-- the first member is among them
pub first-has : (ms : List Member) (m : Member) (n : ℕ) → slice_get ms 0 ≡ Some m → eqb m.number n ≡ true
    → has (numbers_of ms) n ≡ true
first-has [] m n h e = absurd (none-some m h)
first-has (x ∷ ms) m n h e = or_left _ _ (ap (λ (z : Member). eqb z.number n) (same_Some _ _ h) ∙ e)
