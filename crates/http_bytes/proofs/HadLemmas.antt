-- Bytes that a reader had, out of those that it gave.
use Rattle.std.proofs.Common.{◌≡◌, ℕ, List, [], ◌++◌, Option, Some, None, IfSome, refl, ap, ◌∙◌, unwrap_or}
use Rattle.std.specs.Io.KnownBytes.{Consumes, IsAtEnd}
use Rattle.http_bytes.specs.Found.{HadBytes}

-- bytes that a reader may have left: none, where it doesn't tell
abbrev pub left : Option (List ℕ) → List ℕ
left known = unwrap_or known []

-- what holds of all bytes
pub had_any : (known : Option (List ℕ)) (P : List ℕ → Type 0) → ((bytes : List ℕ) → P bytes) → HadBytes known P
had_any None P all = record { bytes = []; are = tt; holds = all [] }
had_any (Some x) P all = record { bytes = x; are = refl; holds = all x }

-- what follows of them
pub had_then : (known : Option (List ℕ)) (P Q : List ℕ → Type 0) → ((bytes : List ℕ) → P bytes → Q bytes)
    → HadBytes known P → HadBytes known Q
had_then known P Q follows had =
    record { bytes = had.bytes; are = had.are; holds = follows had.bytes had.holds }

-- the bytes that were given, and those that are left
given_are : (old new : Option (List ℕ)) (front : List ℕ) → Consumes old new front
    → IfSome old (λ those. those ≡ front ++ left new)
given_are None new front took = tt
given_are (Some x) None front took = absurd took
given_are (Some x) (Some y) front took = took

pub had_given : (old new : Option (List ℕ)) (front : List ℕ) (P : List ℕ → Type 0) → Consumes old new front
    → P (front ++ left new) → HadBytes old P
had_given old new front P took holds =
    record { bytes = front ++ left new; are = given_are old new front took; holds = holds }

-- the bytes that were given, and then some that were left
before_are : (old new : Option (List ℕ)) (front rest : List ℕ) → Consumes old new front → IfSome new (λ those. those ≡ rest)
    → IfSome old (λ those. those ≡ front ++ rest)
before_are None new front rest took are = tt
before_are (Some x) None front rest took are = absurd took
before_are (Some x) (Some y) front rest took are = took ∙ ap (λ l. front ++ l) are

pub had_before : (old new : Option (List ℕ)) (front rest : List ℕ) (P : List ℕ → Type 0) → Consumes old new front
    → IfSome new (λ those. those ≡ rest) → P (front ++ rest) → HadBytes old P
had_before old new front rest P took are holds =
    record { bytes = front ++ rest; are = before_are old new front rest took are; holds = holds }

-- none are left at the end
pub left-end : (new : Option (List ℕ)) → IsAtEnd new → left new ≡ []
left-end None ends = refl
left-end (Some y) ends = ends
