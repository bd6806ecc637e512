-- Texts that are written one after another.
use Rattle.std.proofs.Common.{ℕ, ◌+◌, ◌++◌, Bool, true, false, List, length, take, Option, sym, subst, arith}
use Rattle.std.proofs.lemmas.List.{length-append, take-append-le}
use Rattle.std.proofs.Math.Seq.{take-append-add}
use Rattle.std.proofs.KnownBytes.{Appends-trans}
use Rattle.std.specs.Io.KnownBytes.{Appends}
use Rattle.program_jobs.specs.Endings.{IsWritten}

-- a text that was written whole, and then another one
pub written_both : (a b : List ℕ) (told : Bool) (e0 e1 e2 : Option (List ℕ)) → IsWritten a true e0 e1 → IsWritten b told e1 e2
    → IsWritten (a ++ b) told e0 e2
written_both a b true e0 e1 e2 first second = Appends-trans e0 e1 e2 a b first second
written_both a b false e0 e1 e2 first (n, less, second) = (
  length a + n,
  omega (arith, length-append a b),
  subst (Appends e0 e2) (sym (take-append-add a b n)) (Appends-trans e0 e1 e2 a (take n b) first second),
)

-- a front of a text is a front of what it begins
pub written_front : (a b : List ℕ) (e0 e1 : Option (List ℕ)) → IsWritten a false e0 e1 → IsWritten (a ++ b) false e0 e1
written_front a b e0 e1 (n, less, first) =
    (n, omega (arith, length-append a b), subst (Appends e0 e1) (sym (take-append-le n a b (omega arith))) first)
