-- What one read adds to a buffer.
use Rattle.std.proofs.Common.{◌≡◌, ℕ, ◌+◌, ◌-◌, ◌<◌, ◌≤◌, List, ◌++◌, length, take, sym, ap, ◌∙◌, subst, arith, Option, Result, Ok, Err, IfOk, length-take-le, length-append}
use Rattle.std.proofs.Math.Seq.{take-append-add}
use Rattle.std.proofs.lemmas.List.{take-append-le}
use borrow.Rule.Slice.PartMut.{put_mid, post_of}
use Rattle.std.specs.Io.{ReadsAtMost}
use Rattle.std.proofs.KnownBytes.{Consumes-trans}
use Rattle.std.specs.Io.KnownBytes.{Consumes, ReadConsumes}
use Rattle.http_bytes.specs.Pieces.{Came}

-- the first bytes after a write behind the first a
take-behind : (a k n : ℕ) (xs ys : List ℕ) → a ≤ length xs → n ≤ length ys
    → take (a + n) (put_mid a k xs ys) ≡ take a xs ++ take n ys
take-behind a k n xs ys h i =
    let e : length (take a xs) ≡ a = length-take-le a xs h in
    ap (λ b. take (b + n) (put_mid a k xs ys)) (sym e)
    ∙ take-append-add (take a xs) _ n
    ∙ ap (λ l. take a xs ++ l) (take-append-le n ys _ i)

pub came-of_read : {E : Type 0} (r : Result ℕ E) (old new : Option (List ℕ)) (before sub : List ℕ) (filled : ℕ)
    → filled < length before → length sub ≡ length before - filled → ReadsAtMost r sub → ReadConsumes old new r sub
    → IfOk r (λ n. Came old new before (put_mid filled (length before - filled) before sub) filled (filled + n))
came-of_read (Err e) old new before sub filled h l bound bytes = tt
came-of_read (Ok n) old new before sub filled h l bound bytes = record {
  within =
      let k = length before - filled in
      omega (
        arith,
        bound,
        length-take-le filled before (omega arith),
        length-append (take filled before) (sub ++ post_of filled k before),
        length-append sub (post_of filled k before),
      );
  bytes = take n sub;
  count = ap (λ k. filled + k) (length-take-le n sub (omega (arith, bound)));
  behind = take-behind filled (length before - filled) n before sub (omega arith) (omega (arith, bound));
  took = bytes.0;
}

-- what came stands behind what had come
pub came-behind : (old mid new : Option (List ℕ)) (before after : List ℕ) (filled total : ℕ)
    → Consumes old mid (take filled before) → Came mid new before after filled total → Consumes old new (take total after)
came-behind old mid new before after filled total took c =
    subst (Consumes old new) (sym c.behind) (Consumes-trans old mid new _ _ took c.took)
