-- What was taken for a head.
use Rattle.std.proofs.Common.{ℕ, ◌<◌, List, [], length, take, refl, sym, inl, append-nil, Option, Result, Ok, Err, IsErr}
use Rattle.std.proofs.KnownBytes.{Consumes-kept}
use Rattle.std.proofs.lemmas.Bool.{false≢true}
use Rattle.std.specs.Io.KnownBytes.{Consumes, Keeps}
use Rattle.http_bytes.specs.Head.{max_head}
use Rattle.http_bytes.specs.Found.{IsUnfinished, GaveHead, TakesHead}
use Rattle.http_bytes.specs.Pieces.{Came}
use Rattle.http_bytes.specs.declared.head.Head.{Head}
use Rattle.http_bytes.proofs.HeadLemmas.{none-empty}
use Rattle.http_bytes.proofs.PieceLemmas.{came-behind}

pub unfinished-empty : IsUnfinished []
unfinished-empty = record { none = none-empty; may = inl refl }

-- a read that gave nothing
pub gave-kept : (old mid new : Option (List ℕ)) (front : List ℕ) → Consumes old mid front → IsUnfinished front
    → length front < max_head → Keeps mid new → GaveHead old new front
gave-kept old mid new front took front_open short kept = record {
  took = Consumes-kept old mid new front took kept;
  before = front;
  piece = [];
  are = sym (append-nil front);
  room = short;
  unfinished = front_open;
}

-- one piece more
pub gave-more : (old mid new : Option (List ℕ)) (before after : List ℕ) (filled total : ℕ) → Consumes old mid (take filled before)
    → IsUnfinished (take filled before) → length (take filled before) < max_head → Came mid new before after filled total
    → GaveHead old new (take total after)
gave-more old mid new before after filled total took front_open short came = record {
  took = came-behind old mid new before after filled total took came;
  before = take filled before;
  piece = came.bytes;
  are = came.behind;
  room = short;
  unfinished = front_open;
}

-- a read that failed
pub takes-error : {E : Type 0} (r : Result Head E) (old new : Option (List ℕ)) (buf taken : List ℕ) → IsErr r
    → GaveHead old new taken → TakesHead old new buf r
takes-error (Ok head) old new buf taken is gave = absurd (false≢true is)
takes-error (Err error) old new buf taken is gave = (taken, gave)
