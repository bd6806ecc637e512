-- What reading says of the bytes that a reader had before, `old`, and has left, `new`.
use Rattle.std.specs.Prelude.{◌≡◌, ◌≢◌, ◌⊎◌, ℕ, ◌<◌, ◌≤◌, List, [], ◌++◌, length, take, drop, Option, IfSome, Result, Ok, Err}
use Rattle.std.specs.Io.KnownBytes.{Consumes}
use Rattle.httparse.specs.Grammar.{RequestHead, HasNoRequest, MayBecomeRequest}
use Rattle.httparse.specs.Spans.{IsRequestAt, IsRequestWithin}
use Rattle.httparse.specs.declared.spans.HeaderSpan.{HeaderSpan}
use Rattle.httparse.specs.declared.spans.RequestSpans.{RequestSpans}
use Rattle.http_bytes.specs.Head.{BeginsWithHead, HasNoHead, max_head}
use Rattle.http_bytes.specs.declared.head.Head.{Head}
use Rattle.http_bytes.specs.declared.head.Head.TheVariants.{Nothing, Wrong, Complete}

-- The reader had bytes of which this holds: those, where its bytes are known, and some, where it is
-- a reader whose bytes no contract knows, as a socket.
pub record HadBytes (known : Option (List ℕ)) (Holds : List ℕ → Type 0) : Type 0 where
  pub bytes : List ℕ
  pub are : IfSome known (λ those. those ≡ bytes)
  pub holds : Holds bytes

-- the reader gave the first `filled` bytes of the buffer, which begin with a head, and the spans
-- cover its parts
pub record IsComplete (old new : Option (List ℕ)) (buf : List ℕ) (headers : List HeaderSpan)
    (spans : RequestSpans) (filled : ℕ) : Type 0 where
  pub took : Consumes old new (take filled buf)
  pub fits : filled ≤ length buf
  pub head : RequestHead
  pub begins : BeginsWithHead (take filled buf) head (drop spans.len (take filled buf))
  pub within : IsRequestWithin (take filled buf) headers spans
  pub covers : IsRequestAt (take filled buf) headers spans head

-- the input is not empty, and begins with no head
abbrev pub IsWrong : List ℕ → Type 0
IsWrong input = (input ≢ []) × HasNoHead input

-- what is answered of the bytes that the reader had
abbrev pub IsFound : Option (List ℕ) → Option (List ℕ) → List ℕ → List HeaderSpan → Head → Type 0
IsFound old new buf headers Nothing = IfSome old (λ input. input ≡ [])
IsFound old new buf headers Wrong = HadBytes old IsWrong
IsFound old new buf headers (Complete spans filled) = IsComplete old new buf headers spans filled

-- the reader gave bytes that begin with no head of any length
pub record LosesNoHead (old new : Option (List ℕ)) : Type 0 where
  pub bytes : List ℕ
  pub took : Consumes old new bytes
  pub none : HasNoRequest bytes

-- the reader gave bytes, fewer than these
pub record LosesFewer (old new : Option (List ℕ)) (count : ℕ) : Type 0 where
  pub bytes : List ℕ
  pub took : Consumes old new bytes
  pub few : length bytes < count

-- no head has come yet, and one still may
pub record IsUnfinished (front : List ℕ) : Type 0 where
  pub none : HasNoRequest front
  pub may : (front ≡ []) ⊎ MayBecomeRequest front

-- The reader gave these bytes for a head.
-- Before the piece that came last there was room, and what had come was unfinished: so no read was
-- begun once the head was whole, or once none could come any more.
pub record GaveHead (old new : Option (List ℕ)) (taken : List ℕ) : Type 0 where
  pub took : Consumes old new taken
  pub before : List ℕ
  pub piece : List ℕ
  pub are : taken ≡ before ++ piece
  pub room : length before < max_head
  pub unfinished : IsUnfinished before

-- what was taken, whatever was found; of a complete head it is what the buffer has
abbrev pub TakesHead : {E : Type 0} → Option (List ℕ) → Option (List ℕ) → List ℕ → Result Head E → Type 0
TakesHead old new buf (Ok (Complete spans filled)) = GaveHead old new (take filled buf)
TakesHead old new buf (Ok Nothing) = (taken : List ℕ) × GaveHead old new taken
TakesHead old new buf (Ok Wrong) = (taken : List ℕ) × GaveHead old new taken
TakesHead old new buf (Err error) = (taken : List ℕ) × GaveHead old new taken
