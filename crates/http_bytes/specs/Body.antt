-- The body of a request, out of the bytes after its head (RFC 9112, section 6).
use Rattle.std.specs.Prelude.{ℕ, ◌-◌, ◌≤◌, if◌then◌else◌, nat_le, List, length, take, Option, Some, None, Result, Ok, Err, Vec, ⊤}
use Rattle.std.specs.Io.KnownBytes.{Consumes, Keeps}
use Rattle.std.specs.declared.alloc.Global.{Global}
use Rattle.http_bytes.specs.Headers.{body_length}
use Rattle.http_bytes.specs.declared.refusal.BodyRefusal.{BodyRefusal}
use Rattle.http_bytes.specs.declared.refusal.BodyRefusal.TheVariants.{BadRequest}
use Rattle.http_bytes.specs.declared.refusal.BodyFault.{BodyFault}
use Rattle.http_bytes.specs.declared.refusal.BodyFault.TheVariants.{Refused, Memory, Read}

-- the first n bytes, where there are so many; a body that is cut is refused
unfoldable pub whole : ℕ → List ℕ → Result (List ℕ) BodyRefusal
whole n rest = if nat_le n (length rest) then Ok (take n rest) else Err BadRequest

-- the body of this length
abbrev pub body_of_length : Result ℕ BodyRefusal → List ℕ → Result (List ℕ) BodyRefusal
body_of_length (Err refusal) rest = Err refusal
body_of_length (Ok n) rest = whole n rest

-- the body of a request with these headers, out of the bytes after its head
abbrev pub body_of : List (List ℕ × List ℕ) → List ℕ → Result (List ℕ) BodyRefusal
body_of headers rest = body_of_length (body_length headers) rest

-- what was read is so: the bytes of the body, or its refusal; nothing is said where there was no
-- memory or a read failed
abbrev pub IfRead : Result (Vec ℕ Global) BodyFault → (Result (List ℕ) BodyRefusal → Type 0) → Type 0
IfRead (Ok body) Is = Is (Ok body.items)
IfRead (Err (Refused refusal)) Is = Is (Err refusal)
IfRead (Err Memory) Is = ⊤
IfRead (Err Read) Is = ⊤

-- the size of the body that is read, by what the headers say of its length
abbrev pub size_told : Result ℕ BodyRefusal → Option ℕ
size_told (Ok n) = Some n
size_told (Err refusal) = None

-- What a reader gave for a body of this size, where these bytes had come before: none after the
-- body, and none where no body is read.
abbrev pub TakesBody : Option ℕ → List ℕ → Option (List ℕ) → Option (List ℕ) → Type 0
TakesBody None here old new = Keeps old new
TakesBody (Some size) here old new =
    (more : List ℕ) × Consumes old new more × (length more ≤ size - length here)
