-- An answer over HTTP, and its bytes (RFC 9112, sections 4 and 5).
-- Which headers it has, and their order, is this project's own rule.
use Rattle.std.specs.Prelude.{ℕ, List, [], ◌++◌, Option, Some, None, codes, decimal, length}
use Rattle.http.specs.StatusCode.{status_text}

pub record Answer : Type 0 where
  pub status : ℕ
  -- the method that a 405 allows
  pub allow : Option (List ℕ)
  pub media : List ℕ
  pub body : List ℕ

abbrev pub status_line : ℕ → List ℕ
status_line status = codes "HTTP/1.1 " ++ status_text status ++ codes "\r\n"

abbrev pub allow_line : Option (List ℕ) → List ℕ
allow_line None = []
allow_line (Some method) = codes "Allow: " ++ method ++ codes "\r\n"

-- the connection ends with the answer, whose body has this length in bytes
abbrev pub length_lines : ℕ → List ℕ
length_lines n = codes "Connection: close\r\nContent-Length: " ++ decimal n ++ codes "\r\n"

abbrev pub media_line : List ℕ → List ℕ
media_line media = codes "Content-Type: " ++ media ++ codes "\r\n"

-- the status line, the headers and an empty line, of a body of this length
abbrev pub head_bytes : Answer → ℕ → List ℕ
head_bytes a size =
    status_line a.status ++ allow_line a.allow ++ length_lines size ++ media_line a.media ++ codes "\r\n"

-- the head, and the body
abbrev pub answer_bytes : Answer → List ℕ
answer_bytes a = head_bytes a (length a.body) ++ a.body

abbrev pub json : List ℕ
json = codes "application/json"

abbrev pub plain : List ℕ
plain = codes "text/plain; charset=utf-8"

abbrev pub json_answer : ℕ → List ℕ → Answer
json_answer status body = record { status = status; allow = None; media = json; body = body }

-- a page or a list
abbrev pub page_answer : List ℕ → Answer
page_answer text = record { status = 200; allow = None; media = plain; body = text }

abbrev pub not_found : Answer
not_found = json_answer 404 (codes "{\"error\":\"not found\"}")

-- a fault of the store, or out of memory
abbrev pub store_fault : Answer
store_fault = json_answer 500 (codes "{\"error\":\"store fault\"}")
