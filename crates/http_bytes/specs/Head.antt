-- Which head an input begins with, by the grammar of `httparse` (RFC 9112, sections 2, 3 and 5,
-- with bare line feeds, and with empty lines before the head, which count).
-- The limits are this project's own rule.
use Rattle.std.specs.Prelude.{ℕ, ◌≤◌, List, length}
use Rattle.httparse.specs.Grammar.{RequestHead, ReadsRequest, print_request}

-- the bytes of a head, at most
abbrev pub max_head : ℕ
max_head = 8192

-- the headers of a head, at most
abbrev pub max_headers : ℕ
max_headers = 32

-- the input is this head, within the limits, and then the rest
pub record BeginsWithHead (input : List ℕ) (head : RequestHead) (rest : List ℕ) : Type 0 where
  pub reads : ReadsRequest input head rest
  pub few : length head.fields ≤ max_headers
  pub short : length (print_request head) ≤ max_head

-- the input begins with no such head
abbrev pub HasNoHead : List ℕ → Type 0
HasNoHead input = (head : RequestHead) (rest : List ℕ) → ¬ (BeginsWithHead input head rest)
