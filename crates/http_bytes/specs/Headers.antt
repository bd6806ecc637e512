-- What the headers of a request, each a name and a value without the blanks around it, say of its
-- body (RFC 9110, sections 5.1 and 8.6; RFC 9112, sections 5.1 and 6).
-- The limits and the refusals are this project's own rule.
use Rattle.std.specs.Prelude.{ℕ, Bool, ◌&&◌, if◌then◌else◌, nat_lt, nat_le, List, [], ◌∷◌, length, map, filter, Option, Some, None, Result, Ok, Err, codes}
use Rattle.std.specs.List.{list_any, list_all}
use Rattle.std.specs.Char.{is_ascii_digit}
use Rattle.std.specs.Str.{str_eq_ignore_ascii_case}
use Rattle.std.specs.Str.Parse.{digits_value}
use Rattle.http_bytes.specs.declared.refusal.BodyRefusal.{BodyRefusal}
use Rattle.http_bytes.specs.declared.refusal.BodyRefusal.TheVariants.{NotImplemented, LengthRequired, BadRequest, TooLarge}

-- the bytes of a body, at most
abbrev pub max_body : ℕ
max_body = 65536

-- the header has this name, in any ASCII case
abbrev pub is_named : List ℕ → List ℕ × List ℕ → Bool
is_named name header = str_eq_ignore_ascii_case header.0 name

-- some header has this name
abbrev pub has_header : List ℕ → List (List ℕ × List ℕ) → Bool
has_header name headers = list_any (is_named name) headers

-- the values of the headers of this name
abbrev pub values_of : List ℕ → List (List ℕ × List ℕ) → List (List ℕ)
values_of name headers = map (λ header. header.1) (filter (is_named name) headers)

-- the number that one to nine digits write
unfoldable pub number_of : List ℕ → Option ℕ
number_of text =
    if nat_lt 0 (length text) && (nat_le (length text) 9 && list_all is_ascii_digit text)
    then Some (digits_value 10 text)
    else None

-- a length within the limit
abbrev pub length_within : Option ℕ → Result ℕ BodyRefusal
length_within None = Err BadRequest
length_within (Some n) = if nat_lt max_body n then Err TooLarge else Ok n

-- the length that one value says
abbrev pub length_of_value : List ℕ → Result ℕ BodyRefusal
length_of_value value = length_within (number_of value)

-- the length that all the values of `Content-Length` say
abbrev pub length_of_values : List (List ℕ) → Result ℕ BodyRefusal
length_of_values [] = Err LengthRequired
length_of_values (value ∷ []) = length_of_value value
length_of_values (value ∷ other ∷ more) = Err BadRequest

-- the length of the body; a request with a transfer coding is refused whatever else it says
unfoldable pub body_length : List (List ℕ × List ℕ) → Result ℕ BodyRefusal
body_length headers =
    if has_header (codes "transfer-encoding") headers then Err NotImplemented
    else length_of_values (values_of (codes "content-length") headers)
