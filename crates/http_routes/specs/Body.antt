-- The JSON value that a body is, as `serde_json` reads it (RFC 8259).
use Rattle.std.specs.Prelude.{ℕ, List, Option, None, if◌then◌else◌}
use Rattle.std.specs.Str.{is_utf8}
use Rattle.serde_json.specs.Data.{Data}
use Rattle.serde_json.specs.Read.{read}

-- The value that a body is, where it is UTF-8 and JSON.
-- The members of an object go in one after another, so of two with one name the last stays.
unfoldable pub json_of : List ℕ → Option Data
json_of body = if is_utf8 body then read body else None
