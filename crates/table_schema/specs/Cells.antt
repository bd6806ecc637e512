-- What a cell says of itself, as an optional text or number, and as bytes.
use Rattle.std.specs.Prelude.{ℕ, pos, negsuc, List, [], Option, Some, None}
use Rattle.sqlite.specs.declared.types.Value.{Value}
use Rattle.sqlite.specs.declared.types.Value.TheVariants.{Null, Int, Real, Text, Blob}

-- the text in a cell, if there is one
abbrev pub maybe_text : Value → Option (List ℕ)
maybe_text (Text t) = Some t
maybe_text Null = None
maybe_text (Int n) = None
maybe_text (Real x) = None
maybe_text (Blob b) = None

-- the text in a cell; none is the empty one
abbrev pub text_in : Value → List ℕ
text_in (Text t) = t
text_in Null = []
text_in (Int n) = []
text_in (Real x) = []
text_in (Blob b) = []

-- the number in a cell, if there is one
abbrev pub maybe_number : Value → Option ℕ
maybe_number (Int (pos n)) = Some n
maybe_number (Int (negsuc n)) = None
maybe_number Null = None
maybe_number (Text t) = None
maybe_number (Real x) = None
maybe_number (Blob b) = None

-- the bytes in a cell; none are the empty ones
abbrev pub bytes_in : Value → List ℕ
bytes_in (Blob b) = b
bytes_in Null = []
bytes_in (Int n) = []
bytes_in (Real x) = []
bytes_in (Text t) = []
