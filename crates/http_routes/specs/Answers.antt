-- The texts of answers in JSON, with no blank, the members in the byte order of their names.
-- What they have is this project's own rule.
-- How a text is quoted is that of `serde_json` (RFC 8259, section 7).
use Rattle.std.specs.Prelude.{ℕ, List, ◌++◌, codes, decimal}
use Rattle.json.specs.Print.{quoted}
use Rattle.serde_json.specs.Data.{Data, number, unsigned, string, object, member, no_members}

-- `{"bug":n}`
abbrev pub bug_json : ℕ → List ℕ
bug_json n = codes "{\"bug\":" ++ decimal n ++ codes "}"

-- `{"error":TEXT}`
abbrev pub error_json : List ℕ → List ℕ
error_json text = codes "{\"error\":" ++ quoted text ++ codes "}"

-- `{"end":E,"transcript":T}`
abbrev pub control_json : List ℕ → List ℕ → List ℕ
control_json end transcript =
    codes "{\"end\":" ++ quoted end ++ codes ",\"transcript\":" ++ quoted transcript ++ codes "}"

-- `{"ok":true}`
abbrev pub ok_json : List ℕ
ok_json = codes "{\"ok\":true}"

-- the values that these are the texts of
abbrev pub bug_value : ℕ → Data
bug_value n = object (member (codes "bug") (number (unsigned n)) no_members)

abbrev pub error_value : List ℕ → Data
error_value text = object (member (codes "error") (string text) no_members)

abbrev pub control_value : List ℕ → List ℕ → Data
control_value end transcript =
    object (member (codes "end") (string end)
    (member (codes "transcript") (string transcript) no_members))
