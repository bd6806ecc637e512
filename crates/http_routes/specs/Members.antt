-- The members that a request has.
-- This project's own rule.
-- `get` finds the one member of an object that has a name; no other value has members.
use Rattle.std.specs.Prelude.{ℕ, List, [], ◌∷◌, Option, Some, None, option_and_then, codes}
use Rattle.serde_json.specs.Data.{Data, null, boolean, number, string, array, object}
use Rattle.serde_json.specs.Data.{Items, no_items, item}
use Rattle.serde_json.specs.Find.{get, as_str, as_array}

-- the text of the member of this name, where it is a string
abbrev pub string_member : List ℕ → Data → Option (List ℕ)
string_member name body = option_and_then as_str (get name body)

-- what a report has: texts, and perhaps a version
pub record Report : Type 0 where
  pub from : List ℕ
  pub «package» : List ℕ
  pub severity : List ℕ
  pub title : List ℕ
  pub version : Option (List ℕ)

-- what a member gives that need not be there: the text of a string, none where it is null or absent
abbrev pub optional_text : Option Data → Option (Option (List ℕ))
optional_text None = Some None
optional_text (Some null) = Some None
optional_text (Some (string text)) = Some (Some text)
optional_text (Some (boolean b)) = None
optional_text (Some (number n)) = None
optional_text (Some (array values)) = None
optional_text (Some (object named)) = None

-- a report, where all its parts are there
abbrev pub report_of : Option (List ℕ) → Option (List ℕ) → Option (List ℕ) → Option (List ℕ)
    → Option (Option (List ℕ)) → Option Report
report_of (Some from) (Some name) (Some severity) (Some title) (Some version) =
    Some (record {
      from = from;
      «package» = name;
      severity = severity;
      title = title;
      version = version;
    })
report_of _ _ _ _ _ = None

-- the members of a report
abbrev pub report_members : Data → Option Report
report_members body =
    report_of (string_member (codes "from") body) (string_member (codes "package") body)
    (string_member (codes "severity") body) (string_member (codes "title") body)
    (optional_text (get (codes "version") body))

-- what a control message has
pub record Control : Type 0 where
  pub from : List ℕ
  pub message : List ℕ

abbrev pub control_of : Option (List ℕ) → Option (List ℕ) → Option Control
control_of (Some from) (Some message) = Some (record { from = from; message = message })
control_of _ _ = None

-- the members of a control message
abbrev pub control_members : Data → Option Control
control_members body =
    control_of (string_member (codes "from") body) (string_member (codes "message") body)

-- the id of a control message, if it has one
abbrev pub id_member : Data → Option (Option (List ℕ))
id_member body = optional_text (get (codes "id") body)

-- a text before others, where all are there
abbrev pub before : Option (List ℕ) → Option (List (List ℕ)) → Option (List (List ℕ))
before (Some text) (Some texts) = Some (text ∷ texts)
before _ _ = None

-- the texts of items, where each is a string
abbrev pub strings_of : Items → Option (List (List ℕ))
strings_of no_items = Some []
strings_of (item d items) = before (as_str d) (strings_of items)

-- the member of a branch: an array of strings
abbrev pub branch_member : Data → Option (List (List ℕ))
branch_member body =
    option_and_then strings_of (option_and_then as_array (get (codes "branch") body))
