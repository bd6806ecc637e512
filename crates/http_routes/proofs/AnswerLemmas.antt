-- The text of the answer to a control message.
use Rattle.std.proofs.Common.{◌≡◌, ℕ, List, append_assoc, rules}
use Rattle.serde_json.specs.Written.{compact_text}
use Rattle.serde_json.proofs.OnLiterals.{serde_json_on_literals}
use Rattle.http_routes.specs.Answers.{control_json, control_value}

pub control_text : (end transcript : List ℕ) → compact_text (control_value end transcript) ≡ control_json end transcript
unfolding serde_json_on_literals
control_text end transcript = simp append_assoc (search rules)
