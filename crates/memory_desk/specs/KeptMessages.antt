-- What a desk in memory keeps of messages that have an id.
use Rattle.std.specs.Prelude.{ℕ, ◌-◌, nat_lt, List, [], ◌∷◌, length, take, Option, Some, None, if◌then◌else◌}
use Rattle.std.specs.BTreeMap.{get_by_text}
use Rattle.std.specs.Str.{bytes_eq}
use Rattle.bug_record.specs.declared.outcome.Outcome.{Outcome}
use Rattle.store_contract.specs.Kept.{Keeping}
use Rattle.store_contract.specs.declared.kept.Kept.{Kept}
use Rattle.memory_desk.specs.declared.kept_messages.KeptMessages.{KeptMessages}

abbrev pub keeping_of : KeptMessages → Keeping
keeping_of kept id = get_by_text kept.by_id id

-- what is kept of a message with its first outcome
abbrev pub one_outcome : List ℕ → List ℕ → Outcome → Kept
one_outcome sender message outcome = record { from = sender; message = message; outcomes = outcome ∷ [] }

-- what is kept of a message without its last outcome
abbrev pub shorter : Option Kept → Option Kept
shorter None = None
shorter (Some k) =
    if nat_lt 1 (length k.outcomes)
    then Some (record k { outcomes = take (length k.outcomes - 1) k.outcomes })
    else None

-- the last outcome of the id is kept no more
abbrev pub without_last : List ℕ → Keeping → Keeping
without_last id kept = λ other. if bytes_eq id other then shorter (kept other) else kept other
