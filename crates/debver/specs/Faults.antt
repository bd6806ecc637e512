-- The first fault of a text that is no version: this project's own rule.

use Rattle.std.specs.Prelude.{ℕ, ◌+◌, ◌==◌, nat_lt, Bool, false, not, if◌then◌else◌, List, length, position, Option, Some, None}
use Rattle.std.specs.Prelude.{is_some}
use Rattle.std.specs.Bool.{then_some}
use Rattle.std.specs.Option.{option_map, option_or}
use Rattle.debver.specs.Characters.{is_digit}
use Rattle.debver.specs.Parts.{Version, written, epoch_text, in_upstream, in_revision}
use Rattle.debver.specs.Cut.{cut}
use Rattle.debver.specs.declared.fault.VersionFault.{VersionFault}
use Rattle.debver.specs.declared.fault.VersionFault.TheVariants.{Empty, BadEpoch, BadUpstream, BadRevision, TooLong}

-- where an empty part would begin, or the first wrong character of another
abbrev pub wrong_place : (ℕ → Bool) → List ℕ → Option ℕ
wrong_place is_right s = if length s == 0 then Some 0 else position (λ c. not (is_right c)) s

abbrev pub has_bad_epoch : Option (List ℕ) → Bool
has_bad_epoch None = false
has_bad_epoch (Some e) = is_some (wrong_place is_digit e)

-- of an upstream part that begins at this place of the text
abbrev pub upstream_fault_at : ℕ → Bool → List ℕ → Option VersionFault
upstream_fault_at start has_epoch s = option_map (λ i. BadUpstream (start + i)) (wrong_place (in_upstream has_epoch) s)

-- of a revision that begins at this place of the text
abbrev pub revision_fault_at : ℕ → Option (List ℕ) → Option VersionFault
revision_fault_at start None = None
revision_fault_at start (Some r) = option_map (λ i. BadRevision (start + i)) (wrong_place in_revision r)

abbrev pub upstream_start : Version → ℕ
upstream_start v = length (epoch_text v.epoch)

-- past the upstream part and the hyphen
abbrev pub revision_start : Version → ℕ
revision_start v = upstream_start v + length v.upstream + 1

abbrev pub upstream_fault : Version → Option VersionFault
upstream_fault v = upstream_fault_at (upstream_start v) (is_some v.epoch) v.upstream

abbrev pub revision_fault : Version → Option VersionFault
revision_fault v = revision_fault_at (revision_start v) v.revision

-- the first in this order
abbrev pub fault : Version → Option VersionFault
fault v =
    option_or (then_some (length (written v) == 0) Empty)
    (option_or (then_some (has_bad_epoch v.epoch) BadEpoch)
    (option_or (upstream_fault v)
    (option_or (revision_fault v)
    (then_some (nat_lt 100 (length (written v))) TooLong))))

-- the first fault of a text, if it is no version
abbrev pub text_fault : List ℕ → Option VersionFault
text_fault text = fault (cut text)
