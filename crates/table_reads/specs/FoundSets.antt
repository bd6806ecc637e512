-- A set that was found, and its key.
use Rattle.std.specs.Prelude.{ℕ, ◌≡◌, Option, Some, None}
use Rattle.bug_record.specs.declared.bug.SetImage.{SetImage}
use Rattle.table_content.specs.Content.{Content}
use Rattle.table_content.specs.View.{image, desk_in}
use Rattle.store_contract.specs.Store.{IsImageOf}
use Rattle.table_reads.specs.declared.images.FoundSet.{FoundSet}

-- the set of the bug n, which stands under its key, if there is such a bug
abbrev pub IsSetFound : Content → ℕ → Option FoundSet → Type 0
IsSetFound c n None = IsImageOf (desk_in c) n None
IsSetFound c n (Some found) = IsImageOf (desk_in c) n (Some found.image) × (image c found.key ≡ Some found.image)

-- an image that was found under a key
abbrev pub found_under : ℕ → SetImage → FoundSet
found_under k i = record { key = k; image = i }
