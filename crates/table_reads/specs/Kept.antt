-- What a question says where the tables say what a desk keeps.
use Rattle.std.specs.Prelude.{◌≡◌, Result}
use Rattle.sqlite.specs.State.{State}
use Rattle.base_faults.specs.declared.store_fault.StoreFault.{StoreFault}
use Rattle.table_content.specs.Content.{Content}
use Rattle.table_content.specs.Kept.{IsKeptContent}
use Rattle.table_schema.specs.Steps.{Acts}

-- a question: the tables say what they said, and where that is kept, P holds of it and the answer,
-- and it fails for memory, the disk or its size alone
abbrev pub ReadsKept : {A : Type 0} → (Content → A → Type 0) → State → State → Result A StoreFault → Type 0
ReadsKept P old new result = Acts old new result IsKeptContent (λ c d a. (d ≡ c) × (IsKeptContent c → P c a))
