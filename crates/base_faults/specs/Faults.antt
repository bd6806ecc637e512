-- What is said of a fault of a store.
-- This project's own rule.
use Rattle.std.specs.Prelude.{ℕ, List, ◌++◌, codes}
use Rattle.base_faults.specs.declared.store_fault.StoreFault.{StoreFault}
use Rattle.base_faults.specs.declared.store_fault.StoreFault.TheVariants.{Memory, Device, Full, Foreign}

-- its word
abbrev pub fault_word : StoreFault → List ℕ
fault_word Memory = codes "memory"
fault_word Device = codes "device"
fault_word Full = codes "full"
fault_word Foreign = codes "foreign"

-- its message
unfoldable pub fault_message : StoreFault → List ℕ
fault_message fault = codes "the store failed: " ++ fault_word fault
