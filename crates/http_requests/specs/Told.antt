-- Which answers tell of a fault.
-- This project's own rule.
use Rattle.std.specs.Prelude.{◌≡◌, ◌≢◌, Option, Some, None}
use Rattle.base_faults.specs.declared.store_fault.StoreFault.{StoreFault}
use Rattle.base_faults.specs.declared.store_fault.StoreFault.TheVariants.{Memory}
use Rattle.http_requests.specs.Answer.{Answer, store_fault}

-- Whatever the store is: a 500 comes only where a fault was met; out of memory is told by the
-- fixed answer alone, and any other fault by a 500.
abbrev pub IsTold : Option StoreFault → Answer → Type 0
IsTold None answer = answer.status ≢ 500
IsTold (Some Memory) answer = answer ≡ store_fault
IsTold (Some fault) answer = answer.status ≡ 500
