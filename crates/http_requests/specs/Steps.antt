-- What the functions that carry requests out answer.
use Rattle.std.specs.Prelude.{◌≡◌, Some, None}
use Rattle.base_faults.specs.declared.store_fault.StoreFault.{StoreFault}
use Rattle.http_requests.specs.Answer.{Answer, store_fault}
use Rattle.http_requests.specs.Shown.{shown}
use Rattle.http_requests.specs.declared.reply.Reply.{Reply}

-- the fixed answer to this fault
abbrev pub Fails : StoreFault → Reply → Type 0
Fails fault reply = (shown reply ≡ store_fault) × (reply.fault ≡ Some fault)

-- this answer, where no fault was met
abbrev pub Gives : Answer → Reply → Type 0
Gives answer reply = (shown reply ≡ answer) × (reply.fault ≡ None)
