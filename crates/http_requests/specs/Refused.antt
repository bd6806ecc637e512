-- The answer that a refusal stands for, and what was asked.
use Rattle.std.specs.Prelude.{Result, Ok, Err, ⊤}
use Rattle.http_bytes.specs.declared.refusal.BodyFault.{BodyFault}
use Rattle.http_bytes.specs.declared.refusal.BodyFault.TheVariants as bodies
use Rattle.http_requests.specs.declared.fault.AskFault.{AskFault}
use Rattle.http_requests.specs.declared.fault.AskFault.TheVariants as faults
use Rattle.http_requests.specs.Answer.{Answer, not_found}
use Rattle.http_requests.specs.Requests.{Asked}
use Rattle.http_requests.specs.Shown.{asked}
use Rattle.http_requests.specs.declared.request.Request.{Request as RequestMade}
use Rattle.http_requests.specs.Asking.{bad_request, not_allowed, body_refused}
use Rattle.http_requests.specs.declared.refusal.RequestRefusal.{RequestRefusal}
use Rattle.http_requests.specs.declared.refusal.RequestRefusal.TheVariants.{BadRequest, NotFound, NotAllowed, BodyRefused}

abbrev pub refused : RequestRefusal → Answer
refused BadRequest = bad_request
refused NotFound = not_found
refused (NotAllowed route) = not_allowed route
refused (BodyRefused refusal) = body_refused refusal

-- what was asked, or the answer that refuses it
abbrev pub asks : Result RequestMade RequestRefusal → Result Asked Answer
asks (Ok request) = Ok (asked request)
asks (Err refusal) = Err (refused refusal)

-- what is so of what was asked, or of the answer that refuses it; nothing is said where there was
-- no memory or a read failed
abbrev pub IfAsked : Result RequestMade AskFault → (Result Asked Answer → Type 0) → Type 0
IfAsked (Ok request) Is = Is (Ok (asked request))
IfAsked (Err (faults.Refused refusal)) Is = Is (Err (refused refusal))
IfAsked (Err faults.Memory) Is = ⊤
IfAsked (Err faults.Read) Is = ⊤

-- a body that was not given, as a fault of asking
abbrev pub ask_fault : BodyFault → AskFault
ask_fault (bodies.Refused refusal) = faults.Refused (BodyRefused refusal)
ask_fault bodies.Memory = faults.Memory
ask_fault bodies.Read = faults.Read
