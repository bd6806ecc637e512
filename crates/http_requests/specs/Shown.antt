-- The answer that a reply stands for, and what a request asks.
use Rattle.std.specs.Prelude.{ℕ, List, map, option_map, string_bytes}
use Rattle.http_routes.specs.Members.{Report, Control}
use Rattle.http_requests.specs.Answer.{Answer, json, plain}
use Rattle.http_requests.specs.Requests.{Asked, Always, Once, PostBug, PostControl, PostBranch, GetBug, GetList}
use Rattle.http_requests.specs.declared.reply.Body.{Body}
use Rattle.http_requests.specs.declared.reply.Body.TheVariants.{Fixed, Json, Page}
use Rattle.http_requests.specs.declared.reply.Reply.{Reply}
use Rattle.http_requests.specs.declared.request.ReportRequest.{ReportRequest}
use Rattle.http_requests.specs.declared.request.MessageRequest.{MessageRequest}
use Rattle.http_requests.specs.declared.request.Request.{Request as RequestMade}
use Rattle.http_requests.specs.declared.request.Request.TheVariants as requests

abbrev pub media_of : Body → List ℕ
media_of (Fixed text) = json
media_of (Json text) = json
media_of (Page text) = plain

abbrev pub body_of : Body → List ℕ
body_of (Fixed text) = text.now
body_of (Json text) = string_bytes text
body_of (Page text) = text.items

abbrev pub shown : Reply → Answer
shown r = record {
  status = r.status;
  allow = option_map (λ s. s.now) r.allow;
  media = media_of r.body;
  body = body_of r.body;
}

abbrev pub report_asked : ReportRequest → Report
report_asked r = record {
  from = string_bytes r.from;
  «package» = string_bytes r.«package»;
  severity = string_bytes r.severity;
  title = string_bytes r.title;
  version = option_map string_bytes r.version;
}

abbrev pub message_asked : MessageRequest → Control
message_asked m = record { from = string_bytes m.from; message = string_bytes m.message }

abbrev pub asked : RequestMade → Asked
asked (requests.Report r) = Always (PostBug (report_asked r))
asked (requests.Message m) = Always (PostControl (message_asked m))
asked (requests.Once o) = Once (string_bytes o.id) (message_asked o.message)
asked (requests.Branch words) = Always (PostBranch (map string_bytes words.items))
asked (requests.Page n) = Always (GetBug n)
asked (requests.ListOf l) = Always (GetList (string_bytes l.«package») (string_bytes l.version))
