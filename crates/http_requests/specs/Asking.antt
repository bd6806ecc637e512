-- What an HTTP request asks, step by step, out of its head and the bytes after it; or the answer
-- that refuses it (the statuses: RFC 9110, section 15).
-- First comes the route, 404, then its method, 405; of a POST then the body, 501, 411, 400, 413 and
-- 400, and what it holds, 400; of a GET the parts of its path, 404.
-- This order, the limits and the texts are this project's own rule.
use Rattle.std.specs.Prelude.{ℕ, ◌&&◌, Bool, true, List, Option, Some, None, Result, Ok, Err, codes, map}
use Rattle.std.specs.Prelude.{option_map, option_and_then, if◌then◌else◌}
use Rattle.std.specs.Str.{is_utf8, bytes_eq}
use Rattle.httparse.specs.Grammar.{RequestHead}
use Rattle.httparse.specs.Spans.{name_and_value}
use Rattle.serde_json.specs.Data.{Data}
use Rattle.base_words.specs.Texts.{is_text}
use Rattle.base_words.specs.Numbers.{number_of_word}
use Rattle.http_routes.specs.Body.{json_of}
use Rattle.http_routes.specs.Members.{Control as ControlMembers, report_members, control_members, id_member, branch_member}
use Rattle.http_routes.specs.Routes.{Found, FoundBugs, FoundControl, FoundBranches}
use Rattle.http_routes.specs.Routes.{FoundBug, FoundList}
use Rattle.http_routes.specs.Routes.{route, method, route_at}
use Rattle.http_routes.specs.Parts.{path_of, decoded_text}
use Rattle.http_routes.specs.declared.router.Route.{Route}
use Rattle.http_routes.specs.declared.router.Route.TheVariants.{Bugs, Control, Branches, Bug}
use Rattle.http_routes.specs.declared.router.Route.TheVariants.{List as ListRoute}
use Rattle.http_bytes.specs.Body.{body_of}
use Rattle.http_bytes.specs.declared.refusal.BodyRefusal.{BodyRefusal}
use Rattle.http_bytes.specs.declared.refusal.BodyRefusal.TheVariants as bodies
use Rattle.http_requests.specs.Answer.{Answer, json_answer, json, not_found}
use Rattle.http_requests.specs.Requests.{Request, Asked, Always, Once, PostBug, PostControl, PostBranch, GetBug, GetList}
use Rattle.base_words.specs.Ids.{is_id}

-- the answers to what is no request
abbrev pub bad_request : Answer
bad_request = json_answer 400 (codes "{\"error\":\"bad request\"}")

abbrev pub not_allowed : Route → Answer
not_allowed route = record {
  status = 405;
  allow = Some (method route);
  media = json;
  body = codes "{\"error\":\"method not allowed\"}";
}

abbrev pub length_required : Answer
length_required = json_answer 411 (codes "{\"error\":\"length required\"}")

abbrev pub too_large : Answer
too_large = json_answer 413 (codes "{\"error\":\"too large\"}")

abbrev pub not_implemented : Answer
not_implemented = json_answer 501 (codes "{\"error\":\"not implemented\"}")

-- a request without a body that can be read
abbrev pub body_refused : BodyRefusal → Answer
body_refused bodies.NotImplemented = not_implemented
body_refused bodies.LengthRequired = length_required
body_refused bodies.BadRequest = bad_request
body_refused bodies.TooLarge = too_large

-- the sender, if there is one, is a text of 1 to 200 bytes
abbrev pub has_good_sender : Request → Bool
has_good_sender (PostBug report) = is_text report.from
has_good_sender (PostControl control) = is_text control.from
has_good_sender (PostBranch words) = true
has_good_sender (GetBug n) = true
has_good_sender (GetList name version) = true

-- so it is of what was asked
abbrev pub is_good_asked : Asked → Bool
is_good_asked (Always request) = has_good_sender request
is_good_asked (Once id control) = is_id id && is_text control.from

-- the request that a value's members make, where they are there, the sender is good, and an id is
-- one
abbrev pub posted : Option Asked → Result Asked Answer
posted None = Err bad_request
posted (Some request) = if is_good_asked request then Ok request else Err bad_request

-- a control message, with its id if it has one
abbrev pub control_asked : Option ControlMembers → Option (Option (List ℕ)) → Option Asked
control_asked (Some control) (Some None) = Some (Always (PostControl control))
control_asked (Some control) (Some (Some id)) = Some (Once id control)
control_asked _ _ = None

-- what the members of a value ask, by the route; a route of GET has no body
abbrev pub members_of : Route → Data → Option Asked
members_of Bugs value = option_map (λ report. Always (PostBug report)) (report_members value)
members_of Control value = control_asked (control_members value) (id_member value)
members_of Branches value = option_map (λ words. Always (PostBranch words)) (branch_member value)
members_of Bug value = None
members_of ListRoute value = None

-- what a body asks
unfoldable pub asked_by_body : Route → List ℕ → Result Asked Answer
asked_by_body route body = posted (option_and_then (members_of route) (json_of body))

abbrev pub asked_with : Route → Result (List ℕ) BodyRefusal → Result Asked Answer
asked_with route (Ok body) = asked_by_body route body
asked_with route (Err refusal) = Err (body_refused refusal)

abbrev pub page_asked : Option ℕ → Result Asked Answer
page_asked None = Err not_found
page_asked (Some n) = Ok (Always (GetBug n))

-- the page of the bug whose number word this part of a path is, decoded
unfoldable pub page_by : List ℕ → Result Asked Answer
page_by part = page_asked (option_and_then number_of_word (decoded_text part))

abbrev pub list_asked : Option (List ℕ) → Option (List ℕ) → Result Asked Answer
list_asked (Some name) (Some version) = Ok (Always (GetList name version))
list_asked _ _ = Err not_found

-- the list that these parts of a path ask for, each decoded
unfoldable pub list_by : List ℕ → List ℕ → Result Asked Answer
list_by name version = list_asked (decoded_text name) (decoded_text version)

-- what is asked at a route by its own method; only a POST has a body
abbrev pub asked_at : Found → List (List ℕ × List ℕ) → List ℕ → Result Asked Answer
asked_at (FoundBug number) headers rest = page_by number
asked_at (FoundList name version) headers rest = list_by name version
asked_at FoundBugs headers rest = asked_with Bugs (body_of headers rest)
asked_at FoundControl headers rest = asked_with Control (body_of headers rest)
asked_at FoundBranches headers rest = asked_with Branches (body_of headers rest)

-- what is asked of the route, if there is one, by this method
abbrev pub asked_on : Option Found → List ℕ → List (List ℕ × List ℕ) → List ℕ → Result Asked Answer
asked_on None method_asked headers rest = Err not_found
asked_on (Some found) method_asked headers rest =
    if bytes_eq method_asked (method (route found)) then asked_at found headers rest
    else Err (not_allowed (route found))

-- the route of a path, with its parts; one that is no UTF-8 has none, and `httparse` has refused it
-- before
unfoldable pub route_of : List ℕ → Option Found
route_of path = if is_utf8 path then route_at path else None

-- what is asked of a target by this method, with these headers and the bytes after the head
abbrev pub asked_by : List ℕ → List ℕ → List (List ℕ × List ℕ) → List ℕ → Result Asked Answer
asked_by method_asked target headers rest =
    asked_on (route_of (path_of target)) method_asked headers rest

-- what a head asks, with the bytes after it; or the answer that refuses it
abbrev pub asked_of : RequestHead → List ℕ → Result Asked Answer
asked_of head rest = asked_by head.method head.target (map name_and_value head.fields) rest
