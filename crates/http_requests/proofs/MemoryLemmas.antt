-- Which requests take no memory, and how they are refused.
use Rattle.std.proofs.Common.{◌≡◌, ℕ, List, Bool, true, false, Option, Some, None, Result, Ok, Err, refl, sym, ap, ◌∙◌, subst, inl, inr, arith}
use Rattle.std.specs.Prelude.{◌⊎◌, ◌&&◌, if◌then◌else◌, is_ok, nat_le, length, take, map, option_and_then}
use Rattle.std.specs.Str.{is_utf8, bytes_eq}
use Rattle.httparse.specs.Grammar.{RequestHead}
use Rattle.httparse.specs.Spans.{name_and_value}
use Rattle.base_words.specs.Numbers.{number_of_word}
use Rattle.http_routes.specs.Body.{json_of}
use Rattle.http_routes.specs.Parts.{path_of, decoded_text}
use Rattle.http_routes.specs.Routes.{Found, FoundBugs, FoundControl, FoundBranches, FoundBug, FoundList, route, method, route_at, HasNoRoute}
use Rattle.http_routes.specs.declared.router.Route.{Route}
use Rattle.http_routes.specs.declared.router.Route.TheVariants as routes
use Rattle.http_routes.proofs.TableLemmas.{has_found}
use Rattle.http_bytes.specs.Body.{whole, body_of_length}
use Rattle.http_bytes.specs.Headers.{body_length}
use Rattle.http_bytes.specs.declared.refusal.BodyRefusal.{BodyRefusal}
use Rattle.http_bytes.specs.declared.refusal.BodyRefusal.TheVariants as bodies
use Rattle.http_requests.specs.Answer.{Answer, not_found}
use Rattle.http_requests.specs.Requests.{Asked}
use Rattle.http_requests.specs.Asking.{is_good_asked, posted, members_of, asked_by_body, asked_with, page_asked, page_by, list_asked, list_by, asked_at, asked_on, route_of, asked_of, bad_request, not_allowed, body_refused}
use Rattle.http_requests.specs.Memory.{takes_memory_at, takes_memory_on, takes_memory, IsHeadStatus}

same_refusal : (r : Result Asked Answer) (a b : Answer) → r ≡ Err a → r ≡ Err b → a ≡ b
same_refusal r a b e f = cc

ok_is_err : (asked : Asked) (refusal : Answer) → Ok asked ≡ Err refusal → ⊥
ok_is_err asked refusal e = cc

-- these refusals have other statuses
not_404 : IsHeadStatus 404 → ⊥
not_404 (inl e) = omega (arith, e)
not_404 (inr (inl e)) = omega (arith, e)
not_404 (inr (inr (inl e))) = omega (arith, e)
not_404 (inr (inr (inr e))) = omega (arith, e)

not_400 : IsHeadStatus 400 → ⊥
not_400 (inl e) = omega (arith, e)
not_400 (inr (inl e)) = omega (arith, e)
not_400 (inr (inr (inl e))) = omega (arith, e)
not_400 (inr (inr (inr e))) = omega (arith, e)

other_status : (r : Result Asked Answer) (refusal known : Answer) → r ≡ Err known → r ≡ Err refusal → (IsHeadStatus known.status → ⊥)
    → IsHeadStatus refusal.status → ⊥
other_status r refusal known e f none status =
    none (subst (λ (a : Answer). IsHeadStatus a.status) (same_refusal r refusal known f e) status)

page_status : (n : Option ℕ) (refusal : Answer) → page_asked n ≡ Err refusal → IsHeadStatus refusal.status → ⊥
page_status None refusal is status = other_status (Err not_found) refusal not_found refl is not_404 status
page_status (Some n) refusal is status = ok_is_err _ refusal is

list_status : (name version : Option (List ℕ)) (refusal : Answer) → list_asked name version ≡ Err refusal → IsHeadStatus refusal.status → ⊥
list_status None None refusal is status = other_status (Err not_found) refusal not_found refl is not_404 status
list_status None (Some version) refusal is status = other_status (Err not_found) refusal not_found refl is not_404 status
list_status (Some name) None refusal is status = other_status (Err not_found) refusal not_found refl is not_404 status
list_status (Some name) (Some version) refusal is status = ok_is_err _ refusal is

by_page : (part : List ℕ) (refusal : Answer) → page_by part ≡ Err refusal → IsHeadStatus refusal.status → ⊥
unfolding page_by
by_page part refusal is status = page_status (option_and_then number_of_word (decoded_text part)) refusal is status

by_list : (name version : List ℕ) (refusal : Answer) → list_by name version ≡ Err refusal → IsHeadStatus refusal.status → ⊥
unfolding list_by
by_list name version refusal is status = list_status (decoded_text name) (decoded_text version) refusal is status

good_status : (good : Bool) (asked : Asked) (refusal : Answer) → (if good then Ok asked else Err bad_request) ≡ Err refusal
    → IsHeadStatus refusal.status → ⊥
good_status true asked refusal is status = ok_is_err asked refusal is
good_status false asked refusal is status = other_status (Err bad_request) refusal bad_request refl is not_400 status

posted_status : (asked : Option Asked) (refusal : Answer) → posted asked ≡ Err refusal → IsHeadStatus refusal.status → ⊥
posted_status None refusal is status = other_status (Err bad_request) refusal bad_request refl is not_400 status
posted_status (Some asked) refusal is status = good_status (is_good_asked asked) asked refusal is status

body_status : (r : Route) (body : List ℕ) (refusal : Answer) → asked_by_body r body ≡ Err refusal → IsHeadStatus refusal.status → ⊥
unfolding asked_by_body
body_status r body refusal is status = posted_status (option_and_then (members_of r) (json_of body)) refusal is status

cut_status : (r : Route) (b : Bool) (body : List ℕ) (refusal : Answer)
    → asked_with r (if b then Ok body else Err bodies.BadRequest) ≡ Err refusal → IsHeadStatus refusal.status → ⊥
cut_status r true body refusal is status = body_status r body refusal is status
cut_status r false body refusal is status = other_status (Err bad_request) refusal bad_request refl is not_400 status

whole_status : (r : Route) (n : ℕ) (rest : List ℕ) (refusal : Answer) → asked_with r (whole n rest) ≡ Err refusal
    → IsHeadStatus refusal.status → ⊥
unfolding whole
whole_status r n rest refusal is status = cut_status r (nat_le n (length rest)) (take n rest) refusal is status

-- a length that is taken leads to none of these statuses
length_status : (r : Route) (told : Result ℕ BodyRefusal) (rest : List ℕ) (refusal : Answer)
    → asked_with r (body_of_length told rest) ≡ Err refusal → IsHeadStatus refusal.status → is_ok told ≡ false
length_status r (Err other) rest refusal is status = refl
length_status r (Ok n) rest refusal is status = absurd (whole_status r n rest refusal is status)

at_status : (found : Found) (headers : List (List ℕ × List ℕ)) (rest : List ℕ) (refusal : Answer)
    → asked_at found headers rest ≡ Err refusal → IsHeadStatus refusal.status → takes_memory_at (route found) headers ≡ false
at_status (FoundBug number) headers rest refusal is status = absurd (by_page number refusal is status)
at_status (FoundList name version) headers rest refusal is status = absurd (by_list name version refusal is status)
at_status FoundBugs headers rest refusal is status = length_status routes.Bugs (body_length headers) rest refusal is status
at_status FoundControl headers rest refusal is status = length_status routes.Control (body_length headers) rest refusal is status
at_status FoundBranches headers rest refusal is status = length_status routes.Branches (body_length headers) rest refusal is status

by_method : (b : Bool) (found : Found) (headers : List (List ℕ × List ℕ)) (rest : List ℕ) (refusal : Answer)
    → (if b then asked_at found headers rest else Err (not_allowed (route found))) ≡ Err refusal → IsHeadStatus refusal.status
    → (b && takes_memory_at (route found) headers) ≡ false
by_method false found headers rest refusal is status = refl
by_method true found headers rest refusal is status = at_status found headers rest refusal is status

on_status : (found : Option Found) (asked : List ℕ) (headers : List (List ℕ × List ℕ)) (rest : List ℕ) (refusal : Answer)
    → asked_on found asked headers rest ≡ Err refusal → IsHeadStatus refusal.status → takes_memory_on found asked headers ≡ false
on_status None asked headers rest refusal is status = refl
on_status (Some found) asked headers rest refusal is status =
    by_method (bytes_eq asked (method (route found))) found headers rest refusal is status

pub of_status : (head : RequestHead) (rest : List ℕ) (refusal : Answer) → asked_of head rest ≡ Err refusal
    → IsHeadStatus refusal.status → takes_memory head ≡ false
of_status head rest refusal is status =
    on_status (route_of (path_of head.target)) head.method (map name_and_value head.fields) rest refusal is status

-- ---- what takes no memory

true_is_false : true ≡ false → ⊥
true_is_false e = cc

length_refused : (r : Route) (told : Result ℕ BodyRefusal) → is_ok told ≡ false
    → (refusal : Answer) × ((rest : List ℕ) → asked_with r (body_of_length told rest) ≡ Err refusal)
length_refused r (Ok n) none = absurd (true_is_false none)
length_refused r (Err other) none = (body_refused other, λ rest. refl)

at_refused : (found : Found) (headers : List (List ℕ × List ℕ)) → takes_memory_at (route found) headers ≡ false
    → (refusal : Answer) × ((rest : List ℕ) → asked_at found headers rest ≡ Err refusal)
at_refused (FoundBug number) headers none = absurd (true_is_false none)
at_refused (FoundList name version) headers none = absurd (true_is_false none)
at_refused FoundBugs headers none = length_refused routes.Bugs (body_length headers) none
at_refused FoundControl headers none = length_refused routes.Control (body_length headers) none
at_refused FoundBranches headers none = length_refused routes.Branches (body_length headers) none

method_refused : (b : Bool) (found : Found) (headers : List (List ℕ × List ℕ)) → (b && takes_memory_at (route found) headers) ≡ false
    → (refusal : Answer) × ((rest : List ℕ)
    → (if b then asked_at found headers rest else Err (not_allowed (route found))) ≡ Err refusal)
method_refused false found headers none = (not_allowed (route found), λ rest. refl)
method_refused true found headers none = at_refused found headers none

on_refused : (found : Option Found) (asked : List ℕ) (headers : List (List ℕ × List ℕ)) → takes_memory_on found asked headers ≡ false
    → (refusal : Answer) × ((rest : List ℕ) → asked_on found asked headers rest ≡ Err refusal)
on_refused None asked headers none = (not_found, λ rest. refl)
on_refused (Some found) asked headers none = method_refused (bytes_eq asked (method (route found))) found headers none

pub of_refused : (head : RequestHead) → takes_memory head ≡ false
    → (refusal : Answer) × ((rest : List ℕ) → asked_of head rest ≡ Err refusal)
of_refused head none = on_refused (route_of (path_of head.target)) head.method (map name_and_value head.fields) none

-- ---- no route

no_route_by : (r : Option Found) (path asked : List ℕ) (headers : List (List ℕ × List ℕ)) → route_at path ≡ r → HasNoRoute path
    → takes_memory_on r asked headers ≡ false
no_route_by None path asked headers is none = refl
no_route_by (Some found) path asked headers is none = absurd (none found (has_found path found is))

utf8_or_none : (b : Bool) (path asked : List ℕ) (headers : List (List ℕ × List ℕ)) → HasNoRoute path
    → takes_memory_on (if b then route_at path else None) asked headers ≡ false
utf8_or_none true path asked headers none = no_route_by (route_at path) path asked headers refl none
utf8_or_none false path asked headers none = refl

pub of_no_route : (head : RequestHead) → HasNoRoute (path_of head.target) → takes_memory head ≡ false
unfolding route_of
of_no_route head none =
    utf8_or_none (is_utf8 (path_of head.target)) (path_of head.target) head.method (map name_and_value head.fields) none
