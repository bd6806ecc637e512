-- What is asked: the route of a path, by whether it is UTF-8, and what there is of a body.
use Rattle.std.proofs.Common.{◌≡◌, ℕ, List, Bool, true, false, not, Option, Some, None, Result, Ok, Err, IfOk, IsErrAnd, refl, sym, ap, ◌∙◌, subst}
use Rattle.std.specs.Prelude.{if◌then◌else◌, option_map, is_ok, IfErr, IsTrue}
use Rattle.std.specs.Str.{IsUtf8, is_utf8, bytes_eq}
use Rattle.std.proofs.lemmas.Str.{IsUtf8-from_is_utf8, is_utf8-from_IsUtf8}
use Rattle.http_routes.specs.Routes.{Found, route, method, route_at}
use Rattle.http_routes.specs.Shown.{found_shown}
use Rattle.http_routes.specs.declared.found.Found.{Found as FoundMade}
use Rattle.http_routes.specs.Parts.{path_of}
use Rattle.http_routes.specs.declared.router.Route.{Route}
use Rattle.http_bytes.specs.Body.{IfRead}
use Rattle.http_bytes.specs.Found.{HadBytes}
use Rattle.http_bytes.specs.declared.refusal.BodyRefusal.{BodyRefusal}
use Rattle.http_bytes.specs.declared.refusal.BodyFault.{BodyFault}
use Rattle.http_bytes.specs.declared.refusal.BodyFault.TheVariants as bodies
use Rattle.http_bytes.proofs.HadLemmas.{had_any, had_then}
use Rattle.http_requests.specs.Answer.{Answer, not_found}
use Rattle.http_requests.specs.Requests.{Asked}
use Rattle.http_requests.specs.declared.request.Request.{Request as RequestMade}
use Rattle.http_requests.specs.Asking.{route_of, asked_at, asked_on, asked_by, asked_with, not_allowed}
use Rattle.http_requests.specs.Refused.{IfAsked, ask_fault}
use Rattle.http_requests.specs.declared.fault.AskFault.{AskFault}
use Rattle.http_requests.specs.declared.fault.AskFault.TheVariants as faults
use Rattle.http_requests.specs.declared.refusal.RequestRefusal.{RequestRefusal}
use Rattle.http_requests.specs.declared.refusal.RequestRefusal.TheVariants.{BodyRefused}

-- by the test of the path
by_test : (path : List ℕ) (b : Bool) → is_utf8 path ≡ b
    → (if is_utf8 path then route_at path else None) ≡ (if b then route_at path else None)
by_test path b e = ap (λ (t : Bool). if t then route_at path else None) e

route_of-utf8 : (path : List ℕ) (found : Option Found) → IsUtf8 path → found ≡ route_at path → found ≡ route_of path
unfolding route_of
route_of-utf8 path found h e = e ∙ sym (by_test path true (is_utf8-from_IsUtf8 path h))

is_false : (path : List ℕ) (b : Bool) → is_utf8 path ≡ b → ¬ (IsUtf8 path) → b ≡ false
is_false path true e h = absurd (h (IsUtf8-from_is_utf8 path e))
is_false path false e h = refl

pub route_of-bytes : (path : List ℕ) → ¬ (IsUtf8 path) → None ≡ route_of path
unfolding route_of
route_of-bytes path h = sym (by_test path false (is_false path (is_utf8 path) refl h))

-- the route that was found for the text of a path
pub route_found : (path text : List ℕ) (found : Option FoundMade) → text ≡ path → IsUtf8 path
    → option_map found_shown found ≡ route_at text → option_map found_shown found ≡ route_of path
route_found path text found same h e = route_of-utf8 path (option_map found_shown found) h (e ∙ ap route_at same)

-- what is asked without a body doesn't depend on the bytes after the head
pub any_rest : (told : Result RequestMade AskFault) (known : Option (List ℕ)) (answer : List ℕ → Result Asked Answer)
    (found : Result Asked Answer) → IfAsked told (λ asked. asked ≡ found) → ((more : List ℕ) → found ≡ answer more)
    → IfAsked told (λ asked. HadBytes known (λ more. asked ≡ answer more))
any_rest (Ok request) known answer found is same = had_any known _ (λ more. is ∙ same more)
any_rest (Err (faults.Refused refusal)) known answer found is same = had_any known _ (λ more. is ∙ same more)
any_rest (Err faults.Memory) known answer found is same = tt
any_rest (Err faults.Read) known answer found is same = tt

-- what a body asks that was read
body_read : (asked : Result Asked Answer) (known : Option (List ℕ)) (route : Route) (body : List ℕ)
    (read : List ℕ → Result (List ℕ) BodyRefusal) → HadBytes known (λ more. Ok body ≡ read more)
    → asked ≡ asked_with route (Ok body) → HadBytes known (λ more. asked ≡ asked_with route (read more))
body_read asked known route body read had is = had_then known (λ more. Ok body ≡ read more) _
    (λ more e. is ∙ ap (asked_with route) e) had

pub body_asked : (told : Result RequestMade AskFault) (known : Option (List ℕ)) (route : Route) (body slice : List ℕ)
    (read : List ℕ → Result (List ℕ) BodyRefusal) → HadBytes known (λ more. Ok body ≡ read more) → slice ≡ body
    → IfAsked told (λ asked. asked ≡ asked_with route (Ok slice))
    → IfAsked told (λ asked. HadBytes known (λ more. asked ≡ asked_with route (read more)))
body_asked (Ok request) known route body slice read had same is =
    body_read _ known route body read had (is ∙ ap (λ (b : List ℕ). asked_with route (Ok b)) same)
body_asked (Err (faults.Refused refusal)) known route body slice read had same is =
    body_read _ known route body read had (is ∙ ap (λ (b : List ℕ). asked_with route (Ok b)) same)
body_asked (Err faults.Memory) known route body slice read had same is = tt
body_asked (Err faults.Read) known route body slice read had same is = tt

-- a body that was not given
fault_asked : (fault : BodyFault) (known : Option (List ℕ)) (route : Route) (read : List ℕ → Result (List ℕ) BodyRefusal)
    → IfRead (Err fault) (λ body. HadBytes known (λ more. body ≡ read more))
    → IfAsked (Err (ask_fault fault)) (λ asked. HadBytes known (λ more. asked ≡ asked_with route (read more)))
fault_asked (bodies.Refused refusal) known route read had = had_then known (λ more. Err refusal ≡ read more) _
    (λ more e. ap (asked_with route) e) had
fault_asked bodies.Memory known route read had = tt
fault_asked bodies.Read known route read had = tt

pub body_unasked : (told : Result RequestMade AskFault) (fault : BodyFault) (known : Option (List ℕ)) (route : Route)
    (read : List ℕ → Result (List ℕ) BodyRefusal) → IsErrAnd told (λ e. e ≡ ask_fault fault)
    → IfRead (Err fault) (λ body. HadBytes known (λ more. body ≡ read more))
    → IfAsked told (λ asked. HadBytes known (λ more. asked ≡ asked_with route (read more)))
body_unasked (Ok request) fault known route read is had = absurd is
body_unasked (Err e) fault known route read is had =
    subst (λ (f : AskFault). IfAsked (Err f) (λ asked. HadBytes known (λ more. asked ≡ asked_with route (read more)))) (sym is)
    (fault_asked fault known route read had)

-- the headers say a length that is taken, where reading the body was not refused
pub length_taken : {T : Type 0} (Same : Type 0) (told : Result ℕ BodyRefusal) (read : Result T BodyFault)
    → IfErr told (λ refusal. (read ≡ Err (bodies.Refused refusal)) × Same)
    → ((refusal : BodyRefusal) → read ≡ Err (bodies.Refused refusal) → ⊥) → IsTrue (is_ok told)
length_taken Same (Ok n) read refused other = refl
length_taken Same (Err refusal) read refused other = absurd (other refusal refused.0)

same_fault : (r : Result RequestMade AskFault) (e f : AskFault) → r ≡ Err e → r ≡ Err f → e ≡ f
same_fault r e f is as_well = cc

read_not_memory : faults.Read ≡ faults.Memory → ⊥
read_not_memory e = cc

not_refused : {T : Type 0} (read : Result T BodyFault) (r : BodyRefusal) → read ≡ Err bodies.Memory → read ≡ Err (bodies.Refused r) → ⊥
not_refused read r e f = cc

refused_not_memory : (r : RequestRefusal) → faults.Refused r ≡ faults.Memory → ⊥
refused_not_memory r e = cc

memory_taken : {T : Type 0} (Same : Type 0) (told : Result ℕ BodyRefusal) (read : Result T BodyFault) (fault : BodyFault) → read ≡ Err fault
    → IfErr told (λ refusal. (read ≡ Err (bodies.Refused refusal)) × Same) → ask_fault fault ≡ faults.Memory → IsTrue (is_ok told)
memory_taken Same (Ok n) read fault same refused is = refl
memory_taken Same (Err refusal) read (bodies.Refused other) same refused is = absurd (refused_not_memory (BodyRefused other) is)
memory_taken Same (Err refusal) read bodies.Memory same refused is = absurd (not_refused read refusal same refused.0)
memory_taken Same (Err refusal) read bodies.Read same refused is = absurd (read_not_memory is)

-- so it is where memory ran out
pub fault_taken : {T : Type 0} (Same : Type 0) (told : Result ℕ BodyRefusal) (read : Result T BodyFault) (fault : BodyFault)
    (result : Result RequestMade AskFault) → read ≡ Err fault → IsErrAnd result (λ e. e ≡ ask_fault fault) → result ≡ Err faults.Memory
    → IfErr told (λ refusal. (read ≡ Err (bodies.Refused refusal)) × Same) → IsTrue (is_ok told)
fault_taken Same told read fault (Ok request) same gave is refused = absurd gave
fault_taken Same told read fault (Err e) same gave is refused =
    memory_taken Same told read fault same refused (sym gave ∙ same_fault (Err e) e faults.Memory refl is)

not_true : (b : Bool) → true ≡ not b → b ≡ false
not_true true e = cc
not_true false e = refl

module _ (method_asked target : List ℕ) (headers : List (List ℕ × List ℕ)) (rest path : List ℕ) (made : Option FoundMade) where
  found_is : path ≡ path_of target → option_map found_shown made ≡ route_of path → option_map found_shown made ≡ route_of (path_of target)
  found_is e f = f ∙ ap route_of e

  pub no_route : path ≡ path_of target → option_map found_shown made ≡ route_of path → made ≡ None
      → Err not_found ≡ asked_by method_asked target headers rest
  no_route e f none =
      ap (λ (r : Option Found). asked_on r method_asked headers rest) (sym (ap (option_map found_shown) none) ∙ found_is e f)

  -- what is asked of the route that was found, by the test of its method
  pub by_method : (known : FoundMade) → path ≡ path_of target → option_map found_shown made ≡ route_of path → made ≡ Some known
      → (if bytes_eq method_asked (method (route (found_shown known))) then asked_at (found_shown known) headers rest else Err (not_allowed (route (found_shown known))))
      ≡ asked_by method_asked target headers rest
  by_method known e f some =
      ap (λ (r : Option Found). asked_on r method_asked headers rest) (sym (ap (option_map found_shown) some) ∙ found_is e f)

  pub other_method : (known : FoundMade) → path ≡ path_of target → option_map found_shown made ≡ route_of path → made ≡ Some known
      → (r : Route) → r ≡ route (found_shown known) → (name : List ℕ) → name ≡ method r → true ≡ not (bytes_eq method_asked name)
      → Err (not_allowed r) ≡ asked_by method_asked target headers rest
  other_method known e f some r same name is ne =
      let differs : bytes_eq method_asked (method (route (found_shown known))) ≡ false =
      subst (λ (n : List ℕ). bytes_eq method_asked n ≡ false) (is ∙ ap method same) (not_true (bytes_eq method_asked name) ne) in
      ap (λ (r : Route). Err (not_allowed r)) same
      ∙ ap (λ (b : Bool). if b then asked_at (found_shown known) headers rest else Err (not_allowed (route (found_shown known)))) (sym differs)
      ∙ by_method known e f some
