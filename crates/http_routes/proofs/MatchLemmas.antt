-- The parts that the router found are those of the route that the path has.
use Rattle.std.proofs.Common.{◌≡◌, ℕ, suc, ◌+◌, ◌-◌, ◌≤◌, true, List, [], ◌∷◌, ◌++◌, length, drop, get_or, Option, Some, None, refl, sym, ap, ◌∙◌, subst, arith, ltb, leb, length-append, append-nil, append_assoc, Fits, w8}
use Rattle.std.specs.Prelude.{codes, IsSome, option_map}
use Rattle.std.specs.Str.{IsUtf8, is_utf8, chars}
use Rattle.std.proofs.Math.Utf8.{encode}
use Rattle.std.proofs.lemmas.Bool.{and_parts, lt-ltb, le-leb}
use Rattle.std.proofs.lemmas.Str.{IsUtf8-from_is_utf8, IsUtf8-take, IsUtf8-drop, IsCharBoundary-after_ascii, IsCharBoundary-before_ascii}
use Rattle.std.proofs.Math.Seq.{take-append_seam, drop-append_seam, drop-append-add}
use Rattle.matchit.specs.Rows.{param_token, catch_all_token}
use Rattle.matchit.specs.Seek.{first, segment}
use Rattle.matchit.specs.Level.{IsText}
use Rattle.matchit.specs.Router.{RouteOf}
use Rattle.matchit.specs.Params.{walk, wild_from, wild_stop, part_of, after_token, AllText}
use Rattle.matchit.specs.declared.params.Params.{Params}
use Rattle.http_routes.specs.Routes.{Found, FoundBugs, FoundControl, FoundBranches, FoundBug, FoundList, route, is_part, has_bytes, HasRoute, route_at}
use Rattle.http_routes.specs.Rows.{route_text, Routes, routes}
use Rattle.http_routes.specs.Match.{parts_of, found_with}
use Rattle.http_routes.specs.declared.router.Route.{Route}
use Rattle.http_routes.specs.declared.router.Route.TheVariants.{Bug, List as ListRoute}
use Rattle.http_routes.proofs.SeekLemmas.{is_text}
use Rattle.http_routes.proofs.ParamLemmas.{segment-cut}
use Rattle.http_routes.proofs.TableLemmas.{list_path, no_slash, only_found}
use Rattle.http_routes.proofs.RowLemmas.{pattern, names, row, rows, routes_are, found_only, search_rows}

-- ---- the walk over the names, a step at a time

wild_along : (w rest : List ℕ) (len token at t a : ℕ) → is_text w ≡ true → t ≡ token + length w → a ≡ at + length w → a ≤ len
    → wild_from (w ++ rest) len token at ≡ wild_from rest len t a
wild_along [] rest len token at t a e et ea h =
    let same_t : token ≡ t = omega (arith, et) in
    let same_a : at ≡ a = omega (arith, ea) in
    λ i. wild_from rest len (same_t i) (same_a i)
wild_along (x ∷ w) rest len token at t a e et ea h =
    let both = and_parts (ltb x param_token) (is_text w) e in
    let within : ltb at len ≡ true = lt-ltb at len (omega (arith, ea, h)) in
    rw (both.0, within) (wild_along w rest len (token + 1) (at + 1) t a both.1 (omega (arith, et)) (omega (arith, ea)) h)

walk_one : (p t path : List ℕ) (name : ℕ × ℕ) (rest : List (ℕ × ℕ)) (token at stop next : ℕ) (w : ℕ × ℕ)
    → wild_from (drop token p) (length path) token at ≡ w → wild_stop p w.0 path w.1 ≡ stop → after_token w.0 ≡ next
    → walk p t path (name ∷ rest) token at ≡ (part_of t name.0 name.1, part_of path w.1 stop) ∷ walk p t path rest next stop
walk_one p t path name rest token at stop next w e f g = rw (e, f, g) refl

-- what stands between two others
part_is : (bytes a b c : List ℕ) (start stop : ℕ) → bytes ≡ a ++ (b ++ c) → start ≡ length a → stop ≡ length a + length b
    → part_of bytes start stop ≡ b
part_is bytes a b c start stop whole from upto =
    let long = ap length whole ∙ length-append a (b ++ c) in
    let more = length-append b c in
    let rises : leb start stop ≡ true = le-leb start stop (omega (arith, from, upto)) in
    let within : leb stop (length bytes) ≡ true = le-leb stop (length bytes) (omega (arith, from, upto, long, more)) in
    let size : stop - start ≡ length b = omega (arith, from, upto) in
    let behind : drop start bytes ≡ b ++ c =
    (λ i. drop (from i) (whole i)) ∙ drop-append_seam a (b ++ c) in
    rw (rises, within, size, behind) (take-append_seam b c)

-- ---- the parts of each route

-- the parts of a route under their names
abbrev pub named_parts : Found → List (List ℕ × List ℕ)
named_parts FoundBugs = []
named_parts FoundControl = []
named_parts FoundBranches = []
named_parts (FoundBug number) = (codes "n", number) ∷ []
named_parts (FoundList name version) = (codes "package", name) ∷ (codes "version", version) ∷ []

bug_walk : (number : List ℕ) → walk (pattern Bug) (route_text Bug) (codes "/bugs/" ++ number) (names Bug) 0 0 ≡ named_parts (FoundBug number)
bug_walk number =
    walk_one (pattern Bug) (route_text Bug) (codes "/bugs/" ++ number) (7, 8) [] 0 0 (length (codes "/bugs/" ++ number)) 7 (6, 6)
    (wild_along (codes "/bugs/") (param_token ∷ []) (length (codes "/bugs/" ++ number)) 0 0 6 6 refl refl refl
    (omega (arith, length-append (codes "/bugs/") number))) refl refl
    ∙ ap (λ (l : List ℕ). (codes "n", l) ∷ [])
    (part_is (codes "/bugs/" ++ number) (codes "/bugs/") number [] 6 (length (codes "/bugs/" ++ number))
    (ap (λ (l : List ℕ). codes "/bugs/" ++ l) (sym (append-nil number))) refl (length-append (codes "/bugs/") number))

-- the second part begins after the first and a slash
list_walk : (name version : List ℕ) → is_part name ≡ true
    → walk (pattern ListRoute) (route_text ListRoute) (codes "/list/" ++ (name ++ 47 ∷ version)) (names ListRoute) 0 0
    ≡ named_parts (FoundList name version)
list_walk name version good =
    let long = length-append (codes "/list/") (name ++ 47 ∷ version) in
    let more = length-append name (47 ∷ version) in
    let first = ap length (segment-cut name version (no_slash name good)) ∙ length-append name (47 ∷ []) in
    let stop : 6 + length (segment (name ++ 47 ∷ version)) - 1 ≡ 6 + length name = omega (arith, first) in
    let again : name ++ 47 ∷ version ≡ (name ++ 47 ∷ []) ++ (version ++ []) =
    sym (append_assoc name (47 ∷ []) (version ++ []) ∙ ap (λ (l : List ℕ). name ++ 47 ∷ l) (append-nil version)) in
    walk_one (pattern ListRoute) (route_text ListRoute) (codes "/list/" ++ (name ++ 47 ∷ version)) (7, 14) ((18, 25) ∷ []) 0 0
    (6 + length name) 7 (6, 6)
    (wild_along (codes "/list/") (param_token ∷ 47 ∷ catch_all_token ∷ []) (length (codes "/list/" ++ (name ++ 47 ∷ version))) 0 0 6 6
    refl refl refl (omega (arith, long))) stop refl
    ∙ ap (λ (l : List (List ℕ × List ℕ)). (codes "package", part_of (codes "/list/" ++ (name ++ 47 ∷ version)) 6 (6 + length name)) ∷ l)
    (walk_one (pattern ListRoute) (route_text ListRoute) (codes "/list/" ++ (name ++ 47 ∷ version)) (18, 25) [] 7 (6 + length name)
    (length (codes "/list/" ++ (name ++ 47 ∷ version))) 9 (8, 6 + length name + 1)
    (wild_along (47 ∷ []) (catch_all_token ∷ []) (length (codes "/list/" ++ (name ++ 47 ∷ version))) 7 (6 + length name) 8 (6 + length name + 1)
    refl refl refl (omega (arith, long, more))) refl refl)
    ∙ (λ i. (
      codes "package",
      part_is (codes "/list/" ++ (name ++ 47 ∷ version)) (codes "/list/") name (47 ∷ version) 6 (6 + length name) refl refl refl i,
    ) ∷ (
      codes "version",
      part_is (codes "/list/" ++ (name ++ 47 ∷ version)) (codes "/list/" ++ (name ++ 47 ∷ [])) version [] (6 + length name + 1)
          (length (codes "/list/" ++ (name ++ 47 ∷ version))) (ap (λ (l : List ℕ). codes "/list/" ++ l) again)
          (omega (arith, length-append (codes "/list/") (name ++ 47 ∷ []), length-append name (47 ∷ [])))
          (omega (arith, long, more, length-append (codes "/list/") (name ++ 47 ∷ []), length-append name (47 ∷ []))) i,
    ) ∷ [])

parts_walk : (path : List ℕ) (found : Found) → HasRoute path found
    → walk (pattern (route found)) (route_text (route found)) path (names (route found)) 0 0 ≡ named_parts found
parts_walk path FoundBugs has = refl
parts_walk path FoundControl has = refl
parts_walk path FoundBranches has = refl
parts_walk path (FoundBug number) has =
    ap (λ (l : List ℕ). walk (pattern Bug) (route_text Bug) l (names Bug) 0 0) has.0 ∙ bug_walk number
parts_walk path (FoundList name version) has =
    ap (λ (l : List ℕ). walk (pattern ListRoute) (route_text ListRoute) l (names ListRoute) 0 0) (has.0 ∙ list_path name version)
    ∙ list_walk name version (and_parts (is_part name) (has_bytes version) has.1).0

-- ---- the parts are texts

bug_text : (number : List ℕ) → IsUtf8 (codes "/bugs/" ++ number) → IsUtf8 number
bug_text number text =
    IsUtf8-drop (codes "/bugs/" ++ number) 6 text
    (IsCharBoundary-after_ascii (codes "/bugs/" ++ number) 5 text (omega (arith, length-append (codes "/bugs/") number)) (omega arith))

at_slash : (name version : List ℕ) → get_or (name ++ 47 ∷ version) (length name) 0 ≡ 47
at_slash [] version = refl
at_slash (b ∷ name) version = at_slash name version

rest_text : (name version : List ℕ) → IsUtf8 (codes "/list/" ++ (name ++ 47 ∷ version)) → IsUtf8 (name ++ 47 ∷ version)
rest_text name version text =
    IsUtf8-drop (codes "/list/" ++ (name ++ 47 ∷ version)) 6 text
    (IsCharBoundary-after_ascii (codes "/list/" ++ (name ++ 47 ∷ version)) 5 text
    (omega (arith, length-append (codes "/list/") (name ++ 47 ∷ version))) (omega arith))

list_text : (name version : List ℕ) → IsUtf8 (name ++ 47 ∷ version) → IsUtf8 name × IsUtf8 version
list_text name version text =
    let long = length-append name (47 ∷ version) in
    let slash = at_slash name version in (
      subst IsUtf8 (take-append_seam name (47 ∷ version))
          (IsUtf8-take (name ++ 47 ∷ version) (length name) text
          (IsCharBoundary-before_ascii (name ++ 47 ∷ version) (length name) (omega (arith, long)) (omega (arith, slash)))),
      subst IsUtf8 (drop-append-add name (47 ∷ version) 1)
          (IsUtf8-drop (name ++ 47 ∷ version) (length name + 1) text
          (IsCharBoundary-after_ascii (name ++ 47 ∷ version) (length name) text (omega (arith, long)) (omega (arith, slash)))),
    )

pub texts_of : (path : List ℕ) (found : Found) → HasRoute path found → IsUtf8 path → AllText (named_parts found)
unfolding is_utf8 chars encode
texts_of path FoundBugs has text = tt
texts_of path FoundControl has text = tt
texts_of path FoundBranches has text = tt
texts_of path (FoundBug number) has text =
    (IsUtf8-from_is_utf8 (codes "n") refl, bug_text number (subst IsUtf8 has.0 text), tt)
texts_of path (FoundList name version) has text =
    let both = list_text name version (rest_text name version (subst IsUtf8 (has.0 ∙ list_path name version) text)) in (
      IsUtf8-from_is_utf8 (codes "package") refl,
      both.0,
      (IsUtf8-from_is_utf8 (codes "version") refl, both.1, tt),
    )

-- ---- what the router found

-- the bytes of a text
pub bytes_of : (text : List ℕ) → ((i : ℕ) → Fits w8 (get_or text i 0)) → IsText text
bytes_of [] fits = tt
bytes_of (b ∷ text) fits = (let first = fits 0 in omega (arith, first), bytes_of text (λ i. fits (suc i)))

-- the route that the path has is the one that was found, and these are its parts
pub record IsMatch (path : List ℕ) (value : Route) (params : Params) : Type 0 where
  pub found : Found
  pub has : HasRoute path found
  pub same : route found ≡ value
  pub parts : parts_of params ≡ named_parts found

pub is_match : (path : List ℕ) (held : Routes) (value : Route) (params : Params) → IsText path → held ≡ routes
    → first held path ≡ Some (record {
      pattern = params.pattern.now;
      text = params.text.now;
      names = params.names.now;
      value = value;
    })
    → params.path.now ≡ path → IsMatch path value params
is_match path held value params text is found same =
    let only = found_only path text _ (ap (λ (r : Routes). first r path) (sym (is ∙ routes_are)) ∙ found) in
    let back = sym only.2 in
    record {
      found = only.0;
      has = only.1;
      same = ap (λ (r : RouteOf Route). r.value) only.2;
      parts =
          (λ i. walk (back i).pattern (back i).text (same i) (back i).names 0 0)
          ∙ parts_walk path only.0 only.1;
    }

pub match_texts : (path : List ℕ) (value : Route) (params : Params) → IsUtf8 path → IsMatch path value params → AllText (parts_of params)
match_texts path value params text m = subst AllText (sym m.parts) (texts_of path m.found m.has text)

with_its_parts : (found : Found) → found_with (route found) (named_parts found) ≡ Some found
with_its_parts FoundBugs = refl
with_its_parts FoundControl = refl
with_its_parts FoundBranches = refl
with_its_parts (FoundBug number) = refl
with_its_parts (FoundList name version) = refl

match_with : (path : List ℕ) (value : Route) (params : Params) (m : IsMatch path value params) → found_with value (parts_of params) ≡ Some m.found
match_with path value params m = (λ i. found_with (sym m.same i) (m.parts i)) ∙ with_its_parts m.found

pub match_there : (path : List ℕ) (value : Route) (params : Params) → IsMatch path value params → IsSome (found_with value (parts_of params))
match_there path value params m = rw (match_with path value params m) refl

pub match_route : (path : List ℕ) (value : Route) (params : Params) (made : Found) → IsMatch path value params
    → found_with value (parts_of params) ≡ Some made → Some made ≡ route_at path
match_route path value params made m e = sym e ∙ match_with path value params m ∙ sym (only_found path m.found m.has)

-- where the router finds none, the path has no route of the table
pub no_match : (path : List ℕ) (held : Routes) → IsText path → held ≡ routes → first held path ≡ None → None ≡ route_at path
no_match path held text is none = by (route_at path) (sym (search_rows path text) ∙ gone)
  where
    gone : first rows path ≡ None
    gone = ap (λ (r : Routes). first r path) (sym (is ∙ routes_are)) ∙ none

    by : (o : Option Found) → option_map (λ f. row (route f)) o ≡ None → None ≡ o
    by None e = refl
    by (Some found) e = cc
