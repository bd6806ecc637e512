-- The route of a path is the one of the table that the path has, and the only one.
use Rattle.std.proofs.Common.{◌≡◌, ℕ, ◌+◌, Bool, true, false, not, cond, List, [], ◌∷◌, ◌++◌, length, take, drop, Some, None, refl, sym, ap, ◌∙◌, arith, append_assoc}
use Rattle.std.specs.Prelude.{codes, Option, option_map, IfSome, IfNone}
use Rattle.std.specs.List.{find, list_any, position_or_len, before_first, after_first}
use Rattle.std.specs.Str.{bytes_eq}
use Rattle.std.proofs.lemmas.Bool.{and_parts, or_parts, not-true}
use Rattle.std.proofs.lemmas.Slice.Eq.{bytes_eq-Decides}
use Rattle.std.proofs.Math.Seq.{take-append_seam, drop-append-add}
use Rattle.http_routes.specs.Parts.{is_slash}
use Rattle.http_routes.specs.Routes.{Found, FoundBugs, FoundControl, FoundBranches, FoundBug, FoundList, path_with, is_part, has_bytes, has_good_parts, HasRoute, HasNoRoute, has_route, routes_to_try, route_at}
use Rattle.http_routes.specs.Shown.{found_shown}
use Rattle.http_routes.specs.declared.found.Found.{Found as FoundMade}

-- what is found passes the test
found_passes : (p : Found → Bool) (xs : List Found) (x : Found) → find p xs ≡ Some x → p x ≡ true
found_passes p [] x e = cc
found_passes p (y ∷ ys) x e = by (p y) refl e (found_passes p ys x)
  where
    by : (b : Bool) → p y ≡ b → cond b (Some y) (find p ys) ≡ Some x → (find p ys ≡ Some x → p x ≡ true) → p x ≡ true
    by true is e rest =
        let same : y ≡ x = cc in
        ap p (sym same) ∙ is
    by false is e rest = rest e

pub has_found : (path : List ℕ) (found : Found) → route_at path ≡ Some found → HasRoute path found
unfolding route_at
has_found path found e =
    let both = and_parts (bytes_eq path (path_with found)) (has_good_parts found)
    (found_passes (has_route path) (routes_to_try path) found e) in
    ((bytes_eq-Decides path (path_with found)).0 both.0, both.1)

-- ---- a route of the table is found

same : (text : List ℕ) → bytes_eq text text ≡ true
same text = (bytes_eq-Decides text text).1 refl

-- a part ends at the first slash
stops : (part rest : List ℕ) → list_any is_slash part ≡ false → position_or_len is_slash (part ++ 47 ∷ rest) ≡ length part
stops [] rest e = refl
stops (b ∷ part) rest e =
    let both = or_parts (is_slash b) (list_any is_slash part) e in
    rw both.0 (let more = stops part rest both.1 in omega (arith, more))

pub no_slash : (part : List ℕ) → is_part part ≡ true → list_any is_slash part ≡ false
no_slash part e = not-true (list_any is_slash part) (and_parts (has_bytes part) (not (list_any is_slash part)) e).1

before : (part rest : List ℕ) → is_part part ≡ true → before_first is_slash (part ++ 47 ∷ rest) ≡ part
before part rest e =
    ap (λ (n : ℕ). take n (part ++ 47 ∷ rest)) (stops part rest (no_slash part e))
    ∙ take-append_seam part (47 ∷ rest)

after : (part rest : List ℕ) → is_part part ≡ true → after_first is_slash (part ++ 47 ∷ rest) ≡ rest
after part rest e =
    ap (λ (n : ℕ). drop (n + 1) (part ++ 47 ∷ rest)) (stops part rest (no_slash part e))
    ∙ drop-append-add part (47 ∷ rest) 1

-- a list's path, cut after its first word
pub list_path : (name version : List ℕ) → path_with (FoundList name version) ≡ codes "/list/" ++ (name ++ 47 ∷ version)
list_path name version = ap (λ (l : List ℕ). codes "/list/" ++ l) (append_assoc name (47 ∷ []) version)

same_list : (name version : List ℕ) → bytes_eq (name ++ 47 ∷ version) ((name ++ 47 ∷ []) ++ version) ≡ true
same_list name version =
    (bytes_eq-Decides (name ++ 47 ∷ version) ((name ++ 47 ∷ []) ++ version)).1 (sym (append_assoc name (47 ∷ []) version))

list_found : (name version : List ℕ) → has_good_parts (FoundList name version) ≡ true
    → route_at (codes "/list/" ++ (name ++ 47 ∷ version)) ≡ Some (FoundList name version)
unfolding route_at
list_found name version good =
    let both = and_parts (is_part name) (has_bytes version) good in
    rw (before name version both.0, after name version both.0, same_list name version, good) refl

at_its_path : (found : Found) → has_good_parts found ≡ true → route_at (path_with found) ≡ Some found
unfolding route_at
at_its_path FoundBugs good = refl
at_its_path FoundControl good = refl
at_its_path FoundBranches good = refl
at_its_path (FoundBug number) good = rw (same number, good) refl
at_its_path (FoundList name version) good = ap route_at (list_path name version) ∙ list_found name version good

pub only_found : (path : List ℕ) (found : Found) → HasRoute path found → route_at path ≡ Some found
only_found path found has = ap route_at has.0 ∙ at_its_path found has.1

-- ---- what a route that was found says of its path

pub has_one : (path : List ℕ) (made : Option FoundMade) → option_map found_shown made ≡ route_at path
    → IfSome made (λ f. HasRoute path (found_shown f))
has_one path None e = tt
has_one path (Some f) e = has_found path (found_shown f) (sym e)

pub has_none : (path : List ℕ) (made : Option FoundMade) → option_map found_shown made ≡ route_at path
    → IfNone made (HasNoRoute path)
has_none path None e = λ found has. let there = e ∙ only_found path found has in cc
has_none path (Some f) e = tt
