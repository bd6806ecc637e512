-- The router's search finds the route of the table that a path has.
use Rattle.std.proofs.Common.{◌≡◌, ℕ, true, List, [], ◌∷◌, ◌++◌, Option, Some, None, refl, sym, ap, ◌∙◌, subst, inl, inr, append-nil}
use Rattle.std.specs.Prelude.{codes, ◌<◌, ◌⊎◌, option_map, All}
use Rattle.std.proofs.lemmas.List.Elements.{All-head, All-tail}
use Rattle.matchit.specs.Rows.{param_token, catch_all_token}
use Rattle.matchit.specs.Seek.{own, seek, first, or_else}
use Rattle.matchit.specs.Level.{IsText}
use Rattle.matchit.specs.Router.{RouteOf}
use Rattle.matchit.proofs.OnLiterals.{matchit_on_literals}
use Rattle.http_routes.specs.Routes.{Found, FoundBugs, FoundControl, FoundBranches, FoundBug, FoundList, route, path_with, has_good_parts, HasRoute, route_at}
use Rattle.http_routes.specs.Rows.{route_text, Routes, routes}
use Rattle.http_routes.specs.declared.router.Route.{Route}
use Rattle.http_routes.specs.declared.router.Route.TheVariants.{Bugs, Control, Branches, Bug, List as ListRoute}
use Rattle.http_routes.proofs.SeekLemmas.{is_text, seek-along, one_of, row_begins, row_ends}
use Rattle.http_routes.proofs.ParamLemmas.{text_after, part_found, part_only, list_found, list_only}
use Rattle.http_routes.proofs.TableLemmas.{list_path, has_found, only_found}

-- ---- the rows, as the router has them

-- the pattern of a route
abbrev pub pattern : Route → List ℕ
pattern Bugs = codes "/bugs"
pattern Control = codes "/control"
pattern Branches = codes "/branches"
pattern Bug = codes "/bugs/" ++ param_token ∷ []
pattern ListRoute = codes "/list/" ++ param_token ∷ 47 ∷ catch_all_token ∷ []

-- where the names of its parameters stand in its text
abbrev pub names : Route → List (ℕ × ℕ)
names Bugs = []
names Control = []
names Branches = []
names Bug = (7, 8) ∷ []
names ListRoute = (7, 14) ∷ (18, 25) ∷ []

abbrev pub row : Route → RouteOf Route
row r = record { pattern = pattern r; text = route_text r; names = names r; value = r }

abbrev pub keyed : Route → List ℕ × RouteOf Route
keyed r = (pattern r, row r)

abbrev pub rows : Routes
rows = keyed Branches ∷ keyed Bug ∷ keyed Bugs ∷ keyed Control ∷ keyed ListRoute ∷ []

pub routes_are : routes ≡ rows
unfolding routes matchit_on_literals
routes_are = refl

-- ---- a route of the table is found

at_the_end : (r : Routes) → seek 0 r [] ≡ own r
unfolding seek
at_the_end r = refl

pub finds : (found : Found) → IsText (path_with found) → has_good_parts found ≡ true
    → first rows (path_with found) ≡ Some (row (route found))
finds FoundBugs text good = seek-along (codes "/bugs") rows [] refl ∙ at_the_end _
finds FoundControl text good = seek-along (codes "/control") rows [] refl ∙ at_the_end _
finds FoundBranches text good = seek-along (codes "/branches") rows [] refl ∙ at_the_end _
finds (FoundBug number) text good =
    seek-along (codes "/bugs/") rows number refl
    ∙ part_found (row Bug) number (text_after (codes "/bugs/") number text) good
finds (FoundList name version) text good =
    let whole = subst IsText (list_path name version) text in
    ap (first rows) (list_path name version)
    ∙ (seek-along (codes "/list/") rows (name ++ 47 ∷ version) refl
    ∙ list_found (row ListRoute) name version (text_after (codes "/list/") (name ++ 47 ∷ version) whole) good)

-- ---- what is found is a route of the table

some_of : (a b : Option (RouteOf Route)) (x : RouteOf Route) → or_else a b ≡ Some x → (a ≡ Some x) ⊎ (b ≡ Some x)
some_of None b x e = inr e
some_of (Some y) b x e = inl e

-- the path has a route of the table, and this is its row
abbrev pub IsFoundBy : List ℕ → RouteOf Route → Type 0
IsFoundBy path found = (f : Found) × HasRoute path f × (row (route f) ≡ found)

module _ (path : List ℕ) (text : IsText path) (found : RouteOf Route) where
  -- a route without parameters
  fixed_only : (f : Found) → has_good_parts f ≡ true → is_text (path_with f) ≡ true
      → seek 0 ((path_with f ++ [], row (route f)) ∷ []) path ≡ Some found → IsFoundBy path found
  fixed_only f good e h =
      let begins = row_begins (path_with f) [] (row (route f)) path found e h in
      let ends = row_ends (row (route f)) found begins.0 begins.2 in
      (f, (begins.1 ∙ ap (λ (l : List ℕ). path_with f ++ l) ends.0 ∙ append-nil (path_with f), good), ends.1)

  bug_only : seek 0 (keyed Bug ∷ []) path ≡ Some found → IsFoundBy path found
  bug_only h =
      let begins = row_begins (codes "/bugs/") (param_token ∷ []) (row Bug) path found refl h in
      let rest = text_after (codes "/bugs/") begins.0 (subst IsText begins.1 text) in
      let part = part_only (row Bug) found begins.0 rest begins.2 in
      (FoundBug begins.0, (begins.1, part.0), part.1)

  parts_only : seek 0 (keyed ListRoute ∷ []) path ≡ Some found → IsFoundBy path found
  parts_only h =
      let begins = row_begins (codes "/list/") (param_token ∷ 47 ∷ catch_all_token ∷ []) (row ListRoute) path found refl h in
      let rest = text_after (codes "/list/") begins.0 (subst IsText begins.1 text) in
      let parts = list_only (row ListRoute) found begins.0 rest begins.2 in (
        FoundList parts.0 parts.1,
        (begins.1 ∙ ap (λ (l : List ℕ). codes "/list/" ++ l) parts.2 ∙ sym (list_path parts.0 parts.1), parts.3),
        parts.4,
      )

  pub found_only : first rows path ≡ Some found → IsFoundBy path found
  found_only h =
      elim (some_of _ _ found (sym (one_of (codes "/branches") [] (row Branches) (keyed Bug ∷ keyed Bugs ∷ keyed Control ∷ keyed ListRoute ∷ []) path refl) ∙ h)) [
        | inl h ↦ fixed_only FoundBranches refl refl h
        | inr h ↦ elim (some_of _ _ found (sym (one_of (codes "/bugs/") (param_token ∷ []) (row Bug) (keyed Bugs ∷ keyed Control ∷ keyed ListRoute ∷ []) path refl) ∙ h)) [
          | inl h ↦ bug_only h
          | inr h ↦ elim (some_of _ _ found (sym (one_of (codes "/bugs") [] (row Bugs) (keyed Control ∷ keyed ListRoute ∷ []) path refl) ∙ h)) [
            | inl h ↦ fixed_only FoundBugs refl refl h
            | inr h ↦ elim (some_of _ _ found (sym (one_of (codes "/control") [] (row Control) (keyed ListRoute ∷ []) path refl) ∙ h)) [
              | inl h ↦ fixed_only FoundControl refl refl h
              | inr h ↦ parts_only h
            ]
          ]
        ]
      ]

-- ---- both ways

module _ (path : List ℕ) (text : IsText path) where
  none_found : (o : Option (RouteOf Route)) → first rows path ≡ o → route_at path ≡ None → o ≡ None
  none_found None e none = refl
  none_found (Some found) e none =
      let only = found_only path text found e in
      let has = only_found path only.0 only.1 in
      cc

  -- The search finds the row of the route that the path has of the table, and none where it has
  -- none.
  pub search_rows : first rows path ≡ option_map (λ f. row (route f)) (route_at path)
  search_rows = by (route_at path) refl
    where
      by : (o : Option Found) → route_at path ≡ o → first rows path ≡ option_map (λ f. row (route f)) o
      by None e = none_found (first rows path) refl e
      by (Some found) e =
          let has = has_found path found e in
          ap (first rows) has.0 ∙ finds found (subst IsText has.0 text) has.1

  pub search_routes : option_map (λ r. r.value) (first routes path) ≡ option_map route (route_at path)
  search_routes =
      ap (λ (r : Routes). option_map (λ r. r.value) (first r path)) routes_are
      ∙ ap (option_map (λ r. r.value)) search_rows ∙ by (route_at path)
    where
      by : (o : Option Found) → option_map (λ r. r.value) (option_map (λ f. row (route f)) o) ≡ option_map route o
      by None = refl
      by (Some found) = refl

-- the bytes of a text
pub text_of : (path : List ℕ) → All (λ b. b < 256) path → IsText path
text_of [] all = tt
text_of (b ∷ path) all = (All-head (λ b. b < 256) b path all, text_of path (All-tail (λ b. b < 256) b path all))
