-- What the texts of steps make, one after another.
use Rattle.table_history.proofs.Imports.{Step, schema_after, Builds, InTurn, RunsText, RunsStep, RunsSteps, IsBuilt}
use Rattle.table_schema.proofs.Exports.{◌≡◌, ◌<◌, ◌≤◌, ◌+◌, inl, inr, ℕ, zero, suc, List, [], ◌∷◌, get_or, length, map, drop, Result, Ok, Err, refl, sym, ap, subst, ◌∙◌, arith, add-one, drop-map, AllByRecursion, Held, state, Schema, Ghosts, State, Table, Trees, Index, StoreFault}
use Rattle.std.proofs.Math.Seq.{drop-cons}
use Rattle.table_history.proofs.BuildLemmas.{builds_run, builds_then, builds_stop, builds_as, AddsTable, AddsIndex, table_is, index_is}

-- ---- calls one after another

-- from P a call came to Q, and what goes on from there goes on from P; or it failed, and with it
-- all
abbrev pub Goes : (State → Type 0) → (State → Type 0) → State → State → Result (Unit {0}) StoreFault → Type 1
Goes P Q old mid (Ok done) = (R : State → Type 0) (new : State) (r : Result (Unit {0}) StoreFault) → Builds Q R mid new r → Builds P R old new r
Goes P Q old mid (Err fault) = (R : State → Type 0) → Builds P R old mid (Err fault)

goes_one : (P Q : State → Type 0) (old mid : State) (r : Result (Unit {0}) StoreFault) → Builds P Q old mid r → Goes P Q old mid r
goes_one P Q old mid (Ok done) one = λ R new r next. builds_then P Q R old mid new r one next
goes_one P Q old mid (Err fault) one = λ R. builds_stop P Q R old mid fault one

goes_then : (P Q R : State → Type 0) (old mid new : State) (r : Result (Unit {0}) StoreFault) → Goes P Q old mid (Ok tt) → Goes Q R mid new r → Goes P R old new r
goes_then P Q R old mid new (Ok done) one two = λ S last r next. one S last r (two S last r next)
goes_then P Q R old mid new (Err fault) one two = λ S. one S new (Err fault) (two S)

-- what held before is what another says
pub goes_from : (P P' Q : State → Type 0) (old mid : State) (r : Result (Unit {0}) StoreFault) → (P' old → P old) → Goes P Q old mid r → Goes P' Q old mid r
goes_from P P' Q old mid (Ok done) before one = λ R new r next. builds_as P R P' R old new r before (λ was live now. now) (one R new r next)
goes_from P P' Q old mid (Err fault) before one = λ R. builds_as P R P' R old mid (Err fault) before (λ was live now. now) (one R)

-- nothing was done
goes_none : {M : Type 0} (at : M → State) (P : State → Type 0) (old new : M) (r : Result (Unit {0}) StoreFault) → new ≡ old → r ≡ Ok tt → Goes P P (at old) (at new) r
goes_none at P old new r same is = subst (Goes P P (at old) (at new)) (sym is) (λ R last r next. subst (λ m. Builds P R (at m) last r) same next)

-- the first of a list was done, and then the others
module _ {X M : Type 0} (at : M → State) (Did : X → M → M → Result (Unit {0}) StoreFault → Type 0) (P Q R : State → Type 0) (x : X) (xs : List X)
    (one : (old mid : M) (r : Result (Unit {0}) StoreFault) → Did x old mid r → Goes P Q (at old) (at mid) r)
    (more : (mid new : M) (r : Result (Unit {0}) StoreFault) → InTurn Did xs mid new r → Goes Q R (at mid) (at new) r) where
  goes_on : (old new : M) (r : Result (Unit {0}) StoreFault) → InTurn Did (x ∷ xs) old new r → Goes P R (at old) (at new) r
  goes_on old new r (inl (fault, is, did)) = subst (Goes P R (at old) (at new)) (sym is) (one old new (Err fault) did)
  goes_on old new r (inr (mid, did, rest)) = goes_then P Q R (at old) (at mid) (at new) r (one old mid (Ok tt) did) (more mid new r rest)

-- ---- a loop over a list

left : {X Y : Type 0} (f : X → Y) (xs : List X) (i : ℕ) (d : X) → i < length xs → drop i (map f xs) ≡ f (get_or xs i d) ∷ drop (i + 1) (map f xs)
left f xs i d below = rw add-one (drop-map f i xs ∙ ap (map f) (drop-cons xs i d below) ∙ ap (λ ys. f (get_or xs i d) ∷ ys) (sym (drop-map f (suc i) xs)))

module _ {X Y M : Type 0} (Did : Y → M → M → Result (Unit {0}) StoreFault → Type 0) (f : X → Y) (xs : List X) (i : ℕ) (d : X) (below : i < length xs) (old mid : M) where
  -- one was done, and then the others
  pub turn_done : Did (f (get_or xs i d)) old mid (Ok tt) → (new : M) (r : Result (Unit {0}) StoreFault) → InTurn Did (drop (i + 1) (map f xs)) mid new r → InTurn Did (drop i (map f xs)) old new r
  turn_done did new r rest = subst (λ ys. InTurn Did ys old new r) (sym (left f xs i d below)) (inr (mid, did, rest))

  -- one failed
  pub turn_failed : (fault : StoreFault) → Did (f (get_or xs i d)) old mid (Err fault) → InTurn Did (drop i (map f xs)) old mid (Err fault)
  turn_failed fault did = subst (λ ys. InTurn Did ys old mid (Err fault)) (sym (left f xs i d below)) (inl (fault, refl, did))

-- none is left
pub turns_end : {X Y M : Type 0} (Did : Y → M → M → Result (Unit {0}) StoreFault → Type 0) (f : X → Y) (xs : List X) (i : ℕ) (now : M) → length xs ≤ i → InTurn Did (drop i (map f xs)) now now (Ok tt)
turns_end Did f [] zero now above = (refl, refl)
turns_end Did f [] (suc i) now above = (refl, refl)
turns_end Did f (x ∷ xs) zero now above = absurd (omega arith)
turns_end Did f (x ∷ xs) (suc i) now above = turns_end Did f xs i now (omega arith)

-- ---- the texts of a step

-- these texts lead from a schema to another, and make these tables
pub data Leads : Schema → List (List ℕ) → List Table → Schema → Type 0 where
  made : {schema : Schema} → Leads schema [] [] schema
  table : {schema next last : Schema} {sql : List ℕ} {texts : List (List ℕ)} {t : Table} {tables : List Table}
      → AddsTable schema sql t next → Leads next texts tables last → Leads schema (sql ∷ texts) (t ∷ tables) last
  index : {schema next last : Schema} {sql : List ℕ} {texts : List (List ℕ)} {tables : List Table} {at : ℕ} {t : Table} {i : Index}
      → AddsIndex schema sql at t i next → Leads next texts tables last → Leads schema (sql ∷ texts) tables last

module _ {S : Type 0} (g : Ghosts S) (Fact : Type 0) (rows : Trees) where
  texts_go : {schema last : Schema} {texts : List (List ℕ)} {tables : List Table} → Leads schema texts tables last → AllByRecursion (λ t. rows t.tree ≡ []) tables
      → (old new : Held S) (r : Result (Unit {0}) StoreFault) → RunsStep g texts old new r → Goes (IsBuilt Fact rows schema) (IsBuilt Fact rows last) (state g old) (state g new) r
  texts_go {schema} made none old new r h = goes_none (state g) (IsBuilt Fact rows schema) old new r h.0 h.1
  texts_go {schema} {last} (table {next = next} {sql = sql} {texts = texts} {t = t} adds rest) none old new r h =
      goes_on (state g) (RunsText g) (IsBuilt Fact rows schema) (IsBuilt Fact rows next) (IsBuilt Fact rows last) sql texts
      (λ old mid r run. goes_one _ _ _ _ r (builds_run sql _ _ (table_is Fact rows schema sql t next none.0 adds) (state g old) (state g mid) r run))
      (texts_go rest none.1) old new r h
  texts_go {schema} {last} (index {next = next} {sql = sql} {texts = texts} {at = at} {t = t} {i = i} adds rest) none old new r h =
      goes_on (state g) (RunsText g) (IsBuilt Fact rows schema) (IsBuilt Fact rows next) (IsBuilt Fact rows last) sql texts
      (λ old mid r run. goes_one _ _ _ _ r (builds_run sql _ _ (index_is Fact rows schema sql at t i next adds) (state g old) (state g mid) r run))
      (texts_go rest none) old new r h

-- ---- steps

-- each step leads from the schema before it to the one after it
abbrev pub AreSteps : Schema → List Step → Type 0
AreSteps schema [] = Unit {0}
AreSteps schema (step ∷ steps) = Leads schema step.texts step.tables step.after × AreSteps step.after steps

-- the schema after these
abbrev pub last_after : Schema → List Step → Schema
last_after schema [] = schema
last_after schema (step ∷ steps) = last_after step.after steps

-- so they do from any schema of theirs on
pub steps_from : (schema : Schema) (steps : List Step) (k : ℕ) → AreSteps schema steps → AreSteps (schema_after schema steps k) (drop k steps)
steps_from schema [] zero are = are
steps_from schema [] (suc k) are = are
steps_from schema (step ∷ steps) zero are = are
steps_from schema (step ∷ steps) (suc k) are = steps_from step.after steps k are.1

pub last_from : (schema : Schema) (steps : List Step) (k : ℕ) → last_after (schema_after schema steps k) (drop k steps) ≡ last_after schema steps
last_from schema [] zero = refl
last_from schema [] (suc k) = refl
last_from schema (step ∷ steps) zero = refl
last_from schema (step ∷ steps) (suc k) = last_from step.after steps k

-- this holds after each step, of the schema and the steps that follow
abbrev pub AfterEach : (Schema → List Step → Type 0) → List Step → Type 0
AfterEach P [] = Unit {0}
AfterEach P (step ∷ steps) = P step.after steps × AfterEach P steps

-- and so after any of them
pub after_any : (P : Schema → List Step → Type 0) (schema : Schema) (steps : List Step) (k : ℕ) → P schema steps → AfterEach P steps → P (schema_after schema steps k) (drop k steps)
after_any P schema [] zero here all = here
after_any P schema [] (suc k) here all = here
after_any P schema (step ∷ steps) zero here all = here
after_any P schema (step ∷ steps) (suc k) here all = after_any P step.after steps k all.0 all.1

-- the tables that these steps make have no row
abbrev pub HaveNoRow : Trees → List Step → Type 0
HaveNoRow rows [] = Unit {0}
HaveNoRow rows (step ∷ steps) = AllByRecursion (λ t. rows t.tree ≡ []) step.tables × HaveNoRow rows steps

module _ {S : Type 0} (g : Ghosts S) (Fact : Type 0) (rows : Trees) where
  pub steps_go : (schema : Schema) (steps : List Step) → AreSteps schema steps → HaveNoRow rows steps
      → (old new : Held S) (r : Result (Unit {0}) StoreFault) → RunsSteps g (map (λ step. step.texts) steps) old new r
      → Goes (IsBuilt Fact rows schema) (IsBuilt Fact rows (last_after schema steps)) (state g old) (state g new) r
  steps_go schema [] are none old new r h = goes_none (state g) (IsBuilt Fact rows schema) old new r h.0 h.1
  steps_go schema (step ∷ steps) are none old new r h =
      goes_on (state g) (RunsStep g) (IsBuilt Fact rows schema) (IsBuilt Fact rows step.after) (IsBuilt Fact rows (last_after step.after steps)) step.texts (map (λ s. s.texts) steps)
      (texts_go g Fact rows are.0 none.0) (steps_go step.after steps are.1 none.1) old new r h
