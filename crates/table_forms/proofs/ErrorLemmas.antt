-- Why an INSERT inside a transaction fails.
use Rattle.std.proofs.Common.{◌≡◌, ◌⊎◌, inl, inr, ℕ, ℤ, ◌≤◌, List, [], ◌∷◌, length, suc, zero, true, false, Option, Some, None, option_map, Ok, Err, Result, refl, sym, ap, subst, subst₂, ◌∙◌, arith, append-nil, length-append, ◌||◌, is_some}
use Rattle.std.proofs.Common.{◌/◌}
use Rattle.sqlite_schema.specs.declared.schema.Among.TheVariants.{All, Due}
use Rattle.sqlite_schema.specs.Rules.{Refers}
use Rattle.sqlite.specs.Edit.{taken_by}
use Rattle.sqlite.specs.Rows.{Task, Inserts, Sourced, stamped, count_of, Counts}
use Rattle.table_forms.specs.Forms.{inserted}
use Rattle.std.specs.Ordering.{is_lt, int_cmp}
use Rattle.std.proofs.Common.{if◌then◌else◌}
use Rattle.sqlite.specs.Effect.{value_rows}
use Rattle.sqlite_typing.specs.Types.{accepts_terms}
use Rattle.table_forms.proofs.InsertLemmas.{InsertsRow, the_edit, bare, chosen, sources}
use Rattle.sqlite.specs.Effect.{is_query}
use Rattle.sqlite.specs.State.{is_pragma, RunsCommand}
use Rattle.sqlite.specs.Order.{Row}
use Rattle.sqlite.specs.Term.{Term, eval_all}
use Rattle.sqlite.specs.Table.{Table}
use Rattle.sqlite.specs.Schema.{Schema}
use Rattle.sqlite.specs.Tree.{Trees}
use Rattle.sqlite.specs.Command.{Command}
use Rattle.sqlite.specs.Command.TheVariants.{Insert, Delete, CreateTable, CreateIndex, Begin, Commit, Rollback, Release, RollbackTo, Update}
use Rattle.sqlite.specs.Source.TheVariants.{Values}
use Rattle.sqlite.specs.Edit.{Edit, edit_of, IsRefused}
use Rattle.sqlite_rules.specs.Action.{works, Writes, Leads}
use Rattle.sqlite_rules.specs.declared.error.Refusal.{Refusal}
use Rattle.sqlite_schema.specs.declared.schema.Keys.{Keys}
use Rattle.sqlite_schema.specs.declared.schema.Keys.TheVariants.{Enforced}
use Rattle.sqlite_resolve.specs.declared.compiled.Compiled.{Compiled}
use Rattle.sqlite_resolve.specs.declared.error.CompileError.{CompileError}
use Rattle.sqlite.specs.declared.error.Error.{Error}
use Rattle.sqlite.specs.Effect.{edit_error}
use Rattle.sqlite.specs.Does.{Does, Concludes, AtPlace, OnRows}
use Rattle.sqlite.specs.Rows.{Written}
use Rattle.sqlite.specs.Rowids.TheVariants.{Chosen}
use Rattle.sqlite.specs.declared.run.Mode.{Mode}
use Rattle.sqlite.specs.Listing.{understood}
use Rattle.sqlite.specs.State.{State, mode_of, text_of, shows_rows, IsMisplaced, IsNotRun, ExecutesIn, ExecutesInside, EndsScope}
use Rattle.table_forms.specs.Faults.{fault_of, IsFaultOf}
use Rattle.table_forms.proofs.FaultLemmas.{failed_fault}
use Rattle.table_forms.proofs.InsertLemmas.{off}
use Rattle.sqlite.proofs.Callers.{IsPlain, command_of, statement_of}

abbrev pub tail_of : Result Compiled CompileError → ℕ
tail_of (Ok c) = c.tail
tail_of (Err e) = 0

abbrev pub width_of : Result Compiled CompileError → ℕ
width_of (Ok c) = length c.names
width_of (Err e) = 0

-- a write, and no statement that ends a transaction
abbrev pub IsRowWrite : Command → Type 0
IsRowWrite (Insert at from) = Unit {0}
IsRowWrite (Delete at q) = Unit {0}
IsRowWrite (Update at q) = Unit {0}
IsRowWrite CreateTable = Unit {0}
IsRowWrite (CreateIndex at) = Unit {0}
IsRowWrite _ = ⊥

-- the text is one statement that takes these parameters
pub record IsCallOf (schema : Schema) (sql : List ℕ) (params : Row) (command : Command) : Type 0 where
  pub command_is : command_of (understood schema sql) ≡ command
  pub writes : IsRowWrite command
  pub plain : IsPlain (understood schema sql)
  pub whole : length sql ≤ tail_of (understood schema sql)
  pub given : length params ≡ width_of (understood schema sql)

shows_none : (command : Command) → IsRowWrite command → (is_query command || (is_pragma command || false)) ≡ false
shows_none (Insert at from) w = refl
shows_none (Delete at q) w = refl
shows_none (Update at q) w = refl
shows_none CreateTable w = refl
shows_none (CreateIndex at) w = refl
shows_none _ w = absurd w

module _ (schema : Schema) (sql : List ℕ) (params : Row) (command : Command) (it : IsCallOf schema sql params command) (old new : State) (has : old.now.schema ≡ schema) where
  known : (r : Result Compiled CompileError) → understood old.now.schema sql ≡ r → understood schema sql ≡ r
  known r is = sym (ap (λ s. understood s sql) has) ∙ is

  row_write : (c : Compiled) → understood old.now.schema sql ≡ Ok c → c.command ≡ command
  row_write c is = sym (ap command_of (known (Ok c) is)) ∙ it.command_is

  is_no : (other : Command) (c : Compiled) → understood old.now.schema sql ≡ Ok c → c.command ≡ other → IsRowWrite other
  is_no other c is same = subst IsRowWrite (sym (row_write c is) ∙ same) it.writes

  is_run : (e : Error) → IsNotRun old new sql params e → IsFaultOf old new (fault_of e)
  unfolding IsNotRun
  is_run e (inr fails) = failed_fault old new _ e fails
  is_run e (inl (inl (fault, is, why), same)) = absurd (subst IsRowWrite (sym it.command_is ∙ ap command_of (known (Err fault) is)) it.writes)
  is_run e (inl (inr (c, is, inl (short, why)), same)) = absurd (short (subst (λ r. length sql ≤ tail_of r) (known (Ok c) is) it.whole))
  is_run e (inl (inr (c, is, inr (inl (count, why))), same)) = absurd (count (subst (λ r. length params ≡ width_of r) (known (Ok c) is) it.given))
  is_run e (inl (inr (c, is, inr (inr (time, why))), same)) = absurd (time (subst IsPlain (known (Ok c) is) it.plain).1)

  misplaced : (e : Error) (c : Compiled) → understood old.now.schema sql ≡ Ok c → IsMisplaced old c.command e → ⊥
  misplaced e c is (inl (why, inl (begins, on))) = is_no Begin c is begins
  misplaced e c is (inl (why, inr (inl commits, off))) = is_no Commit c is commits
  misplaced e c is (inl (why, inr (inr rolls, off))) = is_no Rollback c is rolls
  misplaced e c is (inr (why, name, inl releases, none)) = is_no (Release name) c is releases
  misplaced e c is (inr (why, name, inr back, none)) = is_no (RollbackTo name) c is back

  abbrev DoesErr : Error → Type 0
  DoesErr e = Does old.step_limit (mode_of old) params old.now (statement_of sql (understood schema sql)) None command (Err (Some e))

  ran : (e : Error) (c : Compiled) → understood old.now.schema sql ≡ Ok c → RunsCommand old new sql c params (Err e) → IsFaultOf old new (fault_of e) ⊎ DoesErr e
  ran e c is (inr fails) = inl (failed_fault old new _ e fails)
  ran e c is (inl (inl wrong, same)) = absurd (misplaced e c is wrong)
  ran e c is (inl (inr (may, does), same)) =
      let bare = (subst IsPlain (known (Ok c) is) it.plain).0 in
      let text : text_of sql c ≡ statement_of sql (understood schema sql) = sym (ap (statement_of sql) (known (Ok c) is)) in
      inr (subst (λ k. Does old.step_limit (mode_of old) params old.now (statement_of sql (understood schema sql)) None k (Err (Some e))) (row_write c is)
      (subst₂ (λ t r. Does old.step_limit (mode_of old) params old.now t r c.command (Err (Some e))) text bare does))

  -- the store failed, or the command refuses
  pub fails_as : (e : Error) → ExecutesInside 0 sql params old new (Err e) → IsFaultOf old new (fault_of e) ⊎ DoesErr e
  unfolding ExecutesIn EndsScope
  fails_as e (inr ((c, st, inl (inl commits)), why, same)) = absurd (is_no Commit c st.is commits)
  fails_as e (inr ((c, st, inl (inr rolls)), why, same)) = absurd (is_no Rollback c st.is rolls)
  fails_as e (inr ((c, st, inr (name, inl releases, held)), why, same)) = absurd (is_no (Release name) c st.is releases)
  fails_as e (inr ((c, st, inr (name, inr back, held)), why, same)) = absurd (is_no (RollbackTo name) c st.is back)
  fails_as e (inl (inl not_run, same)) = inl (is_run e not_run)
  fails_as e (inl (inr (c, st, alone), same)) =
      let bare = subst IsPlain (known (Ok c) st.is) it.plain in
      let hides : shows_rows false c ≡ false = ap (λ r. is_query c.command || (is_pragma c.command || is_some r)) bare.0 ∙ shows_none c.command (subst IsRowWrite (sym (row_write c st.is)) it.writes) in
      let run : RunsCommand old new sql c params (Err e) = rw (bare.1, append-nil params) at (off _ _ _ hides alone) in
      ran e c st.is run

-- ---- the refusals of an INSERT

-- no table declares a reference
pub record HasNoReferences (schema : Schema) : Type 0 where
  pub refers : (db : Trees) → Refers All schema db

-- where nothing is set off, a refusal is one of the edit itself
pub refused_by : (schema : Schema) (keys : Keys) (db : Trees) (edit : Edit) (why : Refusal) → works schema keys 0 edit.table.tree (taken_by db edit) edit.news ≡ []
    → Writes schema keys db edit (Err (Some why)) → IsRefused schema keys db edit why
refused_by schema keys db edit why none (inl (other, refused, is)) = subst (IsRefused schema keys db edit) (let e : other ≡ why = cc in e) refused
refused_by schema keys db edit why none (inr (inl (row, has, big, is))) = absurd (let e = is in cc)
refused_by schema keys db edit why none (inr (inr (next, applies, leads))) = absurd (ends leads.0 (rw none at leads.1))
  where
    ends : (n : ℕ) → Leads schema keys n next [] (Err (Some why)) → ⊥
    ends zero h = absurd (let e = h.1 in cc)
    ends (suc n) h = absurd (omega (arith, ap length h.2, length-append h.0 (h.1 ∷ [])))

pub same_stop : {B E : Type 0} {a b : E} → ◌≡◌ {A = Result B E} (Err a) (Err b) → b ≡ a
same_stop e = cc

module _ (task : Task) (terms : List Term) (db : Trees) (uncounted : task.table.is_counted ≡ false) (unstamped : task.table.stamps.terms ≡ [])
    (one : (params : Row) → value_rows params (length terms) (length terms / length terms) terms ≡ eval_all terms (params ∷ []) ∷ []) (limit : task.limit ≡ None) (typed : accepts_terms terms task.params ≡ true)
    (still : (row : Row) → works task.schema task.keys 0 task.table.tree [] (row ∷ []) ≡ []) where
  sourced : (e : Error) → Sourced task.limit (record { schema = task.schema; trees = db }) (stamped task.table task.params) (Values terms (length terms)) (Err (Some e)) → ⊥
  sourced e (inl (is, refused)) = let known = ap (accepts_terms terms) (bare task terms db uncounted unstamped one) ∙ typed in let both = sym refused ∙ known in cc
  sourced e (inr (is, some)) = absurd (let none = rw limit at some in cc)

  went : (e : Error) (why : Option Refusal) → Writes task.schema task.keys db (the_edit task terms db) (Err why) → Some e ≡ option_map edit_error why → (w : Refusal) × IsRefused task.schema task.keys db (the_edit task terms db) w × (e ≡ edit_error w)
  went e None h same = absurd cc
  went e (Some w) h same = (w, refused_by task.schema task.keys db (the_edit task terms db) w (still (inserted task.table (db task.table.tree) terms task.params)) h, cc)

  uncounts : (mid : Trees) (counter : Option Row) (top : ℤ) (stop : Option Error) → Counts task mid counter top (Err stop) → ⊥
  uncounts mid counter top stop h = absurd (let no = off _ _ _ (ap (λ b. if b then is_lt (int_cmp (count_of counter) top) else false) uncounted) h in cc)

  pub refuses : (e : Error) → Inserts task (Values terms (length terms)) db (Err (Some e)) → (why : Refusal) × IsRefused task.schema task.keys db (the_edit task terms db) why × (e ≡ edit_error why)
  refuses e (inl (stop, source, is)) = absurd (sourced e (subst (λ s. Sourced task.limit (record { schema = task.schema; trees = db }) (stamped task.table task.params) (Values terms (length terms)) (Err s)) (same_stop is) source))
  refuses e (inr (rows, from, inl (stop, counted, is))) = absurd (let no = off _ _ _ uncounted counted in cc)
  refuses e (inr (rows, from, inr (counter, counted, inl (stop, (why, wrote, told), is)))) =
      went e why (subst₂ (λ ids all. Writes task.schema task.keys db (edit_of db task.table [] ids 0 all) (Err why)) (chosen task terms db uncounted unstamped one (count_of counter)) (sources task terms db uncounted unstamped one rows from) wrote) (sym (same_stop is) ∙ told)
  refuses e (inr (rows, from, inr (counter, counted, inr (mid, wrote, inl (stop, kept, is))))) = absurd (uncounts mid counter _ stop kept)
  refuses e (inr (rows, from, inr (counter, counted, inr (mid, wrote, inr (next, kept, is))))) = absurd (let e = is in cc)

-- a statement with no RETURNING over a schema with no references never fails once it has written
pub concludes_well : (task : Task) (mode : Mode) (w : Written) (e : Error) → HasNoReferences task.schema → mode.may_wait ≡ false → Concludes task mode None w (Err (Some e)) → ⊥
concludes_well task mode w e none waits (inl (stop, (broken, is), told)) = broken (subst (λ among. Refers among task.schema w.trees) (sym (ap (λ b. if b then Due mode.keys else All) waits)) (none.refers w.trees))
concludes_well task mode w e none waits (inr (doubt, tested, inl (stop, returns, is))) = absurd (let no = returns in cc)
concludes_well task mode w e none waits (inr (doubt, tested, inr (rows, shows, is))) = absurd (let no = is in cc)

pub insert_errors : (schema : Schema) (sql : List ℕ) (at : ℕ) (table : Table) (terms : List Term) → InsertsRow schema sql at table terms → HasNoReferences schema
    → (old new : State) (params : Row) (e : Error) → IsCallOf schema sql params (Insert at (Values terms (length terms))) → old.now.schema ≡ schema → old.step_limit ≡ None → accepts_terms terms params ≡ true
    → ExecutesInside 0 sql params old new (Err e)
    → IsFaultOf old new (fault_of e) ⊎ ((why : Refusal) × IsRefused schema Enforced old.now.trees (edit_of old.now.trees table [] Chosen 0 (eval_all terms (params ∷ []) ∷ [])) why × (e ≡ edit_error why))
insert_errors schema sql at table terms it none old new params e call has limit typed h = elim (fails_as schema sql params command call old new has e h) [ inl store ↦ inl store | inr does ↦ inr (go does) ]
  where
    command : Command
    command = Insert at (Values terms (length terms))

    task : Task
    task = record { limit = old.step_limit; keys = Enforced; schema = schema; table = table; params = params }

    db : Trees
    db = old.now.trees

    split : OnRows task (mode_of old) None command db (Err (Some e)) → (why : Refusal) × IsRefused schema Enforced db (the_edit task terms db) why × (e ≡ edit_error why)
    split (inl (stop, writes, is)) = refuses task terms db it.uncounted it.unstamped it.one limit typed it.still e (subst (λ s. Inserts task (Values terms (length terms)) db (Err s)) (same_stop is) writes)
    split (inr (w, wrote, ends)) = absurd (concludes_well task (mode_of old) w e none refl ends)

    go : Does old.step_limit (mode_of old) params old.now (statement_of sql (understood schema sql)) None command (Err (Some e)) → (why : Refusal) × IsRefused schema Enforced db (the_edit task terms db) why × (e ≡ edit_error why)
    go does =
        let here = subst (λ s. Does old.step_limit (mode_of old) params (record old.now { schema = s }) (statement_of sql (understood schema sql)) None command (Err (Some e))) has does in
        split (subst (λ t. AtPlace (λ table. OnRows (record { limit = old.step_limit; keys = Enforced; schema = schema; table = table; params = params }) (mode_of old) None command db) t (Err (Some e))) it.found here)
