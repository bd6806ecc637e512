-- What the meaning of a statement's text, with its parameters, makes of a call.
use Rattle.table_schema.proofs.Imports.{◌≡◌, ◌⊎◌, inl, inr, ℕ, List, Result, Ok, Err, IfOk, IfErr, IsTrue, Option, None, Some, sym, ap, subst, ◌∙◌, ⊤, Row, Database, IsDatabase, Error, State, HasCleanDisk, KeepsCommit, Survives, ExecutesInside, IsUnchanged, IsRolledBack, Shown, FailsToQuery, FailsToShow, IsTooLate, IsNotRun, IsFaultOf, fault_of, told, shown_open, shown_same, query_fault_or_same, IsQueryOf, query_free, Finds, finds, Term, IsPlain, reads_as, Key, Content, desk_schema, content_of, AreShown, IsInside, seen, Acts, Serves}
use Rattle.sqlite_resolve.specs.declared.compiled.Compiled.{Compiled}
use Rattle.sqlite_schema.specs.declared.command.Returning.{Returning}
use Rattle.table_forms.specs.Faults.{written}
use Rattle.sqlite.specs.Listing.{understood}

-- ---- a statement that writes

pub record Makes (old new : State) (after : Content → Content) : Type 0 where
  pub schema : new.now.schema ≡ desk_schema
  pub sound : IsDatabase new.now
  pub shown : AreShown new.now.trees
  pub content : seen new ≡ after (seen old)

-- what a text with these parameters means
pub record IsWrite (sql : List ℕ) (params : Row) (Free : Content → Type 0) (after : Content → Content) : Type 1 where
  pub makes : (old new : State) (count : ℕ) → IsInside old → ExecutesInside 0 sql params old new (Ok count) → Makes old new after
  pub free : (old new : State) (e : Error) → IsInside old → (IsTrue old.is_open → Free (seen old)) → ExecutesInside 0 sql params old new (Err e) → IsFaultOf old new (fault_of e)

pub acts_write : (sql : List ℕ) (params : Row) (Free : Content → Type 0) (after : Content → Content) → IsWrite sql params Free after
    → (old new : State) (r : Result ℕ Error) → Survives old new (λ _. ⊥) → (HasCleanDisk new → IsTrue old.in_transaction → ExecutesInside 0 sql params old new r) → Acts old new (written r) Free (λ c d _. d ≡ after c)
acts_write sql params Free after it old new (Ok count) survives runs = record {
  survives = survives;
  keeps = λ clean inside. let h = runs clean inside.begun in record { was_open = λ _. h.1.was_open; committed = λ _. h.1.committed_is };
  ok = λ clean inside.
      let h = runs clean inside.begun in
      let m = it.makes old new count inside h in
      record {
        inside = record { begun = h.1.mode; unlimited = survives.limit ∙ inside.unlimited; schema = λ _. m.schema; sound = λ _. m.sound; shown = λ _. m.shown };
        serves = λ _. h.1.is_open;
        changed = m.content;
      };
  cause = λ clean inside free. tt;
}
acts_write sql params Free after it old new (Err e) survives runs = record {
  survives = survives;
  keeps = λ clean inside. kept (runs clean inside.begun);
  ok = λ clean inside. tt;
  cause = λ clean inside free. it.free old new e inside free (runs clean inside.begun);
}
  where
    unchanged : IsUnchanged old new → KeepsCommit old new
    unchanged h = record { was_open = λ _. h.0.was_open; committed = λ _. h.0.committed_is }

    kept : ExecutesInside 0 sql params old new (Err e) → KeepsCommit old new
    kept (inl (h, inl same)) = unchanged same
    kept (inl (h, inr back)) = record { was_open = back.was_open; committed = λ o. (back.undone o).1 }
    kept (inr (h, why, same)) = unchanged same

pub serves_write : (sql : List ℕ) (params : Row) (old new : State) (r : Result ℕ Error) → (HasCleanDisk new → IsTrue old.in_transaction → ExecutesInside 0 sql params old new r) → Serves old new (written r)
serves_write sql params old new (Ok count) runs clean inside = (runs clean inside.begun).1.was_open
serves_write sql params old new (Err e) runs clean inside = tt

-- ---- a statement that reads

pub record IsRead (sql : List ℕ) (params : Row) (P : Content → List Row → Type 0) : Type 1 where
  pub shows : (old new : State) (rows : List Row) → IsInside old → Shown sql params old new rows → IsUnchanged old new × P (seen old) rows
  pub free : (old new : State) (e : Error) → IsInside old → FailsToQuery sql params old new e ⊎ IsTooLate sql params old new e → IsFaultOf old new (fault_of e)

unchanged_keeps : (old new : State) → IsUnchanged old new → KeepsCommit old new
unchanged_keeps old new h = record { was_open = λ _. h.0.was_open; committed = λ _. h.0.committed_is }

back_keeps : (old new : State) → IsRolledBack old new → KeepsCommit old new
back_keeps old new back = record { was_open = back.was_open; committed = λ o. (back.undone o).1 }

show_keeps : (old new : State) (sql : List ℕ) (c : Compiled) (params : Row) (e : Error) (r : Option Returning) → FailsToShow old new sql c params e r → KeepsCommit old new
show_keeps old new sql c params e None h = unchanged_keeps old new h.3
show_keeps old new sql c params e (Some what) (inl refused) = unchanged_keeps old new refused.1
show_keeps old new sql c params e (Some what) (inr failed) = back_keeps old new failed.3

query_keeps : (old new : State) (sql : List ℕ) (params : Row) (e : Error) → FailsToQuery sql params old new e ⊎ IsTooLate sql params old new e → KeepsCommit old new
unfolding FailsToQuery IsNotRun
query_keeps old new sql params e (inr late) = unchanged_keeps old new late.5
query_keeps old new sql params e (inl (inl (inl refused))) = unchanged_keeps old new refused.1
query_keeps old new sql params e (inl (inl (inr failed))) = back_keeps old new failed.3
query_keeps old new sql params e (inl (inr (c, it, shows))) = show_keeps old new sql c _ e c.returning shows

pub acts_query : {A : Type 0} (items : A → List Row) (sql : List ℕ) (params : Row) (P : Content → List Row → Type 0) → IsRead sql params P
    → (old new : State) (r : Result A Error) → Survives old new (λ _. ⊥) → (HasCleanDisk new → IfOk r (λ rows. Shown sql params old new (items rows)))
    → (HasCleanDisk new → IfErr r (λ e. FailsToQuery sql params old new e ⊎ IsTooLate sql params old new e)) → Acts old new (told r) (λ _. ⊤) (λ c d rows. (d ≡ c) × P c (items rows))
acts_query items sql params P it old new (Ok rows) survives ok err = record {
  survives = survives;
  keeps = λ clean inside. unchanged_keeps old new (it.shows old new (items rows) inside (ok clean)).0;
  ok = λ clean inside.
      let s = it.shows old new (items rows) inside (ok clean) in
      let now = s.0.0.now_is in
      let live = s.0.0.was_open in
      record {
        inside = record {
          begun = s.0.0.mode ∙ inside.begun;
          unlimited = survives.limit ∙ inside.unlimited;
          schema = λ _. ap (λ (d : Database). d.schema) now ∙ inside.schema live;
          sound = λ _. subst IsDatabase (sym now) (inside.sound live);
          shown = λ _. subst (λ (d : Database). AreShown d.trees) (sym now) (inside.shown live);
        };
        serves = λ _. s.0.0.is_open;
        changed = (ap (λ (d : Database). content_of d.trees) now, s.1);
      };
  cause = λ clean inside free. tt;
}
acts_query items sql params P it old new (Err e) survives ok err = record {
  survives = survives;
  keeps = λ clean inside. query_keeps old new sql params e (err clean);
  ok = λ clean inside. tt;
  cause = λ clean inside free. it.free old new e inside (err clean);
}

pub serves_query : {A : Type 0} (items : A → List Row) (sql : List ℕ) (params : Row) (old new : State) (r : Result A Error) → (HasCleanDisk new → IfOk r (λ rows. Shown sql params old new (items rows))) → Serves old new (told r)
serves_query items sql params old new (Ok rows) ok clean inside = shown_open old new sql params (items rows) (ok clean)
serves_query items sql params old new (Err e) ok clean inside = tt

-- a query over one table reads what P says, where P holds of the rows that it finds in sound tables
pub reads_inside : (sql : List ℕ) (params : Row) (tree : ℕ) (tests shown : List Term) (order : List (Term × Key)) (names : List (List ℕ)) → IsQueryOf desk_schema sql params tree tests shown order names
    → (P : Content → List Row → Type 0) → ((s : State) (rows : List Row) → IsInside s → IsTrue s.is_open → Finds tree tests shown order s.now.trees params rows → P (seen s) rows) → IsRead sql params P
reads_inside sql params tree tests shown order names it P says = record {
  shows = λ old new rows inside h.
      let live = shown_open old new sql params rows h in
      let has = inside.schema live in
      let read = reads_as sql params old new desk_schema has _ it.command_is it.plain it.unlisted rows h in (
        shown_same old new sql params rows (subst (λ schema. IsPlain (understood schema sql)) (sym has) it.plain) h,
        says old rows inside live (finds tree tests shown order old.now.trees params rows read.answer),
      );
  free = λ old new e inside h. elim (query_fault_or_same old new sql params e h) [
    | inl store ↦ store
    | inr same ↦ query_free desk_schema sql params tree tests shown order names it old new (inside.schema same.0.was_open) inside.unlimited e h
  ];
}

-- a query over one table reads what P says, where P holds of the rows that it finds in tables that are shown
pub reads_plain : (sql : List ℕ) (params : Row) (tree : ℕ) (tests shown : List Term) (order : List (Term × Key)) (names : List (List ℕ)) → IsQueryOf desk_schema sql params tree tests shown order names
    → (P : Content → List Row → Type 0) → ((s : State) (rows : List Row) → AreShown s.now.trees → Finds tree tests shown order s.now.trees params rows → P (seen s) rows) → IsRead sql params P
reads_plain sql params tree tests shown order names it P says = reads_inside sql params tree tests shown order names it P (λ s rows inside live. says s rows (inside.shown live))
