-- When a CREATE TABLE and a CREATE INDEX are refused for memory, the disk or its size alone.
use Rattle.std.proofs.Common.{◌≡◌, ◌≤◌, inl, inr, ℕ, ◌+◌, ◌^◌, List, [], ◌∷◌, length, codes, Bool, true, false, None, Some, Ok, Err, Result, IsTrue, IsUtf8, refl, sym, ap, subst, ◌∙◌, true≢false, not, ◌&&◌, ◌==◌}
use Rattle.std.specs.List.{AllByRecursion}
use Rattle.std.specs.Str.{is_utf8}
use Rattle.std.proofs.Math.Dec.{leb}
use Rattle.std.proofs.lemmas.Bool.{le-leb, and_from}
use Rattle.std.proofs.lemmas.List.Folds.{list_all-append}
use Rattle.std.proofs.lemmas.Str.{IsUtf8-from_is_utf8}
use Rattle.sqlite.specs.Order.{Row}
use Rattle.sqlite.specs.Table.{Table}
use Rattle.sqlite.specs.Schema.{Schema}
use Rattle.sqlite.specs.Tree.{Trees}
use Rattle.sqlite.specs.Command.TheVariants.{CreateTable, CreateIndex}
use Rattle.sqlite.specs.Change.{created, next_tree, is_used, is_reserved, automatics}
use Rattle.sqlite.specs.declared.error.Error.{Error}
use Rattle.sqlite.specs.declared.types.Value.TheVariants.{Text}
use Rattle.sqlite_catalog.specs.Change.{with_index}
use Rattle.sqlite_catalog.specs.Calls.{RefusesTable, RefusesIndex}
use Rattle.sqlite_catalog.specs.Listing.{is_fit, is_formed}
use Rattle.sqlite_catalog.specs.declared.error.Refusal.{Refusal}
use Rattle.sqlite_catalog.specs.declared.error.Refusal.TheVariants.{Invalid, NameTaken, BadName, TooBig, BadKey, BadText, Violates}
use Rattle.sqlite_rules.specs.Lists.{Has}
use Rattle.sqlite_schema.specs.Rules.{table_reals, index_reals, passes, guards, clashes, Keeps}
use Rattle.sqlite_schema.specs.declared.schema.Constraint.TheVariants.{Unique}
use Rattle.sqlite_schema.specs.declared.schema.Index.{Index}
use Rattle.sqlite.specs.Effect.{Database}
use Rattle.sqlite.specs.Does.{Does, Defines, MakesIndex, MakesTable, MakesSequence, lacks_sequence, AtPlace}
use Rattle.sqlite.specs.declared.run.Mode.{Mode}
use Rattle.sqlite.specs.Listing.{understood}
use Rattle.sqlite.specs.Rows.{Then}
use Rattle.sqlite.specs.State.{State, mode_of, ExecutesInside}
use Rattle.sqlite.proofs.Callers.{statement_of}
use Rattle.table_forms.specs.Faults.{fault_of, IsFaultOf}
use Rattle.table_forms.proofs.InsertLemmas.{same_value, off}
use Rattle.table_forms.proofs.CreateLemmas.{CreatesTable, CreatesIndex}
use Rattle.table_forms.proofs.ErrorLemmas.{IsCallOf, fails_as, same_stop}
use Rattle.table_forms.proofs.FailLemmas.{unless_refused}

not_ok : {A E : Type 0} {a : A} {e : E} → ◌≡◌ {A = Result A E} (Ok a) (Err e) → ⊥
not_ok h = cc

-- one of which the opposite holds of each
one_of : {X : Type 0} (p : X → Bool) (xs : List X) (x : X) → AllByRecursion (λ y. p y ≡ false) xs → Has xs x → p x ≡ false
one_of p [] x all h = absurd h
one_of p (y ∷ ys) x all (inl is) = ap p is ∙ all.0
one_of p (y ∷ ys) x all (inr more) = one_of p ys x all.1 more

low : (a b : ℕ) → leb a b ≡ false → a ≤ b → ⊥
low a b h le = true≢false (sym (le-leb a b le) ∙ h)

-- ---- a table

-- neither the text nor the schema refuses the table
pub record IsSureTable (schema : Schema) (sql : List ℕ) (table : Table) : Type 0 where
  pub call : IsCallOf schema sql [] CreateTable
  pub utf8 : is_utf8 sql ≡ true
  pub named : is_utf8 table.name ≡ true
  pub free : is_used schema table.name ≡ false
  pub keys_free : AllByRecursion (λ i. is_used schema i.name ≡ false) (automatics table 0 0 table.uniques)
  pub unreserved : is_reserved table.name ≡ false
  pub few : leb 65536 (next_tree schema + length table.uniques) ≡ false
  pub small : leb (2 ^ 64) (table_reals table) ≡ false
  pub keys_small : AllByRecursion (λ key. leb (2 ^ 64) (index_reals (table_reals table) key) ≡ false) table.uniques
  pub formed : is_formed table ≡ true
  pub fits : is_fit (Text (codes "table")) (Text table.name) (Text table.name) (Text sql) ≡ true

module _ (schema : Schema) (sql : List ℕ) (table : Table) (it : CreatesTable schema sql table) (sure : IsSureTable schema sql table) where
  unrefused : (why : Refusal) → RefusesTable schema sql why → ⊥
  unrefused (Invalid e) h = not_ok (sym it.defined ∙ h)
  unrefused NameTaken (t, is, inl used) = true≢false (sym used ∙ subst (λ x. is_used schema x.name ≡ false) (same_value (sym it.defined ∙ is)) sure.free)
  unrefused NameTaken (t, is, inr (index, among, used)) =
      true≢false (sym used ∙ one_of (λ i. is_used schema i.name) (automatics t 0 0 t.uniques) index (subst (λ x. AllByRecursion (λ i. is_used schema i.name ≡ false) (automatics x 0 0 x.uniques)) (same_value (sym it.defined ∙ is)) sure.keys_free) among)
  unrefused BadName (t, is, inl no_text) = no_text (subst (λ x. IsUtf8 x.name) (same_value (sym it.defined ∙ is)) (IsUtf8-from_is_utf8 table.name sure.named))
  unrefused BadName (t, is, inr reserved) = true≢false (sym reserved.0 ∙ subst (λ x. is_reserved x.name ≡ false) (same_value (sym it.defined ∙ is)) sure.unreserved)
  unrefused TooBig (t, is, inl many) = low _ _ (subst (λ x. leb 65536 (next_tree schema + length x.uniques) ≡ false) (same_value (sym it.defined ∙ is)) sure.few) many
  unrefused TooBig (t, is, inr (inl big)) = low _ _ (subst (λ x. leb (2 ^ 64) (table_reals x) ≡ false) (same_value (sym it.defined ∙ is)) sure.small) big
  unrefused TooBig (t, is, inr (inr (key, among, big))) =
      low _ _ (one_of (λ k. leb (2 ^ 64) (index_reals (table_reals t) k)) t.uniques key
      (subst (λ x. AllByRecursion (λ k. leb (2 ^ 64) (index_reals (table_reals x) k) ≡ false) x.uniques) (same_value (sym it.defined ∙ is)) sure.keys_small) among) big
  unrefused BadKey (t, is, unformed) = true≢false (sym (subst (λ x. is_formed x ≡ true) (same_value (sym it.defined ∙ is)) sure.formed) ∙ unformed)
  unrefused BadText (t, is, unfit) =
      true≢false (sym (subst (λ x. is_fit (Text (codes "table")) (Text x.name) (Text x.name) (Text sql) ≡ true) (same_value (sym it.defined ∙ is)) sure.fits) ∙ unfit)
  unrefused (Violates rule) h = h

  unmade : (db : Database) (e : Error) → db.schema ≡ schema → MakesTable sql db (Err (Some e)) → ⊥
  unmade db e has (inl no_text) = no_text.0 (IsUtf8-from_is_utf8 sql sure.utf8)
  unmade db e has (inr refused) = unrefused refused.0 (subst (λ s. RefusesTable s sql refused.0) has refused.1)

  unsequenced : (db mid : Database) (e : Error) → db.schema ≡ schema → MakesTable sql db (Ok mid) → MakesSequence mid (Err (Some e)) → ⊥
  unsequenced db mid e has made h =
      let same : made.table ≡ table = same_value (sym made.defined ∙ it.defined) in
      let schema_is : mid.schema ≡ created schema table = made.is ∙ ap (λ s. created s made.table) has ∙ ap (created schema) same in
      not_ok (sym (off _ _ _ (ap lacks_sequence schema_is ∙ it.uncounted) h))

  undefined : (mode : Mode) (db : Database) (e : Error) → db.schema ≡ schema → Defines mode (Then (MakesTable sql db) MakesSequence) (Err (Some e)) → ⊥
  undefined mode db e has (inr (last, both, is)) = not_ok (sym is)
  undefined mode db e has (inl (stop, inl (first, made, told), is)) = unmade db e has (subst (λ s. MakesTable sql db (Err s)) (same_stop told ∙ same_stop is) made)
  undefined mode db e has (inl (stop, inr (mid, made, more), is)) = unsequenced db mid e has made (subst (λ s. MakesSequence mid (Err s)) (same_stop is) more)

  table_errors : (old new : State) (e : Error) → old.now.schema ≡ schema → ExecutesInside 0 sql [] old new (Err e) → IsFaultOf old new (fault_of e)
  table_errors old new e has h = elim (fails_as schema sql [] CreateTable sure.call old new has e h) [
    | inl store ↦ store
    | inr does ↦ absurd (undefined (mode_of old) (record { schema = schema; trees = old.now.trees }) e refl
        (subst (λ t. Defines (mode_of old) (Then (MakesTable t (record { schema = schema; trees = old.now.trees })) MakesSequence) (Err (Some e))) it.text
        (subst (λ s. Defines (mode_of old) (Then (MakesTable (statement_of sql (understood schema sql)) s) MakesSequence) (Err (Some e))) (ap (λ s. let d : Database = record { schema = s; trees = old.now.trees } in d) has) does)))
  ]

  pub table_free : (old new : State) (e : Error) → (IsTrue old.is_open → old.now.schema ≡ schema) → ExecutesInside 0 sql [] old new (Err e) → IsFaultOf old new (fault_of e)
  table_free old new e has = unless_refused old new sql [] e (λ live h. table_errors old new e (has live) h)

-- ---- an index

-- neither the text nor the schema refuses the index
pub record IsSureIndex (schema : Schema) (sql : List ℕ) (at : ℕ) (table : Table) (index : Index) : Type 0 where
  pub call : IsCallOf schema sql [] (CreateIndex at)
  pub utf8 : is_utf8 sql ≡ true
  pub named : is_utf8 index.name ≡ true
  pub table_named : is_utf8 table.name ≡ true
  pub free : is_used schema index.name ≡ false
  pub unreserved : is_reserved index.name ≡ false
  pub few : leb 65536 (next_tree schema) ≡ false
  pub small : leb (2 ^ 64) (table_reals table) ≡ false
  pub key_small : leb (2 ^ 64) (index_reals (table_reals table) index.columns) ≡ false
  pub fits : is_fit (Text (codes "index")) (Text index.name) (Text table.name) (Text sql) ≡ true
  pub repeats : index.is_unique ≡ false

-- no row breaks a rule of an index whose keys may come twice
still_passes : (schema : Schema) (index : Index) (db : Trees) → index.is_unique ≡ false → (t : Table) (row : Row)
    → passes Unique schema db t row ≡ true → passes Unique (with_index schema index) db t row ≡ true
still_passes schema index db repeats t row was =
    list_all-append (λ (i : Index). not (guards i t && clashes i.order i.columns (db t.tree) row)) schema.indexes (index ∷ [])
    ∙ and_from _ _ was (subst (λ b. (not ((b && (index.table == t.tree)) && clashes index.order index.columns (db t.tree) row) && true) ≡ true) (sym repeats) refl)

all_still : {X : Type 0} (P Q : X → Type 0) → ((x : X) → P x → Q x) → (xs : List X) → AllByRecursion P xs → AllByRecursion Q xs
all_still P Q each [] all = tt
all_still P Q each (x ∷ xs) all = (each x all.0, all_still P Q each xs all.1)

still_keeps : (schema : Schema) (index : Index) (db : Trees) → index.is_unique ≡ false → Keeps Unique schema db → Keeps Unique (with_index schema index) db
still_keeps schema index db repeats kept =
    all_still _ _ (λ t. all_still _ _ (λ row. still_passes schema index db repeats t row) (db t.tree)) schema.tables kept

module _ (schema : Schema) (sql : List ℕ) (at : ℕ) (table : Table) (index : Index) (it : CreatesIndex schema sql at table index) (sure : IsSureIndex schema sql at table index) where
  unrefused_index : (db : Trees) (why : Refusal) → Keeps Unique schema db → RefusesIndex schema db table sql why → ⊥
  unrefused_index db (Invalid e) kept h = not_ok (sym it.defined ∙ h)
  unrefused_index db NameTaken kept (i, is, used) = true≢false (sym used ∙ subst (λ x. is_used schema x.name ≡ false) (same_value (sym it.defined ∙ is)) sure.free)
  unrefused_index db BadName kept (i, is, inl (inl no_text)) = no_text (subst (λ x. IsUtf8 x.name) (same_value (sym it.defined ∙ is)) (IsUtf8-from_is_utf8 index.name sure.named))
  unrefused_index db BadName kept (i, is, inl (inr reserved)) = true≢false (sym reserved.0 ∙ subst (λ x. is_reserved x.name ≡ false) (same_value (sym it.defined ∙ is)) sure.unreserved)
  unrefused_index db BadName kept (i, is, inr no_text) = no_text (IsUtf8-from_is_utf8 table.name sure.table_named)
  unrefused_index db TooBig kept (i, is, inl many) = low _ _ sure.few many
  unrefused_index db TooBig kept (i, is, inr (inl big)) = low _ _ sure.small big
  unrefused_index db TooBig kept (i, is, inr (inr big)) = low _ _ (subst (λ x. leb (2 ^ 64) (index_reals (table_reals table) x.columns) ≡ false) (same_value (sym it.defined ∙ is)) sure.key_small) big
  unrefused_index db BadKey kept h = h
  unrefused_index db BadText kept (i, is, unfit) =
      true≢false (sym (subst (λ x. is_fit (Text (codes "index")) (Text x.name) (Text table.name) (Text sql) ≡ true) (same_value (sym it.defined ∙ is)) sure.fits) ∙ unfit)
  unrefused_index db (Violates rule) kept (i, is, unique, broken) =
      broken (still_keeps schema (record i { tree = next_tree schema; table = table.tree }) db (subst (λ (x : Index). x.is_unique ≡ false) (same_value (sym it.defined ∙ is)) sure.repeats) kept)

  undefined_index : (mode : Mode) (db : Trees) (e : Error) → Keeps Unique schema db
      → Defines mode (MakesIndex sql (record { schema = schema; trees = db }) table) (Err (Some e)) → ⊥
  undefined_index mode db e kept (inr (last, made, is)) = not_ok (sym is)
  undefined_index mode db e kept (inl (stop, made, is)) = unmade_index (subst (λ s. MakesIndex sql (record { schema = schema; trees = db }) table (Err s)) (same_stop is) made)
    where
      unmade_index : MakesIndex sql (record { schema = schema; trees = db }) table (Err (Some e)) → ⊥
      unmade_index (inl no_text) = no_text.0 (IsUtf8-from_is_utf8 sql sure.utf8)
      unmade_index (inr refused) = unrefused_index db refused.0 kept refused.1

  index_errors : (old new : State) (e : Error) → old.now.schema ≡ schema → Keeps Unique schema old.now.trees → ExecutesInside 0 sql [] old new (Err e) → IsFaultOf old new (fault_of e)
  index_errors old new e has kept h = elim (fails_as schema sql [] (CreateIndex at) sure.call old new has e h) [
    | inl store ↦ store
    | inr does ↦ absurd (undefined_index (mode_of old) old.now.trees e kept (on does))
  ]
    where
      text : List ℕ
      text = statement_of sql (understood schema sql)

      on : Does old.step_limit (mode_of old) [] old.now text None (CreateIndex at) (Err (Some e)) → Defines (mode_of old) (MakesIndex sql (record { schema = schema; trees = old.now.trees }) table) (Err (Some e))
      on does =
          let here = subst (λ s. Does old.step_limit (mode_of old) [] (record old.now { schema = s }) text None (CreateIndex at) (Err (Some e))) has does in
          let found = subst (λ t. AtPlace (λ table. Defines (mode_of old) (MakesIndex text (record { schema = schema; trees = old.now.trees }) table)) t (Err (Some e))) it.found here in
          subst (λ t. Defines (mode_of old) (MakesIndex t (record { schema = schema; trees = old.now.trees }) table) (Err (Some e))) it.text found

  pub index_free : (old new : State) (e : Error) → (IsTrue old.is_open → old.now.schema ≡ schema) → (IsTrue old.is_open → Keeps Unique schema old.now.trees)
      → ExecutesInside 0 sql [] old new (Err e) → IsFaultOf old new (fault_of e)
  index_free old new e has kept = unless_refused old new sql [] e (λ live h. index_errors old new e (has live) (kept live) h)
