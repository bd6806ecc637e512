-- Why a query over one table fails.
use Rattle.std.proofs.Common.{◌≡◌, ◌⊎◌, inl, inr, ℕ, ℤ, negsuc, List, [], append-nil, length, ◌≤◌, true, false, Option, Some, None, Ok, Err, Result, refl, sym, ap, subst, subst₂, ◌∙◌, true≢false}
use Rattle.sqlite.specs.Order.{Row}
use Rattle.sqlite.specs.Term.{Term}
use Rattle.sqlite.specs.Schema.{Schema}
use Rattle.sqlite.specs.Program.{overlay}
use Rattle.sqlite.specs.Command.TheVariants.{Select}
use Rattle.sqlite_value.specs.declared.keys.Key.{Key}
use Rattle.sqlite_typing.specs.Types.{accepts_program}
use Rattle.sqlite_rules.proofs.ListLemmas.{any_has}
use Rattle.sqlite_resolve.specs.declared.compiled.Compiled.{Compiled}
use Rattle.sqlite_resolve.specs.declared.error.CompileError.{CompileError}
use Rattle.sqlite_schema.specs.declared.command.Returning.{Returning}
use Rattle.sqlite.specs.declared.error.Error.{Error}
use Rattle.sqlite.specs.Effect.{Database, RefusesToRead}
use Rattle.sqlite.specs.Listing.{understood, reads_listing, IsSourceOf}
use Rattle.sqlite.specs.Clock.{timed}
use Rattle.sqlite.specs.State.{State, FailsToQuery, FailsToShow, IsTooLate, IsNotRun}
use Rattle.sqlite.proofs.Callers.{IsPlain, command_of}
use Rattle.table_forms.specs.Forms.{page_of}
use Rattle.table_forms.specs.Faults.{fault_of, IsFaultOf}
use Rattle.table_forms.proofs.ErrorLemmas.{tail_of, width_of}
use Rattle.table_forms.proofs.FaultLemmas.{failed_fault}

pub record IsPageOf (schema : Schema) (sql : List ℕ) (params : Row) (most : ℤ) (tree : ℕ) (tests shown : List Term) (order : List (Term × Key)) (names : List (List ℕ)) : Type 0 where
  pub command_is : command_of (understood schema sql) ≡ Select (record { lets = []; body = page_of most tree tests shown order }) names
  pub plain : IsPlain (understood schema sql)
  pub whole : length sql ≤ tail_of (understood schema sql)
  pub given : length params ≡ width_of (understood schema sql)
  pub unlisted : reads_listing schema sql ≡ false
  pub typed : accepts_program schema [] (page_of most tree tests shown order) params ≡ true

abbrev pub IsQueryOf : Schema → List ℕ → Row → ℕ → List Term → List Term → List (Term × Key) → List (List ℕ) → Type 0
IsQueryOf schema sql params tree tests shown order names = IsPageOf schema sql params (negsuc 0) tree tests shown order names

module _ (schema : Schema) (sql : List ℕ) (params : Row) (most : ℤ) (tree : ℕ) (tests shown : List Term) (order : List (Term × Key)) (names : List (List ℕ)) (it : IsPageOf schema sql params most tree tests shown order names)
    (old new : State) (has : old.now.schema ≡ schema) (limit : old.step_limit ≡ None) where
  known : (r : Result Compiled CompileError) → understood old.now.schema sql ≡ r → understood schema sql ≡ r
  known r is = sym (ap (λ s. understood s sql) has) ∙ is

  is_run : (e : Error) → IsNotRun old new sql params e → IsFaultOf old new (fault_of e)
  unfolding IsNotRun
  is_run e (inr fails) = failed_fault old new _ e fails
  is_run e (inl (inl (fault, is, why), same)) = absurd (let no = sym it.command_is ∙ ap command_of (known (Err fault) is) in cc)
  is_run e (inl (inr (c, is, inl (short, why)), same)) = absurd (short (subst (λ r. length sql ≤ tail_of r) (known (Ok c) is) it.whole))
  is_run e (inl (inr (c, is, inr (inl (count, why))), same)) = absurd (count (subst (λ r. length params ≡ width_of r) (known (Ok c) is) it.given))
  is_run e (inl (inr (c, is, inr (inr (time, why))), same)) = absurd (time (subst IsPlain (known (Ok c) is) it.plain).1)

  reads : (e : Error) (db : Database) → db ≡ old.now → RefusesToRead old.step_limit (Select (record { lets = []; body = page_of most tree tests shown order }) names) db params e → ⊥
  reads e db is (inl (why, refused)) = true≢false (sym it.typed ∙ sym (ap (λ s. accepts_program s [] (page_of most tree tests shown order) params) (ap (λ (d : Database). d.schema) is ∙ has)) ∙ refused)
  reads e db is (inr (inl (why, inl sums))) = sums
  reads e db is (inr (inl (why, inr folds))) = (any_has (λ _. ⊥) (overlay db.trees [] tree) folds).2
  reads e db is (inr (inr (why, some))) = absurd (let none = rw limit at some in cc)

  shows : (e : Error) (c : Compiled) (full : Row) (r : Option Returning) → r ≡ None → full ≡ params → c.command ≡ Select (record { lets = []; body = page_of most tree tests shown order }) names → FailsToShow old new sql c full e r → ⊥
  shows e c full (Some what) none all command h = absurd (let no = none in cc)
  shows e c full None none all command h =
      let db : h.0 ≡ old.now = subst (λ b. IsSourceOf b old.now h.0) (ap (λ s. reads_listing s sql) has ∙ it.unlisted) h.1 in
      reads e h.0 db (subst₂ (λ k ps. RefusesToRead old.step_limit k h.0 ps e) command all h.2)

  pub page_free : (e : Error) → FailsToQuery sql params old new e ⊎ IsTooLate sql params old new e → IsFaultOf old new (fault_of e)
  unfolding FailsToQuery
  page_free e (inr late) = absurd (let none = (subst IsPlain (known (Ok late.0) late.1.is) it.plain).0 in let some = rw none at late.2 in cc)
  page_free e (inl (inl not_run)) = is_run e not_run
  page_free e (inl (inr (c, st, fails))) =
      let bare = subst IsPlain (known (Ok c) st.is) it.plain in
      let full : timed params c.formats st.now ≡ params = rw (bare.1, append-nil params) refl in
      absurd (shows e c _ c.returning bare.0 full (ap command_of (sym (known (Ok c) st.is)) ∙ it.command_is) fails)

pub query_free : (schema : Schema) (sql : List ℕ) (params : Row) (tree : ℕ) (tests shown : List Term) (order : List (Term × Key)) (names : List (List ℕ)) → IsQueryOf schema sql params tree tests shown order names
    → (old new : State) → old.now.schema ≡ schema → old.step_limit ≡ None → (e : Error) → FailsToQuery sql params old new e ⊎ IsTooLate sql params old new e → IsFaultOf old new (fault_of e)
query_free schema sql params tree tests shown order names it = page_free schema sql params (negsuc 0) tree tests shown order names it
