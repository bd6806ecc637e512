-- What the call that asks for the number answers, over any database.
use Rattle.table_history.proofs.Imports.{number_text, IsAnswer, IsRefused, ReadsRows, unless_foreign}
use Rattle.table_schema.proofs.Exports.{◌≡◌, ◌≢◌, ◌⊎◌, inl, inr, ℕ, List, [], length, Option, Some, None, Result, Ok, Err, IfOk, IfErr, refl, sym, ap, subst, subst₂, ◌∙◌, Select, compiled, Database, Reads, RefusesToRead, RefusesQuery, Answers, understood, reads_listing, IsSourceOf, Row, State, HasCleanDisk, KeepsCommit, Survives, Shown, ShowsRows, IsUnchanged, IsRolledBack, FailsToQuery, FailsToShow, IsTooLate, IsNotRun, Error, Compiled, Returning, StoreFault, Memory, Device, Full, Foreign, IsFaultOf, fault_of, failed_fault}
use Rattle.sqlite.specs.Clock.{timed}
use Rattle.table_forms.specs.Faults.{told}
use Rattle.table_history.proofs.NumberText.{IsQuery, always_query, is_compiled, reads_tables}

module _ (old new : State) where
  known : (c : Compiled) → understood old.now.schema number_text ≡ Ok c → compiled old.now.schema number_text ≡ Ok c
  known c is = sym (is_compiled old.now.schema) ∙ is

  asked : (c : Compiled) → understood old.now.schema number_text ≡ Ok c → IsQuery old.now.schema c
  asked c is = always_query old.now.schema c (known c is)

  source : (c : Compiled) (db : Database) → understood old.now.schema number_text ≡ Ok c → IsSourceOf (reads_listing old.now.schema number_text) old.now db → db ≡ old.now
  source c db is from = subst (λ b. IsSourceOf b old.now db) (reads_tables old.now.schema c (known c is)) from

  no_params : (c : Compiled) (now : ℕ) → c.formats ≡ [] → timed [] c.formats now ≡ []
  no_params c now none = ap (λ formats. timed [] formats now) none

  command_is : (c : Compiled) (q : IsQuery old.now.schema c) → c.command ≡ Select q.query q.asks.names
  command_is c q = ap (λ (x : Compiled). x.command) (sym q.same) ∙ q.asks.selects

  -- ---- an answer

  shows : (c : Compiled) (q : IsQuery old.now.schema c) → understood old.now.schema number_text ≡ Ok c → (full : Row) (rows : List Row) (r : Option Returning) → full ≡ [] → r ≡ None
      → ShowsRows old new number_text c full rows r → IsUnchanged old new × IsAnswer old.now rows
  shows c q is full rows (Some what) bound bare h = absurd (let no = bare in cc)
  shows c q is full rows None bound bare h =
      let db = source c h.0 is h.1 in
      let read = subst₂ (λ k d. Reads k d full rows) (command_is c q) db h.2 in
      (h.3, (q.query, q.asks, subst (λ params. Answers old.now q.query params rows) bound read))

  pub answers : (rows : List Row) → Shown number_text [] old new rows → IsUnchanged old new × IsAnswer old.now rows
  unfolding Shown
  answers rows h =
      let q = asked h.0 h.1.is in
      shows h.0 q h.1.is (timed [] h.0.formats h.1.now) rows h.0.returning (no_params h.0 h.1.now q.untimed) q.bare h.2

  -- ---- a refusal

  unrun : (e : Error) → IsNotRun old new number_text [] e → IsFaultOf old new (fault_of e) ⊎ (IsUnchanged old new × IsRefused old.now)
  unfolding IsNotRun
  unrun e (inr fails) = inl (failed_fault old new _ e fails)
  unrun e (inl (inl (fault, is, why), same)) = inr (same, inl (fault, sym (is_compiled old.now.schema) ∙ is))
  unrun e (inl (inr (c, is, inl (short, why)), same)) = absurd (short (asked c is).whole)
  unrun e (inl (inr (c, is, inr (inl (count, why))), same)) = absurd (count (sym (ap length (asked c is).unnamed)))
  unrun e (inl (inr (c, is, inr (inr (time, why))), same)) = absurd (time (asked c is).untimed)

  unshown : (c : Compiled) (q : IsQuery old.now.schema c) → understood old.now.schema number_text ≡ Ok c → old.step_limit ≡ None → (e : Error) (full : Row) (r : Option Returning) → full ≡ [] → r ≡ None
      → FailsToShow old new number_text c full e r → IsUnchanged old new × IsRefused old.now
  unshown c q is limit e full (Some what) bound bare h = absurd (let no = bare in cc)
  unshown c q is limit e full None bound bare h =
      let db = source c h.0 is h.1 in
      let refused = subst₂ (λ k d. RefusesToRead old.step_limit k d full e) (command_is c q) db h.2 in
      (h.3, inr (q.query, q.asks, e, subst₂ (λ params steps. RefusesQuery steps old.now q.query params e) bound limit refused))

  pub refuses : (e : Error) → old.step_limit ≡ None → FailsToQuery number_text [] old new e ⊎ IsTooLate number_text [] old new e → IsFaultOf old new (fault_of e) ⊎ (IsUnchanged old new × IsRefused old.now)
  unfolding FailsToQuery
  refuses e limit (inr late) = absurd (let none = (asked late.0 late.1.is).bare in let some = rw none at late.2 in cc)
  refuses e limit (inl (inl not_run)) = unrun e not_run
  refuses e limit (inl (inr (c, st, fails))) =
      let q = asked c st.is in
      inr (unshown c q st.is limit e (timed [] c.formats st.now) c.returning (no_params c st.now q.untimed) q.bare fails)

  -- ---- nothing is committed

  same_kept : IsUnchanged old new → KeepsCommit old new
  same_kept same = record { was_open = λ _. same.0.was_open; committed = λ _. same.0.committed_is }

  back_kept : IsRolledBack old new → KeepsCommit old new
  back_kept back = record { was_open = back.was_open; committed = λ o. (back.undone o).1 }

  show_kept : (c : Compiled) (full : Row) (e : Error) (r : Option Returning) → FailsToShow old new number_text c full e r → KeepsCommit old new
  show_kept c full e None h = same_kept h.3
  show_kept c full e (Some what) (inl refused) = same_kept refused.1
  show_kept c full e (Some what) (inr failed) = back_kept failed.3

  fails_kept : (e : Error) → FailsToQuery number_text [] old new e ⊎ IsTooLate number_text [] old new e → KeepsCommit old new
  unfolding FailsToQuery IsNotRun
  fails_kept e (inr late) = same_kept late.5
  fails_kept e (inl (inl (inl refused))) = same_kept refused.1
  fails_kept e (inl (inl (inr failed))) = back_kept failed.3
  fails_kept e (inl (inr (c, it, shows))) = show_kept c _ e c.returning shows

  -- ---- the call

  foreign : (e : Error) → old.step_limit ≡ None → fault_of e ≡ Foreign → FailsToQuery number_text [] old new e ⊎ IsTooLate number_text [] old new e → IsUnchanged old new × IsRefused old.now
  foreign e limit told h = elim (refuses e limit h) [ inl store ↦ absurd (subst (IsFaultOf old new) told store) | inr refused ↦ refused ]

  -- ---- why it fails

  unread : (e : Error) (c : Compiled) (q : IsQuery old.now.schema c) (full : Row) (r : Option Returning) → r ≡ None → FailsToShow old new number_text c full e r → fault_of e ≡ Foreign
  unread e c q full (Some what) bare h = absurd (let no = bare in cc)
  unread e c q full None bare h = told (subst (λ k. RefusesToRead old.step_limit k h.0 full e) (command_is c q) h.2)
    where
      told : RefusesQuery old.step_limit h.0 q.query full e → fault_of e ≡ Foreign
      told (inl (why, typed)) = ap fault_of why
      told (inr (inl (why, sums))) = ap fault_of why
      told (inr (inr (why, some))) = ap fault_of why

  unasked : (e : Error) → IsNotRun old new number_text [] e → IsFaultOf old new (fault_of e) ⊎ (fault_of e ≡ Foreign)
  unfolding IsNotRun
  unasked e (inr fails) = inl (failed_fault old new _ e fails)
  unasked e (inl (inl (fault, is, why), same)) = inr (ap fault_of why)
  unasked e (inl (inr (c, is, inl (short, why)), same)) = inr (ap fault_of why)
  unasked e (inl (inr (c, is, inr (inl (count, why))), same)) = inr (ap fault_of why)
  unasked e (inl (inr (c, is, inr (inr (time, why))), same)) = inr (ap fault_of why)

  -- the store failed, or the database refuses
  told_as : (e : Error) → FailsToQuery number_text [] old new e ⊎ IsTooLate number_text [] old new e → IsFaultOf old new (fault_of e) ⊎ (fault_of e ≡ Foreign)
  unfolding FailsToQuery
  told_as e (inr late) = inr (ap fault_of late.4)
  told_as e (inl (inl not_run)) = unasked e not_run
  told_as e (inl (inr (c, st, fails))) = let q = asked c st.is in inr (unread e c q (timed [] c.formats st.now) c.returning q.bare fails)

  caused : (e : Error) (f : StoreFault) → fault_of e ≡ f → f ≢ Foreign → FailsToQuery number_text [] old new e ⊎ IsTooLate number_text [] old new e → IsFaultOf old new f
  caused e f is other h = elim (told_as e h) [ inl store ↦ subst (IsFaultOf old new) is store | inr foreign ↦ absurd (other (sym is ∙ foreign)) ]

  module _ {A : Type 0} (items : A → List Row) (survives : Survives old new (λ _. ⊥)) where
    failed : (e : Error) (f : StoreFault) → fault_of e ≡ f → (HasCleanDisk new → FailsToQuery number_text [] old new e ⊎ IsTooLate number_text [] old new e) → ReadsRows items old new (unless_foreign (Err f))
    failed e Foreign is h = record {
      survives = survives;
      keeps = λ clean. fails_kept e (h clean);
      some = λ clean rows same. absurd (let no = same in cc);
      none = λ clean limit same. foreign e limit is (h clean);
      sure = tt;
      cause = λ clean. tt;
    }
    failed e Memory is h = record { survives = survives; keeps = λ clean. fails_kept e (h clean); some = λ clean. tt; none = λ clean limit. tt; sure = λ same. cc; cause = λ clean. caused e Memory is (λ same. cc) (h clean) }
    failed e Device is h = record { survives = survives; keeps = λ clean. fails_kept e (h clean); some = λ clean. tt; none = λ clean limit. tt; sure = λ same. cc; cause = λ clean. caused e Device is (λ same. cc) (h clean) }
    failed e Full is h = record { survives = survives; keeps = λ clean. fails_kept e (h clean); some = λ clean. tt; none = λ clean limit. tt; sure = λ same. cc; cause = λ clean. caused e Full is (λ same. cc) (h clean) }

    pub reads_rows : (r : Result A Error) → (HasCleanDisk new → IfOk r (λ rows. Shown number_text [] old new (items rows)))
        → (HasCleanDisk new → IfErr r (λ e. FailsToQuery number_text [] old new e ⊎ IsTooLate number_text [] old new e)) → ReadsRows items old new (unless_foreign (told r))
    reads_rows (Ok rows) ok err = record {
      survives = survives;
      keeps = λ clean. same_kept (answers (items rows) (ok clean)).0;
      some = λ clean found same. let is : rows ≡ found = cc in subst (λ x. IsUnchanged old new × IsAnswer old.now (items x)) is (answers (items rows) (ok clean));
      none = λ clean limit same. absurd (let no = same in cc);
      sure = tt;
      cause = λ clean. tt;
    }
    reads_rows (Err e) ok err = failed e (fault_of e) refl err
