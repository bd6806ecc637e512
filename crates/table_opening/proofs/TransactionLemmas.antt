-- What a transaction comes to: one that is rolled back, how one ends, and one that leads to the
-- tables of a desk.
use Rattle.table_opening.proofs.Imports.{IsBlank, IsDeskOf, IsUnder, Builds, Says, ReadsSchema, IsLeft, IsDesk, HasContentUnder, AreTablesOf, StillShows, IsDone, IsMade, IsCarried, AsksSchema, IsCommitFault, Ends}
use Rattle.table_schema.proofs.Exports.{◌≡◌, ℕ, ◌⊎◌, inl, inr, [], Result, Ok, Err, IfOk, IfErr, IsTrue, IsOk, None, false, true, true≢false, arith, refl, sym, ap, subst, ◌∙◌, ⊤, Database, IsDatabase, State, Shows, KeepsCounts, HasCleanDisk, KeepsCommit, Survives, IsUnchanged, IsRolledBack, Error, survives_then, survives_weaker, StoreFault, Memory, Device, Full, Foreign, IsFaultOf, fault_later, fault_sooner, faults_sooner, fault_of, commit_free, Content, no_content, content_of, AreShown, seen, done, failed}
use Rattle.std.specs.Prelude.{OnOk}
use Rattle.sqlite.specs.Steps.{FailsToCommit}
use Rattle.table_forms.specs.Faults.{told}
use Rattle.table_history.specs.declared.number.SchemaRead.{SchemaRead}
use Rattle.table_opening.proofs.StillLemmas.{shows_now}

-- ---- a transaction that is rolled back

abbrev pub begun : State → State
begun s = record s { in_transaction = true }

-- what is asked of a fault speaks of no transaction
pub unbegun : (old new : State) (fault : StoreFault) → IsFaultOf (begun old) new fault → IsFaultOf old new fault
unbegun old new Memory h = tt
unbegun old new Device h = h
unbegun old new Full h = h
unbegun old new Foreign h = h

pub unbegun_all : {A : Type 0} (old new : State) (r : Result A StoreFault) → IfErr r (IsFaultOf (begun old) new) → IfErr r (IsFaultOf old new)
unbegun_all old new (Ok a) h = tt
unbegun_all old new (Err fault) h = unbegun old new fault h

begins_under : (k : ℕ) (s : State) (c : Content) → s.step_limit ≡ None → HasCleanDisk s → HasContentUnder k c s → IsUnder k c (begun s)
begins_under k s c limit clean shows = record { begun = refl; unlimited = limit; schema = λ o. (shows clean o).schema; sound = λ o. (shows clean o).sound; shown = λ o. (shows clean o).shown }

-- what was begun is undone, and so the tables are as they were
pub undone : (old mid new : State) → (HasCleanDisk new → HasCleanDisk old) → (HasCleanDisk new → KeepsCommit (begun old) mid) → (HasCleanDisk new → IsRolledBack mid new) → StillShows old new
undone old mid new early kept back c shows = record {
  honest = early;
  was_open = λ clean o. (kept clean).was_open ((back clean).was_open o);
  tables = λ clean o.
      let live = (back clean).was_open o in
      ((back clean).undone o).0 ∙ (kept clean).committed live ∙ sym (shows (early clean) ((kept clean).was_open live)).0.settled;
  committed = λ clean o. ((back clean).undone o).1 ∙ (kept clean).committed ((back clean).was_open o);
}

left_undone : (old mid new : State) → (HasCleanDisk new → HasCleanDisk old) → (HasCleanDisk new → KeepsCommit (begun old) mid) → (HasCleanDisk new → IsRolledBack mid new)
    → new.in_transaction ≡ false → IsLeft old new
left_undone old mid new early kept back idle = record {
  honest = early;
  idle = idle;
  was_open = λ clean o. (kept clean).was_open ((back clean).was_open o);
  committed = λ clean o. ((back clean).undone o).1 ∙ (kept clean).committed ((back clean).was_open o);
  now = λ clean o same. ((back clean).undone o).0 ∙ (kept clean).committed ((back clean).was_open o) ∙ sym same;
  content = λ c shows. shows_now old new c (undone old mid new early kept back c shows) shows;
}

-- the number of the schema is asked for
pub asks : (old mid new : State) (r : Result SchemaRead StoreFault) → old.step_limit ≡ None → ReadsSchema (begun old) mid r → new.in_transaction ≡ false → (HasCleanDisk new → IsRolledBack mid new) → Survives mid new (λ _. ⊥)
    → AsksSchema old new r
asks old mid new r limit reads idle back survives = record {
  survives = survives_then old mid new _ _ (λ _. ⊥) (λ _ db none. none) (λ _ db none. none) (record { clean = one.clean; shield = one.shield; counts = one.counts; limit = one.limit; closes = one.closes; crash = one.crash }) survives;
  left = left_undone old mid new early kept back idle;
  ok = λ clean. said r (reads.ok (late clean) limit);
  sure = reads.sure;
  cause = λ clean. unbegun_all old new r (faults_sooner (begun old) mid new (λ _. ⊥) r (reads.cause (late clean)) survives);
  under = λ k c clean shows. reads.under k c (late clean) (begins_under k old c limit (early clean) shows);
}
  where
    one : Survives (begun old) mid (λ _. ⊥)
    one = reads.survives

    late : HasCleanDisk new → HasCleanDisk mid
    late clean = omega (arith, survives.clean, clean)

    early : HasCleanDisk new → HasCleanDisk old
    early clean = omega (arith, survives.clean, one.clean, clean)

    kept : HasCleanDisk new → KeepsCommit (begun old) mid
    kept clean = reads.keeps (late clean)

    said : (r : Result SchemaRead StoreFault) → IfOk r (λ read. IsUnchanged (begun old) mid × Says old.now read) → IfOk r (λ read. IsTrue old.is_open × Says old.now read)
    said (Ok read) h = (h.0.0.was_open, h.1)
    said (Err e) h = tt

-- ---- the end of a transaction

ends_ok : (mid new : State) → (HasCleanDisk new → IsTrue mid.in_transaction × Shows mid new mid.now mid.now false × KeepsCounts mid new × (new.marks ≡ [])) → Survives mid new (λ db. db ≡ mid.now.trees) → Ends mid new done done
ends_ok mid new ok survives = record {
  survives = survives_weaker mid new _ _ (λ clean db is. (refl, is)) survives;
  ok = λ clean. let h = (ok clean).1 in (refl, h.was_open, h.is_open, h.now_is, h.committed_is);
  err = λ clean inside. tt;
  first = λ fault is. absurd (let no = is in cc);
  cause = λ clean did inside. tt;
}

ends_failed : (mid new : State) (e : Error) → (HasCleanDisk new → FailsToCommit mid new e) → Survives mid new (λ db. db ≡ mid.now.trees) → Ends mid new done (failed (fault_of e))
ends_failed mid new e fails survives = record {
  survives = survives_weaker mid new _ _ (λ clean db is. (refl, is)) survives;
  ok = λ clean. tt;
  err = λ clean inside. go (inside refl) (fails clean);
  first = λ fault is. absurd (let no = is in cc);
  cause = λ clean did inside. named inside (fails clean);
}
  where
    named : IsTrue mid.in_transaction → FailsToCommit mid new e → IsCommitFault mid new (fault_of e)
    named inside (inl fails) = (fails.0, ap fault_of fails.1, fails.2, fails.4)
    named inside (inr (why, off, same)) = absurd (true≢false (sym inside ∙ off))

    go : IsTrue mid.in_transaction → FailsToCommit mid new e → IsRolledBack mid new × (IsFaultOf mid new (fault_of e) ⊎ (done ≡ failed (fault_of e)))
    go inside (inl fails) = (fails.3, inl (commit_free mid new e inside (inl fails)))
    go inside (inr (why, off, same)) = absurd (true≢false (sym inside ∙ off))

-- a commit
pub ends_told : (mid new : State) (r : Result (Unit {0}) Error) → (HasCleanDisk new → OnOk r (IsTrue mid.in_transaction × Shows mid new mid.now mid.now false × KeepsCounts mid new × (new.marks ≡ [])))
    → (HasCleanDisk new → IfErr r (FailsToCommit mid new)) → Survives mid new (λ db. db ≡ mid.now.trees) → Ends mid new done (told r)
ends_told mid new (Ok u) ok err survives = ends_ok mid new ok survives
ends_told mid new (Err e) ok err survives = ends_failed mid new e err survives

pub ends_undone : (mid new : State) (fault : StoreFault) → (HasCleanDisk new → IsRolledBack mid new) → Survives mid new (λ _. ⊥) → Ends mid new (failed fault) (failed fault)
ends_undone mid new fault back survives = record {
  survives = survives_weaker mid new _ _ (λ clean db none. absurd none) survives;
  ok = λ clean. tt;
  err = λ clean inside. (back clean, inr refl);
  first = λ first is. is;
  cause = λ clean did inside. absurd (true≢false (sym did));
}

it_went : {X : Type 0} (did : Result (Unit {0}) StoreFault) → IsOk did → IfOk did (λ _. X) → X
it_went (Ok u) o x = x
it_went (Err e) o x = absurd (true≢false (sym o))

-- ---- a transaction that leads to the tables of a desk

-- what its steps come to before it ends
pub record Leads (Begun Fits : Type 0) (after : Content) (old mid : State) (did : Result (Unit {0}) StoreFault) : Type 0 where
  pub survives : Survives old mid (λ _. ⊥)
  pub keeps : HasCleanDisk mid → Begun → KeepsCommit old mid
  pub goes_on : HasCleanDisk mid → Begun → IfOk did (λ _. IsTrue mid.in_transaction)
  pub went : HasCleanDisk mid → Begun → Fits → IfOk did (λ _. IsTrue old.is_open × IsTrue mid.is_open × IsDeskOf after mid)
  pub cause : HasCleanDisk mid → Begun → Fits → IfErr did (IsFaultOf old mid)

module _ (Begun Fits : Type 0) (after : Content) (old mid new : State) (did : Result (Unit {0}) StoreFault) (leads : Leads Begun Fits after (begun old) mid did) where
  steps : Survives (begun old) mid (λ _. ⊥)
  steps = leads.survives

  abbrev Failed : StoreFault → Type 0
  Failed fault = IsRolledBack mid new × (IsFaultOf mid new fault ⊎ (did ≡ failed fault))

  pub committed : (r : Result (Unit {0}) StoreFault) → Ends mid new did r → new.in_transaction ≡ false → IsDone Begun Fits after old new r
  committed r ends idle = record { honest = early; ok = oks r ends.ok; err = errs r ends.err; cause = causes r ends.err; crash = crash }
    where
      late : HasCleanDisk new → HasCleanDisk mid
      late clean = omega (arith, ends.survives.clean, clean)

      early : HasCleanDisk new → HasCleanDisk old
      early clean = omega (arith, ends.survives.clean, steps.clean, clean)

      inside : HasCleanDisk new → Begun → IsOk did → IsTrue mid.in_transaction
      inside clean was o = it_went did o (leads.goes_on (late clean) was)

      went : HasCleanDisk new → Begun → Fits → IsOk did → IsTrue old.is_open × IsTrue mid.is_open × IsDeskOf after mid
      went clean was fits o = it_went did o (leads.went (late clean) was fits)

      oks : (r : Result (Unit {0}) StoreFault) → (HasCleanDisk new → IfOk r (λ _. IsOk did × IsTrue mid.is_open × IsTrue new.is_open × (new.now ≡ mid.now) × (new.committed ≡ mid.now)))
          → HasCleanDisk new → Begun → Fits → IfOk r (λ _. IsTrue new.is_open × IsDesk new × (seen new ≡ after))
      oks (Err e) ended clean was fits = tt
      oks (Ok u) ended clean was fits =
          let h = ended clean in
          let g = (went clean was fits h.0).2 in (
            h.2,
            record {
              settled = h.3 ∙ sym h.4;
              schema = ap (λ (d : Database). d.schema) h.3 ∙ g.inside.schema h.1;
              sound = subst IsDatabase (sym h.3) (g.inside.sound h.1);
              shown = subst (λ (d : Database). AreShown d.trees) (sym h.3) (g.inside.shown h.1);
            },
            ap (λ (d : Database). content_of d.trees) h.3 ∙ g.says,
          )

      errs : (r : Result (Unit {0}) StoreFault) → (HasCleanDisk new → (IsOk did → IsTrue mid.in_transaction) → IfErr r Failed) → Begun → IfErr r (λ _. IsLeft old new)
      errs (Ok u) ended was = tt
      errs (Err e) ended was = left_undone old mid new early (λ clean. leads.keeps (late clean) was) (λ clean. (ended clean (inside clean was)).0) idle

      causes : (r : Result (Unit {0}) StoreFault) → (HasCleanDisk new → (IsOk did → IsTrue mid.in_transaction) → IfErr r Failed)
          → HasCleanDisk new → Begun → Fits → IfErr r (IsFaultOf old new)
      causes (Ok u) ended clean was fits = tt
      causes (Err e) ended clean was fits = unbegun old new e (elim ((ended clean (inside clean was)).1) [
        | inl late_fault ↦ fault_later (begun old) mid new _ _ steps ends.survives (late clean) e late_fault
        | inr same ↦ fault_sooner (begun old) mid new _ e (subst (λ r. IfErr r (IsFaultOf (begun old) mid)) same (leads.cause (late clean) was fits)) ends.survives
      ])

      crash : (HasCleanDisk new → Begun × Fits) → Survives old new (AreTablesOf after)
      crash both = survives_then old mid new _ _ (AreTablesOf after) (λ _ db none. absurd none)
          (λ clean db p.
          let g = went clean (both clean).0 (both clean).1 p.0 in
          subst (AreTablesOf after) (sym p.1) (record {
            sound = subst (λ s. IsDatabase (record { schema = s; trees = mid.now.trees })) (g.2.inside.schema g.1) (g.2.inside.sound g.1);
            shown = g.2.inside.shown g.1;
            content = g.2.says;
          }))
          (record { clean = steps.clean; shield = steps.shield; counts = steps.counts; limit = steps.limit; closes = steps.closes; crash = steps.crash }) ends.survives

-- ---- tables that are made

module _ (old mid new : State) (did r : Result (Unit {0}) StoreFault) (limit : old.step_limit ≡ None) (ends : Ends mid new did r) (idle : new.in_transaction ≡ false) where
  -- tables are made, from what held before
  built : (Fits : Type 0) (Before : State → Type 0) (c : Content) → (HasCleanDisk old → Fits → Before (begun old)) → Builds Before (IsDeskOf c) (begun old) mid did → IsDone ⊤ Fits c old new r
  built Fits Before c before builds =
      let one : Survives (begun old) mid (λ _. ⊥) = builds.survives in
      committed ⊤ Fits c old mid new did (record {
        survives = one;
        keeps = λ clean _. builds.keeps clean refl;
        goes_on = λ clean _. builds.goes_on clean refl;
        went = λ clean _ fits. builds.ok clean (before (omega (arith, one.clean, clean)) fits);
        cause = λ clean _ fits. builds.cause clean (before (omega (arith, one.clean, clean)) fits);
      }) r ends idle

  -- those of a new desk
  pub made : (first : ℕ) → IsBlank (begun old) → Builds IsBlank (IsDeskOf (no_content first)) (begun old) mid did → IsMade first old new r
  made first blank builds = built ⊤ IsBlank (no_content first) (λ _ _. blank) builds

  -- those of an earlier schema are carried over
  pub carried : (k : ℕ) → ((c : Content) → Builds (IsUnder k c) (IsDeskOf c) (begun old) mid did) → IsCarried k old new r
  carried k builds = λ c. built (HasContentUnder k c old) (IsUnder k c) c (λ clean shows. begins_under k old c limit clean shows) (builds c)
