-- What a transaction comes to: a question that is rolled back, and a change that is committed.
use Rattle.desk_tables.proofs.Imports.{IsDeskOf, IsLeft, HasContent, IsAsBefore, AsksInside, IsAsked, IsChanged, IsDone, Ends}
use Rattle.table_schema.proofs.Exports.{◌≡◌, Result, Ok, Err, IfOk, IfErr, IsTrue, None, false, arith, refl, sym, ap, subst, ◌∙◌, ⊤, Held, state, Ghosts, State, HasCleanDisk, Survives, IsRolledBack, faults_sooner, survives_then, StoreFault, Content, no_content, IsInside, seen, Goes, Acts, Serves, acts_none}
use Rattle.table_opening.proofs.StillLemmas.{left_still}
use Rattle.table_opening.proofs.TransactionLemmas.{begun, unbegun_all, undone, Leads, committed}

-- ---- a question in a transaction that is rolled back

begins : (s : State) (c : Content) → s.step_limit ≡ None → HasCleanDisk s → HasContent c s → IsInside (begun s)
begins s c limit clean shows = record { begun = refl; unlimited = limit; schema = λ o. (shows clean o).0.schema; sound = λ o. (shows clean o).0.sound; shown = λ o. (shows clean o).0.shown }

module _ {A : Type 0} (r : Result A StoreFault) (Fits : Content → Type 0) (P : Content → A → Type 0) where
  asked : (old mid new : State) → old.step_limit ≡ None → AsksInside (begun old) mid r Fits P → (HasCleanDisk new → IsRolledBack mid new) → Survives mid new (λ _. ⊥) → IsAsked old new r Fits P
  asked old mid new limit asks back survives = record {
    survives = survives_then old mid new _ _ (λ _. ⊥) (λ _ db none. none) (λ _ db none. none) (record { clean = one.clean; shield = one.shield; counts = one.counts; limit = one.limit; closes = one.closes; crash = one.crash }) survives;
    stays = λ c shows. undone old mid new early (λ clean. asks.keeps (late clean) (inside c clean shows)) back c shows;
    ok = λ c clean shows. asks.ok c (late clean) (inside c clean shows) (λ o. (shows (early clean) o).1);
    cause = λ c clean shows fits. unbegun_all old new r (faults_sooner (begun old) mid new (λ _. ⊥) r (asks.cause c (late clean) (inside c clean shows) (λ o. (shows (early clean) o).1) fits) survives);
  }
    where
      one : Survives (begun old) mid (λ _. ⊥)
      one = asks.survives

      late : HasCleanDisk new → HasCleanDisk mid
      late clean = omega (arith, survives.clean, clean)

      early : HasCleanDisk new → HasCleanDisk old
      early clean = omega (arith, survives.clean, one.clean, clean)

      inside : (c : Content) → HasCleanDisk new → HasContent c old → IsInside (begun old)
      inside c clean shows = begins old c limit (early clean) shows

  -- and it is the connection that was lent
  pub asked_over : {S : Type 0} (g : Ghosts S) (old mid new lent : Held S) → new ≡ lent → old.step_limit ≡ None → AsksInside (begun (state g old)) (state g mid) r Fits P
      → (HasCleanDisk (state g new) → IsRolledBack (state g mid) (state g new)) → Survives (state g mid) (state g new) (λ _. ⊥) → IsAsked (state g old) (state g lent) r Fits P
  asked_over g old mid new lent same limit asks back survives =
      subst (λ h. IsAsked (state g old) (state g h) r Fits P) same (asked (state g old) (state g mid) (state g new) limit asks back survives)

  -- what is read of tables that an open store serves
  pub asks_read : (old new : State) (Free : Content → Type 0) (Q : Content → A → Type 0) → ((c : Content) → Fits c → Free c) → ((c : Content) (a : A) → Q c a → Fits c → P c a)
      → Acts old new r Free (λ c d a. (d ≡ c) × Q c a) → Serves old new r → AsksInside old new r Fits P
  asks_read old new Free Q free right acts serves = record {
    survives = acts.survives;
    keeps = acts.keeps;
    ok = λ c clean inside says fits. answered r c says fits (serves clean inside) (acts.ok clean inside);
    cause = λ c clean inside says fits. acts.cause clean inside (λ o. subst Free (sym (says o)) (free c fits));
  }
    where
      answered : (r : Result A StoreFault) (c : Content) → (IsTrue old.is_open → seen old ≡ c) → Fits c → IfOk r (λ _. IsTrue old.is_open) → IfOk r (λ a. Goes old new (λ c d. (d ≡ c) × Q c a)) → IfOk r (P c)
      answered (Ok a) c says fits live went = right c a (subst (λ d. Q d a) (says live) went.changed.1) fits
      answered (Err e) c says fits live went = tt

-- what is known without the tables
pub asks_known : {A : Type 0} (s : State) (a : A) (Fits : Content → Type 0) (P : Content → A → Type 0) → ((c : Content) → Fits c → P c a) → AsksInside s s (Ok a) Fits P
asks_known s a Fits P known =
    let none = acts_none s a Fits (λ c d b. ⊤) (λ c. tt) in
    record { survives = none.survives; keeps = none.keeps; ok = λ c clean inside says fits. known c fits; cause = λ c clean inside says fits. tt }

-- ---- a change in a transaction that is committed

module _ (old mid new : State) (did r : Result (Unit {0}) StoreFault) (limit : old.step_limit ≡ None) (ends : Ends mid new did r) (idle : new.in_transaction ≡ false) where
  pub altered : (Fits : Content → Type 0) (after : Content → Content) → Acts (begun old) mid did Fits (λ c d _. Fits c → d ≡ after c) → Serves (begun old) mid did → IsChanged old new r Fits after
  altered Fits after runs serves = record {
    honest = (all (no_content 0)).honest;
    ok = λ c. (all c).ok;
    err = λ c shows. shown r c ((all c).err shows) shows;
    cause = λ c. (all c).cause;
    crash = λ c. (all c).crash;
  }
    where
      one : Survives (begun old) mid (λ _. ⊥)
      one = runs.survives

      early : HasCleanDisk mid → HasCleanDisk old
      early clean = omega (arith, one.clean, clean)

      inside : (c : Content) → HasCleanDisk mid → HasContent c old → IsInside (begun old)
      inside c clean shows = begins old c limit (early clean) shows

      shown : (r : Result (Unit {0}) StoreFault) (c : Content) → IfErr r (λ _. IsLeft old new) → HasContent c old → IfErr r (λ _. IsAsBefore old new)
      shown (Ok u) c left shows = tt
      shown (Err e) c left shows = left_still old new left c shows

      goes : (did : Result (Unit {0}) StoreFault) (c : Content) → (IsTrue old.is_open → seen old ≡ c) → Fits c → IfOk did (λ _. IsTrue old.is_open) → IfOk did (λ a. Goes (begun old) mid (λ c d. Fits c → d ≡ after c))
          → IfOk did (λ _. IsTrue old.is_open × IsTrue mid.is_open × IsDeskOf (after c) mid)
      goes (Err e) c same fits live g = tt
      goes (Ok u) c same fits live g = (live, g.serves live, record { inside = g.inside; says = g.changed (subst Fits (sym (same live)) fits) ∙ ap after (same live) })

      begun_still : (did : Result (Unit {0}) StoreFault) → IfOk did (λ a. Goes (begun old) mid (λ c d. Fits c → d ≡ after c)) → IfOk did (λ _. IsTrue mid.in_transaction)
      begun_still (Err e) g = tt
      begun_still (Ok u) g = g.inside.begun

      all : (c : Content) → IsDone (HasContent c old) (Fits c) (after c) old new r
      all c = committed (HasContent c old) (Fits c) (after c) old mid new did (record {
        survives = one;
        keeps = λ clean shows. runs.keeps clean (inside c clean shows);
        goes_on = λ clean shows. begun_still did (runs.ok clean (inside c clean shows));
        went = λ clean shows fits. goes did c (λ o. (shows (early clean) o).1) fits (serves clean (inside c clean shows)) (runs.ok clean (inside c clean shows));
        cause = λ clean shows fits. runs.cause clean (inside c clean shows) (λ o. subst Fits (sym (shows (early clean) o).1) fits);
      }) r ends idle
