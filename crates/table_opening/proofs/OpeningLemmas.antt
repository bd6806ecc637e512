-- Whether a database is recognised as a desk's, and what is found.
use Rattle.table_opening.proofs.Imports.{AreUnder, Says, IsLeft, SaysEarlier, HasContent, HasContentUnder, AreTablesOf, StillShows, AsksSchema, IsFailureOf, IsStoreFailure, IsRecognised, IsCarried, IsFound, NotADesk, NewerSchema, Store}
use Rattle.table_schema.proofs.Exports.{◌≡◌, ◌≢◌, false, ◌<◌, ◌≤◌, ℕ, Result, Ok, Err, arith, refl, sym, ap, subst, ◌∙◌, Database, IsDatabase, State, HasCleanDisk, Survives, IsFaultOf, fault_later, survives_then, survives_weaker, Content, no_content, StoreFault, seen}
use Rattle.sqlite_trees.specs.declared.store.Store as store
use Rattle.table_history.specs.declared.history.TheConstants.{NEWEST}
use Rattle.table_history.specs.declared.number.SchemaRead.{SchemaRead}
use Rattle.table_history.specs.declared.number.SchemaRead.TheVariants.{Number, NoNumber}
use Rattle.table_opening.specs.declared.open_fault.OpenFault.{OpenFault}
use Rattle.table_opening.proofs.HeldLemmas.{newest_shows, shows_newest}
use Rattle.table_opening.proofs.StillLemmas.{left_still, still_is}

-- ---- whether a database is a desk's

-- what was left shows no other desk
under_left : (k : ℕ) (c : Content) (old new : State) → IsLeft old new → HasContentUnder k c old → HasContentUnder k c new
under_left k c old new left shows clean o =
    let was = shows (left.honest clean) (left.was_open clean o) in
    let now : new.now ≡ old.now = left.now clean o was.settled in
    record {
      settled = now ∙ was.settled ∙ sym (left.committed clean o);
      schema = ap (λ (d : Database). d.schema) now ∙ was.schema;
      sound = subst IsDatabase (sym now) was.sound;
      shown = subst (λ (d : Database). AreUnder k c d.trees) (sym now) was.shown;
    }

-- what was left twice was left
left_then : (a b c : State) → IsLeft a b → IsLeft b c → IsLeft a c
left_then a b c one two = record {
  honest = λ clean. one.honest (two.honest clean);
  idle = two.idle;
  was_open = λ clean o. one.was_open (two.honest clean) (two.was_open clean o);
  committed = λ clean o. two.committed clean o ∙ one.committed (two.honest clean) (two.was_open clean o);
  now = λ clean o same.
      let early = two.honest clean in
      let live = two.was_open clean o in
      let here = one.now early live same in
      two.now clean o (here ∙ same ∙ sym (one.committed early live)) ∙ here;
  content = λ k shows. two.content k (one.content k shows);
}

same_number : {m k : ℕ} → Number m ≡ Number k → m ≡ k
same_number e = cc

module _ (old new : State) (read : SchemaRead) (asked : AsksSchema old new (Ok read)) where
  pub known : (n : ℕ) → read ≡ Number n → n ≤ NEWEST → IsRecognised old new (Ok n)
  known n is low = record {
    survives = asked.survives;
    left = asked.left;
    ok = λ clean. let h = asked.ok clean in (h.0, subst (Says old.now) is h.1);
    known = low;
    under = λ k c clean shows. same_number (sym is ∙ asked.under k c clean shows);
    why = tt;
    desk = λ c clean holds. tt;
  }

  pub newer : (n : ℕ) → read ≡ Number n → NEWEST < n → IsRecognised old new (Err (NewerSchema n))
  newer n is high = record {
    survives = asked.survives;
    left = asked.left;
    ok = λ clean. tt;
    known = tt;
    under = λ k c clean shows. tt;
    why = λ clean. (subst (Says old.now) is (asked.ok clean).1, high);
    desk = λ c clean holds.
        let same : n ≡ holds.0 = same_number (sym is ∙ asked.under holds.0 c clean holds.1) in
        let low = (holds.1 (asked.left.honest clean) (asked.ok clean).0).shown.known in
        absurd (omega (arith, same, low, high));
  }

  pub no_number : read ≡ NoNumber → IsRecognised old new (Err NotADesk)
  no_number is = record {
    survives = asked.survives;
    left = asked.left;
    ok = λ clean. tt;
    known = tt;
    under = λ k c clean shows. tt;
    why = λ clean. subst (Says old.now) is (asked.ok clean).1;
    desk = λ c clean holds. absurd (let no = sym is ∙ asked.under holds.0 c clean holds.1 in cc);
  }

pub unasked : (old new : State) (fault : StoreFault) → AsksSchema old new (Err fault) → IsRecognised old new (Err (Store fault))
unasked old new fault asked = record {
  survives = asked.survives;
  left = asked.left;
  ok = λ clean. tt;
  known = tt;
  under = λ k c clean shows. tt;
  why = λ clean is. absurd (asked.sure is);
  desk = λ c clean holds. (fault, refl, asked.cause clean);
}

-- a fault that has its cause is no foreign one
pub is_failure : (old new : State) (why : OpenFault) → IsFailureOf old new why → IsStoreFailure why
is_failure old new why (fault, is, cause) = (fault, is, λ foreign. subst (IsFaultOf old new) foreign cause)

-- ---- a desk that is found

module _ {A : Type 0} (shown : A → State) (old : State) where
  nothing : (new : State) (k : ℕ) (c : Content) → Survives old new (λ _. ⊥) → Survives old new (λ db. (k < NEWEST) × AreTablesOf c db)
  nothing new k c h = survives_weaker old new _ _ (λ clean db none. absurd none) h

  -- there is a reason against it
  pub not_found : (new : State) (why : OpenFault) → IsRecognised old new (Err why) → IsFound shown old new (Err why)
  not_found new why it = record {
    honest = tt;
    holds = tt;
    still = tt;
    says = tt;
    serves = tt;
    stays = tt;
    why = it.why;
    desk = it.desk;
    err = it.left;
    other = λ other. (it.left, it.survives);
    crash = λ k c shows. nothing new k c it.survives;
  }

  -- its tables are under the newest schema
  pub found_newest : (new : State) (n : ℕ) (a : A) → n ≡ NEWEST → shown a ≡ old → IsRecognised old new (Ok n) → IsFound shown old new (Ok a)
  found_newest new n a is same it = record {
    honest = it.left.honest;
    holds = λ c clean holds.
        let shows = newest_shows c old (subst (λ k. HasContentUnder k c old) (sym (it.under holds.0 c clean holds.1) ∙ is) holds.1) in
        (ap seen same ∙ (shows (it.left.honest clean) (it.ok clean).0).1, subst (HasContent c) (sym same) shows);
    still = subst (λ s. StillShows s new) (sym same) (left_still old new it.left);
    says = λ clean. let h = it.ok clean in (h.0, (n, it.known, h.1));
    serves = λ k c clean low shows. let here = it.under k c clean shows in absurd (omega (arith, is, here, low));
    stays = λ c clean shows. it.left;
    why = tt;
    desk = λ c clean holds. tt;
    err = tt;
    other = λ other. (it.left, it.survives);
    crash = λ k c shows. nothing new k c it.survives;
  }

  -- they are under an earlier schema
  module _ (mid new : State) (n : ℕ) (earlier : n ≢ NEWEST) (idle : new.in_transaction ≡ false) (it : IsRecognised old mid (Ok n)) where
    low : n < NEWEST
    low = let known = it.known in omega (arith, known, earlier)

    as_found : (k : ℕ) (c : Content) → HasCleanDisk mid → HasContentUnder k c old → HasContentUnder n c mid
    as_found k c clean shows = under_left n c old mid it.left (subst (λ k. HasContentUnder k c old) (sym (it.under k c clean shows)) shows)

    module _ (r : Result (Unit {0}) StoreFault) (carried : IsCarried n mid new r) where
      early : HasCleanDisk new → HasCleanDisk mid
      early = (carried (no_content 0)).honest

      crashed : (k : ℕ) (c : Content) → (HasCleanDisk new → HasContentUnder k c old) → Survives old new (λ db. (k < NEWEST) × AreTablesOf c db)
      crashed k c shows =
          survives_then old mid new _ _ (λ db. (k < NEWEST) × AreTablesOf c db) (λ _ db none. absurd none)
          (λ clean db p. (subst (λ j. j < NEWEST) (it.under k c (early clean) (shows clean)) low, p)) it.survives
          ((carried c).crash (λ clean. (tt, as_found k c (early clean) (shows clean))))

      -- a database that says the number of no earlier schema is not carried over
      not_carried : (HasCleanDisk new → ¬ (SaysEarlier old.now)) → IsLeft old new × Survives old new (λ _. ⊥)
      not_carried other = (
        record {
          honest = λ clean. it.left.honest (early clean);
          idle = idle;
          was_open = λ clean o. absurd (never clean);
          committed = λ clean o. absurd (never clean);
          now = λ clean o same. absurd (never clean);
          content = λ c shows clean o. absurd (never clean);
        },
        survives_then old mid new _ _ (λ _. ⊥) (λ _ db none. none) (λ clean db p. absurd (never clean)) it.survives ((carried (no_content 0)).crash (λ clean. absurd (never clean))),
      )
        where
          never : HasCleanDisk new → ⊥
          never clean = other clean (n, low, (it.ok (early clean)).1)

    pub found_earlier : (a : A) → shown a ≡ new → IsCarried n mid new (Ok tt) → IsFound shown old new (Ok a)
    found_earlier a same carried = record {
      honest = λ clean. it.left.honest (early (Ok tt) carried clean);
      holds = λ c clean holds. let h = (carried c).ok clean tt (as_found holds.0 c (early (Ok tt) carried clean) holds.1) in (ap seen same ∙ h.2, subst (HasContent c) (sym same) (λ _ o. (h.1, h.2)));
      still = still_is (shown a) new same;
      says = λ clean. let h = it.ok (early (Ok tt) carried clean) in (h.0, (n, it.known, h.1));
      serves = λ k c clean _ shows. ((carried c).ok clean tt (as_found k c (early (Ok tt) carried clean) shows)).0;
      stays = λ c clean shows. absurd (earlier (it.under NEWEST c (early (Ok tt) carried clean) (shows_newest c old shows)));
      why = tt;
      desk = λ c clean holds. tt;
      err = tt;
      other = not_carried (Ok tt) carried;
      crash = crashed (Ok tt) carried;
    }

    pub not_earlier : (fault : StoreFault) → IsCarried n mid new (Err fault) → IsFound shown old new (Err (Store fault))
    not_earlier fault carried = record {
      honest = tt;
      holds = tt;
      still = tt;
      says = tt;
      serves = tt;
      stays = tt;
      why = λ clean is. (n, low, (it.ok (early (Err fault) carried clean)).1);
      desk = λ c clean holds.
          let early_clean = early (Err fault) carried clean in (
            fault,
            refl,
            fault_later old mid new _ _ it.survives ((carried c).crash (λ clean. (tt, as_found holds.0 c (early (Err fault) carried clean) holds.1))) early_clean fault
                ((carried c).cause clean tt (as_found holds.0 c early_clean holds.1)),
          );
      err = left_then old mid new it.left ((carried (no_content 0)).err tt);
      other = not_carried (Err fault) carried;
      crash = crashed (Err fault) carried;
    }
