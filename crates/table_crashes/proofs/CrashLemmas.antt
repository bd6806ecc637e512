-- What is opened after a crash.
use Rattle.std.proofs.Common.{◌≡◌, ◌⊎◌, inl, inr, ℕ, List, Option, None, Some, Result, Ok, Err, IfSome, IfOk, OnOk, IsOk, IsTrue, sym, ap, subst, ◌∙◌}
use Rattle.std.proofs.lemmas.Bool.{false≢true}
use Rattle.sqlite.specs.Held.{Held, state}
use Rattle.sqlite.specs.State.{HasCleanDisk, Survives}
use Rattle.sqlite_trees.specs.Tree.{Trees}
use Rattle.sqlite_trees.specs.View.{IsClean}
use Rattle.sqlite_trees.specs.declared.store.Store as store
use Rattle.version_nodes.specs.Branches.{branched}
use Rattle.version_nodes.specs.Nodes.{Node}
use Rattle.version_nodes.specs.declared.fault.BranchFault.{BranchFault}
use Rattle.bug_record.specs.Desk.{Desk}
use Rattle.bug_record.specs.Images.{put}
use Rattle.base_words.specs.Texts.{IsText, IfGiven}
use Rattle.bug_record.specs.declared.command.Change.{Change}
use Rattle.bug_record.specs.declared.outcome.Outcome.{Outcome}
use Rattle.store_contract.specs.Crashes.{Holding}
use Rattle.store_contract.specs.Kept.{Keeping, kept_also}
use Rattle.table_content.specs.Branches.{with_nodes}
use Rattle.table_content.specs.Changes.{FitsContent, changed}
use Rattle.table_content.specs.Content.{Content}
use Rattle.table_content.specs.KeptOutcomes.{kept_after}
use Rattle.table_content.specs.View.{desk_in, keeping_in}
use Rattle.table_content.proofs.AfterLemmas.{after_keeping, after_kept}
use Rattle.table_content.proofs.ChangeLemmas.{change_desk, change_kept}
use Rattle.table_content.proofs.KeepLemmas.{change_keeping}
use Rattle.table_content.proofs.QuestionLemmas.{branch_kept}
use Rattle.base_faults.specs.declared.store_fault.StoreFault.{StoreFault}
use Rattle.desk_run.proofs.OneLemmas.{took_one}
use Rattle.store_contract.specs.Store.{Holds, Applies, Branches, Keeps, MayBeKept, with_change}
use Rattle.store_contract.proofs.HoldsLemmas.{holds_none}
use Rattle.store_contract.proofs.KeepLemmas.{kept_also-good}
use Rattle.desk_tables.specs.Desk.{content_shown, desk_of, keeping_of, MayKeep, LeavesTables}
use Rattle.table_opening.specs.Shown.{AreTablesOf}
use Rattle.desk_tables.specs.Crashes.{AreTablesAfter, AreTablesHolding}
use Rattle.desk_tables.specs.declared.desk.TableDesk.{TableDesk}
use Rattle.desk_tables.proofs.KeepLemmas.{changed_desk}
use Rattle.table_crashes.specs.Settled.{HasHonestDisk, HasKeptTables, IsSettled, IsOpenedOver, HasTakenBranch, HasTakenLine}
use Rattle.desk_tables.proofs.CrashLemmas.{Settles, same_holding}
use Rattle.table_crashes.proofs.OpenLemmas.{settled_as, serving_settled, opened_newest}

module _ {S : Type 0} (g : store.Ghosts S) where
  -- the crash left what the old desk's could have left
  pub settled_again : (d : Desk) (k : Keeping) (db : Trees) (old again : TableDesk S g) → IsOpenedOver g db again → (state g old.conn).may_leave db → IsSettled g d k old → IsSettled g d k again
  settled_again d k db old again opened may was =
      let c = content_shown old in
      let tables : AreTablesOf c db = subst (AreTablesOf c) (sym (was.left db may)) was.tables in
      settled_as g again (desk_in c) d (keeping_in c) k was.desk was.keeping (opened_newest g db again opened c tables was.kept.content)

  module _ (d : Desk) (k : Keeping) (db : Trees) (old new again : TableDesk S g) (opened : IsOpenedOver g db again) (was : IsSettled g d k old) (clean : HasHonestDisk g new) (may : (state g new.conn).may_leave db) where
    abbrev c : Content
    c = content_shown old

    -- ---- a call that may have failed

    -- it left that, or the whole change
    pub either_after_change : (change : Change) → Survives (state g old.conn) (state g new.conn) (AreTablesOf (changed c change)) → FitsContent c change
        → IsSettled g d k again ⊎ IsSettled g (put d change) k again
    either_after_change change survives fits = elim (survives.crash clean db may) [
      | inl before ↦ inl (settled_again d k db old again opened before was)
      | inr made ↦ inr (settled_as g again (desk_in (changed c change)) (put d change) (keeping_in (changed c change)) k
          (change_desk c change was.kept.content fits ∙ ap (λ (x : Desk). put x change) was.desk)
          (change_keeping c change ∙ was.keeping)
          (opened_newest g db again opened (changed c change) made (change_kept c change was.kept.content fits)))
    ]

    taken : (nodes : List Node) → AreTablesAfter c nodes db → HasTakenBranch g d k nodes again
    taken nodes made = record {
      ancestry = made.ancestry;
      taken = subst (λ (x : Desk). branched x.tree nodes ≡ Ok made.ancestry) was.desk made.taken;
      settled = settled_as g again (desk_in (with_nodes made.ancestry c)) (record d { tree = made.ancestry }) (keeping_in (with_nodes made.ancestry c)) k
          (ap (λ (x : Desk). let y : Desk = record x { tree = made.ancestry } in y) was.desk) was.keeping
          (opened_newest g db again opened (with_nodes made.ancestry c) made.tables (branch_kept c made.ancestry was.kept.content made.forest));
    }

    -- it left that, or the whole branch
    pub either_after_branch : (nodes : List Node) → Survives (state g old.conn) (state g new.conn) (AreTablesAfter c nodes) → IsSettled g d k again ⊎ HasTakenBranch g d k nodes again
    either_after_branch nodes survives = elim (survives.crash clean db may) [
      | inl before ↦ inl (settled_again d k db old again opened before was)
      | inr made ↦ inr (taken nodes made)
    ]

    -- it left that, or the outcome with its change
    pub either_after_keep : (id sender message : List ℕ) (outcome : Outcome) (change : Option Change)
        → Survives (state g old.conn) (state g new.conn) (AreTablesOf (kept_after id sender message outcome change c)) → IfGiven (FitsContent c) change → IsText sender
        → MayKeep old id sender message outcome change
        → IsSettled g d k again ⊎ IsSettled g (with_change change d) (kept_also id sender message outcome k) again
    either_after_keep id sender message outcome change survives fits text may_keep = elim (survives.crash clean db may) [
      | inl before ↦ inl (settled_again d k db old again opened before was)
      | inr made ↦ (
          let good = kept_also-good id sender message (keeping_in c) (desk_in c) outcome (with_change change (desk_in c)) may_keep.next was.kept.content.sound text may_keep.good was.kept.content.good in
          inr (settled_as g again (desk_in (kept_after id sender message outcome change c)) (with_change change d)
          (keeping_in (kept_after id sender message outcome change c)) (kept_also id sender message outcome k)
          (changed_desk change c was.kept.content fits ∙ ap (with_change change) was.desk)
          (after_keeping c was.kept.content change fits id sender message outcome ∙ ap (kept_also id sender message outcome) was.keeping)
          (opened_newest g db again opened (kept_after id sender message outcome change c) made (after_kept c was.kept.content change fits id sender message outcome good))))
    ]

    -- what may be kept here may be kept over what was seen
    pub may_here : (id sender message : List ℕ) (outcome : Outcome) (change : Option Change) → MayBeKept id sender message k d outcome change
        → MayKeep old id sender message outcome change
    may_here id sender message outcome change it =
        subst (λ (x : Desk). MayBeKept id sender message (keeping_of old) x outcome change) (sym was.desk)
        (subst (λ (x : Keeping). MayBeKept id sender message x d outcome change) (sym was.keeping) it)

    -- ---- a call that was answered, and left a connection that serves

    module _ (settles : Settles g) (kept : HasKeptTables g new) (served : IsTrue (state g new.conn).is_open) where
      new_again : IsSettled g (desk_of new) (keeping_of new) again
      new_again = settled_again (desk_of new) (keeping_of new) db new again opened may (serving_settled g settles new kept clean served)

      pub after_change : (change : Change) → desk_of new ≡ put (desk_of old) change → keeping_of new ≡ keeping_of old
          → IsSettled g (put d change) k again
      after_change change is stays =
          settled_as g again (desk_of new) (put d change) (keeping_of new) k (is ∙ ap (λ (x : Desk). put x change) was.desk) (stays ∙ was.keeping) new_again

      pub after_branch : (nodes : List Node) → branched (desk_of old).tree nodes ≡ Ok (desk_of new).tree
          → desk_of new ≡ record (desk_of old) { tree = (desk_of new).tree }
          → keeping_of new ≡ keeping_of old → HasTakenBranch g d k nodes again
      after_branch nodes is same stays = record {
        ancestry = (desk_of new).tree;
        taken = subst (λ (x : Desk). branched x.tree nodes ≡ Ok (desk_of new).tree) was.desk is;
        settled = settled_as g again (desk_of new) (record d { tree = (desk_of new).tree }) (keeping_of new) k
            (same ∙ ap (λ (x : Desk). let y : Desk = record x { tree = (desk_of new).tree } in y) was.desk) (stays ∙ was.keeping) new_again;
      }

      pub after_keep : (id sender message : List ℕ) (outcome : Outcome) (change : Option Change)
          → desk_of new ≡ with_change change (desk_of old)
          → keeping_of new ≡ kept_also id sender message outcome (keeping_of old)
          → IsSettled g (with_change change d) (kept_also id sender message outcome k) again
      after_keep id sender message outcome change is also =
          settled_as g again (desk_of new) (with_change change d) (keeping_of new) (kept_also id sender message outcome k)
          (is ∙ ap (with_change change) was.desk) (also ∙ ap (kept_also id sender message outcome) was.keeping) new_again

  -- ---- what is opened, if it is

  abbrev pub IsLeft : TableDesk S g → Option (TableDesk S g) → Type 0
  IsLeft old o = IfSome o (λ again. HasHonestDisk g again → (db : Trees) × (state g old.conn).may_leave db × IsOpenedOver g db again)

  -- what is opened over the store that came back, after a crash of this connection
  pub left_open : (o : Option (TableDesk S g)) (conn : Held S) (left : S)
      → (IsClean (g.view left) → HasCleanDisk (state g conn) × (state g conn).may_leave (g.view left).trees)
      → IfSome o (λ again. HasHonestDisk g again → IsClean (g.view left))
      → IfSome o (λ again. HasHonestDisk g again → IsOpenedOver g (g.view left).trees again)
      → IfSome o (λ again. HasHonestDisk g again → (db : Trees) × (state g conn).may_leave db × IsOpenedOver g db again)
  left_open None conn left may honest opened = tt
  left_open (Some again) conn left may honest opened = λ h. ((g.view left).trees, (may (honest h)).1, opened h)

  pub left_clean : (o : Option (TableDesk S g)) (conn : Held S) (left : S)
      → (IsClean (g.view left) → HasCleanDisk (state g conn) × (state g conn).may_leave (g.view left).trees)
      → IfSome o (λ again. HasHonestDisk g again → IsClean (g.view left))
      → IfSome o (λ again. HasHonestDisk g again → HasCleanDisk (state g conn))
  left_clean None conn left may honest = tt
  left_clean (Some again) conn left may honest = λ h. (may (honest h)).0

  pub settled_then : (o : Option (TableDesk S g)) (old : TableDesk S g) → IsLeft old o
      → IfSome o (λ again. HasHonestDisk g again → (d : Desk) (k : Keeping) → IsSettled g d k old → IsSettled g d k again)
  settled_then None old left = tt
  settled_then (Some again) old left = λ h d k was. let l = left h in settled_again d k l.0 old again l.2 l.1 was

  -- what holds one of two is opened as that one
  opened_holding : (x : Holding) (db : Trees) (t : TableDesk S g) → IsOpenedOver g db t → AreTablesHolding x db → IsSettled g x.0 x.1 t
  opened_holding x db t opened it = subst (λ (y : Holding). IsSettled g y.0 y.1 t) it.same (opened_newest g db t opened it.content it.tables it.kept)

  pub found_then : (o : Option (TableDesk S g)) (old : TableDesk S g) → IsLeft old o
      → IfSome o (λ again. HasHonestDisk g again → (a b : Holding) → LeavesTables old a b → IsSettled g a.0 a.1 again ⊎ IsSettled g b.0 b.1 again)
  found_then None old left = tt
  found_then (Some again) old left = λ h a b leaves.
      let l = left h in
      elim (leaves l.0 l.1) [ inl one ↦ inl (opened_holding a l.0 again l.2 one) | inr other ↦ inr (opened_holding b l.0 again l.2 other) ]

  -- a settled desk is left alone
  pub settled_alone : (t : TableDesk S g) (d : Desk) (k : Keeping) → IsSettled g d k t → LeavesTables t (d, k) (d, k)
  settled_alone t d k was db may = inl (record {
    content = content_shown t;
    tables = subst (AreTablesOf (content_shown t)) (sym (was.left db may)) was.tables;
    kept = was.kept.content;
    same = same_holding was.desk was.keeping;
  })

  module _ (old new : TableDesk S g) (o : Option (TableDesk S g)) (left : IsLeft new o) (honest : IfSome o (λ again. HasHonestDisk g again → HasHonestDisk g new)) where
    abbrev before : Content
    before = content_shown old

    pub either_change : (change : Change) → (HasKeptTables g old → Survives (state g old.conn) (state g new.conn) (AreTablesOf (changed before change)))
        → (HasHonestDisk g new → HasHonestDisk g old) → (HasKeptTables g old → HasHonestDisk g old → FitsContent before change)
        → IfSome o (λ again. HasHonestDisk g again → (d : Desk) (k : Keeping) → IsSettled g d k old → IsSettled g d k again ⊎ IsSettled g (put d change) k again)
    either_change change crash was_honest fits = on o left honest
      where
        on : (o : Option (TableDesk S g)) → IsLeft new o → IfSome o (λ again. HasHonestDisk g again → HasHonestDisk g new)
            → IfSome o (λ again. HasHonestDisk g again → (d : Desk) (k : Keeping) → IsSettled g d k old → IsSettled g d k again ⊎ IsSettled g (put d change) k again)
        on None left honest = tt
        on (Some again) left honest = λ h d k was.
            let l = left h in
            let clean = honest h in
            either_after_change d k l.0 old new again l.2 was clean l.1 change (crash was.kept) (fits was.kept (was_honest clean))

    pub either_branch : (nodes : List Node) → (HasKeptTables g old → Survives (state g old.conn) (state g new.conn) (AreTablesAfter before nodes))
        → IfSome o (λ again. HasHonestDisk g again → (d : Desk) (k : Keeping) → IsSettled g d k old → IsSettled g d k again ⊎ HasTakenBranch g d k nodes again)
    either_branch nodes crash = on o left honest
      where
        on : (o : Option (TableDesk S g)) → IsLeft new o → IfSome o (λ again. HasHonestDisk g again → HasHonestDisk g new)
            → IfSome o (λ again. HasHonestDisk g again → (d : Desk) (k : Keeping) → IsSettled g d k old → IsSettled g d k again ⊎ HasTakenBranch g d k nodes again)
        on None left honest = tt
        on (Some again) left honest = λ h d k was.
            let l = left h in
            either_after_branch d k l.0 old new again l.2 was (honest h) l.1 nodes (crash was.kept)

    pub either_keep : (id sender message : List ℕ) (outcome : Outcome) (change : Option Change)
        → (MayKeep old id sender message outcome change → HasKeptTables g old → Survives (state g old.conn) (state g new.conn) (AreTablesOf (kept_after id sender message outcome change before)))
        → (HasHonestDisk g new → HasHonestDisk g old) → (HasKeptTables g old → HasHonestDisk g old → IfGiven (FitsContent before) change) → IsText sender
        → IfSome o (λ again. HasHonestDisk g again → (d : Desk) (k : Keeping) → IsSettled g d k old → MayBeKept id sender message k d outcome change
        → IsSettled g d k again ⊎ IsSettled g (with_change change d) (kept_also id sender message outcome k) again)
    either_keep id sender message outcome change crash was_honest fits text = on o left honest
      where
        on : (o : Option (TableDesk S g)) → IsLeft new o → IfSome o (λ again. HasHonestDisk g again → HasHonestDisk g new)
            → IfSome o (λ again. HasHonestDisk g again → (d : Desk) (k : Keeping) → IsSettled g d k old → MayBeKept id sender message k d outcome change
            → IsSettled g d k again ⊎ IsSettled g (with_change change d) (kept_also id sender message outcome k) again)
        on None left honest = tt
        on (Some again) left honest = λ h d k was it.
            let l = left h in
            let clean = honest h in
            let may = may_here d k l.0 old new again l.2 was clean l.1 id sender message outcome change it in
            either_after_keep d k l.0 old new again l.2 was clean l.1 id sender message outcome change (crash may was.kept) (fits was.kept (was_honest clean)) text may

    module _ (settles : Settles g) where
      pub done_change : (change : Change) (r : Result (Unit {0}) StoreFault)
          → Holds (HasKeptTables g) (HasHonestDisk g) old new (Applies (desk_of old) (desk_of new) r change)
          → Holds (HasKeptTables g) (HasHonestDisk g) old new (keeping_of new ≡ keeping_of old)
          → (HasKeptTables g old → HasHonestDisk g new → OnOk r (IsTrue (state g new.conn).is_open))
          → IfSome o (λ again. HasHonestDisk g again → IsOk r → (d : Desk) (k : Keeping) → IsSettled g d k old → IsSettled g (put d change) k again)
      done_change change r answer stays serves = on o r left honest answer stays serves
        where
          on : (o : Option (TableDesk S g)) (r : Result (Unit {0}) StoreFault) → IsLeft new o → IfSome o (λ again. HasHonestDisk g again → HasHonestDisk g new)
              → Holds (HasKeptTables g) (HasHonestDisk g) old new (Applies (desk_of old) (desk_of new) r change)
              → Holds (HasKeptTables g) (HasHonestDisk g) old new (keeping_of new ≡ keeping_of old)
              → (HasKeptTables g old → HasHonestDisk g new → OnOk r (IsTrue (state g new.conn).is_open))
              → IfSome o (λ again. HasHonestDisk g again → IsOk r → (d : Desk) (k : Keeping) → IsSettled g d k old → IsSettled g (put d change) k again)
          on None r left honest answer stays serves = tt
          on (Some again) (Err fault) left honest answer stays serves = λ h ok. absurd (false≢true ok)
          on (Some again) (Ok x) left honest answer stays serves = λ h ok d k was.
              let l = left h in
              let clean = honest h in
              after_change d k l.0 old new again l.2 was clean l.1 settles (answer.kept was.kept clean) (serves was.kept clean) change (answer.fact was.kept clean) (stays.fact was.kept clean)

      pub done_branch : (nodes : List Node) (r : Result (Result (Unit {0}) BranchFault) StoreFault)
          → Holds (HasKeptTables g) (HasHonestDisk g) old new (Branches (desk_of old) (desk_of new) r nodes)
          → Holds (HasKeptTables g) (HasHonestDisk g) old new (keeping_of new ≡ keeping_of old)
          → (HasKeptTables g old → HasHonestDisk g new → IfOk r (λ taken. OnOk taken (IsTrue (state g new.conn).is_open)))
          → IfSome o (λ again. HasHonestDisk g again → IfOk r (λ taken. IsOk taken → (d : Desk) (k : Keeping) → IsSettled g d k old → HasTakenBranch g d k nodes again))
      done_branch nodes r answer stays serves = on o r left honest answer stays serves
        where
          on : (o : Option (TableDesk S g)) (r : Result (Result (Unit {0}) BranchFault) StoreFault) → IsLeft new o → IfSome o (λ again. HasHonestDisk g again → HasHonestDisk g new)
              → Holds (HasKeptTables g) (HasHonestDisk g) old new (Branches (desk_of old) (desk_of new) r nodes)
              → Holds (HasKeptTables g) (HasHonestDisk g) old new (keeping_of new ≡ keeping_of old)
              → (HasKeptTables g old → HasHonestDisk g new → IfOk r (λ taken. OnOk taken (IsTrue (state g new.conn).is_open)))
              → IfSome o (λ again. HasHonestDisk g again → IfOk r (λ taken. IsOk taken → (d : Desk) (k : Keeping) → IsSettled g d k old → HasTakenBranch g d k nodes again))
          on None r left honest answer stays serves = tt
          on (Some again) (Err fault) left honest answer stays serves = λ h. tt
          on (Some again) (Ok (Err refusal)) left honest answer stays serves = λ h ok. absurd (false≢true ok)
          on (Some again) (Ok (Ok x)) left honest answer stays serves = λ h ok d k was.
              let l = left h in
              let clean = honest h in
              let fact = answer.fact was.kept clean in
              after_branch d k l.0 old new again l.2 was clean l.1 settles (answer.kept was.kept clean) (serves was.kept clean) nodes fact.0 fact.1 (stays.fact was.kept clean)

      pub done_keep : (id sender message : List ℕ) (outcome : Outcome) (change : Option Change) (r : Result (Unit {0}) StoreFault)
          → ((earlier : TableDesk S g) → Holds (HasKeptTables g) (HasHonestDisk g) earlier old (MayKeep old id sender message outcome change)
          → Holds (HasKeptTables g) (HasHonestDisk g) earlier new
          (Keeps id sender message outcome change (desk_of old) (keeping_of old) r (desk_of new) (keeping_of new)))
          → (MayKeep old id sender message outcome change → HasKeptTables g old → HasHonestDisk g new → OnOk r (IsTrue (state g new.conn).is_open))
          → IfSome o (λ again. HasHonestDisk g again → IsOk r → (d : Desk) (k : Keeping) → IsSettled g d k old → MayBeKept id sender message k d outcome change
          → IsSettled g (with_change change d) (kept_also id sender message outcome k) again)
      done_keep id sender message outcome change r answer serves = on o r left honest answer serves
        where
          on : (o : Option (TableDesk S g)) (r : Result (Unit {0}) StoreFault) → IsLeft new o → IfSome o (λ again. HasHonestDisk g again → HasHonestDisk g new)
              → ((earlier : TableDesk S g) → Holds (HasKeptTables g) (HasHonestDisk g) earlier old (MayKeep old id sender message outcome change)
              → Holds (HasKeptTables g) (HasHonestDisk g) earlier new
              (Keeps id sender message outcome change (desk_of old) (keeping_of old) r (desk_of new) (keeping_of new)))
              → (MayKeep old id sender message outcome change → HasKeptTables g old → HasHonestDisk g new → OnOk r (IsTrue (state g new.conn).is_open))
              → IfSome o (λ again. HasHonestDisk g again → IsOk r → (d : Desk) (k : Keeping) → IsSettled g d k old → MayBeKept id sender message k d outcome change
              → IsSettled g (with_change change d) (kept_also id sender message outcome k) again)
          on None r left honest answer serves = tt
          on (Some again) (Err fault) left honest answer serves = λ h ok. absurd (false≢true ok)
          on (Some again) (Ok x) left honest answer serves = λ h ok d k was it.
              let l = left h in
              let clean = honest h in
              let may = may_here d k l.0 old new again l.2 was clean l.1 id sender message outcome change it in
              let done = answer old (holds_none (HasKeptTables g) (HasHonestDisk g) old may) in
              let fact = done.fact was.kept clean in
              after_keep d k l.0 old new again l.2 was clean l.1 settles (done.kept was.kept clean) (serves may was.kept clean) id sender message outcome change fact.0 fact.1

module _ {S : Type 0} (g : store.Ghosts S) (id sender message : List ℕ) (outcome : Outcome) (change : Option Change) where
  -- what has the outcome with its change is the desk after a call that took that line
  pub took_keep : (old : TableDesk S g) (opened : Option (TableDesk S g))
      → IfSome opened (λ again. HasHonestDisk g again → (d : Desk) (k : Keeping) → IsSettled g d k old → MayBeKept id sender message k d outcome change
      → IsSettled g d k again ⊎ IsSettled g (with_change change d) (kept_also id sender message outcome k) again)
      → IfSome opened (λ again. HasHonestDisk g again → (d : Desk) (k : Keeping) → IsSettled g d k old → MayBeKept id sender message k d outcome change
      → IsSettled g d k again ⊎ HasTakenLine g id sender message outcome d k again)
  took_keep old None either = tt
  took_keep old (Some again) either = λ honest d k was may. elim (either honest d k was may) [
    | inl before ↦ inl before
    | inr after ↦ inr (record {
      desk = with_change change d;
      keeping = kept_also id sender message outcome k;
      took = took_one id sender message outcome change d k may;
      settled = after;
    })
  ]
