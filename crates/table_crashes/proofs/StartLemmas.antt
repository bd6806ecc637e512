-- What is opened after a crash, where a desk was created or opened.
use Rattle.std.proofs.Common.{◌≡◌, ◌⊎◌, ◌<◌, ◌≤◌, ℕ, inl, inr, Option, None, Some, IfSome, IsTrue}
use Rattle.sqlite.specs.Held.{Held, state}
use Rattle.sqlite.specs.State.{HasCleanDisk, Survives}
use Rattle.sqlite_trees.specs.Tree.{Trees}
use Rattle.sqlite_trees.specs.View.{IsClean}
use Rattle.sqlite_trees.specs.declared.store.Store as store
use Rattle.base_words.specs.declared.named.TheConstants.{LARGEST_NUMBER}
use Rattle.bug_record.specs.Desk.{Desk}
use Rattle.store_keys.specs.Keys.{empty_desk}
use Rattle.store_contract.specs.Kept.{Keeping, none_kept}
use Rattle.table_content.specs.Content.{Content, no_content}
use Rattle.table_content.proofs.NewLemmas.{new_kept}
use Rattle.desk_tables.specs.Desk.{desk_of, keeping_of}
use Rattle.table_opening.specs.Opening.{unlimited}
use Rattle.table_opening.specs.Shown.{AreTablesOf, AreTablesUnder}
use Rattle.desk_tables.specs.declared.desk.TableDesk.{TableDesk}
use Rattle.table_crashes.specs.Settled.{HasHonestDisk, HasKeptTables, HoldTablesFrom, IsSettled, IsOpenedOver}
use Rattle.desk_tables.proofs.CrashLemmas.{Settles}
use Rattle.table_crashes.proofs.OpenLemmas.{settled_as, serving_settled, opened_newest}

module _ {S : Type 0} (g : store.Ghosts S) where
  -- ---- a desk that is created

  abbrev pub IsBeforeOrNew : Held S → ℕ → TableDesk S g → Type 0
  IsBeforeOrNew conn first again = ((db : Trees) × (state g conn).may_leave db × IsOpenedOver g db again) ⊎ IsSettled g (empty_desk first) none_kept again

  -- it was created
  pub created_again : Settles g → (first : ℕ) (t : TableDesk S g) (o : Option (TableDesk S g))
      → (HasHonestDisk g t → IsTrue (state g t.conn).is_open) → (HasHonestDisk g t → HasKeptTables g t)
      → (HasHonestDisk g t → desk_of t ≡ empty_desk first) → (HasHonestDisk g t → keeping_of t ≡ none_kept)
      → IfSome o (λ again. HasHonestDisk g again → HasHonestDisk g t)
      → IfSome o (λ again. HasHonestDisk g again → (d : Desk) (k : Keeping) → IsSettled g d k t → IsSettled g d k again)
      → IfSome o (λ again. HasHonestDisk g again → IsSettled g (empty_desk first) none_kept again)
  created_again settles first t None serves kept empty none honest settled = tt
  created_again settles first t (Some again) serves kept empty none honest settled = λ h.
      let clean = honest h in
      settled h (empty_desk first) none_kept
      (settled_as g t (desk_of t) (empty_desk first) (keeping_of t) none_kept (empty clean) (none clean)
      (serving_settled g settles t (kept clean) clean (serves clean)))

  pub created_done : (Done : Type 0) (first : ℕ) (o : Option (TableDesk S g)) → IfSome o (λ again. HasHonestDisk g again → IsSettled g (empty_desk first) none_kept again)
      → IfSome o (λ again. HasHonestDisk g again → Done → IsSettled g (empty_desk first) none_kept again)
  created_done Done first None new = tt
  created_done Done first (Some again) new = λ h done. new h

  pub created_either : (conn : Held S) (first : ℕ) (o : Option (TableDesk S g)) → IfSome o (λ again. HasHonestDisk g again → IsSettled g (empty_desk first) none_kept again)
      → IfSome o (λ again. HasHonestDisk g again → IsBeforeOrNew conn first again)
  created_either conn first None new = tt
  created_either conn first (Some again) new = λ h. inr (new h)

  -- it was refused, and may have been made
  pub refused_either : (conn new : Held S) (first : ℕ) (o : Option (TableDesk S g)) → 0 < first → first ≤ LARGEST_NUMBER
      → Survives (unlimited (state g conn)) (state g new) (AreTablesOf (no_content first))
      → IfSome o (λ again. HasHonestDisk g again → HasCleanDisk (state g new))
      → IfSome o (λ again. HasHonestDisk g again → (db : Trees) × (state g new).may_leave db × IsOpenedOver g db again)
      → IfSome o (λ again. HasHonestDisk g again → IsBeforeOrNew conn first again)
  refused_either conn new first None low high survives honest left = tt
  refused_either conn new first (Some again) low high survives honest left = λ h.
      let l = left h in
      elim (survives.crash (honest h) l.0 l.1) [
        | inl before ↦ inl (l.0, before, l.2)
        | inr made ↦ inr (opened_newest g l.0 again l.2 (no_content first) made (new_kept first low high))
      ]

  -- ---- a desk that is opened

  -- what is opened over what a crash left is opened over what was there before
  pub found_again : (o : Option (TableDesk S g)) (before : Trees) (left : S)
      → (IsClean (g.view left) → (k : ℕ) (c : Content) → AreTablesUnder k c before → HoldTablesFrom k c (g.view left).trees)
      → IfSome o (λ again. HasHonestDisk g again → IsClean (g.view left))
      → IfSome o (λ again. HasHonestDisk g again → IsOpenedOver g (g.view left).trees again)
      → IfSome o (λ again. HasHonestDisk g again → IsOpenedOver g before again)
  found_again None before left held honest opened = tt
  found_again (Some again) before left held honest opened = λ h c tables good.
      let from = held (honest h) tables.0 c tables.1 in
      opened h c (from.0, from.2) good

  pub clean_again : (o : Option (TableDesk S g)) (conn : Held S) (left : S) → (IsClean (g.view left) → HasCleanDisk (state g conn))
      → IfSome o (λ again. HasHonestDisk g again → IsClean (g.view left))
      → IfSome o (λ again. HasHonestDisk g again → HasCleanDisk (state g conn))
  clean_again None conn left clean honest = tt
  clean_again (Some again) conn left clean honest = λ h. clean (honest h)
