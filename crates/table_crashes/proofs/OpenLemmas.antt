-- What is opened over trees that hold a desk.
use Rattle.std.proofs.Common.{◌≡◌, ◌<◌, ℕ, Option, None, Some, inl, inr, arith, IfSome, IsTrue, refl, sym, ap, subst, ◌∙◌}
use Rattle.std.proofs.lemmas.Bool.{cases_eq}
use Rattle.sqlite.specs.Effect.{Database}
use Rattle.sqlite.specs.Held.{Held, state}
use Rattle.sqlite.specs.State.{State, HasCleanDisk, Opens, IsLive, Survives}
use Rattle.sqlite_trees.specs.Tree.{Trees}
use Rattle.sqlite_trees.specs.View.{IsClean}
use Rattle.sqlite_trees.specs.declared.store.Store as store
use Rattle.bug_record.specs.Desk.{Desk}
use Rattle.store_contract.specs.Kept.{Keeping}
use Rattle.table_content.specs.Content.{Content}
use Rattle.table_history.specs.declared.history.TheConstants.{NEWEST}
use Rattle.table_content.specs.Kept.{IsKeptContent}
use Rattle.table_content.specs.View.{desk_in, keeping_in}
use Rattle.desk_tables.specs.Desk.{content_shown, desk_of, keeping_of}
use Rattle.table_opening.specs.Opening.{unlimited}
use Rattle.table_opening.specs.Shown.{HasContentUnder, HoldsContent, AreTablesOf, AreTablesUnder, HoldTables}
use Rattle.desk_tables.specs.declared.desk.TableDesk.{TableDesk}
use Rattle.desk_tables.proofs.CrashLemmas.{Settles}
use Rattle.desk_tables.proofs.KeptLemmas.{kept_shows}
use Rattle.table_opening.proofs.HeldLemmas.{shows_tables, committed_tables, are_newest, newest_held, of_newest}
use Rattle.table_crashes.specs.Settled.{HasHonestDisk, HasKeptTables, HoldTablesFrom, IsSettled, IsOpenedOver}

module _ {S : Type 0} (g : store.Ghosts S) where
  -- a desk that is settled, over another word for what it shows
  pub settled_as : (t : TableDesk S g) (d e : Desk) (k l : Keeping) → d ≡ e → k ≡ l → IsSettled g d k t → IsSettled g e l t
  settled_as t d e k l same alike it = subst (λ (x : Desk). IsSettled g x l t) same (subst (λ (x : Keeping). IsSettled g d x t) alike it)

  -- a desk that serves is settled
  pub serving_settled : Settles g → (t : TableDesk S g) → HasKeptTables g t → HasHonestDisk g t → IsTrue (state g t.conn).is_open → IsSettled g (desk_of t) (keeping_of t) t
  serving_settled settles t kept honest served = record {
    kept = kept;
    desk = refl;
    keeping = refl;
    trees = (state g t.conn).committed.trees;
    tables = committed_tables (state g t.conn) (content_shown t) (kept_shows t kept honest served);
    left = λ db may. settles t.conn.store db served may;
  }

  -- the tables of a desk under the newest schema were opened
  pub opened_newest : (db : Trees) (t : TableDesk S g) → IsOpenedOver g db t → (c : Content) → AreTablesOf c db → IsKeptContent c → IsSettled g (desk_in c) (keeping_in c) t
  opened_newest db t opened c tables = opened c (newest_held c db tables)

  -- what a crash at any moment of opening leaves, where this state comes of it
  abbrev pub Crashes : Held S → State → Type 0
  Crashes conn new = (k : ℕ) (c : Content) → (HasCleanDisk new → HasContentUnder k c (state g conn)) → Survives (unlimited (state g conn)) new (λ db. (k < NEWEST) × AreTablesOf c db)

  module _ (settles : Settles g) (conn : Held S) (opens : Opens (state g conn)) (live : IsLive (state g conn)) where
    -- the trees that were committed
    abbrev trees : Trees
    trees = (state g conn).committed.trees

    shows : (k : ℕ) (c : Content) → AreTablesUnder k c trees → HasContentUnder k c (state g conn)
    shows k c tables = shows_tables (state g conn) trees k c opens live refl tables

    -- the desk, under the same schema or the newest
    pub left_held : (new : State) → Crashes conn new → HasCleanDisk new → (db : Trees) → new.may_leave db → (k : ℕ) (c : Content) → AreTablesUnder k c trees → HoldTablesFrom k c db
    left_held new crashes clean db may k c tables =
        let known = tables.shown.known in
        elim ((crashes k c (λ _. shows k c tables)).crash clean db may) [
          | inl before ↦ (k, omega arith, subst (AreTablesUnder k c) (sym (settles conn.store db opens.is_open before)) tables)
          | inr made ↦ (NEWEST, omega (arith, known), are_newest c db made.1)
        ]

    module _ (t : TableDesk S g) (content : (c : Content) → HasHonestDisk g t → HoldsContent c (state g conn) → content_shown t ≡ c)
        (kept : (c : Content) → HasHonestDisk g t → HoldsContent c (state g conn) → IsKeptContent c → HasKeptTables g t)
        (serves : (k : ℕ) (c : Content) → HasHonestDisk g t → k < NEWEST → HasContentUnder k c (state g conn) → IsTrue (state g t.conn).is_open) (crashes : Crashes conn (state g t.conn))
      where
        -- the tables were under the newest schema: they are as they were
        as_before : HasHonestDisk g t → (c : Content) → AreTablesUnder NEWEST c trees → HasKeptTables g t → content_shown t ≡ c → IsSettled g (desk_in c) (keeping_in c) t
        as_before honest c tables is_kept same = record {
          kept = is_kept;
          desk = ap desk_in same;
          keeping = ap keeping_in same;
          trees = trees;
          tables = subst (λ k. AreTablesOf k trees) (sym same) (of_newest c trees tables);
          left = λ db may. elim ((crashes NEWEST c (λ _. shows NEWEST c tables)).crash honest db may) [
            | inl before ↦ settles conn.store db opens.is_open before
            | inr earlier ↦ absurd (omega (arith, earlier.0))
          ];
        }

        -- the desk that is opened over a connection is the one that its last commit left
        pub opened_over : HasHonestDisk g t → IsOpenedOver g trees t
        opened_over honest c (k, tables) good =
            let holds : HoldsContent c (state g conn) = (k, shows k c tables) in
            let same = content c honest holds in
            let is_kept = kept c honest holds good in
            let known = tables.shown.known in
            elim (cases_eq k NEWEST) [
              | inl newest ↦ as_before honest c (subst (λ j. AreTablesUnder j c trees) newest tables) is_kept same
              | inr other ↦ settled_as t (desk_of t) (desk_in c) (keeping_of t) (keeping_in c) (ap desk_in same) (ap keeping_in same)
                  (serving_settled settles t is_kept honest (serves k c honest (omega (arith, known, other)) (shows k c tables)))
            ]

        -- a crash then leaves it under the newest schema
        pub left_newest : HasHonestDisk g t → (db : Trees) → (state g t.conn).may_leave db → (c : Content) → HoldTables c trees → IsKeptContent c → AreTablesOf c db
        left_newest honest db may c tables good =
            let it = opened_over honest c tables good in
            subst (AreTablesOf c) (sym (it.left db may))
            (subst (λ x. AreTablesOf x it.trees) (content c honest (tables.0, shows tables.0 c tables.1)) it.tables)

  -- the store that came back after a crash of this connection
  abbrev pub Leaves : Held S → Option S → Type 0
  Leaves conn o = IfSome o (λ left. IsClean (g.view left) → HasCleanDisk (state g conn) × (state g conn).may_leave (g.view left).trees)

  -- what is so of all that a crash may leave is so of it
  pub left_then : (conn : Held S) (P : Trees → Type 0) (o : Option S) → (HasCleanDisk (state g conn) → (db : Trees) → (state g conn).may_leave db → P db) → Leaves conn o
      → IfSome o (λ left. IsClean (g.view left) → P (g.view left).trees)
  left_then conn P None each left = tt
  left_then conn P (Some store) each left = λ clean. let l = left clean in each l.0 (g.view store).trees l.1

  -- what is opened over a connection is opened over the trees of its store
  pub opened_store : (o : Option (TableDesk S g)) (conn : Held S) (trees : Trees) → (HasCleanDisk (state g conn) → Opens (state g conn) × IsLive (state g conn))
      → (HasCleanDisk (state g conn) → (state g conn).now.trees ≡ trees)
      → IfSome o (λ again. HasHonestDisk g again → HasCleanDisk (state g conn))
      → IfSome o (λ again. HasHonestDisk g again → IsOpenedOver g (state g conn).committed.trees again)
      → IfSome o (λ again. HasHonestDisk g again → IsOpenedOver g trees again)
  opened_store None conn trees opens same clean opened = tt
  opened_store (Some again) conn trees opens same clean opened = λ honest.
      let here = clean honest in
      let is : (state g conn).committed.trees ≡ trees = sym (ap (λ (d : Database). d.trees) (opens here).0.clean) ∙ same here in
      subst (λ t. IsOpenedOver g t again) is (opened honest)
