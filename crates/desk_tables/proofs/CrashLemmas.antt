-- What a crash leaves of a desk in tables.
use Rattle.desk_tables.proofs.Imports.{HasKeptTables, content_shown, state_of, AreTablesOf, AreTablesAfter, AreTablesHolding, LeavesOf, LeavesTables, Holding, Branches, with_change, MayBeKept}
use Rattle.table_schema.proofs.Exports.{◌≡◌, ◌∙◌, inl, inr, List, ℕ, Result, Ok, Err, OnOk, IfOk, Option, IsTrue, refl, sym, ap, subst, IsText, IfGiven, Node, branched, Change, Outcome, StoreFault, state, State, HasCleanDisk, Survives, FitsContent, Content, IsKeptContent, changed, kept_after, change_desk, change_kept, after_keeping, after_kept, with_nodes, desk_in, keeping_in}
use Rattle.version_nodes.specs.declared.fault.BranchFault.{BranchFault}
use Rattle.bug_record.specs.Desk.{Desk}
use Rattle.bug_record.specs.Images.{put}
use Rattle.table_content.proofs.KeepLemmas.{change_keeping}
use Rattle.table_content.proofs.QuestionLemmas.{branch_kept}
use Rattle.store_contract.specs.Crashes.{LeavesAfter, LeavesBranched, after_branch, with_tree}
use Rattle.store_contract.specs.Kept.{Keeping, kept_also}
use Rattle.store_contract.specs.Store.{Applies, Holds}
use Rattle.store_contract.proofs.KeepLemmas.{kept_also-good}
use Rattle.sqlite_trees.specs.Tree.{Trees}
use Rattle.sqlite_trees.specs.declared.store.Store as store
use Rattle.store_contract.proofs.CrashLemmas.{or_other}
use Rattle.desk_tables.specs.Desk.{desk_of, keeping_of, HasHonestDisk, MayKeep, KeepsOf}
use Rattle.desk_tables.specs.declared.desk.TableDesk.{TableDesk}
use Rattle.desk_tables.proofs.KeptLemmas.{kept_shows}
use Rattle.table_opening.proofs.HeldLemmas.{committed_tables}
use Rattle.desk_tables.proofs.KeepLemmas.{changed_desk}

-- what is left alone is left, or another
pub left_or_other : (s : State) (a b : Holding) → LeavesOf s a a → LeavesOf s a b
left_or_other s a b alone db may = or_other (alone db may)

-- where nothing was committed
pub left_as_before : (old new : State) → Survives old new (λ _. ⊥) → HasCleanDisk new → (a b : Holding) → LeavesOf old a b → LeavesOf new a b
left_as_before old new survives clean a b left db may = elim (survives.crash clean db may) [ inl before ↦ left db before | inr none ↦ absurd none ]

-- where a change may have been committed, after which the tables hold this
pub left_or_made : (old new : State) (Made : Trees → Type 0) (after : Holding) → Survives old new Made → ((db : Trees) → Made db → AreTablesHolding after db)
    → HasCleanDisk new → (before : Holding) → LeavesOf old before before → LeavesOf new before after
left_or_made old new Made after survives holds clean before left db may = elim (survives.crash clean db may) [
  | inl was ↦ left_or_other old before after left db was
  | inr made ↦ inr (holds db made)
]

-- while a store is open, a crash leaves its last commit
abbrev pub Settles : {S : Type 0} → store.Ghosts S → Type 0
Settles {S} g = (s : S) (db : Trees) → IsTrue (g.view s).is_open → g.recovers s db → db ≡ (g.view s).committed

-- a desk that serves is left alone
pub left_alone : {S : Type 0} (g : store.Ghosts S) → Settles g → (t : TableDesk S g) → HasKeptTables t → HasCleanDisk (state g t.conn) → IsTrue (state g t.conn).is_open
    → (x : Holding) → (desk_of t, keeping_of t) ≡ x → LeavesOf (state g t.conn) x x
left_alone g settles t kept clean served x same db may = inl (record {
  content = content_shown t;
  tables = subst (AreTablesOf (content_shown t)) (sym (settles t.conn.store db served may)) (committed_tables (state g t.conn) (content_shown t) (kept_shows t kept clean served));
  kept = kept.content;
  same = same;
})

-- ---- what each call leads to

abbrev pub holding : Desk → Keeping → Holding
holding d k = (d, k)

pub same_holding : {d e : Desk} {k l : Keeping} → d ≡ e → k ≡ l → holding d k ≡ holding e l
same_holding {d} {e} {k} {l} is also = ap (λ (x : Desk). holding x k) is ∙ ap (holding e) also

-- the tables after a change
holds_change : (c : Content) (change : Change) → IsKeptContent c → FitsContent c change → (db : Trees) → AreTablesOf (changed c change) db
    → AreTablesHolding (holding (put (desk_in c) change) (keeping_in c)) db
holds_change c change kept fits db tables = record {
  content = changed c change;
  tables = tables;
  kept = change_kept c change kept fits;
  same = same_holding (change_desk c change kept fits) (change_keeping c change);
}

-- after a branch
holds_branch : (c : Content) (nodes : List Node) → IsKeptContent c → (db : Trees) → AreTablesAfter c nodes db
    → AreTablesHolding (holding (after_branch (desk_in c) nodes) (keeping_in c)) db
holds_branch c nodes kept db made = record {
  content = with_nodes made.ancestry c;
  tables = made.tables;
  kept = branch_kept c made.ancestry kept made.forest;
  same = same_holding (sym (ap (with_tree (desk_in c)) made.taken)) refl;
}

module _ (id sender message : List ℕ) (outcome : Outcome) (change : Option Change) where
  -- with an outcome that is kept, and its change
  holds_kept : (c : Content) → IsKeptContent c → IfGiven (FitsContent c) change → IsText sender → MayBeKept id sender message (keeping_in c) (desk_in c) outcome change
      → (db : Trees) → AreTablesOf (kept_after id sender message outcome change c) db
      → AreTablesHolding (holding (with_change change (desk_in c)) (kept_also id sender message outcome (keeping_in c))) db
  holds_kept c kept fits text may db tables =
      let good = kept_also-good id sender message (keeping_in c) (desk_in c) outcome (with_change change (desk_in c)) may.next kept.sound text may.good kept.good in
      record {
        content = kept_after id sender message outcome change c;
        tables = tables;
        kept = after_kept c kept change fits id sender message outcome good;
        same = same_holding (changed_desk change c kept fits) (after_keeping c kept change fits id sender message outcome);
      }

-- ---- each call

not_refused : {A B : Type 0} (r : Result A B) (a : A) (b : B) → r ≡ Ok a → r ≡ Err b → ⊥
not_refused r a b ok err = cc

module _ {S : Type 0} (g : store.Ghosts S) (settles : Settles g) (old new : TableDesk S g) where
  abbrev Calls : Type 0 → Type 0
  Calls P = Holds HasKeptTables (HasHonestDisk {g = g}) old new P

  abbrev before : Content
  before = content_shown old

  pub change_leaves : (change : Change) (r : Result (Unit {0}) StoreFault) → Calls (Applies (desk_of old) (desk_of new) r change) → Calls (keeping_of new ≡ keeping_of old)
      → (HasKeptTables old → HasHonestDisk new → OnOk r (IsTrue (state_of new).is_open))
      → (HasKeptTables old → Survives (state_of old) (state_of new) (AreTablesOf (changed before change)))
      → (HasKeptTables old → HasHonestDisk old → FitsContent before change)
      → Calls (LeavesAfter LeavesTables old new (holding (put (desk_of old) change) (keeping_of old)) r)
  change_leaves change (Ok done) answer stays serves crash fits = record {
    honest = answer.honest;
    kept = answer.kept;
    fact = λ was clean. left_alone g settles new (answer.kept was clean) clean (serves was clean) _ (same_holding (answer.fact was clean) (stays.fact was clean));
  }
  change_leaves change (Err fault) answer stays serves crash fits = record {
    honest = answer.honest;
    kept = answer.kept;
    fact = λ was clean.
        left_or_made (state_of old) (state_of new) (AreTablesOf (changed before change)) (holding (put (desk_of old) change) (keeping_of old)) (crash was)
        (holds_change before change was.content (fits was (answer.honest clean))) clean;
  }

  pub branch_leaves : (nodes : List Node) (r : Result (Result (Unit {0}) BranchFault) StoreFault) → Calls (Branches (desk_of old) (desk_of new) r nodes) → Calls (keeping_of new ≡ keeping_of old)
      → (HasKeptTables old → HasHonestDisk new → IfOk r (λ taken. OnOk taken (IsTrue (state_of new).is_open)))
      → (HasKeptTables old → Survives (state_of old) (state_of new) (AreTablesAfter before nodes))
      → Calls (LeavesBranched LeavesTables old new (holding (after_branch (desk_of old) nodes) (keeping_of old)) r)
  branch_leaves nodes (Ok (Ok done)) answer stays serves crash = record {
    honest = answer.honest;
    kept = answer.kept;
    fact = λ was clean.
        let taken = answer.fact was clean in
        left_alone g settles new (answer.kept was clean) clean (serves was clean) _
        (same_holding (taken.1 ∙ sym (ap (with_tree (desk_of old)) taken.0)) (stays.fact was clean));
  }
  branch_leaves nodes (Ok (Err refusal)) answer stays serves crash = record {
    honest = answer.honest;
    kept = answer.kept;
    fact = λ was clean a b left db may. elim ((crash was).crash clean db may) [
      | inl first ↦ left db first
      | inr made ↦ absurd (not_refused (branched (desk_of old).tree nodes) made.ancestry refusal made.taken (answer.fact was clean).0)
    ];
  }
  branch_leaves nodes (Err fault) answer stays serves crash = record {
    honest = answer.honest;
    kept = answer.kept;
    fact = λ was clean.
        left_or_made (state_of old) (state_of new) (AreTablesAfter before nodes) (holding (after_branch (desk_of old) nodes) (keeping_of old)) (crash was)
        (holds_branch before nodes was.content) clean;
  }

  module _ (id sender message : List ℕ) (outcome : Outcome) (change : Option Change) where
    abbrev May : Type 0
    May = MayKeep old id sender message outcome change

    abbrev after : Holding
    after = holding (with_change change (desk_of old)) (kept_also id sender message outcome (keeping_of old))

    pub keep_leaves : (r : Result (Unit {0}) StoreFault)
        → ((earlier : TableDesk S g) → Holds HasKeptTables (HasHonestDisk {g = g}) earlier old May
        → Holds HasKeptTables (HasHonestDisk {g = g}) earlier new (KeepsOf old new id sender message outcome change r))
        → (HasHonestDisk new → HasHonestDisk old)
        → (May → HasKeptTables old → HasHonestDisk new → OnOk r (IsTrue (state_of new).is_open))
        → (May → HasKeptTables old → Survives (state_of old) (state_of new) (AreTablesOf (kept_after id sender message outcome change before)))
        → (HasKeptTables old → HasHonestDisk old → IfGiven (FitsContent before) change) → IsText sender
        → (earlier : TableDesk S g) → Holds HasKeptTables (HasHonestDisk {g = g}) earlier old May
        → Holds HasKeptTables (HasHonestDisk {g = g}) earlier new (LeavesAfter LeavesTables old new after r)
    keep_leaves (Ok done) answer honest serves crash fits text earlier since =
        let did = answer earlier since in
        record {
          honest = did.honest;
          kept = did.kept;
          fact = λ was clean.
              let may = since.fact was (honest clean) in
              let is = did.fact was clean in
              left_alone g settles new (did.kept was clean) clean (serves may (since.kept was (honest clean)) clean) _ (same_holding is.0 is.1);
        }
    keep_leaves (Err fault) answer honest serves crash fits text earlier since =
        let did = answer earlier since in
        record {
          honest = did.honest;
          kept = did.kept;
          fact = λ was clean.
              let may = since.fact was (honest clean) in
              let kept = since.kept was (honest clean) in
              left_or_made (state_of old) (state_of new) (AreTablesOf (kept_after id sender message outcome change before)) after (crash may kept)
              (holds_kept id sender message outcome change before kept.content (fits kept (honest clean)) text may) clean;
        }
