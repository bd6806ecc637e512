-- What a crash leaves of a desk in tables.
use Rattle.std.specs.Prelude.{◌≡◌, ◌⊎◌, ◌≤◌, ℕ, List, Option, Result, Ok, Err}
use Rattle.sqlite.specs.Held.{state}
use Rattle.sqlite.specs.State.{HasCleanDisk}
use Rattle.sqlite_trees.specs.Tree.{Trees}
use Rattle.sqlite_trees.specs.declared.store.Store as store
use Rattle.version_nodes.specs.Branches.{branched}
use Rattle.version_nodes.specs.Nodes.{Node}
use Rattle.version_nodes.specs.Trees.{Ancestry}
use Rattle.bug_record.specs.Desk.{Desk}
use Rattle.table_content.specs.Content.{Content}
use Rattle.table_content.specs.Kept.{IsKeptContent}
use Rattle.table_content.specs.View.{desk_in, keeping_in}
use Rattle.desk_tables.specs.Desk.{content_shown, desk_of, keeping_of, remembered}
use Rattle.desk_tables.specs.Kept.{IsKept}
use Rattle.table_opening.specs.Shown.{AreTablesOf, AreTablesUnder, HoldTables}
use Rattle.bug_record.specs.declared.outcome.Outcome.{Outcome}
use Rattle.store_contract.specs.Kept.{Keeping}
use Rattle.desk_run.specs.Calls.{TookOne}
use Rattle.desk_run.specs.Script.{Standing, script_of, after_parts}
use Rattle.desk_run.specs.Tried.{IsNextOf}
use Rattle.desk_run.specs.Running.{Ends}
use Rattle.store_contract.specs.Store.{Faults}
use Rattle.desk_run.specs.declared.script.ScriptEnd.{ScriptEnd}
use Rattle.control_lines.specs.declared.fault.ScriptFault.{ScriptFault}
use Rattle.desk_tables.specs.declared.desk.TableDesk.{TableDesk}

-- these trees are a desk with this content, under one of the schemas from k on
abbrev pub HoldTablesFrom : ℕ → Content → Trees → Type 0
HoldTablesFrom k c db = (j : ℕ) × (k ≤ j) × AreTablesUnder j c db

-- The script of this input stopped with this desk, which has all that was answered, and this was
-- written.
pub record HasStopped (input : List ℕ) (from : Standing) (written_before written : Option (List ℕ)) (fault : ScriptFault)
    (now : Desk) : Type 0 where
  pub faults_before : Faults
  pub faults : Faults
  -- what its reader has left, if that is known
  pub rest : Option (List ℕ)
  pub ends : Ends input rest (record {
    from = from;
    desk = now;
    faults_before = faults_before;
    faults = faults;
    written_before = written_before;
    written = written;
  }) (Err fault)

module _ {S : Type 0} (g : store.Ghosts S) where
  -- so far the disk has returned what was written
  abbrev pub HasHonestDisk : TableDesk S g → Type 0
  HasHonestDisk t = HasCleanDisk (state g t.conn)

  -- the tables are kept
  abbrev pub HasKeptTables : TableDesk S g → Type 0
  HasKeptTables t = IsKept g t.last.value t.family (remembered t)

  -- The tables are kept, and show this desk and what is kept of messages, and a crash at this
  -- moment leaves these tables and no others.
  pub record IsSettled (d : Desk) (k : Keeping) (t : TableDesk S g) : Type 0 where
    pub kept : HasKeptTables t
    pub desk : desk_of t ≡ d
    pub keeping : keeping_of t ≡ k
    pub trees : Trees
    pub tables : AreTablesOf (content_shown t) trees
    pub left : (db : Trees) → (state g t.conn).may_leave db → db ≡ trees

  -- A desk was opened over these trees: where they are the tables of a kept desk, under some schema
  -- of a desk, it is that desk, and settled.
  abbrev pub IsOpenedOver : Trees → TableDesk S g → Type 0
  IsOpenedOver db t = (c : Content) → HoldTables c db → IsKeptContent c → IsSettled (desk_in c) (keeping_in c) t

  -- it is settled, with the ancestry after a branch of this desk, and else all that this desk has
  pub record HasTakenBranch (d : Desk) (k : Keeping) (nodes : List Node) (t : TableDesk S g) : Type 0 where
    pub ancestry : Ancestry
    pub taken : branched d.tree nodes ≡ Ok ancestry
    pub settled : IsSettled (record d { tree = ancestry }) k t

  -- it is settled, after a call that took one line of a message with an id, with this outcome
  pub record HasTakenLine (id sender message : List ℕ) (outcome : Outcome) (d : Desk) (k : Keeping) (t : TableDesk S g) : Type 0 where
    pub desk : Desk
    pub keeping : Keeping
    pub took : TookOne id sender message outcome (d, k) (desk, keeping)
    pub settled : IsSettled desk keeping t

  -- After the script of this input, over a desk that was settled: it is settled as the desk after
  -- all of its lines, where it came to its end; and else as the desk after those that were
  -- answered, or after one line more.
  abbrev pub IsFoundAfter : List ℕ → Standing → Option (List ℕ) → Option (List ℕ) → Keeping → Result ScriptEnd ScriptFault
      → TableDesk S g → Type 0
  IsFoundAfter input from written_before written k (Ok end) t = IsSettled (after_parts (script_of input) from).desk k t
  IsFoundAfter input from written_before written k (Err fault) t =
      (now : Desk) × HasStopped input from written_before written fault now
      × (IsSettled now k t ⊎ ((next : Desk) × IsNextOf (script_of input) from now next × IsSettled next k t))
