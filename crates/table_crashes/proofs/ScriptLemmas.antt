-- What is opened after a script and a crash.
use Rattle.std.proofs.Common.{◌≡◌, ◌⊎◌, inl, inr, ℕ, List, Option, None, Some, Result, Ok, Err, IfSome, sym, subst}
use Rattle.sqlite_trees.specs.declared.store.Store as store
use Rattle.bug_record.specs.Desk.{Desk}
use Rattle.store_contract.specs.Crashes.{Holding}
use Rattle.store_contract.specs.Kept.{Keeping}
use Rattle.store_contract.specs.Store.{Faults, Holds}
use Rattle.control_lines.specs.Reading.{Known}
use Rattle.control_lines.specs.declared.fault.ScriptFault.{ScriptFault}
use Rattle.desk_run.specs.Running.{Course, Ends}
use Rattle.desk_run.specs.Script.{Part, begin, script_of}
use Rattle.desk_run.specs.Tried.{IsNextOf, LeavesParts}
use Rattle.desk_run.specs.declared.script.ScriptEnd.{ScriptEnd}
use Rattle.desk_tables.specs.Desk.{desk_of, keeping_of, LeavesTables}
use Rattle.desk_tables.specs.declared.desk.TableDesk.{TableDesk}
use Rattle.table_crashes.specs.Settled.{HasHonestDisk, HasKeptTables, IsSettled, IsFoundAfter}
use Rattle.table_crashes.proofs.CrashLemmas.{settled_alone}

-- a script over this desk, which left that one
abbrev pub course_of : Desk → Desk → Faults → Faults → Option (List ℕ) → Option (List ℕ) → Course
course_of old new n0 n1 c0 c1 = record {
  from = begin old;
  desk = new;
  faults_before = n0;
  faults = n1;
  written_before = c0;
  written = c1;
}

module _ {S : Type 0} (g : store.Ghosts S) where
  one_settled : (d : Desk) (k : Keeping) (t : TableDesk S g) → IsSettled g d k t ⊎ IsSettled g d k t → IsSettled g d k t
  one_settled d k t (inl s) = s
  one_settled d k t (inr s) = s

  now_or_next : (parts : List Part) (from now next : Desk) (k : Keeping) (t : TableDesk S g)
      → (next ≡ now) ⊎ IsNextOf parts (begin from) now next → IsSettled g now k t ⊎ IsSettled g next k t
      → IsSettled g now k t ⊎ ((other : Desk) × IsNextOf parts (begin from) now other × IsSettled g other k t)
  now_or_next parts from now next k t is (inl s) = inl s
  now_or_next parts from now next k t (inl same) (inr s) = inl (subst (λ (z : Desk). IsSettled g z k t) same s)
  now_or_next parts from now next k t (inr is) (inr s) = inr (next, is, s)

  found_here : (input : List ℕ) (rest c0 c1 : Option (List ℕ)) (n0 n1 : Faults) (old new again : TableDesk S g)
      (r : Result ScriptEnd ScriptFault)
      → ((a b : Holding) → LeavesTables new a b → IsSettled g a.0 a.1 again ⊎ IsSettled g b.0 b.1 again)
      → LeavesTables old (desk_of old, keeping_of old) (desk_of old, keeping_of old)
      → Ends input rest (course_of (desk_of old) (desk_of new) n0 n1 c0 c1) r
      → LeavesParts LeavesTables old new (keeping_of old) (script_of input) (begin (desk_of old)) (desk_of new) r
      → IsFoundAfter g input (begin (desk_of old)) c0 c1 (keeping_of old) r again
  found_here input rest c0 c1 n0 n1 old new again (Ok end) either alone ends left =
      let k = keeping_of old in
      let now = desk_of new in
      subst (λ (z : Desk). IsSettled g z k again) ends.carried.desk (one_settled now k again (either (now, k) (now, k) (left alone)))
  found_here input rest c0 c1 n0 n1 old new again (Err fault) either alone ends left =
      let k = keeping_of old in
      let now = desk_of new in (
        now,
        record { faults_before = n0; faults = n1; rest = rest; ends = ends },
        now_or_next (script_of input) (desk_of old) now left.0 k again left.1 (either (now, k) (left.0, k) (left.2 alone)),
      )

  pub found_after : (o : Option (TableDesk S g)) (input rest c0 c1 : Option (List ℕ)) (n0 n1 : Faults) (old new : TableDesk S g)
      (r : Result ScriptEnd ScriptFault) → IfSome o (λ again. HasHonestDisk g again → HasHonestDisk g new)
      → IfSome o (λ again. HasHonestDisk g again → (a b : Holding) → LeavesTables new a b
      → IsSettled g a.0 a.1 again ⊎ IsSettled g b.0 b.1 again)
      → Holds (HasKeptTables g) (HasHonestDisk g) old new
      (Known input (λ xs. Ends xs rest (course_of (desk_of old) (desk_of new) n0 n1 c0 c1) r))
      → Holds (HasKeptTables g) (HasHonestDisk g) old new
      (Known input (λ xs. LeavesParts LeavesTables old new (keeping_of old) (script_of xs) (begin (desk_of old)) (desk_of new) r))
      → IfSome o (λ again. HasHonestDisk g again → (d : Desk) (k : Keeping) → IsSettled g d k old
      → Known input (λ xs. IsFoundAfter g xs (begin d) c0 c1 k r again))
  found_after None input rest c0 c1 n0 n1 old new r honest either answer left = tt
  found_after (Some again) input rest c0 c1 n0 n1 old new r honest either answer left = λ w d k was.
      let clean = honest w in
      let ends = answer.fact was.kept clean in
      let tried = left.fact was.kept clean in
      let alone = subst (λ (z : Keeping). LeavesTables old (desk_of old, z) (desk_of old, z)) (sym was.keeping)
      (subst (λ (z : Desk). LeavesTables old (z, k) (z, k)) (sym was.desk) (settled_alone g old d k was)) in
      record {
        known = λ xs e.
            subst (λ (z : Keeping). IsFoundAfter g xs (begin d) c0 c1 z r again) was.keeping
            (subst (λ (z : Desk). IsFoundAfter g xs (begin z) c0 c1 (keeping_of old) r again) was.desk
            (found_here xs rest c0 c1 n0 n1 old new again r (either w) alone (ends.known xs e) (tried.known xs e)));
      }
