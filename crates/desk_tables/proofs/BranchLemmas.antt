-- What a branch comes to, and leaves of what is remembered.
use Rattle.desk_tables.proofs.Imports.{IsGrown, Branches, IsRefusal, content_seen, desk_seen, keeping_seen, IsKept, Remembered, IsDesk, HasContent, AreTablesAfter, StillShows, IsChanged, IsTaken}
use Rattle.table_schema.proofs.Exports.{◌≡◌, List, Some, Result, Ok, Err, IsTrue, refl, sym, ap, subst, ◌∙◌, ⊤, Held, state, State, HasCleanDisk, Survives, survives_weaker, branched, IsBranched, Node, Ancestry, IsForest, StoreFault, IsFaultOf, memory_fault, with_nodes, Content, IsKeptContent, desk_in, keeping_in, seen, none, acts_none}
use Rattle.sqlite_trees.specs.declared.store.Store as store
use Rattle.base_faults.specs.declared.store_fault.StoreFault.TheVariants.{Memory as NoMemory}
use Rattle.version_nodes.specs.declared.fault.BranchFault.{BranchFault}
use Rattle.version_nodes.specs.declared.fault.BranchFault.TheVariants.{Memory}
use Rattle.table_content.proofs.QuestionLemmas.{branch_kept}
use Rattle.table_opening.proofs.StillLemmas.{shows_now, still_same}
use Rattle.desk_tables.proofs.KeptLemmas.{content_is, noted_kept}

abbrev pub Answer : Type 0
Answer = Result (Result (Unit {0}) BranchFault) StoreFault

-- ---- the tables follow

abbrev pub GrowsTo : Ancestry → List Node → Content → Type 0
GrowsTo u changed c = IsKeptContent c × IsGrown c.nodes u changed

pub survives_same : (s : State) → Survives s s (λ _. ⊥)
survives_same s = (acts_none s none (λ _. ⊤) (λ c d a. ⊤) (λ c. tt)).survives

-- nothing was done
pub changed_none : (s : State) (fault : StoreFault) (Fits : Content → Type 0) (after : Content → Content) → fault ≡ NoMemory → IsChanged s s (Err fault) Fits after
changed_none s fault Fits after is = record {
  honest = λ clean. clean;
  ok = λ c clean shows fits. tt;
  err = still_same s;
  cause = λ c clean shows fits. memory_fault s s fault is;
  crash = λ c both. survives_weaker s s _ _ (λ clean db none. absurd none) (survives_same s);
}

pub changed_same : (old new : State) (r : Result (Unit {0}) StoreFault) (u : Ancestry) (changed changed' : List Node) → changed ≡ changed'
    → IsChanged old new r (GrowsTo u changed) (λ c. with_nodes u c) → IsChanged old new r (GrowsTo u changed') (λ c. with_nodes u c)
changed_same old new r u changed changed' is h = subst (λ vs. IsChanged old new r (GrowsTo u vs) (λ c. with_nodes u c)) is h

-- ---- a branch over the tree

module _ (t u : Ancestry) (nodes changed : List Node) (old new : State) where
  grows : (c : Content) → IsGrown t u changed → IsKeptContent c → c.nodes ≡ t → GrowsTo u changed c
  grows c grown kept same = (kept, subst (λ n. IsGrown n u changed) (sym same) grown)

  crashes : (r : Result (Unit {0}) StoreFault) → branched t nodes ≡ Ok u → IsGrown t u changed → IsChanged old new r (GrowsTo u changed) (λ c. with_nodes u c)
      → (c : Content) → (HasCleanDisk new → HasContent c old × IsKeptContent c × (c.nodes ≡ t)) → Survives old new (AreTablesAfter c nodes)
  crashes r is grown h c both =
      survives_weaker old new _ _
      (λ clean db p. record { ancestry = u; taken = subst (λ n. branched n nodes ≡ Ok u) (sym (both clean).2) is; forest = grown.forest; tables = p })
      (h.crash c (λ clean. let b = both clean in (b.0, grows c grown b.1 b.2)))

  pub taken_ok : branched t nodes ≡ Ok u → IsGrown t u changed → IsChanged old new (Ok tt) (GrowsTo u changed) (λ c. with_nodes u c) → IsTaken t u nodes old new (Ok (Ok tt))
  taken_ok is grown h = record {
    honest = h.honest;
    answer = (is, tt);
    ok = λ c clean shows kept same. h.ok c clean shows (grows c grown kept same);
    refused = λ c shows. tt;
    err = λ c shows. tt;
    cause = λ c clean shows kept same. tt;
    crash = crashes (Ok tt) is grown h;
  }

  pub taken_fault : (fault : StoreFault) → branched t nodes ≡ Ok u → IsGrown t u changed → IsChanged old new (Err fault) (GrowsTo u changed) (λ c. with_nodes u c) → IsTaken t u nodes old new (Err fault)
  taken_fault fault is grown h = record {
    honest = h.honest;
    answer = tt;
    ok = λ c clean shows kept same. tt;
    refused = λ c shows. tt;
    err = λ c shows. h.err c shows;
    cause = λ c clean shows kept same. h.cause c clean shows (grows c grown kept same);
    crash = crashes (Err fault) is grown h;
  }

pub taken_none : (t u : Ancestry) (nodes : List Node) (s : State) (fault : StoreFault) → fault ≡ NoMemory → IsTaken t u nodes s s (Err fault)
taken_none t u nodes s fault is = record {
  honest = λ clean. clean;
  answer = tt;
  ok = λ c clean shows kept same. tt;
  refused = λ c shows. tt;
  err = still_same s;
  cause = λ c clean shows kept same. memory_fault s s fault is;
  crash = λ c both. survives_weaker s s _ _ (λ clean db none. absurd none) (survives_same s);
}

pub taken_refused : (t u : Ancestry) (nodes : List Node) (s : State) (refusal : BranchFault) → IsBranched t nodes (Err refusal) u → IsRefusal (Err refusal) → IsTaken t u nodes s s (Ok (Err refusal))
taken_refused t u nodes s refusal is other = record {
  honest = λ clean. clean;
  answer = (is, other);
  ok = λ c clean shows kept same. tt;
  refused = still_same s;
  err = λ c shows. tt;
  cause = λ c clean shows kept same. tt;
  crash = λ c both. survives_weaker s s _ _ (λ clean db none. absurd none) (survives_same s);
}

-- a refusal is why, and leaves the tree
pub refusal_is : (t u : Ancestry) (nodes : List Node) (refusal : BranchFault) → IsBranched t nodes (Err refusal) u → IsRefusal (Err refusal) → (branched t nodes ≡ Err refusal) × (u ≡ t)
refusal_is t u nodes Memory is other = absurd other
refusal_is t u nodes _ is other = is

-- ---- what is remembered

abbrev pub taken : Answer
taken = Ok (Ok tt)

abbrev pub refused : BranchFault → Answer
refused refusal = Ok (Err refusal)

abbrev pub faulty : StoreFault → Answer
faulty fault = Err fault

module _ {S : Type 0} (g : store.Ghosts S) (last old new : Held S) (t u : Ancestry) (known : Remembered) (nodes : List Node) (stays : StillShows (state g last) (state g old)) where
  abbrev c : Content
  c = content_seen g last

  abbrev WasKept : Type 0
  WasKept = IsKept g last (Some t) known

  now : WasKept → HasContent c (state g old)
  now was = shows_now (state g last) (state g old) c (stays c was.shown) was.shown

  pub caused : (fault : StoreFault) → IsTaken t u nodes (state g old) (state g new) (faulty fault) → WasKept → HasCleanDisk (state g new) → IsFaultOf (state g old) (state g new) fault
  caused fault h was clean = h.cause c clean (now was) was.content (sym was.tree)

  pub crashed : (r : Answer) → IsTaken t u nodes (state g old) (state g new) r → (HasCleanDisk (state g new) → WasKept) → Survives (state g old) (state g new) (AreTablesAfter c nodes)
  crashed r h was = h.crash c (λ clean. let w = was clean in (now w, w.content, sym w.tree))

  -- it was taken, and after it the connection was noted anew
  pub record IsNotedAnew (last' : Held S) : Type 0 where
    pub kept : WasKept → HasCleanDisk (state g new) → IsKept g last' (Some u) known
    pub desk : WasKept → HasCleanDisk (state g new) → Branches (desk_seen g last) (desk_seen g last') taken nodes
    pub keeping : WasKept → HasCleanDisk (state g new) → keeping_seen g last' ≡ keeping_seen g last
    pub serves : WasKept → HasCleanDisk (state g new) → IsTrue (state g new).is_open

  pub noted_anew : (last' : Held S) → IsTaken t u nodes (state g old) (state g new) taken → IsForest u → last' ≡ new → IsNotedAnew last'
  noted_anew last' h forest is = record {
    kept = λ was clean.
        let d = done was clean in
        noted_kept g last' new (Some u) known (with_nodes u c) is (says was clean) (λ _ o. (d.1, d.2)) (branch_kept c u was.content forest) refl (record { sets = was.known.sets; place = was.known.place; next = was.known.next });
    desk = λ was clean.
        subst (λ k. Branches (desk_seen g last) (desk_in k) taken nodes) (sym (says was clean))
        (subst (λ n. branched n nodes ≡ Ok u) was.tree h.answer.0, refl);
    keeping = λ was clean. ap keeping_in (says was clean);
    serves = λ was clean. (done was clean).0;
  }
    where
      done : WasKept → HasCleanDisk (state g new) → IsTrue (state g new).is_open × IsDesk (state g new) × (seen (state g new) ≡ with_nodes u c)
      done was clean = h.ok c clean (now was) was.content (sym was.tree)

      says : WasKept → HasCleanDisk (state g new) → content_seen g last' ≡ with_nodes u c
      says was clean = ap (content_seen g) is ∙ content_is g new ∙ (done was clean).2

  -- it was refused
  pub refused_desk : (refusal : BranchFault) → branched t nodes ≡ Err refusal → WasKept → Branches (desk_seen g last) (desk_seen g last) (refused refusal) nodes
  refused_desk refusal is was = (subst (λ n. branched n nodes ≡ Err refusal) was.tree is, refl)
