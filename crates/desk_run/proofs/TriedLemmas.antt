-- What a crash leaves after parts of a script, one after another.
use Rattle.std.proofs.Common.{◌≡◌, ◌⊎◌, inl, inr, ℕ, ◌+◌, ◌-◌, arith, List, [], ◌∷◌, ◌++◌, Option, None, Result, Ok, Err}
use Rattle.std.proofs.Common.{sym, ap, subst, refl, ◌∙◌, append_assoc, map, Some, true}
use Rattle.version_nodes.specs.Branches.{branched}
use Rattle.version_nodes.specs.declared.fault.BranchFault.{BranchFault}
use Rattle.version_nodes.specs.Nodes.{Node}
use Rattle.bug_record.specs.Desk.{Desk}
use Rattle.base_faults.specs.declared.store_fault.End.{End}
use Rattle.base_faults.specs.declared.store_fault.End.TheVariants as ends
use Rattle.base_faults.specs.declared.store_fault.StoreFault.{StoreFault}
use Rattle.store_contract.specs.Crashes.{Holding}
use Rattle.store_contract.specs.Kept.{Keeping}
use Rattle.store_contract.specs.Message.{Entry, IsReceived}
use Rattle.store_contract.specs.Tried.{LeavesTried, tried_at}
use Rattle.store_contract.proofs.TriedLemmas.{tried_then}
use Rattle.control_lines.specs.declared.fault.ScriptFault.{ScriptFault}
use Rattle.control_lines.specs.Lines.{without_return, raw_lines}
use Rattle.control_lines.specs.Reading.{Known, Left}
use Rattle.desk_text.specs.declared.report_fault.ReportFault.{ReportFault}
use Rattle.desk_text.specs.declared.report_fault.ReportFault.TheVariants as reports
use Rattle.store_contract.specs.Store.{Holds, Branches}
use Rattle.store_contract.specs.Crashes.{LeavesBranched, with_tree, after_branch}
use Rattle.store_contract.specs.Tried.{tried_by}
use Rattle.message_directives.specs.Reports.{report_of, desk_after, IsReported}
use Rattle.message_directives.specs.Branches.{nodes_of, or_refused, branched_by, branch_of}
use Rattle.desk_run.specs.Script.{Part, Message, DirectiveLine, Report, Branch, Standing, directive_of, part_after, after_parts, script_of}
use Rattle.desk_run.specs.Script.{after_report, after_directive}
use Rattle.desk_run.specs.Script.{after_branch as branch_taken}
use Rattle.version_nodes.specs.Trees.{Ancestry}
use Rattle.desk_run.specs.Gathering.{parts_from}
use Rattle.desk_run.specs.Script.{is_directive}
use Rattle.desk_run.proofs.RunLemmas.{parts_directive}
use Rattle.desk_run.proofs.ScriptLemmas.{ReadTo, IsCut, IsNextLine, script_cut}
use Rattle.desk_run.specs.RefusedAndFailed.{fault_of_end}
use Rattle.desk_run.specs.Tried.{desk_within, IsNextIn, IsNextOf, LeavesParts}

after_no_parts : (a : Standing) → after_parts [] a ≡ a
unfolding after_parts
after_no_parts a = refl

after_both : (ps qs : List Part) (a : Standing) → after_parts (ps ++ qs) a ≡ after_parts qs (after_parts ps a)
unfolding after_parts
after_both [] qs a = refl
after_both (p ∷ ps) qs a = after_both ps qs (part_after p a)

-- the next line of one part
pub one_next : (part : Part) (a : Standing) (now next : Desk) → IsNextIn part a now next → IsNextOf (part ∷ []) a now next
one_next part a now next h = record {
  before = [];
  part = part;
  after = [];
  split = refl;
  within = subst (λ (s : Standing). IsNextIn part s now next) (sym (after_no_parts a)) h;
}

-- more parts would have followed
pub more_next : (ps qs : List Part) (a : Standing) (now next : Desk) → IsNextOf ps a now next → IsNextOf (ps ++ qs) a now next
more_next ps qs a now next h = record {
  before = h.before;
  part = h.part;
  after = h.after ++ qs;
  split = ap (λ (w : List Part). w ++ qs) h.split ∙ append_assoc h.before (h.part ∷ h.after) qs;
  within = h.within;
}

-- parts were carried out before it
pub then_next : (ps qs : List Part) (a b : Standing) (now next : Desk) → b ≡ after_parts ps a → IsNextOf qs b now next
    → IsNextOf (ps ++ qs) a now next
then_next ps qs a b now next e h = record {
  before = ps ++ h.before;
  part = h.part;
  after = h.after;
  split = ap (λ (w : List Part). ps ++ w) h.split ∙ sym (append_assoc ps h.before (h.part ∷ h.after));
  within = subst (λ (s : Standing). IsNextIn h.part s now next)
      (ap (after_parts h.before) e ∙ sym (after_both ps h.before a)) h.within;
}

-- the line at which the store failed in a message is the next one
pub received_next : (lines : List (List ℕ)) (s : Standing) (outcomes : List Entry) (end : End) (now : Desk)
    → IsReceived s.sender lines s.desk outcomes end now
    → (tried_at s.sender lines s.desk end now ≡ now) ⊎ IsNextOf (Message lines ∷ []) s now (tried_at s.sender lines s.desk end now)
received_next lines s outcomes ends.All now r = inl refl
received_next lines s outcomes ends.Stopped now r = inl refl
received_next lines s outcomes ends.TooManyUnreadable now r = inl refl
received_next lines s outcomes (ends.Store fault k) now r =
    let last : k ≡ k - 1 + 1 = omega (arith, r.0) in
    inr (one_next (Message lines) s now (tried_at s.sender lines s.desk (ends.Store fault k) now) (
      k - 1,
      sym (ap (λ m. m.desk) r.2.after),
      ap (λ (n : ℕ). desk_within lines n s) last,
    ))

-- a message that the store did not end has tried nothing else
pub received_settled : (lines : List (List ℕ)) (s : Standing) (end : End) (now : Desk) → fault_of_end end ≡ None
    → tried_at s.sender lines s.desk end now ≡ now
received_settled lines s ends.All now h = refl
received_settled lines s ends.Stopped now h = refl
received_settled lines s ends.TooManyUnreadable now h = refl
received_settled lines s (ends.Store fault k) now h = absurd (cc)

-- a report that was refused, or at which the store failed, left the desk
reported_same : (s : Standing) (p : List ℕ) (v : Option (List ℕ)) (sev t : List ℕ) (fault : ReportFault) (now : Desk)
    → IsReported s.sender p v sev t s.desk (Err fault) now → now ≡ s.desk
reported_same s p v sev t (reports.Store fault) now h = h.2
reported_same s p v sev t reports.BadPackage now h = h.1
reported_same s p v sev t reports.BadVersion now h = h.1
reported_same s p v sev t reports.BadSeverity now h = h.1
reported_same s p v sev t reports.BadTitle now h = h.1
reported_same s p v sev t reports.Full now h = h.1

report_desk : (s : Standing) (r : Result Desk ReportFault) → desk_after s.desk r ≡ (after_report r s).desk
report_desk s (Ok new) = refl
report_desk s (Err refusal) = refl

-- the report that the store was to take is the next line
pub reported_next : (line : List ℕ) (s : Standing) (p : List ℕ) (v : Option (List ℕ)) (sev t : List ℕ)
    (answer : Result ℕ ReportFault) (now : Desk) → directive_of line ≡ Report p v sev t
    → IsReported s.sender p v sev t s.desk answer now
    → (tried_by answer now (desk_after s.desk (report_of s.desk s.sender p v sev t)) ≡ now)
    ⊎ IsNextOf (DirectiveLine line ∷ []) s now (tried_by answer now (desk_after s.desk (report_of s.desk s.sender p v sev t)))
reported_next line s p v sev t (Ok number) now e h = inl refl
reported_next line s p v sev t (Err fault) now e h =
    inr (one_next (DirectiveLine line) s now (desk_after s.desk (report_of s.desk s.sender p v sev t)) (
      reported_same s p v sev t fault now h,
      report_desk s (report_of s.desk s.sender p v sev t) ∙ sym (ap (λ x. (after_directive x s).desk) e),
    ))

branch_desk : (s : Standing) (r : Result Ancestry BranchFault) → with_tree s.desk r ≡ (branch_taken (or_refused r) s).desk
branch_desk s (Ok tree) = refl
branch_desk s (Err refusal) = refl

branch_next : (line : List ℕ) (names : List (List ℕ)) (nodes : List Node) (s : Standing) → directive_of line ≡ Branch names
    → nodes_of names ≡ Some nodes → after_branch s.desk nodes ≡ (after_directive (directive_of line) s).desk
unfolding branch_of
branch_next line names nodes s e n =
    let taken : branch_of s.desk.tree names ≡ or_refused (branched s.desk.tree nodes) = ap (branched_by s.desk.tree) n in
    branch_desk s (branched s.desk.tree nodes) ∙ sym (ap (λ x. (branch_taken x s).desk) taken)
    ∙ sym (ap (λ x. (after_directive x s).desk) e)

module _ {S : Type 0} (l : S → Holding → Holding → Type 0) where
  -- nothing was tried in vain
  pub parts_settled : {T : Type 0} (a b : S) (k : Keeping) (ps : List Part) (s : Standing) (now : Desk) (r : Result T ScriptFault)
      → LeavesTried l a b k s.desk now now → LeavesParts l a b k ps s now r
  parts_settled a b k ps s now (Ok done) x = x
  parts_settled a b k ps s now (Err fault) x = (now, inl refl, x)

  next_more : (ps qs : List Part) (s : Standing) (now next : Desk) → (next ≡ now) ⊎ IsNextOf ps s now next
      → (next ≡ now) ⊎ IsNextOf (ps ++ qs) s now next
  next_more ps qs s now next (inl same) = inl same
  next_more ps qs s now next (inr is) = inr (more_next ps qs s now next is)

  next_then : (ps qs : List Part) (s b : Standing) (now next : Desk) → b ≡ after_parts ps s → (next ≡ now) ⊎ IsNextOf qs b now next
      → (next ≡ now) ⊎ IsNextOf (ps ++ qs) s now next
  next_then ps qs s b now next e (inl same) = inl same
  next_then ps qs s b now next e (inr is) = inr (then_next ps qs s b now next e is)

  -- parts that would have followed
  pub parts_more : {T : Type 0} (a b : S) (k : Keeping) (ps qs : List Part) (s : Standing) (now : Desk) (r : Result T ScriptFault)
      → LeavesParts l a b k ps s now r → LeavesParts l a b k (ps ++ qs) s now r
  parts_more a b k ps qs s now (Ok done) x = x
  parts_more a b k ps qs s now (Err fault) x = (x.0, next_more ps qs s now x.0 x.1, x.2)

  -- parts after others that were carried out
  pub parts_then : {T : Type 0} (a b c : S) (k m : Keeping) (ps qs : List Part) (s t : Standing) (now : Desk)
      (r : Result T ScriptFault) → m ≡ k → t ≡ after_parts ps s → LeavesTried l a b k s.desk t.desk t.desk
      → LeavesParts l b c m qs t now r → LeavesParts l a c k (ps ++ qs) s now r
  parts_then a b c k m ps qs s t now (Ok done) same e x y = tried_then l a b c k m s.desk t.desk now now same x y
  parts_then a b c k m ps qs s t now (Err fault) same e x y =
      (y.0, next_then ps qs s t now y.0 e y.1, tried_then l a b c k m s.desk t.desk now y.0 same x y.2)

  parts_are : {T : Type 0} (a b : S) (k : Keeping) (ps qs : List Part) (s : Standing) (now : Desk) (r : Result T ScriptFault)
      → ps ≡ qs → LeavesParts l a b k ps s now r → LeavesParts l a b k qs s now r
  parts_are a b k ps qs s now r same x = subst (λ (w : List Part). LeavesParts l a b k w s now r) same x

  -- a fault in the message before a directive
  pub failed_at_message : (a b : S) (k : Keeping) (gathered : List (List ℕ)) (line : List ℕ) (lines : List (List ℕ))
      (s : Standing) (now : Desk) (fault : ScriptFault) → is_directive line ≡ true
      → LeavesParts {T = Unit {0}} l a b k (Message gathered ∷ []) s now (Err fault)
      → LeavesParts {T = Unit {0}} l a b k (parts_from gathered (line ∷ lines)) s now (Err fault)
  failed_at_message a b k gathered line lines s now fault e x =
      let rest = DirectiveLine line ∷ parts_from [] lines in
      parts_are {T = Unit {0}} a b k (Message gathered ∷ rest) (parts_from gathered (line ∷ lines)) s now (Err fault)
      (sym (parts_directive gathered line lines e))
      (parts_more {T = Unit {0}} a b k (Message gathered ∷ []) rest s now (Err fault) x)

  -- a fault in a directive
  pub failed_at_directive : (a b c : S) (k m : Keeping) (gathered : List (List ℕ)) (line : List ℕ) (lines : List (List ℕ))
      (s t : Standing) (now : Desk) (fault : ScriptFault) → is_directive line ≡ true → m ≡ k
      → t ≡ after_parts (Message gathered ∷ []) s → LeavesTried l a b k s.desk t.desk t.desk
      → LeavesParts {T = Unit {0}} l b c m (DirectiveLine line ∷ []) t now (Err fault)
      → LeavesParts {T = Unit {0}} l a c k (parts_from gathered (line ∷ lines)) s now (Err fault)
  failed_at_directive a b c k m gathered line lines s t now fault e same after x y =
      let rest = parts_from [] lines in
      parts_are {T = Unit {0}} a c k (Message gathered ∷ DirectiveLine line ∷ rest) (parts_from gathered (line ∷ lines)) s now
      (Err fault) (sym (parts_directive gathered line lines e))
      (parts_more {T = Unit {0}} a c k (Message gathered ∷ DirectiveLine line ∷ []) rest s now (Err fault)
      (parts_then {T = Unit {0}} a b c k m (Message gathered ∷ []) (DirectiveLine line ∷ []) s t now (Err fault) same after x y))

  -- a message that ended in a fault of the script
  pub received_failed : (a b : S) (k : Keeping) (lines : List (List ℕ)) (s : Standing) (outcomes : List Entry) (end : End)
      (now : Desk) (fault : ScriptFault) → IsReceived s.sender lines s.desk outcomes end now
      → LeavesTried l a b k s.desk now (tried_at s.sender lines s.desk end now)
      → LeavesParts {T = Unit {0}} l a b k (Message lines ∷ []) s now (Err fault)
  received_failed a b k lines s outcomes end now fault r x =
      (tried_at s.sender lines s.desk end now, received_next lines s outcomes end now r, x)

  pub reported_failed : (a b : S) (k : Keeping) (line : List ℕ) (s : Standing) (p : List ℕ) (v : Option (List ℕ))
      (sev t : List ℕ) (answer : Result ℕ ReportFault) (now : Desk) (fault : ScriptFault) → directive_of line ≡ Report p v sev t
      → IsReported s.sender p v sev t s.desk answer now
      → LeavesTried l a b k s.desk now (tried_by answer now (desk_after s.desk (report_of s.desk s.sender p v sev t)))
      → LeavesParts {T = Unit {0}} l a b k (DirectiveLine line ∷ []) s now (Err fault)
  reported_failed a b k line s p v sev t answer now fault e r x =
      (tried_by answer now (desk_after s.desk (report_of s.desk s.sender p v sev t)), reported_next line s p v sev t answer now e r, x)

  pub branched_failed : (a b : S) (k : Keeping) (line : List ℕ) (names : List (List ℕ)) (nodes : List Node) (s : Standing)
      (now : Desk) (answer : Result (Result (Unit {0}) BranchFault) StoreFault) (fault : ScriptFault)
      → directive_of line ≡ Branch names → nodes_of names ≡ Some nodes → Branches s.desk now answer nodes
      → LeavesBranched l a b (after_branch s.desk nodes, k) answer
      → LeavesParts {T = Unit {0}} l a b k (DirectiveLine line ∷ []) s now (Err fault)
  branched_failed a b k line names nodes s now (Ok (Ok done)) fault e n h x =
      let same : after_branch s.desk nodes ≡ now = ap (with_tree s.desk) h.0 ∙ sym h.1 in
      (now, inl refl, λ alone. subst (λ (z : Desk). l b (z, k) (z, k)) same x)
  branched_failed a b k line names nodes s now (Ok (Err refusal)) fault e n h x =
      (now, inl refl, λ alone. subst (λ (z : Desk). l b (z, k) (z, k)) (sym h.1) (x (s.desk, k) (s.desk, k) alone))
  branched_failed a b k line names nodes s now (Err told) fault e n h x = (
    after_branch s.desk nodes,
    inr (one_next (DirectiveLine line) s now (after_branch s.desk nodes) (h, branch_next line names nodes s e n)),
    λ alone. subst (λ (z : Desk). l b (z, k) (after_branch s.desk nodes, k)) (sym h) (x (s.desk, k) alone),
  )

  -- a fault in a line that was read
  pub tried_in_line : {T : Type 0} {r0 r1 r2 : Option (List ℕ)} (a b c : S) (k m : Keeping) (texts : List (List ℕ))
      (before : List Part) (g : List (List ℕ)) (source unused line : List ℕ) (s t : Standing) (now : Desk)
      (r : Result T ScriptFault) → m ≡ k → t ≡ after_parts before s → LeavesTried l a b k s.desk t.desk t.desk
      → Left r0 r1 (λ xs ys. ReadTo texts xs (source ++ ys))
      → Left r1 r2 (λ ys zs. IsNextLine line (source ++ ys) (unused ++ zs)) → IsCut texts before g
      → ((lines : List (List ℕ)) → LeavesParts l b c m (parts_from g (line ∷ lines)) t now r)
      → Known r0 (λ xs. LeavesParts l a c k (script_of xs) s now r)
  tried_in_line a b c k m texts before g source unused line s t now r same e left read piece cut f = record {
    known = λ xs is.
        let u = read.known xs is in
        let v = piece.known u.0 u.1 in
        let p = v.2 in
        let rest = map without_return (raw_lines (unused ++ v.0)) in
        let here : line ∷ rest ≡ map without_return (raw_lines (source ++ u.0)) =
        ap (λ (w : List ℕ). w ∷ rest) p.3 ∙ sym (ap (map without_return) p.1) in
        subst (λ (ps : List Part). LeavesParts l a c k ps s now r) (sym (script_cut texts before g xs (source ++ u.0) u.2 cut))
        (parts_then a b c k m before (parts_from g (map without_return (raw_lines (source ++ u.0)))) s t now r same e left
        (subst (λ (ls : List (List ℕ)). LeavesParts l b c m (parts_from g ls) t now r) here (f rest)));
  }

  -- the end of the input
  pub tried_at_end : {T : Type 0} {r0 r2 : Option (List ℕ)} (a b c : S) (k m : Keeping) (texts : List (List ℕ))
      (before : List Part) (g : List (List ℕ)) (s t : Standing) (now : Desk) (r : Result T ScriptFault) → m ≡ k
      → t ≡ after_parts before s → LeavesTried l a b k s.desk t.desk t.desk
      → Left r0 r2 (λ xs zs. (rest : List ℕ) × ReadTo texts xs rest × (raw_lines rest ≡ [])) → IsCut texts before g
      → LeavesParts l b c m (Message g ∷ []) t now r → Known r0 (λ xs. LeavesParts l a c k (script_of xs) s now r)
  tried_at_end a b c k m texts before g s t now r same e left read cut f = record {
    known = λ xs is.
        let u = read.known xs is in
        let rest = u.2.0 in
        subst (λ (ps : List Part). LeavesParts l a c k ps s now r) (sym (script_cut texts before g xs rest u.2.1 cut))
        (parts_then a b c k m before (parts_from g (map without_return (raw_lines rest))) s t now r same e left
        (subst (λ (ls : List (List ℕ)). LeavesParts l b c m (parts_from g (map without_return ls)) t now r) (sym u.2.2) f));
  }

-- the same of each of them, at one call
pub holds_all : {S X : Type 0} {k h : S → Type 0} {a b : S} {P : X → Type 0} → X → ((x : X) → Holds k h a b (P x))
    → Holds k h a b ((x : X) → P x)
holds_all x f = record { honest = (f x).honest; kept = (f x).kept; fact = λ u w y. (f y).fact u w }
