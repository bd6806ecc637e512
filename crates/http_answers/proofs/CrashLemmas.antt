-- What a crash leaves once a request is answered, out of what it leaves after the store's calls.
use Rattle.std.proofs.Common.{◌≡◌, ◌-◌, ◌+◌, ◌<◌, inl, inr, ℕ, List, Option, Some, None, Result, Ok, Err}
use Rattle.std.proofs.Common.{refl, sym, ap, ◌∙◌, subst, arith}
use Rattle.version_nodes.specs.Nodes.{Node}
use Rattle.version_nodes.specs.Trees.{Ancestry}
use Rattle.version_nodes.specs.Branches.{branched}
use Rattle.version_nodes.specs.declared.fault.BranchFault.{BranchFault}
use Rattle.bug_record.specs.Desk.{Desk}
use Rattle.base_faults.specs.declared.store_fault.StoreFault.{StoreFault}
use Rattle.base_faults.specs.declared.store_fault.End.{End}
use Rattle.base_faults.specs.declared.store_fault.End.TheVariants as ends
use Rattle.desk_text.specs.declared.report_fault.ReportFault.{ReportFault}
use Rattle.desk_text.specs.declared.report_fault.ReportFault.TheVariants as reports
use Rattle.control_lines.specs.Lines.{lines_of}
use Rattle.http_routes.specs.Members.{Report, Control}
use Rattle.store_contract.specs.Store.{Holds, Asks, Answers, Branches}
use Rattle.store_contract.specs.Crashes.{Holding, LeavesBranched, with_tree, after_branch}
use Rattle.store_contract.specs.Tried.{LeavesTried, tried_by, tried_at}
use Rattle.store_contract.specs.Kept.{Keeping, IsResumed, outcomes_kept, outcomes_in, kept_with}
use Rattle.store_contract.specs.Message.{Entry, Machine, IsReceived}
use Rattle.store_contract.specs.declared.outcomes_so_far.Received.{Received}
use Rattle.store_contract.proofs.TriedLemmas.{tried_then, asked_tried, holds_both_here}
use Rattle.store_contract.proofs.HoldsLemmas.{holds_then, holds_weaker}
use Rattle.message_receiving.specs.Once.{IsOnce}
use Rattle.message_receiving.specs.Crashes.{held_by, tried_once, LeavesOnce}
use Rattle.message_receiving.specs.declared.once.OnceFault.{OnceFault}
use Rattle.message_receiving.specs.declared.once.OnceFault.TheVariants as faults
use Rattle.message_directives.specs.Branches.{nodes_of, branched_by, or_refused, branch_of}
use Rattle.message_directives.specs.Reports.{report_of, desk_after, IsReported}
use Rattle.http_requests.specs.Answer.{Answer}
use Rattle.http_requests.specs.Requests.{Asked, Always, Once, PostBug, PostControl, PostBranch}
use Rattle.http_requests.specs.Steps.{Fails}
use Rattle.http_requests.specs.declared.reply.Reply.{Reply}
use Rattle.http_answers.specs.Answers.{answered_report, answered_branch}
use Rattle.http_answers.specs.Cases.{RefusesReport, TellsFault, AnswersEnd}
use Rattle.http_answers.specs.Crashes.{holding_at, holding_once_at, IsNextOf, IsTried, LeavesAnswered}

-- only what is held now was tried
pub tried_now : (asked : Asked) (fault : Option StoreFault) (before now : Holding) → IsTried asked fault before now now
tried_now asked None before now = refl
tried_now asked (Some fault) before now = inl refl

-- the next step was tried, at a fault
pub tried_next : (asked : Asked) (fault : StoreFault) (met : Option StoreFault) (before now next : Holding) → met ≡ Some fault
    → IsNextOf asked before now next → IsTried asked met before now next
tried_next asked fault met before now next is x = subst (λ (f : Option StoreFault). IsTried asked f before now next) (sym is) (inr x)

-- the same of a request that is said in another way
pub asked_as : {S : Type 0} {k h : S → Type 0} {l : S → Holding → Holding → Type 0} {a b : S} (asked other : Asked) (before now : Holding)
    (fault : Option StoreFault) → asked ≡ other → Holds k h a b (LeavesAnswered l a b other before fault now)
    → Holds k h a b (LeavesAnswered l a b asked before fault now)
asked_as {k} {h} {l} {a} {b} asked other before now fault is x =
    subst (λ (any : Asked). Holds k h a b (LeavesAnswered l a b any before fault now)) (sym is) x

module _ {S : Type 0} {k h : S → Type 0} (l : S → Holding → Holding → Type 0) where
  -- the store was not called
  pub uncalled_left : (a : S) (asked : Asked) (before : Holding) (fault : Option StoreFault)
      → Holds k h a a (LeavesAnswered l a a asked before fault before)
  uncalled_left a asked before fault = record {
    honest = λ w. w;
    kept = λ u w. u;
    fact = λ u w. record { tried = before; is_tried = tried_now asked fault before before; left = λ alone. alone };
  }

  -- calls that tried this, while what is kept of messages stays
  pub answered_left : {Q : Type 0} (a b : S) (asked : Asked) (fault : Option StoreFault) (kept keeps : Keeping) (d e tried : Desk)
      → Holds k h a b (LeavesTried l a b kept d e tried) → Holds k h a b (keeps ≡ kept) → Holds k h a b Q
      → (Q → IsTried asked fault (d, kept) (e, kept) (tried, kept))
      → Holds k h a b (LeavesAnswered l a b asked (d, kept) fault (e, keeps))
  answered_left a b asked fault kept keeps d e tried x stays facts is = record {
    honest = x.honest;
    kept = x.kept;
    fact = λ u w.
        subst (λ (z : Keeping). LeavesAnswered l a b asked (d, kept) fault (e, z)) (sym (stays.fact u w))
        (record { tried = (tried, kept); is_tried = is (facts.fact u w); left = x.fact u w });
  }

  -- a question
  pub question_left : (a b : S) (asked : Asked) (fault : Option StoreFault) (kept keeps : Keeping) (d e : Desk)
      → Holds k h a b (LeavesTried l a b kept d e e) → keeps ≡ kept
      → Holds k h a b (LeavesAnswered l a b asked (d, kept) fault (e, keeps))
  question_left a b asked fault kept keeps d e x stays =
      answered_left a b asked fault kept keeps d e e x (holds_weaker x (λ p. stays)) x (λ p. tried_now asked fault (d, kept) (e, kept))

  -- what one question of the store leaves, whatever it was answered
  pub asked_left : {T : Type 0} → ((s : S) (x y : Holding) → l s x x → l s x y) → (a b : S) (asked : Asked) (fault : Option StoreFault)
      (kept keeps : Keeping) (d e : Desk) (r : Result T StoreFault) (P : T → Type 0) → Asks k h l a b (Answers d e r P) → keeps ≡ kept
      → Holds k h a b (LeavesAnswered l a b asked (d, kept) fault (e, keeps))
  asked_left either a b asked fault kept keeps d e r P x stays =
      question_left a b asked fault kept keeps d e (asked_tried either a b kept d e e r P x) stays

-- the desk stays at a question
answered_same : {T : Type 0} (d e : Desk) (r : Result T StoreFault) (P : T → Type 0) → Answers d e r P → e ≡ d
answered_same d e (Ok answer) P p = p.1
answered_same d e (Err fault) P p = p

-- the desk after a report, as its answer has it
desk_is : (r : Result Desk ReportFault) (d : Desk) → desk_after d r ≡ (answered_report r d).1
desk_is (Ok new) d = refl
desk_is (Err fault) d = refl

-- how a report is answered that came to this
abbrev pub AnswersReport : Result ℕ ReportFault → Reply → Type 0
AnswersReport (Ok number) reply = Unit {0}
AnswersReport (Err fault) reply = RefusesReport fault reply

-- a report that was refused tried nothing
refused_tried : (asked : Asked) (met : Option StoreFault) (kept : Keeping) (d f : Desk) (fault : ReportFault) (r : Result Desk ReportFault)
    → (r ≡ Err fault) × (f ≡ d) → IsTried asked met (d, kept) (f, kept) (desk_after d r, kept)
refused_tried asked met kept d f fault r h =
    subst (λ (z : Desk). IsTried asked met (d, kept) (f, kept) (z, kept)) (h.1 ∙ sym (ap (desk_after d) h.0))
    (tried_now asked met (d, kept) (f, kept))

-- what a report tried
reported_tried : (sender name : List ℕ) (version : Option (List ℕ)) (severity title : List ℕ) (kept : Keeping) (d f : Desk)
    (r : Result ℕ ReportFault) (reply : Reply) → IsReported sender name version severity title d r f → AnswersReport r reply
    → IsTried
    (Always (PostBug (record { from = sender; «package» = name; severity = severity; title = title; version = version })))
    reply.fault (d, kept) (f, kept) (tried_by r f (desk_after d (report_of d sender name version severity title)), kept)
reported_tried sender name version severity title kept d f (Ok number) reply h a =
    let report : Report = record { from = sender; «package» = name; severity = severity; title = title; version = version } in
    tried_now (Always (PostBug report)) reply.fault (d, kept) (f, kept)
reported_tried sender name version severity title kept d f (Err (reports.Store fault)) reply h a =
    let report : Report = record { from = sender; «package» = name; severity = severity; title = title; version = version } in
    tried_next (Always (PostBug report)) fault reply.fault (d, kept) (f, kept)
    (desk_after d (report_of d sender name version severity title), kept) a.1
    ((λ i. (h.2 i, kept)), (λ i. (desk_is (report_of d sender name version severity title) d i, kept)))
reported_tried sender name version severity title kept d f (Err reports.BadPackage) reply h a =
    let report : Report = record { from = sender; «package» = name; severity = severity; title = title; version = version } in
    refused_tried (Always (PostBug report)) reply.fault kept d f reports.BadPackage (report_of d sender name version severity title) h
reported_tried sender name version severity title kept d f (Err reports.BadVersion) reply h a =
    let report : Report = record { from = sender; «package» = name; severity = severity; title = title; version = version } in
    refused_tried (Always (PostBug report)) reply.fault kept d f reports.BadVersion (report_of d sender name version severity title) h
reported_tried sender name version severity title kept d f (Err reports.BadSeverity) reply h a =
    let report : Report = record { from = sender; «package» = name; severity = severity; title = title; version = version } in
    refused_tried (Always (PostBug report)) reply.fault kept d f reports.BadSeverity (report_of d sender name version severity title) h
reported_tried sender name version severity title kept d f (Err reports.BadTitle) reply h a =
    let report : Report = record { from = sender; «package» = name; severity = severity; title = title; version = version } in
    refused_tried (Always (PostBug report)) reply.fault kept d f reports.BadTitle (report_of d sender name version severity title) h
reported_tried sender name version severity title kept d f (Err reports.Full) reply h a =
    let report : Report = record { from = sender; «package» = name; severity = severity; title = title; version = version } in
    refused_tried (Always (PostBug report)) reply.fault kept d f reports.Full (report_of d sender name version severity title) h

-- the ancestry's desk after a branch of words, as its answer has it
branched_is : (d : Desk) (r : Result Ancestry BranchFault) → with_tree d r ≡ (answered_branch (or_refused r) d).1
branched_is d (Ok tree) = refl
branched_is d (Err fault) = refl

-- the desk after a branch of words, whose nodes are these
branch_desk : (words : List (List ℕ)) (nodes : List Node) (d : Desk) → nodes_of words ≡ Some nodes
    → after_branch d nodes ≡ (answered_branch (branch_of d.tree words) d).1
unfolding branch_of
branch_desk words nodes d is =
    branched_is d (branched d.tree nodes)
    ∙ ap (λ (read : Option (List Node)). (answered_branch (branched_by d.tree read) d).1) (sym is)

-- how a branch is answered that came to this
abbrev pub AnswersBranch : Result (Result (Unit {0}) BranchFault) StoreFault → Reply → Type 0
AnswersBranch (Ok done) reply = Unit {0}
AnswersBranch (Err fault) reply = Fails fault reply

-- what a branch tried
branch_tried : (words : List (List ℕ)) (nodes : List Node) (kept : Keeping) (d e : Desk) (r : Result (Result (Unit {0}) BranchFault) StoreFault)
    (reply : Reply) → nodes_of words ≡ Some nodes → Branches d e r nodes → AnswersBranch r reply
    → IsTried (Always (PostBranch words)) reply.fault (d, kept) (e, kept) (tried_by r e (after_branch d nodes), kept)
branch_tried words nodes kept d e (Ok done) reply is h a = tried_now (Always (PostBranch words)) reply.fault (d, kept) (e, kept)
branch_tried words nodes kept d e (Err fault) reply is h a =
    tried_next (Always (PostBranch words)) fault reply.fault (d, kept) (e, kept) (after_branch d nodes, kept) a.1
    ((λ i. (h i, kept)), (λ i. (branch_desk words nodes d is i, kept)))

-- what a crash leaves after a branch
branch_leaves : {S : Type 0} (l : S → Holding → Holding → Type 0) (a b : S) (kept : Keeping) (d e : Desk) (nodes : List Node)
    (r : Result (Result (Unit {0}) BranchFault) StoreFault) → Branches d e r nodes
    → LeavesBranched l a b (after_branch d nodes, kept) r → LeavesTried l a b kept d e (tried_by r e (after_branch d nodes))
branch_leaves l a b kept d e nodes (Ok (Ok done)) h x = λ alone.
    subst (λ (z : Desk). l b (z, kept) (z, kept)) (ap (with_tree d) h.0 ∙ sym h.1) x
branch_leaves l a b kept d e nodes (Ok (Err refusal)) h x = λ alone.
    subst (λ (z : Desk). l b (z, kept) (z, kept)) (sym h.1) (x (d, kept) (d, kept) alone)
branch_leaves l a b kept d e nodes (Err fault) h x = λ alone.
    subst (λ (z : Desk). l b (z, kept) (after_branch d nodes, kept)) (sym h) (x (d, kept) alone)

-- a fault at which a message ended is told
fault_told : (answer : Answer) (fault : StoreFault) (reply : Reply) → TellsFault answer fault reply → reply.fault ≡ Some fault
fault_told answer fault reply (inl t) = t.2
fault_told answer fault reply (inr t) = t.1

-- a line and the one before it
line_before : (k : ℕ) → 0 < k → k ≡ k - 1 + 1
line_before k some = omega arith

-- what a message tried
message_tried : (c : Control) (kept : Keeping) (d e : Desk) (outcomes : List Entry) (end : End) (reply : Reply)
    → IsReceived c.from (lines_of c.message) d outcomes end e → AnswersEnd outcomes end (lines_of c.message) reply
    → IsTried (Always (PostControl c)) reply.fault (d, kept) (e, kept) (tried_at c.from (lines_of c.message) d end e, kept)
message_tried c kept d e outcomes ends.All reply h a =
    tried_now (Always (PostControl c)) reply.fault (d, kept) (e, kept)
message_tried c kept d e outcomes ends.Stopped reply h a =
    tried_now (Always (PostControl c)) reply.fault (d, kept) (e, kept)
message_tried c kept d e outcomes ends.TooManyUnreadable reply h a =
    tried_now (Always (PostControl c)) reply.fault (d, kept) (e, kept)
message_tried c kept d e outcomes (ends.Store fault k) reply h a =
    tried_next (Always (PostControl c)) fault reply.fault (d, kept) (e, kept) (holding_at c (d, kept) k) (fault_told _ fault reply a)
    (k - 1, (λ i. (sym (ap (λ (m : Machine). m.desk) h.2.after) i, kept)), ap (holding_at c (d, kept)) (line_before k h.0))

-- what a message with an id tried
once_tried : (id : List ℕ) (c : Control) (kept keeps : Keeping) (d e : Desk) (outcomes : List Entry) (end : End) (reply : Reply)
    → IsResumed c.from (lines_of c.message) (outcomes_kept (kept id)) d outcomes end e
    → keeps ≡ kept_with id c.from c.message (outcomes_in outcomes) kept → AnswersEnd outcomes end (lines_of c.message) reply
    → IsTried (Once id c) reply.fault (d, kept) (e, keeps) (tried_once id c.from c.message (d, kept) end (e, keeps))
once_tried id c kept keeps d e outcomes ends.All reply h same a =
    tried_now (Once id c) reply.fault (d, kept) (e, keeps)
once_tried id c kept keeps d e outcomes ends.Stopped reply h same a =
    tried_now (Once id c) reply.fault (d, kept) (e, keeps)
once_tried id c kept keeps d e outcomes ends.TooManyUnreadable reply h same a =
    tried_now (Once id c) reply.fault (d, kept) (e, keeps)
once_tried id c kept keeps d e outcomes (ends.Store fault k) reply h same a =
    tried_next (Once id c) fault reply.fault (d, kept) (e, keeps) (holding_once_at id c (d, kept) k) (fault_told _ fault reply a) (
      k - 1,
      (λ i. (e, same i)) ∙ ap (held_by id c.from c.message kept) (sym h.3.after),
      ap (holding_once_at id c (d, kept)) (line_before k h.0),
    )

-- a message with an id that was not taken changes nothing
not_taken : (id sender message : List ℕ) (d e : Desk) (kept keeps : Keeping) (fault : OnceFault)
    → IsOnce id sender message d kept (Err fault) e keeps → (e ≡ d) × (keeps ≡ kept)
not_taken id sender message d e kept keeps faults.BadId h = (h.1, h.2)
not_taken id sender message d e kept keeps faults.Reused h = (h.2, h.3)
not_taken id sender message d e kept keeps (faults.Store fault) h = (h.1, h.2)

module _ {S : Type 0} {k h : S → Type 0} (l : S → Holding → Holding → Type 0) where
  -- a question for the next number, and then a report
  pub report_left : ((s : S) (x y : Holding) → l s x x → l s x y) → (a b c : S) (sender name : List ℕ) (version : Option (List ℕ))
      (severity title : List ℕ) (kept between keeps : Keeping) (d e f : Desk) (next : Result ℕ StoreFault) (P : ℕ → Type 0)
      (r : Result ℕ ReportFault) (reply : Reply) → Asks k h l a b (Answers d e next P) → between ≡ kept
      → Holds k h b c (IsReported sender name version severity title e r f) → Holds k h b c (keeps ≡ between)
      → Holds k h b c (LeavesTried l b c between e f (tried_by r f (desk_after e (report_of e sender name version severity title))))
      → AnswersReport r reply
      → Holds k h a c (LeavesAnswered l a c
      (Always (PostBug (record { from = sender; «package» = name; severity = severity; title = title; version = version })))
      (d, kept) reply.fault (f, keeps))
  report_left either a b c sender name version severity title kept between keeps d e f next P r reply asks same is stays left told =
      let tried : Desk = tried_by r f (desk_after e (report_of e sender name version severity title)) in
      let report : Report = record { from = sender; «package» = name; severity = severity; title = title; version = version } in
      let first = asked_tried either a b kept d e e next P asks in
      let facts : Holds k h a c ((e ≡ d) × IsReported sender name version severity title e r f) =
      holds_then asks.holds is (λ p q. (answered_same d e next P p, q)) in
      answered_left l a c (Always (PostBug report)) reply.fault kept keeps d f tried
      (holds_then first left (tried_then l a b c kept between d e f tried same)) (holds_then first stays (λ p q. q ∙ same)) facts
      (λ p. subst (λ (z : Desk). IsTried (Always (PostBug report)) reply.fault (z, kept) (f, kept) (tried, kept)) p.0
      (reported_tried sender name version severity title kept e f r reply p.1 told))

  -- a branch of words, whose nodes are these
  pub branch_left : (a b : S) (words : List (List ℕ)) (nodes : List Node) (kept keeps : Keeping) (d e : Desk)
      (r : Result (Result (Unit {0}) BranchFault) StoreFault) (reply : Reply) → nodes_of words ≡ Some nodes
      → Holds k h a b (Branches d e r nodes) → Holds k h a b (keeps ≡ kept)
      → Holds k h a b (LeavesBranched l a b (after_branch d nodes, kept) r) → AnswersBranch r reply
      → Holds k h a b (LeavesAnswered l a b (Always (PostBranch words)) (d, kept) reply.fault (e, keeps))
  branch_left a b words nodes kept keeps d e r reply are is stays left told =
      answered_left l a b (Always (PostBranch words)) reply.fault kept keeps d e (tried_by r e (after_branch d nodes))
      (holds_weaker (holds_both_here is left) (λ p. branch_leaves l a b kept d e nodes r p.0 p.1)) stays is
      (λ p. branch_tried words nodes kept d e r reply are p told)

  -- a message
  pub message_left : (a b : S) (c : Control) (kept keeps : Keeping) (d e : Desk) (outcomes : List Entry) (end : End) (reply : Reply)
      → Holds k h a b (IsReceived c.from (lines_of c.message) d outcomes end e) → Holds k h a b (keeps ≡ kept)
      → Holds k h a b (LeavesTried l a b kept d e (tried_at c.from (lines_of c.message) d end e))
      → AnswersEnd outcomes end (lines_of c.message) reply
      → Holds k h a b (LeavesAnswered l a b (Always (PostControl c)) (d, kept) reply.fault (e, keeps))
  message_left a b c kept keeps d e outcomes end reply is stays left told =
      answered_left l a b (Always (PostControl c)) reply.fault kept keeps d e (tried_at c.from (lines_of c.message) d end e) left stays is
      (λ p. message_tried c kept d e outcomes end reply p told)

  -- a message with an id that was taken
  pub once_left : (a b : S) (id : List ℕ) (c : Control) (kept keeps : Keeping) (d e : Desk) (r : Received) (reply : Reply)
      → Holds k h a b (IsOnce id c.from c.message d kept (Ok r) e keeps)
      → Holds k h a b (LeavesOnce l a b id c.from c.message (d, kept) (Ok r) (e, keeps))
      → AnswersEnd r.outcomes r.end (lines_of c.message) reply
      → Holds k h a b (LeavesAnswered l a b (Once id c) (d, kept) reply.fault (e, keeps))
  once_left a b id c kept keeps d e r reply is left told =
      holds_weaker (holds_both_here is left)
      (λ p. record {
        tried = tried_once id c.from c.message (d, kept) r.end (e, keeps);
        is_tried = once_tried id c kept keeps d e r.outcomes r.end reply p.0.2 p.0.3 told;
        left = p.1;
      })

  -- a message with an id that was not taken
  pub once_failed : (a b : S) (id sender message : List ℕ) (asked : Asked) (met : Option StoreFault) (kept keeps : Keeping) (d e : Desk)
      (r : Result Received OnceFault) (fault : OnceFault) → r ≡ Err fault
      → Holds k h a b (IsOnce id sender message d kept r e keeps)
      → Holds k h a b (LeavesOnce l a b id sender message (d, kept) r (e, keeps))
      → Holds k h a b (LeavesAnswered l a b asked (d, kept) met (e, keeps))
  once_failed a b id sender message asked met kept keeps d e r fault failed is left =
      holds_weaker (holds_both_here is left)
      (λ p.
      let same = not_taken id sender message d e kept keeps fault
      (subst (λ (z : Result Received OnceFault). IsOnce id sender message d kept z e keeps) failed p.0) in
      let stays = subst (λ (z : Result Received OnceFault). LeavesOnce l a b id sender message (d, kept) z (e, keeps)) failed p.1 in
      record {
        tried = (e, keeps);
        is_tried = tried_now asked met (d, kept) (e, keeps);
        left = λ alone. subst (λ (z : Holding). l b z z) (λ i. (sym same.0 i, sym same.1 i)) (stays (d, kept) (d, kept) alone);
      })
