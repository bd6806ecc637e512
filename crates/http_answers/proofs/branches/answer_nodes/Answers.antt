use Rattle.std.proofs.Common.{map, string_bytes, Result, Ok, Err, subst}
use Rattle.version_nodes.specs.declared.fault.BranchFault.{BranchFault}
use Rattle.store_contract.specs.Store.{Holds, Branches}
use Rattle.store_contract.proofs.HoldsLemmas.{holds_weaker}
use Rattle.http_answers.proofs.AnswerLemmas.{branch_taken, branch_refused}
use Rattle.http_answers.proofs.CrashLemmas.{branch_left}
use Rattle.http_answers.proofs.branches.answer_nodes.Goals as goal

pub returns-in_Ok-Ok-store-clause-answer : goal.returns-in_Ok-Ok-store-clause-answer
returns-in_Ok-Ok-store-clause-answer g c =
    let old = g.S.Records.desk c.args.store.now in
    let new = g.S.Records.desk c.branch-store.new.self in
    holds_weaker {P = Branches old new (Ok (Ok tt)) c.args.nodes.now}
    (subst (λ (inner : Result (Unit {0}) BranchFault). Holds g.S.Records.is_kept g.S.Records.is_honest c.args.store.now
    c.branch-store.new.self (Branches old new (Ok inner) c.args.nodes.now))
    c.in_Ok-Ok-store.field-0-is c.in_Ok-Ok-store.ensures.answer)
    (λ h. branch_taken (map string_bytes c.args.words.now) c.args.nodes.now old new c.taken.result c.requires h c.taken.ensures.is)

pub returns-in_Ok-Err-store-clause-answer : goal.returns-in_Ok-Err-store-clause-answer
returns-in_Ok-Err-store-clause-answer g c =
    let old = g.S.Records.desk c.args.store.now in
    let new = g.S.Records.desk c.branch-store.new.self in
    holds_weaker {P = Branches old new (Ok (Err c.in_Ok-Err-store.fault)) c.args.nodes.now}
    (subst (λ (inner : Result (Unit {0}) BranchFault). Holds g.S.Records.is_kept g.S.Records.is_honest c.args.store.now
    c.branch-store.new.self (Branches old new (Ok inner) c.args.nodes.now))
    c.in_Ok-Err-store.field-0-is c.in_Ok-Err-store.ensures.answer)
    (λ h. branch_refused (map string_bytes c.args.words.now) c.args.nodes.now old new c.in_Ok-Err-store.fault
    c.refuse_nodes.result c.requires h c.refuse_nodes.ensures.is)

pub returns-in_Ok-Ok-store-clause-crash : goal.returns-in_Ok-Ok-store-clause-crash
returns-in_Ok-Ok-store-clause-crash g c =
    branch_left g.S.Records.leaves _ _ _ _ _ _ _ _ (Ok c.in_Ok-Ok-store.field-0) c.taken.result c.requires
    c.in_Ok-Ok-store.ensures.answer c.in_Ok-Ok-store.ensures.stays c.in_Ok-Ok-store.ensures.crash tt

pub returns-in_Ok-Err-store-clause-crash : goal.returns-in_Ok-Err-store-clause-crash
returns-in_Ok-Err-store-clause-crash g c =
    branch_left g.S.Records.leaves _ _ _ _ _ _ _ _ (Ok c.in_Ok-Err-store.field-0) c.refuse_nodes.result c.requires
    c.in_Ok-Err-store.ensures.answer c.in_Ok-Err-store.ensures.stays c.in_Ok-Err-store.ensures.crash tt

pub returns-in_Err-store-clause-crash : goal.returns-in_Err-store-clause-crash
returns-in_Err-store-clause-crash g c =
    branch_left g.S.Records.leaves _ _ _ _ _ _ _ _ (Err c.in_Err-store.fault) c.store_fault.result c.requires
    c.in_Err-store.ensures.answer c.in_Err-store.ensures.stays c.in_Err-store.ensures.crash c.store_fault.ensures.is
