use Rattle.std.proofs.Common.{◌∙◌, sym, subst, ap}
use Rattle.std.specs.Prelude.{◌||◌}
use Rattle.std.specs.Io.KnownBytes.{Appends}
use Rattle.control_lines.specs.declared.fault.ScriptFault.TheVariants.{Write}
use Rattle.store_contract.proofs.HoldsLemmas.{holds_weaker}
use Rattle.desk_run.specs.Script.{DirectiveLine, standing}
use Rattle.desk_text.specs.Answers.{branch_answer}
use Rattle.desk_run.proofs.BranchLemmas.{branch_whole, branch_fault, branch_carried, whole_count, fault_count, branch_count}
use Rattle.desk_run.proofs.WritingLemmas.{unwritten, unwritten_own, unwritten_counted}
use Rattle.store_contract.proofs.HoldsLemmas.{holds_where}
use Rattle.desk_run.proofs.TriedLemmas.{branched_failed}
use Rattle.desk_run.proofs.carrying.carry_nodes.Goals as goal

pub returns-in-Err-clause-answer : goal.returns-in-Err-clause-answer
returns-in-Err-clause-answer g c =
    let s = standing (g.S.Records.desk c.args.store.now) c.args.run.now.sender c.args.run.now.refused in
    holds_weaker c.branch-answer.ensures.answer
    (λ r. unwritten (DirectiveLine c.args.line.now) s _ _ _ _ _ (branch_answer c.branch-answer.result) c.in-Err.stop
    (branch_carried c.args.line.now c.requires.0 c.args.nodes.now s _ _ _ c.branch-answer.result c.requires.1 c.requires.2
    c.branch-answer.ensures.count r) c.in-Err.ensures)

pub returns-in-Some-clause-answer : goal.returns-in-Some-clause-answer
returns-in-Some-clause-answer g c =
    let s = standing (g.S.Records.desk c.args.store.now) c.args.run.now.sender c.args.run.now.refused in
    let of_store = sym c.fault_of_branch.ensures ∙ c.in-Some.is in
    holds_weaker c.branch-answer.ensures.answer
    (λ r. (
      branch_answer c.branch-answer.result,
      branch_fault c.args.line.now c.requires.0 c.args.nodes.now s _ c.branch-answer.result c.in-Some.fault c.requires.1
          c.requires.2 of_store r,
      c.branch-answer.ensures.count ∙ fault_count c.branch-answer.result c.in-Some.fault _ of_store,
      c.in-Ok.ensures,
    ))

pub returns-in-Some-clause-count : goal.returns-in-Some-clause-count
returns-in-Some-clause-count g c =
    let of_store = sym c.fault_of_branch.ensures ∙ c.in-Some.is in
    c.branch-answer.ensures.count ∙ fault_count c.branch-answer.result c.in-Some.fault _ of_store

pub returns-clause-answer : goal.returns-clause-answer
returns-clause-answer g c =
    let s = standing (g.S.Records.desk c.args.store.now) c.args.run.now.sender c.args.run.now.refused in
    let not_of_store = sym c.fault_of_branch.ensures ∙ c.in_default.is in
    holds_weaker c.branch-answer.ensures.answer
    (λ r.
    let w = branch_whole c.args.line.now c.requires.0 c.args.nodes.now s _ c.branch-answer.result c.either-run.result c.requires.1
    c.requires.2 not_of_store (c.either-run.ensures ∙ ap (λ b. s.refused || b) c.refuses_branch.ensures) r in (
      w.0,
      subst (Appends (g.W.Write.contents c.args.writer.now) (g.W.Write.contents c.write_branch.new.writer)) w.1
          c.in-Ok.ensures,
    ))

pub returns-clause-count : goal.returns-clause-count
returns-clause-count g c =
    let not_of_store = sym c.fault_of_branch.ensures ∙ c.in_default.is in
    c.branch-answer.ensures.count ∙ whole_count c.branch-answer.result _ not_of_store

pub returns-in-Err-clause-own : goal.returns-in-Err-clause-own
returns-in-Err-clause-own g c = unwritten_own _ _ _ c.in-Err.stop c.in-Err.ensures

pub returns-in-Err-clause-count : goal.returns-in-Err-clause-count
returns-in-Err-clause-count g c =
    let n = branch_count c.branch-answer.result (g.S.Records.faults c.args.store.now) in
    unwritten_counted _ _ _ _ _ c.in-Err.stop (n.0, c.branch-answer.ensures.count ∙ n.1) c.in-Err.ensures

pub returns-in-Err-clause-crash : goal.returns-in-Err-clause-crash
returns-in-Err-clause-crash g c =
    let s = standing (g.S.Records.desk c.args.store.now) c.args.run.now.sender c.args.run.now.refused in
    let branched = c.branch-answer.ensures.answer in
    (holds_where c.branch-answer.ensures.crash
    (λ u w x. branched_failed g.S.Records.leaves _ _ _ c.args.line.now c.requires.0 c.args.nodes.now s _ c.branch-answer.result Write
    c.requires.1 c.requires.2 (branched.fact u w) x))

pub returns-in-Some-clause-crash : goal.returns-in-Some-clause-crash
returns-in-Some-clause-crash g c =
    let s = standing (g.S.Records.desk c.args.store.now) c.args.run.now.sender c.args.run.now.refused in
    let branched = c.branch-answer.ensures.answer in
    (holds_where c.branch-answer.ensures.crash
    (λ u w x. branched_failed g.S.Records.leaves _ _ _ c.args.line.now c.requires.0 c.args.nodes.now s _ c.branch-answer.result Write
    c.requires.1 c.requires.2 (branched.fact u w) x))
