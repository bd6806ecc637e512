use Rattle.std.proofs.Common.{Global, map, string_bytes, subst, Err}
use Rattle.store_contract.proofs.HoldsLemmas.{holds_none}
use Rattle.version_nodes.specs.declared.fault.NodeFault.{NodeFault}
use Rattle.message_directives.specs.Branches.{nodes_of}
use Rattle.message_directives.specs.BranchWords.{AreRead}
use Rattle.http_answers.proofs.AnswerLemmas.{branch_unread}
use Rattle.http_answers.proofs.CrashLemmas.{uncalled_left}
use Rattle.http_answers.proofs.branches.answer_branch.Goals as goal

pub returns-in-Err-BadNode-clause-answer : goal.returns-in-Err-BadNode-clause-answer
returns-in-Err-BadNode-clause-answer g c =
    holds_none g.S.Records.is_kept g.S.Records.is_honest c.args.store.now
    (branch_unread (map string_bytes c.args.words.now) (g.S.Records.desk c.args.store.now) c.refuse.result
    (subst (λ (f : NodeFault). AreRead {A = Global} (nodes_of (map string_bytes c.args.words.now)) (Err f)) c.in-Err-BadNode.field-0-is
    c.in-Err-BadNode.ensures) c.refuse.ensures.is)

pub returns-in-Err-BadNode-clause-crash : goal.returns-in-Err-BadNode-clause-crash
returns-in-Err-BadNode-clause-crash g c = uncalled_left g.S.Records.leaves _ _ _ _

pub returns-in-Err-Memory-clause-crash : goal.returns-in-Err-Memory-clause-crash
returns-in-Err-Memory-clause-crash g c = uncalled_left g.S.Records.leaves _ _ _ _
