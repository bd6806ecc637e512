use Rattle.std.proofs.Common.{◌≡◌, false, ◌∙◌, arith}
use Rattle.std.proofs.lemmas.Grind.{common_steps}
use Rattle.std.proofs.lemmas.Result.{IfOk-weaker}
use Rattle.bug_fields.specs.Members.{changes_members}
use Rattle.bug_fields.proofs.MemberLemmas.{members-unchanged}
use Rattle.bug_fields.proofs.members.members_with.Goals as goal

pub returns-then-not-changes_members : goal.returns-then-not-changes_members
returns-then-not-changes_members c =
    let none : changes_members c.args.command.now c.args.old.now ≡ false = cc in
    IfOk-weaker c.copy.result _ _
    (λ ms e. e ∙ members-unchanged c.args.from.now c.args.command.now c.args.old.now none c.args.members.now) c.copy.ensures

pub returns : goal.returns
returns c = grind (arith, common_steps)
