use Rattle.std.proofs.Common.{sym, ap, ◌∙◌}
use Rattle.std.specs.Option.{option_copied}
use Rattle.ancestry.proofs.HeadLemmas.{given_is_none}
use Rattle.ancestry.proofs.tree.Tree.push_head.Goals as goal

pub returns-then-is_given : goal.returns-then-is_given
returns-then-is_given c =
    given_is_none c.args.self.now c.args.heads.now.items (option_copied c.args.parent) (option_copied c.args.node) c.in-Some.node.now c.requires
    (sym c.is_given.ensures ∙ c.if-is_given.true) (ap option_copied c.in-Some.is)
