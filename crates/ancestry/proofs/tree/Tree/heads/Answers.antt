use Rattle.std.proofs.Common.{◌≡◌, Option, Err, true, false, sym, ap, ◌∙◌, subst, not, ◌&&◌}
use Rattle.std.specs.Prelude.{filter, IfSome}
use Rattle.std.specs.Option.{option_copied}
use Rattle.std.specs.List.Sorted.{IsStrictlySortedBy}
use Rattle.std.specs.Ordering.{is_le}
use Rattle.version_nodes.specs.Nodes.{Node, node_cmp, node_of, IsRead}
use Rattle.version_nodes.specs.Trees.{heads, is_parent, IsForest}
use Rattle.version_nodes.specs.Lowest.{lowest_version}
use Rattle.ancestry.proofs.HeadLemmas.{no_heads, no_source, at_lowest, one_more, next_parent, found_before, found_all}
use Rattle.ancestry.proofs.HeadLemmas.{heads_ascend}
use Rattle.ancestry.proofs.tree.Tree.heads.Goals as goal
use Rattle.ancestry.proofs.tree.Tree.heads.Goals.{in-None, in-Some+then-not-is_of}

pub returns-in-Err-BadNode-clause-value : goal.returns-in-Err-BadNode-clause-value
returns-in-Err-BadNode-clause-value c =
    let t = c.args.self.now in
    let source = c.args.source.now in
    c.new-heads.ensures.items
    ∙ sym (no_heads t source (subst IsForest c.self.view_is c.self.invariant.0)
    (no_source source (subst (λ z. IsRead (node_of source lowest_version) (Err z)) c.in-Err-BadNode.field-0-is
    c.in-Err-BadNode.ensures)))

pub returns-in-Err-BadNode-clause-ascending : goal.returns-in-Err-BadNode-clause-ascending
unfolding IsStrictlySortedBy
returns-in-Err-BadNode-clause-ascending c = subst (IsStrictlySortedBy node_cmp) (sym c.new-heads.ensures.items) tt

pub loop-node-init : goal.loop-node-init
loop-node-init c =
    let low = c.in-Ok.lowest in
    at_lowest c.args.self.now c.args.source.now low c.new-heads.result.items c.into_iter-node-iterator.result
    (subst IsForest c.self.view_is c.self.invariant.0) c.in-Ok.ensures c.new-heads.ensures.items
    (c.into_iter-node-iterator.ensures.into_iter_gives ∙ c.range-node-items.ensures.between tt
    ∙ ap (filter (λ e. is_le (node_cmp low e.0) && not false)) c.self.view_is)

pub push_head-requires : goal.push_head-requires
push_head-requires c =
    subst (λ (o : Option Node). IfSome o (λ p. is_parent c.args.self.now p ≡ true)) (sym c.as_ref.ensures.value)
    (next_parent c.args.self.now c.args.source.now c.loop-node.heads.items (option_copied c.loop-node.last) c.loop-node.node-iterator
    c.loop-node.invariant c.in-Some.node.now c.in-Some.parent.now c.next.new.self c.in-Some.ensures.steps)

pub loop-node-preserved : goal.loop-node-preserved
loop-node-preserved c =
    one_more c.args.self.now c.args.source.now c.loop-node.heads.items (option_copied c.loop-node.last) c.loop-node.node-iterator
    c.loop-node.invariant c.in-Some.node.now c.in-Some.parent.now c.next.new.self c.in-Some.ensures.steps c.push_head.new.heads.items
    (sym c.is_of.ensures ∙ c.if-not-is_of.false) c.in_ok-push_head.ensures

pub returns-clause-value : goal.returns-clause-value
returns-clause-value c =
    let t = c.args.self.now in
    let source = c.args.source.now in
    let last = option_copied c.loop-node.last in
    let found = c.push_head-2.new.heads.items in
    elim c.match-next.branch [
      | in-None w ↦ found_all t source c.loop-node.heads.items last c.loop-node.node-iterator c.loop-node.invariant found
          w.in-None.ensures.steps.0 c.in_ok-push_head-2.ensures
      | in-Some+then-not-is_of w ↦
          found_before t source c.loop-node.heads.items last c.loop-node.node-iterator c.loop-node.invariant w.in-Some.node.now
          w.in-Some.parent.now c.next.new.self w.in-Some.ensures.steps found (sym w.is_of.ensures ∙ w.if-not-is_of.true)
          c.in_ok-push_head-2.ensures
    ]

pub returns-clause-ascending : goal.returns-clause-ascending
returns-clause-ascending c =
    let t = c.args.self.now in
    let source = c.args.source.now in
    let last = option_copied c.loop-node.last in
    let found = c.push_head-2.new.heads.items in
    let all : found ≡ heads t source = elim c.match-next.branch [
      | in-None w ↦ found_all t source c.loop-node.heads.items last c.loop-node.node-iterator c.loop-node.invariant found
          w.in-None.ensures.steps.0 c.in_ok-push_head-2.ensures
      | in-Some+then-not-is_of w ↦
          found_before t source c.loop-node.heads.items last c.loop-node.node-iterator c.loop-node.invariant w.in-Some.node.now
          w.in-Some.parent.now c.next.new.self w.in-Some.ensures.steps found (sym w.is_of.ensures ∙ w.if-not-is_of.true)
          c.in_ok-push_head-2.ensures
    ] in
    subst (IsStrictlySortedBy node_cmp) (sym all) (heads_ascend t source (subst IsForest c.self.view_is c.self.invariant.0))
