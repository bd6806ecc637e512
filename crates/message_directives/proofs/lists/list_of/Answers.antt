use Rattle.std.proofs.Common.{◌∙◌, refl, sym, ap, subst, Err}
use Rattle.std.specs.Prelude.{is_some}
use Rattle.version_nodes.specs.Nodes.{node_at, IsRead}
use Rattle.store_contract.proofs.HoldsLemmas.{holds_none, holds_weaker}
use Rattle.store_contract.proofs.TriedLemmas.{none_tried}
use Rattle.message_directives.specs.Questions.{refusal}
use Rattle.message_directives.proofs.QuestionLemmas.{not_counted, refused, told_so, list_of_bad_name, list_of_name}
use Rattle.message_directives.proofs.lists.list_of.Goals as goal

pub returns-in-Err : goal.returns-in-Err
returns-in-Err g c =
    record {
      answer =
          holds_none _ _ _ (refused _ _ _ _ c.refuse.result
          (list_of_bad_name _ c.args.package.now c.args.version.now (ap is_some c.in-Err.ensures.exact)
          ∙ ap refusal (sym c.bad_package_answer.ensures))
          c.refuse.ensures.answer c.refuse.ensures.refused c.refuse.ensures.memory);
      stays = refl;
      crash = holds_none _ _ _ (none_tried g.met.S.Records.either c.args.store.now _ _ _);
      count = not_counted c.refuse.result _ c.refuse.ensures.memory;
    }

pub returns-in-Ok-at : goal.returns-in-Ok-at
returns-in-Ok-at g c =
    record {
      answer =
          holds_weaker c.list_at.ensures.answer
          (λ h. told_so _ _ _ _ _ c.list_at.result
          (list_of_name _ c.args.package.now c.args.version.now _ (ap is_some c.in-Ok.ensures.exact) c.in-Ok-at.ensures)
          (c.in-Ok-at.node, c.in-Ok-at.ensures) h);
      stays = c.list_at.ensures.stays;
      crash = c.list_at.ensures.crash;
      count = c.list_at.ensures.count;
    }

pub returns-in-Err-BadNode : goal.returns-in-Err-BadNode
returns-in-Err-BadNode g c =
    record {
      answer =
          holds_none _ _ _ (refused _ _ _ _ c.refuse-in-Err-BadNode.result
          (list_of_name _ c.args.package.now c.args.version.now _ (ap is_some c.in-Ok.ensures.exact)
          (subst (λ z. IsRead (node_at c.args.package.now c.args.version.now) (Err z)) c.in-Err-BadNode.field-0-is
          c.in-Err-BadNode.ensures)
          ∙ ap refusal (sym c.bad_version_answer.ensures))
          c.refuse-in-Err-BadNode.ensures.answer
          c.refuse-in-Err-BadNode.ensures.refused c.refuse-in-Err-BadNode.ensures.memory);
      stays = refl;
      crash = holds_none _ _ _ (none_tried g.met.S.Records.either c.args.store.now _ _ _);
      count = not_counted c.refuse-in-Err-BadNode.result _ c.refuse-in-Err-BadNode.ensures.memory;
    }

pub returns-in-Err-Memory : goal.returns-in-Err-Memory
returns-in-Err-Memory g c =
    record {
      answer = holds_none _ _ _ refl;
      stays = refl;
      crash = holds_none _ _ _ (none_tried g.met.S.Records.either c.args.store.now _ _ _);
      count = refl;
    }
