use Rattle.table_schema.proofs.Exports.{option_copied}
use Rattle.desk_tables.specs.Desk.{content_shown}
use Rattle.desk_tables.proofs.CrashLemmas.{change_leaves, branch_leaves, keep_leaves}
use Rattle.desk_tables.proofs.KeepLemmas.{line_fits}
use Rattle.desk_tables.proofs.records.TableDeskRecords.TheImpl.Goals as goal

pub apply-tells : goal.apply-tells
apply-tells g c =
    let did = c.ensures in
    record {
      answer = did.answer;
      stays = did.stays;
      crash = change_leaves g.S.Store g.met.S.Store.settled c.args.self.now c.new.self.now c.args.change.now c.result did.answer did.stays did.serves did.crash
          (λ was clean. record { members = c.requires.members; apart = c.requires.apart was clean; fits = c.requires.fits was clean });
      count = did.count;
    }

pub branch-tells : goal.branch-tells
branch-tells g c =
    let did = c.ensures in
    record {
      answer = did.answer;
      refusal = did.refusal;
      stays = did.stays;
      crash = branch_leaves g.S.Store g.met.S.Store.settled c.args.self.now c.new.self.now c.args.nodes.now c.result did.answer did.stays did.serves did.crash;
      count = did.count;
    }

pub keep-tells : goal.keep-tells
keep-tells g c =
    let did = c.ensures in
    let change = option_copied c.args.change in
    record {
      answer = did.answer;
      crash = keep_leaves g.S.Store g.met.S.Store.settled c.args.self.now c.new.self.now c.args.id.now c.args.from.now c.args.message.now c.args.outcome.now change c.result did.answer did.honest
          did.serves did.crash
          (λ was clean. line_fits change (content_shown c.args.self.now) c.requires.members (c.requires.apart was clean) (c.requires.fits was clean)) c.requires.sender;
      honest = did.honest;
      count = did.count;
    }
