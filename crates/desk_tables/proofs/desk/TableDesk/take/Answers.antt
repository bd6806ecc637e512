use Rattle.desk_tables.proofs.Imports.{IsKept, remembered}
use Rattle.table_schema.proofs.Exports.{◌≡◌, Err, refl, sym, ◌∙◌, rules}
use Rattle.table_opening.proofs.StillLemmas.{still_then}
use Rattle.desk_tables.proofs.BranchLemmas.{faulty, taken, refused, caused, noted_anew, refused_desk, refusal_is, crashed}
use Rattle.desk_tables.proofs.desk.TableDesk.take.Goals as goal

pub invariant_of-self-in-Break-1 : goal.invariant_of-self-in-Break-1
invariant_of-self-in-Break-1 g c = record { idle = c.in_err-taken.ensures.idle; stays = still_then _ _ _ c.args.self.now.stays c.in_err-taken.ensures.taken.err }

pub invariant_of-self-in-Err-1 : goal.invariant_of-self-in-Err-1
invariant_of-self-in-Err-1 g c =
    let did = rw c.in-Err.is at c.in_ok-taken.ensures.taken in
    record { idle = c.in_ok-taken.ensures.idle; stays = still_then _ _ _ c.args.self.now.stays did.refused }

pub returns-in_err-taken : goal.returns-in_err-taken
returns-in_err-taken g c =
    let fault = c.in_err-taken.field-0.0 in
    let is : c.from_residual.result ≡ Err fault = search rules in
    let did = c.in_err-taken.ensures.taken in
    let d = c.args.self.now in
    let over = λ (was : IsKept g.S.Store d.last.value d.family (remembered d)). rw (sym c.take.ensures.value ∙ c.in-Some.is) at was in
    rw is (record {
      answer = record {
        honest = did.honest;
        kept = λ was clean. rw c.take.ensures.after (record { shown = was.shown; content = was.content; tree = tt; known = was.known });
        fact = λ was clean. refl;
      };
      stays = λ was clean. refl;
      refusal = tt;
      cause = λ was clean. caused g.S.Store d.last.value d.conn c.take_nodes.new.conn c.in-Some.family c.take_nodes.new.family (remembered d) c.args.nodes.now d.stays fault did (over was) clean;
      serves = λ was clean. tt;
      crash = λ was. crashed g.S.Store d.last.value d.conn c.take_nodes.new.conn c.in-Some.family c.take_nodes.new.family (remembered d) c.args.nodes.now d.stays (faulty fault) did (λ clean. over (was clean));
      counts = refl;
    })

pub returns-in-Ok : goal.returns-in-Ok
returns-in-Ok g c =
    let did = rw c.in-Ok.is at c.in_ok-taken.ensures.taken in
    let d = c.args.self.now in
    let over = λ (was : IsKept g.S.Store d.last.value d.family (remembered d)). rw (sym c.take.ensures.value ∙ c.in-Some.is) at was in
    let it = noted_anew g.S.Store d.last.value d.conn c.take_nodes.new.conn c.in-Some.family c.take_nodes.new.family (remembered d) c.args.nodes.now d.stays c.of.result.value did c.take_nodes.ensures.forest c.of.ensures in
    record {
      answer = record { honest = did.honest; kept = λ was. it.kept (over was); fact = λ was. it.desk (over was) };
      stays = λ was. it.keeping (over was);
      refusal = tt;
      cause = λ was clean. tt;
      serves = λ was. it.serves (over was);
      crash = λ was. crashed g.S.Store d.last.value d.conn c.take_nodes.new.conn c.in-Some.family c.take_nodes.new.family (remembered d) c.args.nodes.now d.stays taken did (λ clean. over (was clean));
      counts = refl;
    }

pub returns-in-Err : goal.returns-in-Err
returns-in-Err g c =
    let did = rw c.in-Err.is at c.in_ok-taken.ensures.taken in
    let d = c.args.self.now in
    let why = refusal_is c.in-Some.family c.take_nodes.new.family c.args.nodes.now c.in-Err.refusal did.answer.0 did.answer.1 in
    let over = λ (was : IsKept g.S.Store d.last.value d.family (remembered d)). rw (sym c.take.ensures.value ∙ c.in-Some.is) at was in
    record {
      answer = record {
        honest = did.honest;
        kept = λ was clean. let w = over was in record { shown = w.shown; content = w.content; tree = why.1 ∙ w.tree; known = w.known };
        fact = λ was clean. refused_desk g.S.Store d.last.value d.conn c.take_nodes.new.conn c.in-Some.family c.take_nodes.new.family (remembered d) c.args.nodes.now d.stays c.in-Err.refusal why.0 (over was);
      };
      stays = λ was clean. refl;
      refusal = did.answer.1;
      cause = λ was clean. tt;
      serves = λ was clean. tt;
      crash = λ was. crashed g.S.Store d.last.value d.conn c.take_nodes.new.conn c.in-Some.family c.take_nodes.new.family (remembered d) c.args.nodes.now d.stays (refused c.in-Err.refusal) did (λ clean. over (was clean));
      counts = refl;
    }
