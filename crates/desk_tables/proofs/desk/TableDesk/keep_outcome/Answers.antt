use Rattle.desk_tables.proofs.Imports.{MayBeKept, content_seen, IsKept, IsNextIn, remembered}
use Rattle.table_schema.proofs.Exports.{◌≡◌, Err, refl, sym, subst, rules, option_copied, state, HasCleanDisk, kept_after, desk_in, keeping_in}
use Rattle.table_reads.specs.Known.{known_set}
use Rattle.table_writes.proofs.PlaceLemmas.{known_place_behind}
use Rattle.table_opening.proofs.StillLemmas.{still_then}
use Rattle.desk_tables.proofs.KeptLemmas.{caused, crashed, taken, made, refused}
use Rattle.desk_tables.proofs.KeepLemmas.{line_known, line_is, line_stays, line_fact, line_next}
use Rattle.desk_tables.proofs.desk.TableDesk.keep_outcome.Goals as goal

pub invariant_of-self : goal.invariant_of-self
invariant_of-self g c = record { idle = c.in_err-keep_line.ensures.idle; stays = still_then _ _ _ c.args.self.now.stays c.in_err-keep_line.ensures.changed.err }

pub returns-in_err-keep_line : goal.returns-in_err-keep_line
returns-in_err-keep_line g c =
    let fault = c.in_err-keep_line.field-0.0 in
    let is : c.from_residual.result ≡ Err fault = search rules in
    let d = c.args.self.now in
    let k = content_seen g.S.Store d.last.value in
    let change = option_copied c.args.change in
    let changes = rw c.as_ref.ensures.value at c.in_err-keep_line.ensures.changed in
    let fits = λ (may : MayBeKept c.args.id.now c.args.from.now c.args.message.now (keeping_in k) (desk_in k) c.args.outcome.now change) (was : IsKept g.S.Store d.last.value d.family (remembered d)) (clean : HasCleanDisk (state g.S.Store d.conn)).
    line_is k _ _ _ c.args.outcome.now change may was.content (c.requires.fits was clean) d.family (option_copied c.args.before) c.args.place (c.requires.tree was clean) (c.requires.before was clean) (c.requires.place was clean) in
    rw is (record {
      honest = changes.honest;
      answer = λ may. record { honest = changes.honest; kept = λ was clean. was; fact = λ was clean. (refl, refl) };
      cause = λ may. caused g.S.Store d.last.value d.conn c.keep_line.new.conn d.family (remembered d) _ _ d.stays (fits may) fault changes;
      serves = λ may was clean. tt;
      crash = λ may. crashed g.S.Store d.last.value d.conn c.keep_line.new.conn d.family (remembered d) _ _ d.stays (fits may) (refused fault) changes;
      counts = refl;
    })

pub returns : goal.returns
returns g c =
    let d = c.args.self.now in
    let k = content_seen g.S.Store d.last.value in
    let change = option_copied c.args.change in
    let changes = rw c.as_ref.ensures.value at c.in_ok-keep_line.ensures.changed in
    let fits = λ (may : MayBeKept c.args.id.now c.args.from.now c.args.message.now (keeping_in k) (desk_in k) c.args.outcome.now change) (was : IsKept g.S.Store d.last.value d.family (remembered d)) (clean : HasCleanDisk (state g.S.Store d.conn)).
    line_is k _ _ _ c.args.outcome.now change may was.content (c.requires.fits was clean) d.family (option_copied c.args.before) c.args.place (c.requires.tree was clean) (c.requires.before was clean) (c.requires.place was clean) in
    let it = λ (may : MayBeKept c.args.id.now c.args.from.now c.args.message.now (keeping_in k) (desk_in k) c.args.outcome.now change).
    taken g.S.Store d.last.value d.conn c.keep_line.new.conn d.family (remembered d) _ _ d.stays (fits may) c.of.result.value (record { sets = known_set c.follow_line.new.self; place = c.follow.new.self; next = c.next_after-self.result }) changes c.of.ensures
    (λ was clean. line_stays k _ _ _ c.args.outcome.now change may was.content (c.requires.fits was clean) c.requires.sender)
    (λ was clean. record {
      sets = line_known change k (known_set d.known) (known_set c.follow_line.new.self) was.content (c.requires.fits was clean) was.known.sets c.follow_line.ensures;
      place = known_place_behind k c.args.id.now c.args.from.now c.args.message.now c.args.place c.args.outcome.now change (c.requires.place was clean) c.follow.new.self c.follow.ensures;
      next = subst (λ n. IsNextIn n (kept_after c.args.id.now c.args.from.now c.args.message.now c.args.outcome.now change k)) (sym c.next_after-self.ensures) (line_next change k c.args.id.now c.args.from.now c.args.message.now c.args.outcome.now d.next was.known.next);
    }) in
    record {
      honest = changes.honest;
      answer = λ may. record {
        honest = changes.honest;
        kept = (it may).kept;
        fact = λ was clean. line_fact k _ _ _ c.args.outcome.now change may was.content (c.requires.fits was (changes.honest clean)) (content_seen g.S.Store c.of.result.value) ((it may).says was clean);
      };
      cause = λ may was clean. tt;
      serves = λ may. (it may).serves;
      crash = λ may. crashed g.S.Store d.last.value d.conn c.keep_line.new.conn d.family (remembered d) _ _ d.stays (fits may) made changes;
      counts = refl;
    }
