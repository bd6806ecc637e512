use Rattle.desk_tables.proofs.Imports.{content_seen, IsKept, remembered}
use Rattle.table_schema.proofs.Exports.{◌≡◌, Some, Err, refl, option_copied, ap, ◌∙◌, rules, state, HasCleanDisk, desk_in, keeping_in, change_desk}
use Rattle.table_content.proofs.KeepLemmas.{change_keeping}
use Rattle.table_reads.specs.Known.{known_set}
use Rattle.table_writes.proofs.PlaceLemmas.{known_place_after}
use Rattle.table_opening.proofs.StillLemmas.{still_then}
use Rattle.desk_tables.proofs.KeptLemmas.{caused, crashed, taken, change_stays, fits_over, known_after, made, refused}
use Rattle.desk_tables.proofs.desk.TableDesk.make.Goals as goal

pub invariant_of-self : goal.invariant_of-self
invariant_of-self g c = record { idle = c.in_err-change_sets.ensures.idle; stays = still_then _ _ _ c.args.self.now.stays c.in_err-change_sets.ensures.changed.err }

pub returns-in_err-change_sets : goal.returns-in_err-change_sets
returns-in_err-change_sets g c =
    let fault = c.in_err-change_sets.field-0.0 in
    let is : c.from_residual.result ≡ Err fault = search rules in
    let d = c.args.self.now in
    let changes = rw c.as_ref.ensures.value at c.in_err-change_sets.ensures.changed in
    let fits = λ (was : IsKept g.S.Store d.last.value d.family (remembered d)) (clean : HasCleanDisk (state g.S.Store d.conn)). fits_over d.family c.args.change.now (option_copied c.args.before) (content_seen g.S.Store d.last.value) was.content (c.requires.fits was clean) (c.requires.tree was clean) (c.requires.before was clean) in
    rw is (record {
      answer = record { honest = changes.honest; kept = λ was clean. was; fact = λ was clean. refl };
      stays = λ was clean. refl;
      cause = caused g.S.Store d.last.value d.conn c.change_sets.new.conn d.family (remembered d) _ _ d.stays fits fault changes;
      serves = λ was clean. tt;
      crash = crashed g.S.Store d.last.value d.conn c.change_sets.new.conn d.family (remembered d) _ _ d.stays fits (refused fault) changes;
      counts = refl;
    })

pub returns : goal.returns
returns g c =
    let d = c.args.self.now in
    let k = content_seen g.S.Store d.last.value in
    let change = c.args.change.now in
    let changes = rw c.as_ref.ensures.value at c.in_ok-change_sets.ensures.changed in
    let fits = λ (was : IsKept g.S.Store d.last.value d.family (remembered d)) (clean : HasCleanDisk (state g.S.Store d.conn)). fits_over d.family c.args.change.now (option_copied c.args.before) (content_seen g.S.Store d.last.value) was.content (c.requires.fits was clean) (c.requires.tree was clean) (c.requires.before was clean) in
    let it = taken g.S.Store d.last.value d.conn c.change_sets.new.conn d.family (remembered d) _ _ d.stays fits c.of.result.value (record { sets = known_set c.follow.new.self; place = d.place; next = Some change.next }) changes c.of.ensures
    (λ was clean. change_stays change k was.content (c.requires.fits was clean))
    (λ was clean. record {
      sets = known_after change k (known_set d.known) (known_set c.follow.new.self) was.content (c.requires.fits was clean) was.known.sets (rw c.as_slice.ensures at c.follow.ensures);
      place = known_place_after k change d.place was.known.place;
      next = refl;
    }) in
    record {
      answer = record {
        honest = changes.honest;
        kept = it.kept;
        fact = λ was clean. ap desk_in (it.says was clean) ∙ change_desk k change was.content (c.requires.fits was (changes.honest clean));
      };
      stays = λ was clean. ap keeping_in (it.says was clean) ∙ change_keeping k change;
      cause = λ was clean. tt;
      serves = it.serves;
      crash = crashed g.S.Store d.last.value d.conn c.change_sets.new.conn d.family (remembered d) _ _ d.stays fits made changes;
      counts = refl;
    }
