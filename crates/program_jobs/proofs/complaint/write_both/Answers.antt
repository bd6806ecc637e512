use Rattle.std.proofs.Common.{◌≡◌, Bool, true, false, subst, rules}
use Rattle.program_jobs.specs.Endings.{IsWritten}
use Rattle.program_jobs.proofs.WrittenLemmas.{written_both, written_front}
use Rattle.program_jobs.proofs.complaint.write_both.Goals as goal

pub returns-then-not-write_text : goal.returns-then-not-write_text
returns-then-not-write_text g c =
    let e0 = g.E.Write.contents c.args.errors.now in
    let e1 = g.E.Write.contents c.write_text.new.errors in
    let cut : c.write_text.result ≡ false = search rules in
    written_front c.args.first.now c.args.second.now e0 e1
    (subst (λ (told : Bool). IsWritten c.args.first.now told e0 e1) cut c.write_text.ensures)

pub returns : goal.returns
returns g c =
    let e0 = g.E.Write.contents c.args.errors.now in
    let e1 = g.E.Write.contents c.write_text.new.errors in
    let e2 = g.E.Write.contents c.write_text-2.new.errors in
    let whole : c.write_text.result ≡ true = search rules in
    written_both c.args.first.now c.args.second.now c.write_text-2.result e0 e1 e2
    (subst (λ (told : Bool). IsWritten c.args.first.now told e0 e1) whole c.write_text.ensures) c.write_text-2.ensures
