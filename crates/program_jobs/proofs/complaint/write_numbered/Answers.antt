use Rattle.std.proofs.Common.{◌≡◌, ◌++◌, Bool, true, false, subst, decimal, rules}
use Rattle.program_jobs.specs.Endings.{IsWritten}
use Rattle.program_jobs.proofs.WrittenLemmas.{written_both, written_front}
use Rattle.program_jobs.proofs.complaint.write_numbered.Goals as goal

pub returns-then-not-write_number : goal.returns-then-not-write_number
returns-then-not-write_number g c =
    let e0 = g.E.Write.contents c.args.errors.now in
    let e1 = g.E.Write.contents c.write_text.new.errors in
    let e2 = g.E.Write.contents c.write_number.new.errors in
    let before = c.args.before.now in
    let number = decimal c.args.number in
    let whole : c.write_text.result ≡ true = search rules in
    let cut : c.write_number.result ≡ false = search rules in
    written_both before (number ++ c.args.after.now) false e0 e1 e2
    (subst (λ (told : Bool). IsWritten before told e0 e1) whole c.write_text.ensures)
    (written_front number c.args.after.now e1 e2
    (subst (λ (told : Bool). IsWritten number told e1 e2) cut c.write_number.ensures))

pub returns : goal.returns
returns g c =
    let e0 = g.E.Write.contents c.args.errors.now in
    let e1 = g.E.Write.contents c.write_text.new.errors in
    let e2 = g.E.Write.contents c.write_number.new.errors in
    let e3 = g.E.Write.contents c.write_text-2.new.errors in
    let before = c.args.before.now in
    let number = decimal c.args.number in
    let whole : c.write_text.result ≡ true = search rules in
    let all : c.write_number.result ≡ true = search rules in
    written_both before (number ++ c.args.after.now) c.write_text-2.result e0 e1 e3
    (subst (λ (told : Bool). IsWritten before told e0 e1) whole c.write_text.ensures)
    (written_both number c.args.after.now c.write_text-2.result e1 e2 e3
    (subst (λ (told : Bool). IsWritten number told e1 e2) all c.write_number.ensures) c.write_text-2.ensures)
