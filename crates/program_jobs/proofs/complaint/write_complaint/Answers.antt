use Rattle.std.proofs.Common.{◌≡◌, Bool, true, false, subst, sym, codes, rules}
use Rattle.program_jobs.specs.Endings.{cause_line, complaint_of, IsWritten, IsTold}
use Rattle.program_jobs.specs.declared.ending.JobEnd.{JobEnd}
use Rattle.program_jobs.proofs.WrittenLemmas.{written_both, written_front}
use Rattle.program_jobs.proofs.complaint.write_complaint.Goals as goal

pub returns-in-BadWords : goal.returns-in-BadWords
returns-in-BadWords g c =
    subst (λ (ended : JobEnd). IsTold ended c.write_text.result (g.E.Write.contents c.args.errors.now)
    (g.E.Write.contents c.write_text.new.errors)) (sym c.in-BadWords.is) c.write_text.ensures

pub returns-then-not-write_text : goal.returns-then-not-write_text
returns-then-not-write_text g c =
    let e0 = g.E.Write.contents c.args.errors.now in
    let e1 = g.E.Write.contents c.write_text-in-Fault.new.errors in
    let first = codes "bts: fault\n" in
    let cut : c.write_text-in-Fault.result ≡ false = search rules in
    subst (λ (ended : JobEnd). IsWritten (complaint_of ended) false e0 e1) (sym c.in-Fault.is)
    (written_front first (cause_line c.in-Fault.cause) e0 e1
    (subst (λ (told : Bool). IsWritten first told e0 e1) cut c.write_text-in-Fault.ensures))

pub returns-else-not-write_text : goal.returns-else-not-write_text
returns-else-not-write_text g c =
    let e0 = g.E.Write.contents c.args.errors.now in
    let e1 = g.E.Write.contents c.write_text-in-Fault.new.errors in
    let e2 = g.E.Write.contents c.write_cause.new.errors in
    let first = codes "bts: fault\n" in
    let whole : c.write_text-in-Fault.result ≡ true = search rules in
    subst (λ (ended : JobEnd). IsTold ended c.write_cause.result e0 e2) (sym c.in-Fault.is)
    (written_both first (cause_line c.in-Fault.cause) c.write_cause.result e0 e1 e2
    (subst (λ (told : Bool). IsWritten first told e0 e1) whole c.write_text-in-Fault.ensures) c.write_cause.ensures)
