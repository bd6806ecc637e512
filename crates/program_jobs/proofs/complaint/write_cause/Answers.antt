use Rattle.std.proofs.Common.{◌≡◌, ◌++◌, Bool, true, false, subst, codes, rules}
use Rattle.program_jobs.specs.Endings.{cause_message, IsWritten}
use Rattle.program_jobs.proofs.WrittenLemmas.{written_both, written_front}
use Rattle.program_jobs.proofs.complaint.write_cause.Goals as goal

pub returns-then-not-write_text : goal.returns-then-not-write_text
returns-then-not-write_text g c =
    let e0 = g.E.Write.contents c.args.errors.now in
    let e1 = g.E.Write.contents c.write_text.new.errors in
    let name = codes "bts: " in
    let cut : c.write_text.result ≡ false = search rules in
    written_front name (cause_message c.args.cause ++ codes "\n") e0 e1
    (subst (λ (told : Bool). IsWritten name told e0 e1) cut c.write_text.ensures)

pub returns-then-not-write_message : goal.returns-then-not-write_message
returns-then-not-write_message g c =
    let e0 = g.E.Write.contents c.args.errors.now in
    let e1 = g.E.Write.contents c.write_text.new.errors in
    let e2 = g.E.Write.contents c.write_message.new.errors in
    let name = codes "bts: " in
    let message = cause_message c.args.cause in
    let whole : c.write_text.result ≡ true = search rules in
    let cut : c.write_message.result ≡ false = search rules in
    written_both name (message ++ codes "\n") false e0 e1 e2
    (subst (λ (told : Bool). IsWritten name told e0 e1) whole c.write_text.ensures)
    (written_front message (codes "\n") e1 e2
    (subst (λ (told : Bool). IsWritten message told e1 e2) cut c.write_message.ensures))

pub returns : goal.returns
returns g c =
    let e0 = g.E.Write.contents c.args.errors.now in
    let e1 = g.E.Write.contents c.write_text.new.errors in
    let e2 = g.E.Write.contents c.write_message.new.errors in
    let e3 = g.E.Write.contents c.write_text-2.new.errors in
    let name = codes "bts: " in
    let message = cause_message c.args.cause in
    let whole : c.write_text.result ≡ true = search rules in
    let all : c.write_message.result ≡ true = search rules in
    written_both name (message ++ codes "\n") c.write_text-2.result e0 e1 e3
    (subst (λ (told : Bool). IsWritten name told e0 e1) whole c.write_text.ensures)
    (written_both message (codes "\n") c.write_text-2.result e1 e2 e3
    (subst (λ (told : Bool). IsWritten message told e1 e2) all c.write_message.ensures) c.write_text-2.ensures)
