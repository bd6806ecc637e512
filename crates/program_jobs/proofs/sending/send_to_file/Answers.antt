use Rattle.std.proofs.Common.{◌∙◌, ℕ, List, inl, inr, refl, rules, subst}
use Rattle.base_words.specs.Texts.{IsText}
use Rattle.program_jobs.specs.InFile.{IsKeptInFile, HasHonestFile, desk_in_file, keeping_in_file, faults_in_file, leaves_in_file}
use Rattle.program_jobs.specs.Jobs.{IsSentOver}
use Rattle.program_jobs.proofs.sending.send_to_file.Goals as goal

pub returns-in-Ok-open_desk : goal.returns-in-Ok-open_desk
returns-in-Ok-open_desk g c =
    let text : IsText c.args.from.now = search rules in
    let old = c.in-Ok-open_desk.desk in
    let new = c.send_over-end.new.desk in
    let sent = subst (λ (m : List ℕ). IsSentOver IsKeptInFile HasHonestFile desk_in_file keeping_in_file faults_in_file leaves_in_file
    c.args.from.now m (g.W.Write.contents c.args.writer.now)
    (g.W.Write.contents c.send_over-end.new.writer) old new c.send_over-end.result)
    (c.as_str.ensures.value ∙ c.in-Ok.ensures) c.send_over-end.ensures in
    inr (text, inr (inr (old, new, c.in-Ok-open_desk.ensures.opened, sent, c.close_desk.ensures)))

pub returns : goal.returns
returns g c =
    let text : IsText c.args.from.now = search rules in
    inr (text, inr (inl (c.in-Err.cause, c.in-Err.ensures.cause, (refl, refl))))
