use Rattle.std.proofs.Common.{◌≡◌, ℕ, List, Option, Some, None, sym, subst, rules}
use Rattle.program_options.specs.Cut.{Text}
use Rattle.program_options.specs.declared.job.Job.{Job}
use Rattle.program_options.specs.declared.job.Job.TheVariants.{Serve, Send}
use Rattle.program_jobs.specs.Jobs.{IsJobLeaving, IsSentToFile, IsSentOnceToFile}
use Rattle.program_jobs.proofs.jobs.do_job_from.Goals as goal

pub returns-in-Serve-Some-default-default : goal.returns-in-Serve-Some-default-default
returns-in-Serve-Some-default-default g c =
    let r0 = g.R.Read.remaining c.args.reader.now in
    let c0 = g.W.Write.contents c.args.writer.now in
    let c1 = g.W.Write.contents c.serve_file.new.writer in
    let port = c.in-Serve-Some-default-default.port in
    let count = c.in-Serve-Some-default-default.count in
    let end = c.serve_file.result.0 in
    let left = c.serve_file.result.1 in
    let same : c.in-Serve-Some-default-default.store' ≡ Some c.in-Serve-Some-default-default.store = search rules in
    subst (λ (job : Job). IsJobLeaving g.S.Start job r0 c0 c1 end left) (sym c.in-Serve-Some-default-default.is)
    (subst (λ (store : Option Text). IsJobLeaving g.S.Start (Serve store port count) r0 c0 c1 end left) (sym same) c.serve_file.ensures)

pub returns-in-Send-default-default-None-default : goal.returns-in-Send-default-default-None-default
returns-in-Send-default-default-None-default g c =
    let r0 = g.R.Read.remaining c.args.reader.now in
    let c0 = g.W.Write.contents c.args.writer.now in
    let c1 = g.W.Write.contents c.send_to_file.new.writer in
    let end = c.send_to_file.result.0 in
    let left = c.send_to_file.result.1 in
    let arm = c.in-Send-default-default-None-default in
    let same : arm.id ≡ None = search rules in
    subst (λ (job : Job). IsJobLeaving g.S.Start job r0 c0 c1 end left) (sym arm.is)
    (subst (λ (id : Option Text). IsJobLeaving g.S.Start (Send arm.store arm.from id arm.lines) r0 c0 c1 end left) (sym same)
    (subst (λ (from : List ℕ). IsSentToFile g.S.Start from arm.lines c0 c1 end left) c.as_str-in-Send-default-default-None-default-2.ensures
    (subst (λ (lines : List (List ℕ)). IsSentToFile g.S.Start c.as_str-in-Send-default-default-None-default-2.result.now lines c0 c1 end left)
    c.as_slice.ensures c.send_to_file.ensures)))

pub returns-in-Send-default-default-Some-default : goal.returns-in-Send-default-default-Some-default
returns-in-Send-default-default-Some-default g c =
    let r0 = g.R.Read.remaining c.args.reader.now in
    let c0 = g.W.Write.contents c.args.writer.now in
    let c1 = g.W.Write.contents c.send_once_to_file.new.writer in
    let end = c.send_once_to_file.result.0 in
    let left = c.send_once_to_file.result.1 in
    let arm = c.in-Send-default-default-Some-default in
    let same : arm.id' ≡ Some arm.id = search rules in
    let id = c.as_str-in-Send-default-default-Some-default-2.result.now in
    let of_id : id ≡ arm.id = search rules in
    let from = c.as_str-in-Send-default-default-Some-default-3.result.now in
    subst (λ (job : Job). IsJobLeaving g.S.Start job r0 c0 c1 end left) (sym arm.is)
    (subst (λ (o : Option Text). IsJobLeaving g.S.Start (Send arm.store arm.from o arm.lines) r0 c0 c1 end left) (sym same)
    (subst (λ (i : List ℕ). IsSentOnceToFile g.S.Start i arm.from arm.lines c0 c1 end left) of_id
    (subst (λ (f : List ℕ). IsSentOnceToFile g.S.Start id f arm.lines c0 c1 end left) c.as_str-in-Send-default-default-Some-default-3.ensures
    (subst (λ (lines : List (List ℕ)). IsSentOnceToFile g.S.Start id from lines c0 c1 end left)
    c.as_slice-in-Send-default-default-Some-default.ensures c.send_once_to_file.ensures))))
