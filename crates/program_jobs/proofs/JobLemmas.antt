-- How a job ended, where what it left is closed.
use Rattle.std.proofs.Common.{◌≡◌, ℕ, List, Option, sym, subst}
use Rattle.sqlite_disk.specs.declared.start.Start.{Ghosts}
use Rattle.program_options.specs.declared.job.Job.{Job}
use Rattle.program_jobs.specs.Jobs.{IsJobDone, IsJobLeaving}
use Rattle.program_jobs.specs.Left.{FilesLeft}
use Rattle.program_jobs.specs.declared.ending.JobEnd.{JobEnd}

pub ended_alone : {S : Type 0} (start : Ghosts S) (job : Job) (r0 c0 c1 : Option (List ℕ)) (done : JobEnd × FilesLeft start) (end : JobEnd)
    → end ≡ done.0 → IsJobLeaving start job r0 c0 c1 done.0 done.1 → IsJobDone start job r0 c0 c1 end
ended_alone start job r0 c0 c1 done end is leaving =
    (done.1, subst (λ (e : JobEnd). IsJobLeaving start job r0 c0 c1 e done.1) (sym is) leaving)
