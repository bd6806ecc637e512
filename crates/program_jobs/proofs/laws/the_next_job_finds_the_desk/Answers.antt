use Rattle.sqlite_wal.specs.Files.{image_at}
use Rattle.program_jobs.proofs.LeftLemmas.{same_again}
use Rattle.program_jobs.proofs.laws.the_next_job_finds_the_desk.Goals as goal

pub returns : goal.returns
returns g c left clean kept found opened honest =
    same_again c.args._last.now c.args._next.now c.args._files.now (image_at g.T.Start) (left clean) kept found opened honest
