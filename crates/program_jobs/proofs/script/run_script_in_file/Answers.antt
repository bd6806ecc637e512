use Rattle.std.proofs.Common.{inl, inr, refl}
use Rattle.program_jobs.proofs.script.run_script_in_file.Goals as goal

pub returns-in-Ok : goal.returns-in-Ok
returns-in-Ok g c =
    inr (c.in-Ok.desk, c.run_script_over-end.new.desk, c.in-Ok.ensures.opened, c.run_script_over-end.ensures, c.close_desk.ensures)

pub returns-in-Err : goal.returns-in-Err
returns-in-Err g c = inl (c.in-Err.cause, c.in-Err.ensures.cause, (refl, refl))
