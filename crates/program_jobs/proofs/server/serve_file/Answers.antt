use Rattle.std.proofs.Common.{inl, inr, refl}
use Rattle.program_jobs.proofs.server.serve_file.Goals as goal

pub returns-in-Ok : goal.returns-in-Ok
returns-in-Ok g c = inr (c.in-Ok.desk, c.serve_over-end.new.desk, c.in-Ok.ensures.opened, c.serve_over-end.ensures, c.close_desk.ensures)

pub returns-in-Err : goal.returns-in-Err
returns-in-Err g c = inl (c.in-Err.cause, c.in-Err.ensures.cause, (refl, refl))
