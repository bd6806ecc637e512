use Rattle.std.proofs.Common.{inl, inr, refl}
use Rattle.program_jobs.proofs.making.make_desk.Goals as goal

pub returns-in-Ok : goal.returns-in-Ok
returns-in-Ok g c =
    inr (inr (record { made = c.in-Ok.desk; is_new = c.in-Ok.ensures.made; told = c.give_text-end.ensures; left_by = c.close_desk.ensures }))

pub returns-in-Err : goal.returns-in-Err
returns-in-Err g c = inr (inl (c.in-Err.cause, c.in-Err.ensures.cause, (refl, refl)))
