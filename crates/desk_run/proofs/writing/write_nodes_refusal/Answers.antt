use Rattle.desk_run.proofs.writing.write_nodes_refusal.Goals as goal

pub returns-in-EmptyBranch : goal.returns-in-EmptyBranch
returns-in-EmptyBranch g c = rw c.in-EmptyBranch.is c.write_refusal.ensures

pub returns-in-TooLong : goal.returns-in-TooLong
returns-in-TooLong g c = rw c.in-TooLong.is c.write_refusal-in-TooLong.ensures

pub returns-in-Repeated : goal.returns-in-Repeated
returns-in-Repeated g c = rw c.in-Repeated.is c.write_number.ensures

pub returns-in-Conflict : goal.returns-in-Conflict
returns-in-Conflict g c = rw c.in-Conflict.is c.write_number-in-Conflict.ensures
