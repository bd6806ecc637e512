use Rattle.desk_http.proofs.connection.drain.Given as goal

abbrev pub decreases-loop-left : goal.decreases-loop-left
decreases-loop-left g l = l.left
