use Rattle.desk_tables.proofs.FileLemmas.{found_holds}
use Rattle.table_crashes.proofs.laws.what_is_left_is_found.Goals as goal

pub returns : goal.returns
returns g c = λ content image left found. found_holds g.D.Disk c.args._files.now content left image found
