use Rattle.bug_record.proofs.NewBugLemmas.{changed-new}
use Rattle.bug_images.proofs.laws.new_bugs_are_changed.Goals as goal

pub returns : goal.returns
returns c d new many sound = changed-new d new many sound
