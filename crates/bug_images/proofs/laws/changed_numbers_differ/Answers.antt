use Rattle.bug_images.proofs.ChangedLemmas.{changed-differ}
use Rattle.bug_images.proofs.laws.changed_numbers_differ.Goals as goal

pub returns : goal.returns
returns c d e sound sound_after later = changed-differ d e sound sound_after later
