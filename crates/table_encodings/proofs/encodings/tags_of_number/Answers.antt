use Rattle.table_encodings.specs.Encodings.{tags_in}
use Rattle.table_encodings.proofs.encodings.tags_of_number.Goals as goal

pub returns-in-Ok : goal.returns-in-Ok
unfolding tags_in
returns-in-Ok c = rw (c.new-tags.ensures, c.as_slice.ensures) at c.in-Ok.ensures
