use Rattle.table_encodings.specs.Encodings.{tags_number}
use Rattle.table_encodings.proofs.encodings.number_of_tags.Goals as goal

pub returns : goal.returns
unfolding tags_number
returns c = rw (c.as_slice.ensures, c.as_slice-2.ensures) at c.number_among.ensures.value
