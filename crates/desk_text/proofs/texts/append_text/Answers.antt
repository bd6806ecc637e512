use Rattle.desk_text.proofs.Appends.{utf8_more}
use Rattle.desk_text.proofs.texts.append_text.Goals as goal

pub returns-clause-utf8 : goal.returns-clause-utf8
returns-clause-utf8 c =
    utf8_more c.extend_from_slice.result c.args.out.now.items c.args.text.now _
    (rw c.as_bytes.ensures.value at c.extend_from_slice.ensures.items) c.utf8.text
