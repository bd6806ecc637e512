use Rattle.desk_text.proofs.Appends.{utf8_more}
use Rattle.message_directives.proofs.transcript.received_text.Goals as goal

pub returns-clause-utf8 : goal.returns-clause-utf8
returns-clause-utf8 c =
    utf8_more c.extend_from_slice.result c.args.out.now.items c.in_ok-text.text.items _
    (rw c.as_slice-2.ensures.value at c.extend_from_slice.ensures.items) c.in_ok-text.ensures.utf8
