use Rattle.desk_text.proofs.Appends.{unappended}
use Rattle.desk_text.proofs.texts.append_fault.Goals as goal

pub returns-clause-err : goal.returns-clause-err
returns-clause-err c = unappended c.append_text.result c.args.out.now.items c.append_text.new.out.items c.append_text.ensures.err
