use Rattle.std.proofs.Common.{◌∙◌}
use Rattle.desk_text.specs.Texts.{fault_text}
use Rattle.desk_text.proofs.Appends.{cut_back, kept}
use Rattle.desk_text.proofs.texts.fault_text.Goals as goal

pub returns-then-is_err : goal.returns-then-is_err
returns-then-is_err c =
    cut_back c.append_fault-done.result c.args.out.now.items (fault_text c.args.fault)
    c.append_fault-done.new.out.items c.truncate.new.self.items c.len-before.result c.if-is_err.ensures.value
    (c.len-before.ensures ∙ c.args.out.now.ok.0) c.truncate.ensures.items c.append_fault-done.ensures

pub returns-else-is_err : goal.returns-else-is_err
returns-else-is_err c =
    kept c.append_fault-done.result c.args.out.now.items (fault_text c.args.fault)
    c.append_fault-done.new.out.items c.if-is_err.ensures.value c.append_fault-done.ensures
