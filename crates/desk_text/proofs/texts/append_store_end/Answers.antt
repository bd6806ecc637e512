use Rattle.desk_text.specs.Texts.{as_line, echo, fault_text, store_end_text}
use Rattle.desk_text.proofs.Appends.{stopped, then_appended}
use Rattle.desk_text.proofs.texts.append_store_end.Goals as goal

pub returns-in_err-append_echo : goal.returns-in_err-append_echo
returns-in_err-append_echo c =
    stopped c.from_residual.result c.args.out.now.items (store_end_text c.args.fault c.args.line.now)
    c.append_echo.new.out.items c.from_residual.ensures.0 c.in_err-append_echo.ensures.err c.append_echo.ensures.utf8

pub returns : goal.returns
returns c =
    then_appended c.append_fault.result c.args.out.now.items (as_line (echo c.args.line.now)) c.append_echo.new.out.items
    (fault_text c.args.fault) c.append_fault.new.out.items c.in_ok-append_echo.ensures.ok c.append_echo.ensures.utf8
    c.append_fault.ensures
