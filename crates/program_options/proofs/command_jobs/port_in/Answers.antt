use Rattle.std.proofs.Common.{rules}
use Rattle.std.proofs.Common.{◌∙◌, sym, arith}
use Rattle.program_options.proofs.NumberLemmas.{number_in-within}
use Rattle.program_options.proofs.command_jobs.port_in.Goals as goal

pub overflow_cast-result : goal.overflow_cast-result
overflow_cast-result c =
    let within = number_in-within _ _ c.in_ok-port.port c.in_ok-text.field-0.now (sym c.number_in.ensures ∙ c.in_ok-port.was) in
    let high = within.high in
    omega (arith, high)

pub returns-in_err-port : goal.returns-in_err-port
returns-in_err-port c = search rules

pub returns : goal.returns
returns c = search rules
