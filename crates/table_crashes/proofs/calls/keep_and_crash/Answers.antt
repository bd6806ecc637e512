use Rattle.std.specs.Option.{option_copied}
use Rattle.desk_tables.proofs.KeepLemmas.{line_fits}
use Rattle.desk_tables.specs.Desk.{content_shown}
use Rattle.table_crashes.proofs.CrashLemmas.{either_keep, took_keep, done_keep}
use Rattle.table_crashes.proofs.calls.keep_and_crash.Goals as goal

pub returns-clause-either : goal.returns-clause-either
returns-clause-either g c =
    either_keep g.S.Store c.args.desk c.keep-kept.new.self c.crash_and_open-again.result c.crash_and_open-again.ensures.left c.crash_and_open-again.ensures.honest
    c.args.id.now c.args.from.now c.args.message.now c.args.outcome.now (option_copied c.args.change)
    c.keep-kept.ensures.crash c.keep-kept.ensures.honest
    (λ kept honest. line_fits (option_copied c.args.change) (content_shown c.args.desk) c.requires.members (c.requires.apart kept honest) (c.requires.fits kept honest))
    c.requires.sender

pub returns-clause-taken : goal.returns-clause-taken
returns-clause-taken g c =
    took_keep g.S.Store c.args.id.now c.args.from.now c.args.message.now c.args.outcome.now (option_copied c.args.change) c.args.desk c.crash_and_open-again.result
    (returns-clause-either g c)

pub returns-clause-done : goal.returns-clause-done
returns-clause-done g c =
    done_keep g.S.Store c.args.desk c.keep-kept.new.self c.crash_and_open-again.result c.crash_and_open-again.ensures.left c.crash_and_open-again.ensures.honest g.met.S.Store.settled
    c.args.id.now c.args.from.now c.args.message.now c.args.outcome.now (option_copied c.args.change) c.keep-kept.result c.keep-kept.ensures.answer c.keep-kept.ensures.serves
