use Rattle.std.proofs.Common.{◌++◌, ◌∙◌, ap, refl}
use Rattle.store_contract.specs.Message.{names_of}
use Rattle.message_recall.proofs.RecallLemmas.{ready-recalled, recalled-some, recalled-none}
use Rattle.message_recall.proofs.recalling.recall_line.Goals as goal

pub settle-requires-clause-ready : goal.settle-requires-clause-ready
settle-requires-clause-ready c =
    let names = rw c.in-Some.is at c.in_ok-names.ensures.names in
    ready-recalled c.args.progress.now.outcomes.items _ _ c.args.progress.now.known.names _ c.args.line.now c.in-Some.names
    c.args.outcome.now _ c.requires.in_step c.copies.ensures.same c.in_ok-text.ensures.entry names
    (c.in_ok-note.ensures.named
    ∙ ap (λ ks. c.args.progress.now.known.names ++ names_of ks c.in_ok-text.outcome) c.as_slice.ensures)

pub returns-clause-added : goal.returns-clause-added
returns-clause-added c =
    let names = rw c.in-Some.is at c.in_ok-names.ensures.names in
    recalled-some c.args.progress.now.outcomes.items _ _ c.args.line.now c.in-Some.names c.args.outcome.now (c.in_ok-text.text, c.in_ok-text.outcome)
    c.copies.ensures.same c.in_ok-text.ensures.entry names c.settle.ensures.added

pub returns-in_default-clause-added : goal.returns-in_default-clause-added
returns-in_default-clause-added c =
    let none = rw c.in_default.is at c.in_ok-names.ensures.names in
    recalled-none c.args.progress.now.outcomes.items _ c.args.line.now c.args.outcome.now none refl
