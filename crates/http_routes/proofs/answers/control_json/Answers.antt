use Rattle.std.proofs.Common.{rules, ◌∙◌, ap}
use Rattle.std.proofs.lemmas.Result.{IfOk-weaker}
use Rattle.serde_json.specs.Written.{has_float, compact_text}
use Rattle.http_routes.proofs.AnswerLemmas.{control_text}
use Rattle.http_routes.proofs.answers.control_json.Goals as goal

pub returns-clause-text : goal.returns-clause-text
returns-clause-text c =
    let e = c.in_ok-control_value.ensures in
    IfOk-weaker c.to_string.result _ _
    (λ s h. h (ap has_float e) ∙ ap compact_text e ∙ control_text _ _)
    c.to_string.ensures.text

pub returns-clause-reads_back : goal.returns-clause-reads_back
returns-clause-reads_back c = search rules
