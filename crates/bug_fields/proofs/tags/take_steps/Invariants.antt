use Rattle.std.proofs.Common.{◌≡◌, drop}
use Rattle.bug_record.specs.Steps.{tags_after}
use Rattle.bug_fields.proofs.tags.take_steps.Given as goal

abbrev pub invariant-loop-step : goal.invariant-loop-step
invariant-loop-step l = tags_after (drop l.step-index l.steps) l.tags ≡ tags_after l.steps l.fn.tags
