use Rattle.std.proofs.Common.{◌∙◌, map, ap, ap₂, sym, subst, inl}
use Rattle.std.proofs.lemmas.Result.{err_from_is_err_and}
use Rattle.program_options.specs.Cut.{option_words}
use Rattle.program_options.specs.Options.{given_in, refusals}
use Rattle.program_options.specs.Told.{given_of, IsToldOf}
use Rattle.program_options.specs.Jobs.{job_of}
use Rattle.program_options.proofs.CutLemmas.{lone_dash-map}
use Rattle.program_options.proofs.OptionLemmas.{told-of_words}
use Rattle.program_options.proofs.JobLemmas.{job_of-good}
use Rattle.program_options.proofs.reading.read_words.Goals as goal

pub returns-then-has_lone_dash-clause-err : goal.returns-then-has_lone_dash-clause-err
returns-then-has_lone_dash-clause-err c =
    let words = map (λ s. s.now) c.args.words.now in
    inl (lone_dash-map c.has_lone_dash.result c.cut.result.0.now (option_words words) c.has_lone_dash.ensures c.cut.ensures.options
    ∙ c.if-has_lone_dash.true)

pub returns-in_err-values-clause-err : goal.returns-in_err-values-clause-err
returns-in_err-values-clause-err c =
    let p = err_from_is_err_and c.from_residual.result c.from_residual.ensures.1 in
    let words = map (λ s. s.now) c.args.words.now in
    let no_dash =
    lone_dash-map c.has_lone_dash.result c.cut.result.0.now (option_words words) c.has_lone_dash.ensures c.cut.ensures.options
    ∙ c.if-has_lone_dash.false in
    let error = c.in_err-values.field-0.0 in
    rw (p.1, p.2) (told-of_words words error no_dash
    (subst (λ options. IsToldOf (refusals options) error) c.cut.ensures.options c.in_err-values.ensures.err))

pub returns-in-Some-clause-ok : goal.returns-in-Some-clause-ok
returns-in-Some-clause-ok c =
    let words = map (λ s. s.now) c.args.words.now in
    let no_dash =
    lone_dash-map c.has_lone_dash.result c.cut.result.0.now (option_words words) c.has_lone_dash.ensures c.cut.ensures.options
    ∙ c.if-has_lone_dash.false in
    let values = c.in_ok-values.ensures.values ∙ ap given_in c.cut.ensures.options in (
      no_dash,
      ap refusals (sym c.cut.ensures.options) ∙ c.in_ok-values.ensures.taken,
      sym (ap₂ job_of values c.cut.ensures.command) ∙ sym c.in_ok-job.ensures ∙ c.in-Some.is,
    )

pub returns-in-Some-clause-good : goal.returns-in-Some-clause-good
returns-in-Some-clause-good c =
    job_of-good (given_of c.in_ok-values.values) (map (λ s. s.now) c.cut.result.1.now) c.in-Some.job (sym c.in_ok-job.ensures ∙ c.in-Some.is)
