use Rattle.std.specs.Prelude.{⊤}
use Rattle.std.proofs.lemmas.Result.{err_from_is_err_and}
use Rattle.base_words.specs.Words.{words_with_commas}
use Rattle.control_grammar.specs.Commands.{read_package}
use Rattle.control_parser.proofs.StepLemmas.{rest-read, rest-refused, rest-behind}
use Rattle.control_parser.proofs.affects.all_names.Goals as goal

pub returns : goal.returns
returns c =
    rest-read read_package c.args.rest.now (words_with_commas c.args.text.now) c.in_ok-names.names c.push_names.new.names c.in_ok-names.ensures c.in_ok-push_names.ensures

pub returns-in_err-names : goal.returns-in_err-names
returns-in_err-names c =
    let p = err_from_is_err_and c.from_residual.result c.from_residual.ensures.1 in
    rw (p.1, p.2) (rest-refused read_package c.args.rest.now (words_with_commas c.args.text.now)
    c.in_err-names.field-0.0 c.in_err-names.ensures)

pub returns-in_err-push_names : goal.returns-in_err-push_names
returns-in_err-push_names c =
    let p = err_from_is_err_and c.from_residual-in_err-push_names.result c.from_residual-in_err-push_names.ensures.1 in
    rw (p.1, p.2) (rest-behind ⊤ read_package c.args.rest.now (words_with_commas c.args.text.now)
    c.in_ok-names.names c.push_names.new.names c.in_err-push_names.field-0.0 c.in_ok-names.ensures c.in_err-push_names.ensures)
