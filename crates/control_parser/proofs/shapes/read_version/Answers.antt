use Rattle.std.proofs.Common.{◌≡◌, Option, cond, ap, ◌∙◌, subst}
use Rattle.std.specs.List.{before_first, after_first}
use Rattle.version_nodes.specs.Nodes.{is_slash}
use Rattle.bug_record.specs.declared.command.VersionArg.{VersionArg}
use Rattle.bug_record.specs.declared.command.Refusal.TheVariants.{BadVersion}
use Rattle.std.specs.Option.{ok_or}
use Rattle.control_parser.specs.Reads.{Reads}
use Rattle.control_grammar.specs.Versions.{bare_version, sourced_version, version_of_word}
use Rattle.control_parser.proofs.shapes.read_version.Goals as goal

pub returns-in-Some : goal.returns-in-Some
returns-in-Some c =
    let w = c.args.word.now in
    let same : sourced_version c.in-Some.source.now c.in-Some.version.now ≡ version_of_word w
    = (λ i. sourced_version (c.in-Some.ensures.before i) (c.in-Some.ensures.after i))
    ∙ ap (λ t. cond t (sourced_version (before_first is_slash w) (after_first is_slash w)) (bare_version w))
    c.in-Some.ensures.slash in
    subst (λ (o : Option VersionArg). Reads (ok_or o BadVersion) c.read_sourced.result) same c.read_sourced.ensures
