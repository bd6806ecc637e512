-- The directive that the code's value says.
use Rattle.std.specs.Option.{option_copied}
use Rattle.base_words.specs.Words.{words}
use Rattle.desk_run.specs.Script as script
use Rattle.desk_run.specs.declared.directive.Directive.{Directive}
use Rattle.desk_run.specs.declared.directive.Directive.TheVariants.{From, Report, Branch, ListOf, Show, Bad}
use Rattle.std.specs.Prelude.{⊤}
use Rattle.base_words.specs.Texts.{IsText}

abbrev pub said : Directive → script.Directive
said (From sender) = script.From sender.now
said (Report words) = script.Report words.package.now (option_copied words.version) words.severity.now words.title.now
said (Branch rest) = script.Branch (words rest.now)
said (ListOf words) = script.ListOf words.package.now words.version.now
said (Show number) = script.Show number
said Bad = script.Bad

-- a sender is a text of 1 to 200 bytes
abbrev pub HasGoodSender : script.Directive → Type 0
HasGoodSender (script.From sender) = IsText sender
HasGoodSender directive = ⊤
