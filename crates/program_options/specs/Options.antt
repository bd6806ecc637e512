-- The options, as `clap` reads them: which of their words it refuses, and the values that it finds.
-- Which options there are is this project's own rule.
use Rattle.std.specs.Prelude.{Bool, true, false, not, codes}
use Rattle.std.specs.Prelude.{List, [], ◌∷◌, Option, Some}
use Rattle.std.specs.List.{list_any}
use Rattle.clap.specs.Words.{App, Rule, Kinds, new_app, new_rule, with_rule, matches_of, first_of}
use Rattle.clap.specs.Words.{fault_of}
use Rattle.clap.specs.declared.error.kind.ErrorKind.{ErrorKind}
use Rattle.clap.specs.declared.error.kind.ErrorKind.TheVariants as kind
use Rattle.program_options.specs.Cut.{Text}

-- an option `--name=VALUE`
abbrev pub option : Text → Rule
option name = record (new_rule name) { long = Some name; value_names = 1 }

abbrev pub with_options : App → List Text → App
with_options app [] = app
with_options app (name ∷ names) = with_options (with_rule app (option name)) names

-- no name of the program stands before the words
abbrev pub without_name : App → App
without_name a = record a { top = record a.top { no_binary_name = true } }

-- the program's options; `--help` and `-h` come with every command
unfoldable pub options : App
options = with_options (without_name (new_app (codes "bts")))
    (codes "store" ∷ codes "from" ∷ codes "id" ∷ codes "port" ∷ codes "count" ∷ codes "first" ∷ [])

-- why `clap` refuses the words of options; empty where it takes them
unfoldable pub refusals : List Text → Kinds
refusals words = fault_of options words

-- the kind of error by which `clap` gives its help
abbrev pub is_help : ErrorKind → Bool
is_help kind.DisplayHelp = true
is_help _ = false

-- the refusal is that `clap` gives its help
abbrev pub asks_help : Kinds → Bool
asks_help kinds = list_any is_help kinds

-- the refusal is another
abbrev pub has_bad_option : Kinds → Bool
has_bad_option kinds = list_any (λ k. not (is_help k)) kinds

-- the value that `clap` finds of an option
unfoldable pub value_in : List Text → Text → Option Text
value_in words name = first_of name (matches_of options words)

-- the values of the options, of those that are given
pub record Given : Type 0 where
  pub store : Option Text
  pub from : Option Text
  pub id : Option Text
  pub port : Option Text
  pub count : Option Text
  pub first : Option Text

abbrev pub given_in : List Text → Given
given_in words = record {
  store = value_in words (codes "store");
  from = value_in words (codes "from");
  id = value_in words (codes "id");
  port = value_in words (codes "port");
  count = value_in words (codes "count");
  first = value_in words (codes "first");
}
