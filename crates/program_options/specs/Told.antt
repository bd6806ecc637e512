-- What the code holds and tells while options are read.
-- What it comes to is said in `Jobs`.
use Rattle.std.specs.Prelude.{◌≡◌, ⊤, Bool, true, false, IsTrue}
use Rattle.std.specs.Option.{option_copied}
use Rattle.clap.specs.Words.{Kinds}
use Rattle.clap.specs.declared.error.kind.ErrorKind.{ErrorKind}
use Rattle.clap.specs.declared.error.kind.ErrorKind.TheVariants as kind
use Rattle.program_options.specs.Options.{Given, is_help, asks_help, has_bad_option}
use Rattle.program_options.specs.declared.job.WordsError.{WordsError}
use Rattle.program_options.specs.declared.job.WordsError.TheVariants.{Help, Bad, Memory}
use Rattle.program_options.specs.declared.options.Values.{Values}

-- the values that the code holds
abbrev pub given_of : Values → Given
given_of v = record {
  store = option_copied v.store;
  from = option_copied v.from;
  id = option_copied v.id;
  port = option_copied v.port;
  count = option_copied v.count;
  first = option_copied v.first;
}

abbrev pub is_out_of_memory : ErrorKind → Bool
is_out_of_memory kind.OutOfMemory = true
is_out_of_memory _ = false

-- what is told of an error of `clap` of this kind
abbrev pub IsToldOfKind : ErrorKind → WordsError → Type 0
IsToldOfKind k (Help text) = IsTrue (is_help k)
IsToldOfKind k Bad = (is_help k ≡ false) × (is_out_of_memory k ≡ false)
IsToldOfKind k Memory = ⊤

-- what is told where `clap` may refuse the options for these reasons
abbrev pub IsToldOf : Kinds → WordsError → Type 0
IsToldOf kinds (Help text) = IsTrue (asks_help kinds)
IsToldOf kinds Bad = IsTrue (has_bad_option kinds)
IsToldOf kinds Memory = ⊤
