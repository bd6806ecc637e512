-- The job that words name.
-- This project's own rule; bts(1) gives the words of a message.
use Rattle.std.specs.Prelude.{◌≡◌, ◌⊎◌, ⊤, ℕ, ◌&&◌, if◌then◌else◌, false, IsTrue, codes}
use Rattle.std.specs.Prelude.{List, [], ◌∷◌, Option, Some, None, is_none}
use Rattle.std.specs.Str.{bytes_eq}
use Rattle.base_words.specs.Texts.{is_text, IsText, IfGiven}
use Rattle.base_words.specs.Ids.{is_id, IsId}
use Rattle.control_text.specs.WordLines.{first_fault, lines}
use Rattle.base_words.specs.declared.named.TheConstants.{LARGEST_NUMBER}
use Rattle.program_options.specs.Cut.{Text, option_words, command_words, has_lone_dash}
use Rattle.program_options.specs.Options.{Given, given_in, refusals, asks_help, has_bad_option}
use Rattle.program_options.specs.Numbers.{number_in, number_or, IsWithin}
use Rattle.program_options.specs.declared.job.Job.{Job}
use Rattle.program_options.specs.declared.job.Job.TheVariants.{Run, Init, Serve, Send}
use Rattle.program_options.specs.declared.job.WordsError.{WordsError}
use Rattle.program_options.specs.declared.job.WordsError.TheVariants.{Help, Bad, Memory}

-- `run` has the option `--store`.
abbrev pub run_job : Given → Option Job
run_job g =
    if is_none g.from && is_none g.id && is_none g.port && is_none g.count && is_none g.first
    then Some (Run g.store) else None

-- the number of the first bug, from 1 to 999,999,999, or 1
abbrev pub first_in : Option Text → Option ℕ
first_in value = number_or 1 1 LARGEST_NUMBER value

abbrev pub init_with : Option Text → Option ℕ → Option Job
init_with (Some store) (Some first) = Some (Init store first)
init_with _ _ = None

-- `init` has `--store`, which is required, and `--first`.
abbrev pub init_job : Given → Option Job
init_job g =
    if is_none g.from && is_none g.id && is_none g.port && is_none g.count
    then init_with g.store (first_in g.first) else None

-- a port, from 1 to 65,535
abbrev pub port_in : Option Text → Option ℕ
port_in None = None
port_in (Some text) = number_in 1 65535 text

-- a count of connections, from 1 to 1,000,000, or that
abbrev pub count_in : Option Text → Option ℕ
count_in value = number_or 1000000 1 1000000 value

abbrev pub serve_with : Option Text → Option ℕ → Option ℕ → Option Job
serve_with store (Some port) (Some count) = Some (Serve store port count)
serve_with store _ _ = None

-- `serve` has `--port`, which is required, `--store` and `--count`.
abbrev pub serve_job : Given → Option Job
serve_job g =
    if is_none g.from && is_none g.id && is_none g.first
    then serve_with g.store (port_in g.port) (count_in g.count) else None

-- a sender, which is a text of 1 to 200 bytes
abbrev pub sender_in : Option Text → Option Text
sender_in None = None
sender_in (Some text) = if is_text text then Some text else None

-- an id, which may be left out
abbrev pub id_in : Option Text → Option (Option Text)
id_in None = Some None
id_in (Some text) = if is_id text then Some (Some text) else None

-- the lines of a message, if the words are lines (bts(1))
abbrev pub lines_in : List Text → Option (List Text)
lines_in words = if is_none (first_fault words) then Some (lines words) else None

abbrev pub send_with : Option Text → Option Text → Option (Option Text) → Option (List Text) → Option Job
send_with (Some store) (Some from) (Some id) (Some message) = Some (Send store from id message)
send_with _ _ _ _ = None

-- A message has `--store` and `--from`, which are required, and `--id`.
abbrev pub send_job : Given → List Text → Option Job
send_job g words =
    if is_none g.port && is_none g.count && is_none g.first
    then send_with g.store (sender_in g.from) (id_in g.id) (lines_in words) else None

-- the job of a command of one word: `run`, `init` and `serve` are lower case
abbrev pub job_of_word : Given → Text → Option Job
job_of_word g word =
    if bytes_eq word (codes "run") then run_job g
    else (if bytes_eq word (codes "init") then init_job g
    else (if bytes_eq word (codes "serve") then serve_job g
    else send_job g (word ∷ [])))

-- the job of a command; more words than one are a message
abbrev pub job_of : Given → List Text → Option Job
job_of g [] = run_job g
job_of g (word ∷ []) = job_of_word g word
job_of g (word ∷ other ∷ more) = send_job g (word ∷ other ∷ more)

-- the job that words name, with the values that `clap` finds
abbrev pub named : List Text → Option Job
named words = job_of (given_in (option_words words)) (command_words words)

-- `clap` takes the options, none of which is a lone `-`, and the words name this job.
abbrev pub IsJobOf : List Text → Job → Type 0
IsJobOf words job = (has_lone_dash (option_words words) ≡ false)
    × (refusals (option_words words) ≡ []) × (named words ≡ Some job)

-- The numbers of a job are in their ranges, its sender is a text, and its id is one.
abbrev pub IsGoodJob : Job → Type 0
IsGoodJob (Run store) = ⊤
IsGoodJob (Init store first) = IsWithin 1 LARGEST_NUMBER first
IsGoodJob (Serve store port count) = IsWithin 1 65535 port × IsWithin 1 1000000 count
IsGoodJob (Send store from id message) = IsText from × IfGiven IsId id

-- `clap` is asked for help, and no option is a lone `-`.
abbrev pub IsAskedForHelp : List Text → Type 0
IsAskedForHelp words = (has_lone_dash (option_words words) ≡ false)
    × IsTrue (asks_help (refusals (option_words words)))

-- Words are bad: an option is a lone `-`, or `clap` refuses one otherwise than by help, or it takes
-- them all and the words name no job.
abbrev pub IsBad : List Text → Type 0
IsBad words = IsTrue (has_lone_dash (option_words words))
    ⊎ (IsTrue (has_bad_option (refusals (option_words words)))
    ⊎ ((refusals (option_words words) ≡ []) × (named words ≡ None)))

-- Why words are no job.
-- Memory may be refused whatever they are.
abbrev pub IsErrorOf : List Text → WordsError → Type 0
IsErrorOf words (Help text) = IsAskedForHelp words
IsErrorOf words Bad = IsBad words
IsErrorOf words Memory = ⊤
