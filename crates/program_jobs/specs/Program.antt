-- What the program does for the words of its command line, and what it leaves of files.
-- This project's own rule.
use Rattle.std.specs.Prelude.{ℕ, ◌≡◌, ◌⊎◌, List, Option, Result, Ok, Err}
use Rattle.sqlite_disk.specs.declared.start.Start.{Ghosts}
use Rattle.program_options.specs.Cut.{Text}
use Rattle.program_options.specs.Jobs.{IsJobOf, IsErrorOf}
use Rattle.program_options.specs.declared.job.Job.{Job}
use Rattle.program_options.specs.declared.job.WordsError.{WordsError}
use Rattle.program_options.specs.declared.job.WordsError.TheVariants.{Help, Bad, Memory}
use Rattle.program_jobs.specs.Jobs.{EndsUnopened, GivesText, IsJobLeaving}
use Rattle.program_jobs.specs.Left.{FilesLeft}
use Rattle.program_jobs.specs.declared.ending.Cause.TheVariants as causes
use Rattle.program_jobs.specs.declared.ending.JobEnd.{JobEnd}
use Rattle.program_jobs.specs.declared.ending.JobEnd.TheVariants.{Done, BadWords, Fault}
use Rattle.program_jobs.specs.declared.left.LeftFiles.TheVariants.{Nothing}

-- the words may be read so
abbrev pub AreReadAs : List Text → Result Job WordsError → Type 0
AreReadAs words (Ok job) = IsJobOf words job
AreReadAs words (Err error) = IsErrorOf words error

module _ {S : Type 0} (start : Ghosts S) where
  -- What is done for words that are read so, and what it leaves of files: their job is, or the help
  -- is given; bad words, and words for which there is no memory, end at once.
  abbrev pub Does : Result Job WordsError → Option (List ℕ) → Option (List ℕ) → Option (List ℕ) → JobEnd → FilesLeft start → Type 0
  Does (Ok job) r0 c0 c1 end left = IsJobLeaving start job r0 c0 c1 end left
  Does (Err (Help text)) r0 c0 c1 end left = GivesText Done text c0 c1 end × (left ≡ Nothing)
  Does (Err Bad) r0 c0 c1 end left = EndsUnopened start BadWords c0 c1 end left
  Does (Err Memory) r0 c0 c1 end left = EndsUnopened start (Fault causes.Memory) c0 c1 end left

  -- The words were read, and what they ask was done.
  pub record IsDone (words : List Text) (r0 c0 c1 : Option (List ℕ)) (end : JobEnd) (left : FilesLeft start) : Type 0 where
    pub reading : Result Job WordsError
    pub read : AreReadAs words reading
    pub does : Does reading r0 c0 c1 end left

-- the arguments of a process can't be read: one is no UTF-8, or there is no memory for them
abbrev pub IsArgsEnd : JobEnd → Type 0
IsArgsEnd end = (end ≡ BadWords) ⊎ (end ≡ Fault causes.Memory)
