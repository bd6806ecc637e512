-- The lines of a job that sends a message.
use Rattle.std.proofs.Common.{◌≡◌, ◌&&◌, ℕ, Bool, true, false, List, [], ◌∷◌, Option, Some, None, inl, inr, refl, sym, subst, ◌∙◌, codes}
use Rattle.std.specs.Prelude.{⊤, is_none, if◌then◌else◌}
use Rattle.std.specs.Str.{bytes_eq}
use Rattle.std.proofs.lemmas.Bool.{cases_Bool, cond-true, cond-false}
use Rattle.bug_record.specs.Sets.{Each}
use Rattle.control_text.specs.WordLines.{first_fault, lines}
use Rattle.program_options.specs.Cut.{Text, command_words, option_words}
use Rattle.program_options.specs.Options.{Given, given_in}
use Rattle.program_options.specs.Jobs.{run_job, first_in, init_with, init_job, port_in, count_in, serve_with, serve_job, sender_in, id_in, lines_in, send_with, send_job, job_of_word, job_of, IsJobOf}
use Rattle.program_options.specs.declared.job.Job.{Job}
use Rattle.program_options.specs.declared.job.Job.TheVariants.{Run, Init, Serve, Send}
use Rattle.program_options.specs.Message.{IsPlainLine}
use Rattle.program_options.proofs.PlainLemmas.{lines_plain}

-- the lines that a job sends are those of these words
abbrev SendsLines : List Text → Job → Type 0
SendsLines words (Send store from id lines) = lines_in words ≡ Some lines
SendsLines words job = ⊤

either : (P : Job → Type 0) (b : Bool) (x y : Option Job) (job : Job) → (if b then x else y) ≡ Some job → (x ≡ Some job → P job)
    → (y ≡ Some job → P job) → P job
either P true x y job h left right = left h
either P false x y job h left right = right h

module _ (words : List Text) where
  none : (job : Job) → None ≡ Some job → SendsLines words job
  none job h = absurd (cc)

  run_sends : (g : Given) (job : Job) → run_job g ≡ Some job → SendsLines words job
  run_sends g job h =
      either (SendsLines words) _ (Some (Run g.store)) None job h
      (λ e. let is : Run g.store ≡ job = cc in subst (SendsLines words) is tt) (none job)

  init_with_sends : (store : Option Text) (first : Option ℕ) (job : Job) → init_with store first ≡ Some job → SendsLines words job
  init_with_sends None first job h = absurd (cc)
  init_with_sends (Some store) None job h = absurd (cc)
  init_with_sends (Some store) (Some first) job h = let is : Init store first ≡ job = cc in subst (SendsLines words) is tt

  init_sends : (g : Given) (job : Job) → init_job g ≡ Some job → SendsLines words job
  init_sends g job h =
      either (SendsLines words) _ (init_with g.store (first_in g.first)) None job h (init_with_sends g.store (first_in g.first) job) (none job)

  serve_with_sends : (store : Option Text) (port count : Option ℕ) (job : Job) → serve_with store port count ≡ Some job → SendsLines words job
  serve_with_sends store None count job h = absurd (cc)
  serve_with_sends store (Some port) None job h = absurd (cc)
  serve_with_sends store (Some port) (Some count) job h = let is : Serve store port count ≡ job = cc in subst (SendsLines words) is tt

  serve_sends : (g : Given) (job : Job) → serve_job g ≡ Some job → SendsLines words job
  serve_sends g job h =
      either (SendsLines words) _ (serve_with g.store (port_in g.port) (count_in g.count)) None job h
      (serve_with_sends g.store (port_in g.port) (count_in g.count) job) (none job)

  send_with_sends : (store from : Option Text) (id : Option (Option Text)) (message : Option (List Text)) (job : Job)
      → lines_in words ≡ message → send_with store from id message ≡ Some job → SendsLines words job
  send_with_sends None from id message job is h = absurd (cc)
  send_with_sends (Some store) None id message job is h = absurd (cc)
  send_with_sends (Some store) (Some from) None message job is h = absurd (cc)
  send_with_sends (Some store) (Some from) (Some id) None job is h = absurd (cc)
  send_with_sends (Some store) (Some from) (Some id) (Some message) job is h =
      let same : Send store from id message ≡ job = cc in subst (SendsLines words) same is

  send_sends : (g : Given) (job : Job) → send_job g words ≡ Some job → SendsLines words job
  send_sends g job h =
      either (SendsLines words) _ (send_with g.store (sender_in g.from) (id_in g.id) (lines_in words)) None job h
      (send_with_sends g.store (sender_in g.from) (id_in g.id) (lines_in words) job refl) (none job)

word_sends : (g : Given) (word : Text) (job : Job) → job_of_word g word ≡ Some job → SendsLines (word ∷ []) job
word_sends g word job h =
    either (SendsLines (word ∷ [])) (bytes_eq word (codes "run")) _ _ job h (run_sends (word ∷ []) g job)
    (λ h. either (SendsLines (word ∷ [])) (bytes_eq word (codes "init")) _ _ job h (init_sends (word ∷ []) g job)
    (λ h. either (SendsLines (word ∷ [])) (bytes_eq word (codes "serve")) _ _ job h (serve_sends (word ∷ []) g job) (send_sends (word ∷ []) g job)))

sends : (g : Given) (words : List Text) (job : Job) → job_of g words ≡ Some job → SendsLines words job
sends g [] job h = run_sends [] g job h
sends g (word ∷ []) job h = word_sends g word job h
sends g (word ∷ other ∷ more) job h = send_sends (word ∷ other ∷ more) g job h

sent_plain : (words sent : List Text) → lines_in words ≡ Some sent → Each IsPlainLine sent
sent_plain words sent is = elim (cases_Bool (is_none (first_fault words))) [
  | inl good ↦
      let some : Some (lines words) ≡ Some sent = sym (cond-true (is_none (first_fault words)) (Some (lines words)) None good) ∙ is in
      let same : lines words ≡ sent = cc in
      subst (Each IsPlainLine) same (lines_plain words good)
  | inr bad ↦ absurd (let no : None ≡ Some sent = sym (cond-false (is_none (first_fault words)) (Some (lines words)) None bad) ∙ is in cc)
]

-- a job of words sends plain lines
pub words_plain : (words : List Text) (store from : Text) (id : Option Text) (sent : List Text) → IsJobOf words (Send store from id sent)
    → Each IsPlainLine sent
words_plain words store from id sent is =
    sent_plain (command_words words) sent (sends (given_in (option_words words)) (command_words words) (Send store from id sent) is.2)
