-- What every job keeps.
use Rattle.std.proofs.Common.{◌≡◌, ℕ, ◌&&◌, List, [], ◌∷◌, Bool, true, false, Option, Some, None, refl, sym, ◌∙◌, inl, inr, arith, subst, codes}
use Rattle.std.specs.Prelude.{if◌then◌else◌, is_none}
use Rattle.std.specs.Str.{bytes_eq}
use Rattle.std.proofs.lemmas.Bool.{cases_Bool, cond-true, cond-false}
use Rattle.base_words.specs.Texts.{is_text, IsText, IfGiven}
use Rattle.base_words.specs.Ids.{is_id, IsId}
use Rattle.program_options.specs.Cut.{Text}
use Rattle.program_options.specs.Options.{Given}
use Rattle.program_options.specs.Numbers.{IsWithin}
use Rattle.program_options.specs.Jobs.{run_job, first_in, init_with, init_job, port_in, count_in, serve_with, serve_job, sender_in, id_in, lines_in, send_with, send_job}
use Rattle.program_options.specs.Jobs.{job_of_word, job_of, IsGoodJob}
use Rattle.program_options.specs.declared.job.Job.{Job}
use Rattle.program_options.specs.declared.job.Job.TheVariants.{Run, Init, Serve, Send}
use Rattle.program_options.proofs.NumberLemmas.{number_in-within, number_or-within}

-- what holds of the job of either way holds
either-good : (b : Bool) (x y : Option Job) (job : Job) → (if b then x else y) ≡ Some job → (x ≡ Some job → IsGoodJob job)
    → (y ≡ Some job → IsGoodJob job) → IsGoodJob job
either-good true x y job h left right = left h
either-good false x y job h left right = right h

none-good : (job : Job) → None ≡ Some job → IsGoodJob job
none-good job h = absurd (cc)

run-good : (g : Given) (job : Job) → run_job g ≡ Some job → IsGoodJob job
run-good g job h =
    either-good (is_none g.from && is_none g.id && is_none g.port && is_none g.count && is_none g.first) (Some (Run g.store)) None job h
    (λ e. let is : Run g.store ≡ job = cc in subst IsGoodJob is tt) (none-good job)

init_with-good : (store : Option Text) (first : Option ℕ) (job : Job) → ((n : ℕ) → first ≡ Some n → IsWithin 1 999999999 n)
    → init_with store first ≡ Some job → IsGoodJob job
init_with-good None first job good h = absurd (cc)
init_with-good (Some store) None job good h = absurd (cc)
init_with-good (Some store) (Some first) job good h = let is : Init store first ≡ job = cc in subst IsGoodJob is (good first refl)

init-good : (g : Given) (job : Job) → init_job g ≡ Some job → IsGoodJob job
init-good g job h =
    either-good (is_none g.from && is_none g.id && is_none g.port && is_none g.count) (init_with g.store (first_in g.first)) None job h
    (init_with-good g.store (first_in g.first) job
    (λ n e. number_or-within 1 1 999999999 n g.first (record { low = omega arith; high = omega arith }) e)) (none-good job)

port_in-within : (value : Option Text) (n : ℕ) → port_in value ≡ Some n → IsWithin 1 65535 n
port_in-within None n h = absurd (cc)
port_in-within (Some text) n h = number_in-within 1 65535 n text h

serve_with-good : (store : Option Text) (port count : Option ℕ) (job : Job) → ((n : ℕ) → port ≡ Some n → IsWithin 1 65535 n)
    → ((n : ℕ) → count ≡ Some n → IsWithin 1 1000000 n) → serve_with store port count ≡ Some job → IsGoodJob job
serve_with-good store None count job ports counts h = absurd (cc)
serve_with-good store (Some port) None job ports counts h = absurd (cc)
serve_with-good store (Some port) (Some count) job ports counts h =
    let is : Serve store port count ≡ job = cc in subst IsGoodJob is (ports port refl, counts count refl)

serve-good : (g : Given) (job : Job) → serve_job g ≡ Some job → IsGoodJob job
serve-good g job h =
    either-good (is_none g.from && is_none g.id && is_none g.first) (serve_with g.store (port_in g.port) (count_in g.count)) None job h
    (serve_with-good g.store (port_in g.port) (count_in g.count) job (port_in-within g.port)
    (λ n e. number_or-within 1000000 1 1000000 n g.count (record { low = omega arith; high = omega arith }) e)) (none-good job)

sender_in-text : (value : Option Text) (s : Text) → sender_in value ≡ Some s → IsText s
sender_in-text None s h = absurd (cc)
sender_in-text (Some text) s h =
    elim (cases_Bool (is_text text)) [
      | inl good ↦
          let some : Some text ≡ Some s = sym (cond-true (is_text text) (Some text) None good) ∙ h in
          let is : text ≡ s = cc in
          subst IsText is good
      | inr other ↦ let none : None ≡ Some s = sym (cond-false (is_text text) (Some text) None other) ∙ h in absurd (cc)
    ]

id_in-id : (value : Option Text) (id : Option Text) → id_in value ≡ Some id → IfGiven IsId id
id_in-id None id h = let is : None ≡ id = cc in subst (IfGiven IsId) is tt
id_in-id (Some text) id h =
    elim (cases_Bool (is_id text)) [
      | inl good ↦
          let some : Some (Some text) ≡ Some id = sym (cond-true (is_id text) (Some (Some text)) None good) ∙ h in
          let is : Some text ≡ id = cc in
          subst (IfGiven IsId) is good
      | inr other ↦ let none : None ≡ Some id = sym (cond-false (is_id text) (Some (Some text)) None other) ∙ h in absurd (cc)
    ]

send_with-good : (store from : Option Text) (id : Option (Option Text)) (message : Option (List Text)) (job : Job)
    → ((s : Text) → from ≡ Some s → IsText s) → ((o : Option Text) → id ≡ Some o → IfGiven IsId o)
    → send_with store from id message ≡ Some job → IsGoodJob job
send_with-good None from id message job good ids h = absurd (cc)
send_with-good (Some store) None id message job good ids h = absurd (cc)
send_with-good (Some store) (Some from) None message job good ids h = absurd (cc)
send_with-good (Some store) (Some from) (Some id) None job good ids h = absurd (cc)
send_with-good (Some store) (Some from) (Some id) (Some message) job good ids h =
    let is : Send store from id message ≡ job = cc in subst IsGoodJob is (good from refl, ids id refl)

send-good : (g : Given) (words : List Text) (job : Job) → send_job g words ≡ Some job → IsGoodJob job
send-good g words job h =
    either-good (is_none g.port && is_none g.count && is_none g.first)
    (send_with g.store (sender_in g.from) (id_in g.id) (lines_in words)) None job h
    (send_with-good g.store (sender_in g.from) (id_in g.id) (lines_in words) job (sender_in-text g.from) (id_in-id g.id))
    (none-good job)

word-good : (g : Given) (word : Text) (job : Job) → job_of_word g word ≡ Some job → IsGoodJob job
word-good g word job h =
    either-good (bytes_eq word (codes "run")) _ _ job h (run-good g job)
    (λ h. either-good (bytes_eq word (codes "init")) _ _ job h (init-good g job)
    (λ h. either-good (bytes_eq word (codes "serve")) _ _ job h (serve-good g job) (send-good g (word ∷ []) job)))

pub job_of-good : (g : Given) (words : List Text) (job : Job) → job_of g words ≡ Some job → IsGoodJob job
job_of-good g [] job h = run-good g job h
job_of-good g (word ∷ []) job h = word-good g word job h
job_of-good g (word ∷ other ∷ more) job h = send-good g (word ∷ other ∷ more) job h
