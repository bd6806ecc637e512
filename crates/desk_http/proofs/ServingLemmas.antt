-- Turns, one after another, and one of them.
use Rattle.std.proofs.Common.{◌≡◌, ℕ, List, [], ◌∷◌, ◌++◌, Option, None, Result, Ok, Err, IfOk, OnErr, refl, sym, subst}
use Rattle.http_answers.specs.Stored.{Stored}
use Rattle.store_contract.specs.Crashes.{Holding}
use Rattle.store_contract.specs.Store.{Faults}
use Rattle.http_answers.specs.Faults.{counted_with}
use Rattle.http_requests.specs.Shown.{shown}
use Rattle.http_requests.specs.declared.reply.Reply.{Reply}
use Rattle.desk_http.specs.Exchange.{IsServed, IsCounted, IsRight}
use Rattle.desk_http.specs.declared.serve.Served.{Served}
use Rattle.desk_http.specs.declared.serve.Served.TheVariants.{Answered}
use Rattle.desk_http.specs.declared.serve.ServeFault.{ServeFault}
use Rattle.desk_http.specs.declared.serve.ServeFault.TheVariants.{Write}
use Rattle.desk_http.specs.Serving.{Turn, Clients, InTurn, IsServing, IsInTurn}
use Rattle.desk_http.specs.declared.port.ServerFault.{ServerFault}

-- one turn more
pub one_more : {A : Type 0} (Does : Turn → A → A → Type 0) (course : List Turn) (last : Turn) (a b c : A)
    → InTurn Does course a b → Does last b c → InTurn Does (course ++ last ∷ []) a c
one_more {A} Does [] last a b c same does = (c, subst (λ (x : A). Does last x c) same does, refl)
one_more Does (first ∷ rest) last a b c turns does =
    (turns.0, turns.1, one_more Does rest last turns.0 b c turns.2 does)

-- what a server leaves of a store that is kept and honest
pub in_turn : {S : Type 0} (k h : S → Type 0) (l : S → Holding → Holding → Type 0) (desk : S → Stored) (faults : S → Faults) (count : ℕ) (old new : S)
    (before after : Option Clients) (result : Result (Unit {0}) ServerFault) → IsServing k h l desk faults count old new before after result
    → k old → h new → IsInTurn count (desk old, faults old) (desk new, faults new) result
in_turn k h l desk faults count old new before after result s kept honest =
    record { course = s.course; ends = s.ends; leaves = s.leaves.fact kept honest }
