-- What a server leaves of a store, and sends its clients: its connections, one after another.
-- This project's own rule.
use Rattle.std.specs.Prelude.{ℕ, ◌≡◌, ◌⊎◌, ◌<◌, ◌≤◌, List, [], ◌∷◌, ◌++◌, length, Option, Some, None, Result, Ok, Err, option_map}
use Rattle.http_answers.specs.Stored.{Stored, holding}
use Rattle.store_contract.specs.Crashes.{Holding}
use Rattle.desk_http.specs.Crashes.{LeavesServed}
use Rattle.store_contract.specs.Store.{Faults, Holds, total}
use Rattle.desk_http.specs.Exchange.{IsServed, IsCounted, TellsFault}
use Rattle.desk_http.specs.declared.connection.Connection.{Connection}
use Rattle.desk_http.specs.declared.serve.Served.{Served}
use Rattle.desk_http.specs.declared.serve.ServeFault.{ServeFault}
use Rattle.desk_http.specs.declared.port.ServerFault.{ServerFault}
use Rattle.desk_http.specs.declared.port.ServerFault.TheVariants.{Bind, Write, Store}

-- What a client sends, and what has been written to it before its connection is served, where that
-- is known; of a socket it is not.
pub record Client : Type 0 where
  pub sends : Option (List ℕ)
  pub written : Option (List ℕ)

-- the client of a connection
abbrev pub client_of : {R W : Type 0} → (R → Option (List ℕ)) → (W → Option (List ℕ)) → Connection R W → Client
client_of remaining contents connection =
    record { sends = remaining connection.reader; written = contents connection.writer }

-- The clients of a listener that are known: those that wait, and, of those whose connections have
-- ended, what was written to each.
pub record Clients : Type 0 where
  pub waiting : List Client
  pub ended : List (Option (List ℕ))

-- the next client is the first that waits, or none does
abbrev pub IsNext : Option Clients → Option Clients → Option Client → Type 0
IsNext None new client = new ≡ None
IsNext (Some old) new None = (old.waiting ≡ []) × (new ≡ Some old)
IsNext (Some old) new (Some client) =
    (rest : List Client) × (old.waiting ≡ client ∷ rest) × (new ≡ Some (record old { waiting = rest }))

-- A connection has ended to which this was written; a listener that has no room to keep that knows
-- its clients no more.
abbrev pub HasEnded : Option (List ℕ) → Option Clients → Option Clients → Type 0
HasEnded written old new = (new ≡ None) ⊎ (new ≡ option_map {T = Clients} (λ c. record c { ended = c.ended ++ written ∷ [] }) old)

-- a client, what was written to it in all, and how it was served
pub record Exchanged : Type 0 where
  pub client : Client
  pub written : Option (List ℕ)
  pub result : Result Served ServeFault

-- what came of a turn of a server: an exchange, or none where no connection could be accepted
abbrev pub Turn : Type 0
Turn = Option Exchanged

-- what a store holds, and its faults
abbrev pub State : Type 0
State = Stored × Faults

-- What a turn leaves.
-- Which bytes a socket gives and takes is not known: where there was an answer to write, the
-- store holds what it holds after the answer to some input, and the status that is named is that
-- answer's.
-- Else all stays; a fault that was met is counted.
abbrev pub Leaves : Turn → State → State → Type 0
Leaves None old new = new ≡ old
Leaves (Some e) old new = IsServed e.client.sends old.0 new.0 old.1 new.1 e.client.written e.written e.result

-- the store's faults after a turn, whatever the store is; the answer tells the one that was met
abbrev pub Counts : Turn → Faults → Faults → Type 0
Counts None before after = after ≡ before
Counts (Some e) before after = IsCounted e.result before after × TellsFault e.result before after e.client.written e.written

-- the clients after a turn: the next one was served, and this was written to it
abbrev pub Hears : Turn → Option Clients → Option Clients → Type 0
Hears None old new = IsNext old new None
Hears (Some e) old new =
    (between : Option Clients) × IsNext old between (Some e.client) × HasEnded e.written between new

-- what a crash leaves of the store in a turn
abbrev pub LeavesTurn : {S : Type 0} → (S → Type 0) → (S → Type 0) → (S → Holding → Holding → Type 0) → (S → Stored) → Turn → S → S → Type 0
LeavesTurn is_kept is_honest leaves held None old new = new ≡ old
LeavesTurn is_kept is_honest leaves held (Some e) old new =
    Holds is_kept is_honest old new (LeavesServed leaves old new e.client.sends e.result (holding (held old)) (holding (held new)))

-- the turns came one after another, and each did this
abbrev pub InTurn : {A : Type 0} → (Turn → A → A → Type 0) → List Turn → A → A → Type 0
InTurn {A} Does [] old new = new ≡ old
InTurn {A} Does (turn ∷ rest) old new =
    (between : A) × Does turn old between × InTurn Does rest between new

-- no turn but the last raised the store's faults
pub record StopsAtFault (course : List Turn) (n0 n1 : Faults) : Type 0 where
  pub good : List Turn
  pub last : Turn
  pub between : Faults
  pub is : course ≡ good ++ last ∷ []
  pub counts : InTurn Counts good n0 between
  pub none : total between ≡ total n0
  pub met : Counts last between n1
  pub rose : total n0 < total n1

-- How a server of so many connections ends: all were served and the store's faults stand as they
-- stood, or it ends right after the connection that raised them.
abbrev pub EndsServer : ℕ → List Turn → Faults → Faults → Result (Unit {0}) ServerFault → Type 0
EndsServer count course n0 n1 (Ok done) = (length course ≡ count) × (total n1 ≡ total n0)
EndsServer count course n0 n1 (Err Store) = (length course ≤ count) × StopsAtFault course n0 n1
EndsServer count course n0 n1 (Err Bind) = ⊥
EndsServer count course n0 n1 (Err Write) = ⊥

-- What a server of so many connections leaves of its store, and sends its clients: these turns came
-- one after another, in each of them a connection was served as an exchange is, and the server ends
-- as they say.
pub record IsServing {S : Type 0} (is_kept is_honest : S → Type 0) (leaves_of : S → Holding → Holding → Type 0) (held : S → Stored)
    (faults : S → Faults) (count : ℕ) (old new : S) (clients_before clients_after : Option Clients) (result : Result (Unit {0}) ServerFault) : Type 0 where
  pub course : List Turn
  pub ends : EndsServer count course (faults old) (faults new) result
  pub counts : InTurn Counts course (faults old) (faults new)
  pub leaves : Holds is_kept is_honest old new
      (InTurn Leaves course (held old, faults old) (held new, faults new))
  pub hears : InTurn Hears course clients_before clients_after
  pub crashes : InTurn (LeavesTurn is_kept is_honest leaves_of held) course old new

-- a turn was taken, of which this came
pub record TakesTurn {S L : Type 0} (is_kept is_honest : S → Type 0) (leaves_of : S → Holding → Holding → Type 0) (held : S → Stored)
    (faults : S → Faults) (clients : L → Option Clients) (old new : S) (before after : L) : Type 0 where
  pub turn : Turn
  pub counts : Counts turn (faults old) (faults new)
  pub leaves : Holds is_kept is_honest old new (Leaves turn (held old, faults old) (held new, faults new))
  pub hears : Hears turn (clients before) (clients after)
  pub crashes : LeavesTurn is_kept is_honest leaves_of held turn old new

-- The same without the store, where it is kept and honest: these turns came one after another and
-- left this of what it held and of its faults, and the server ends as they say.
pub record IsInTurn (count : ℕ) (old new : State) (result : Result (Unit {0}) ServerFault) : Type 0 where
  pub course : List Turn
  pub ends : EndsServer count course old.1 new.1 result
  pub leaves : InTurn Leaves course old new
