-- What a server tells of itself.
-- This project's own rule.
use Rattle.std.specs.Prelude.{ℕ, ◌++◌, List, Result, Ok, Err, codes, decimal, ⊤}
use Rattle.desk_http.specs.declared.port.ServerFault.{ServerFault}
use Rattle.desk_http.specs.declared.port.ServerFault.TheVariants.{Bind, Write, Store}

-- the line that tells where it listens
abbrev pub place_line : ℕ → List ℕ
place_line port = codes "Listening on 127.0.0.1:" ++ decimal port ++ codes "\n"

-- where the server came to serve, this holds
abbrev pub Serves : Result (Unit {0}) ServerFault → Type 0 → Type 0
Serves (Ok done) P = P
Serves (Err Store) P = P
Serves (Err Bind) P = ⊤
Serves (Err Write) P = ⊤
