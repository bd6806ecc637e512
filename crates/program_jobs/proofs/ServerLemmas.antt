-- What a server that came to serve does, in other words.
use Rattle.std.proofs.Common.{Ok, Err, Result}
use Rattle.desk_http.specs.Port.{Serves}
use Rattle.desk_http.specs.declared.port.ServerFault.{ServerFault}
use Rattle.desk_http.specs.declared.port.ServerFault.TheVariants.{Bind, Write, Store}

pub serves_weaker : {P Q : Type 0} (result : Result (Unit {0}) ServerFault) → (P → Q) → Serves result P → Serves result Q
serves_weaker (Ok done) f p = f p
serves_weaker (Err Store) f p = f p
serves_weaker (Err Bind) f p = tt
serves_weaker (Err Write) f p = tt
