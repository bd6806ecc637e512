use Rattle.std.proofs.Common.{List, ℕ, Bor, Option, subst}
use Rattle.std.specs.Option.{option_copied}
use Rattle.debver.specs.Cut.{IsVersion}
use Rattle.base_words.specs.Texts.{IfGiven}
use Rattle.message_directives.proofs.reporting.node_reported.Goals as goal

pub node_of-requires-clause-version : goal.node_of-requires-clause-version
node_of-requires-clause-version g c =
    subst (λ (v : Option (Bor (List ℕ))). IfGiven IsVersion (option_copied v)) c.in-Some.is c.requires.version
