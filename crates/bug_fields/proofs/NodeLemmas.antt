-- Nodes of versions that are known to be versions.
use Rattle.std.proofs.Common.{◌≡◌, ℕ, List, Option, Some, None, sym, refl, ◌∙◌}
use Rattle.std.specs.Prelude.{unwrap_or}
use Rattle.std.proofs.lemmas.Option.{none-some}
use Rattle.debver.specs.Names.{IsName}
use Rattle.debver.specs.Cut.{IsVersion}
use Rattle.base_words.specs.Texts.{IfGiven}
use Rattle.version_nodes.specs.Nodes.{Node, node, node_of}
use Rattle.version_nodes.proofs.ReadLemmas.{nodes_exactly}

-- the node of two texts has these
pub of-some : (p w : List ℕ) (n : Node) → node_of p w ≡ Some n → n ≡ node p w
of-some p w n e = ((nodes_exactly p w n).0 e).0

-- where a version has none, the package is no package name
of-none : (p w : List ℕ) → IsVersion w → node_of p w ≡ None → ¬ (IsName p)
of-none p w h e name = none-some (node p w) (sym e ∙ (nodes_exactly p w (node p w)).1 (refl, name, h))

-- the same where the version has its own source, which is a package name
pub of-none-meant : (source : Option (List ℕ)) (p w : List ℕ) → IfGiven IsName source → IsVersion w
    → node_of (unwrap_or source p) w ≡ None → ¬ (IsName p)
of-none-meant None p w given h e = of-none p w h e
of-none-meant (Some s) p w given h e = λ name. of-none s w h e given
