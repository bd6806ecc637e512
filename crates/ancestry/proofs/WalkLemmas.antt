-- One step of a walk along a line.
use Rattle.std.proofs.Common.{◌≡◌, ◌∷◌, List, Option, Some, Bor, false, ◌||◌, ap, sym, ◌∙◌}
use Rattle.std.specs.Prelude.{if◌then◌else◌}
use Rattle.std.specs.Option.{option_copied}
use Rattle.version_nodes.specs.Nodes.{Node}
use Rattle.version_nodes.specs.Trees.{Ancestry, has_node, parent_of, line, IsForest}
use Rattle.version_nodes.specs.Statuses.{first_marked}
use Rattle.ancestry.proofs.LineLemmas.{line_above, line_step}

-- the line from where the walk is, and that from where it goes on
pub walk_step : (t : Ancestry) (at above : Option (Bor Node)) (here : Bor Node) → IsForest t → at ≡ Some here
    → option_copied above ≡ parent_of t here.now
    → line_above (line t) (option_copied at) ≡ here.now ∷ line_above (line t) (option_copied above)
walk_step t at above here forest e f =
    ap (λ o. line_above (line t) (option_copied o)) e ∙ line_step t here.now forest
    ∙ ap (λ o. here.now ∷ line_above (line t) o) (sym f)

-- a node in neither list decides nothing
pub unmarked : (found fixed line : List Node) (n : Node) → has_node found n ≡ false → has_node fixed n ≡ false
    → first_marked found fixed (n ∷ line) ≡ first_marked found fixed line
unmarked found fixed line n h g =
    ap (λ b. if b then Some n else first_marked found fixed line) (ap (λ b. b || has_node fixed n) h ∙ g)
