-- The shared fields of a set, which are read part by part.
use Rattle.std.proofs.Common.{◌≡◌, ℕ, List}
use Rattle.version_nodes.specs.Nodes.{Node}
use Rattle.table_content.specs.Content.{Content}
use Rattle.table_content.specs.View.{shared_of}
use Rattle.table_content.specs.declared.edit.SetFields.{SetFields}

pub read_is : (c : Content) (k : ℕ) (f : SetFields) (found fixed : List Node) (blockers : List ℕ) (affects : List (List ℕ)) → found ≡ c.found k → fixed ≡ c.fixed k → blockers ≡ c.blockers k
    → affects ≡ c.affects k → record (shared_of c k f) { affects = affects; found = found; fixed = fixed; blockers = blockers } ≡ shared_of c k f
read_is c k f found fixed blockers affects p q r s = λ j. record (shared_of c k f) { affects = s j; found = p j; fixed = q j; blockers = r j }
