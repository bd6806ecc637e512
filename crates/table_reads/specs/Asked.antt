-- What is asked of a set that a desk has.
use Rattle.std.specs.Prelude.{◌≡◌, Result}
use Rattle.sqlite.specs.State.{State}
use Rattle.version_nodes.specs.Trees.{Ancestry}
use Rattle.bug_record.specs.Images.{HasMember, IsSetOf}
use Rattle.bug_record.specs.declared.bug.SetImage.{SetImage}
use Rattle.base_faults.specs.declared.store_fault.StoreFault.{StoreFault}
use Rattle.table_content.specs.Content.{Content}
use Rattle.table_content.specs.Kept.{IsKeptContent}
use Rattle.table_content.specs.View.{desk_in}
use Rattle.table_schema.specs.Steps.{Acts}

-- the tables say what a desk keeps, and the image is a set of that desk, with a bug
pub record IsSetIn (i : SetImage) (c : Content) : Type 0 where
  pub kept : IsKeptContent c
  pub some : HasMember i
  pub set : IsSetOf (desk_in c) i

-- and the tree is that desk's
pub record IsAskedFor (t : Ancestry) (i : SetImage) (c : Content) : Type 0 where
  pub image : IsSetIn i c
  pub nodes : c.nodes ≡ t

-- a question: the tables say what they said, and where F holds of that, P holds of it and the
-- answer, and it fails for memory, the disk or its size alone
abbrev pub ReadsWhere : {A : Type 0} → (Content → Type 0) → (Content → A → Type 0) → State → State → Result A StoreFault → Type 0
ReadsWhere F P old new result = Acts old new result F (λ c d a. (d ≡ c) × (F c → P c a))
