-- The members that a value of `Members` keeps.
use Rattle.std.specs.Prelude.{List, [], ◌∷◌}
use Rattle.std.specs.Rc.{rc_slice_items}
use Rattle.bug_record.specs.declared.bug.Member.{Member}
use Rattle.bug_record.specs.declared.members.Kept.{Kept}
use Rattle.bug_record.specs.declared.members.Kept.TheVariants.{One, Many}

abbrev pub kept_members : Kept → List Member
kept_members (One member) = member ∷ []
kept_members (Many members) = rc_slice_items members
