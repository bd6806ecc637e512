-- A command that gives no title and no submitter leaves each member as it was.
use Rattle.std.proofs.Common.{◌≡◌, ℕ, Bool, true, false, not, cond, List, [], ◌∷◌, Some, None, map, sym, refl, ap}
use Rattle.std.specs.Prelude.{unwrap_or}
use Rattle.std.proofs.lemmas.Bool.{false≢true}
use Rattle.bug_record.specs.Commands.{person}
use Rattle.bug_record.specs.declared.bug.Member.{Member}
use Rattle.bug_record.specs.declared.bug.Shared.{Shared}
use Rattle.bug_record.specs.declared.command.Command.{Command}
use Rattle.bug_record.specs.declared.command.Command.TheVariants as commands
use Rattle.bug_fields.specs.Members.{member_after, changes_members, leaves_members}

unchanged : (sender : List ℕ) (command : Command ℕ) (f : Shared) → changes_members command f ≡ false → (m : Member)
    → member_after sender command f m ≡ m
unchanged sender (commands.Retitle n text) f h m = absurd (false≢true (sym h))
unchanged sender (commands.Submitter n who) f h m = absurd (false≢true (sym h))
unchanged sender (commands.Reopen n (Some who)) f h m =
    ap (λ t. record m { submitter = unwrap_or (cond t (Some (person sender who)) None) m.submitter }) h
unchanged sender (commands.Reopen n None) f h m = refl
unchanged sender _ f h m = refl

pub members-unchanged : (sender : List ℕ) (command : Command ℕ) (f : Shared) → changes_members command f ≡ false
    → (ms : List Member) → ms ≡ map (member_after sender command f) ms
members-unchanged sender command f h [] = refl
members-unchanged sender command f h (m ∷ ms) =
    λ j. sym (unchanged sender command f h m) j ∷ members-unchanged sender command f h ms j

is-false : (b : Bool) → not b ≡ true → b ≡ false
is-false true h = absurd (false≢true h)
is-false false h = refl

-- a command that leaves the members changes none
pub leaves-changes : (command : Command ℕ) (f : Shared) → leaves_members command f ≡ true → changes_members command f ≡ false
leaves-changes (commands.Merge n ns) f h = absurd (false≢true h)
leaves-changes (commands.ForceMerge n ns) f h = absurd (false≢true h)
leaves-changes (commands.Unmerge n) f h = absurd (false≢true h)
leaves-changes (commands.Clone n ks) f h = absurd (false≢true h)
leaves-changes (commands.Reopen n (Some who)) f h = is-false f.closed h
leaves-changes (commands.Reopen n None) f h = refl
leaves-changes (commands.Retitle n text) f h = absurd (false≢true h)
leaves-changes (commands.Submitter n who) f h = absurd (false≢true h)
leaves-changes _ f h = refl
