-- What a command does to a desk, over whole records (the BTS page 'control and manipulation'; when
-- `found n v` opens a bug, what an open bug's `reopen` and a `reassign` to the bug's own package
-- do, which blockers `block` takes, and which bugs `archive` takes, is this project's own rule).
use Rattle.std.specs.Prelude.{ℕ, ◌==◌, ◌&&◌, false, true, List, [], ◌∷◌, Option, Some, None, Result, Ok, unwrap_or}
use Rattle.std.specs.Prelude.{◌++◌, not, filter, option_map, if◌then◌else◌}
use Rattle.std.specs.Str.{bytes_eq}
use Rattle.base_words.specs.declared.named.Named.{Named}
use Rattle.version_nodes.specs.Nodes.{Node}
use Rattle.std.specs.List.{find}
use Rattle.base_sequences.specs.Sets.{has, number_set}
use Rattle.bug_record.specs.Marks.{with_node, without_node, is_below_some}
use Rattle.bug_record.specs.Tags.{with_tag, without_tag}
use Rattle.bug_record.specs.PackageSets.{has_name, name_set}
use Rattle.bug_record.specs.Desk.{Desk}
use Rattle.bug_record.specs.Commands.{node_meant, person, bug_named, command_over}
use Rattle.bug_record.specs.Bugs.{each_bug, with_new_bugs, at_bug, unless, first_of}
use Rattle.bug_record.specs.Words.{Names, meaning, words_refusal, number_by}
use Rattle.bug_record.specs.Clones.{name_refusal, cloned}
use Rattle.bug_record.specs.Heads.{open_head}
use Rattle.bug_record.specs.Differences.{first_difference, package_difference}
use Rattle.bug_record.specs.Merges.{sets_joined, unmerged}
use Rattle.bug_record.specs.declared.bug.Bug.{Bug}
use Rattle.bug_record.specs.declared.bug.Shared.{Shared}
use Rattle.bug_record.specs.declared.severity.Severity.{Severity}
use Rattle.bug_record.specs.declared.command.Command.{Command}
use Rattle.bug_record.specs.declared.command.Command.TheVariants as commands
use Rattle.bug_record.specs.declared.command.VersionArg.{VersionArg}
use Rattle.bug_record.specs.declared.command.AffectsStep.{AffectsStep}
use Rattle.bug_record.specs.declared.command.AffectsStep.TheVariants as affecting
use Rattle.bug_record.specs.declared.command.TagStep.{TagStep}
use Rattle.bug_record.specs.declared.command.TagStep.TheVariants.{Add, Remove, Clear}
use Rattle.bug_record.specs.declared.command.Refusal.{Refusal}
use Rattle.bug_record.specs.declared.command.Refusal.TheVariants.{NotArchived, OwnSet, NotDone, StillFound}
use Rattle.bug_record.specs.declared.tag.Tag.{Tag}

-- marked as found at n, and not as fixed there
abbrev pub marked_found : Node → Shared → Shared
marked_found n f = record f { found = with_node f.found n; fixed = without_node f.fixed n }

-- marked as fixed at n, and not as found there
abbrev pub marked_fixed : Node → Shared → Shared
marked_fixed n f = record f { found = without_node f.found n; fixed = with_node f.fixed n }

-- found at n: a closed bug stays closed where a version that stood in fixed before is higher
abbrev pub found_at : Node → Shared → Shared
found_at n f = record (marked_found n f) { closed = f.closed && is_below_some n f.fixed }

abbrev pub closed : Shared → Shared
closed f = record f { closed = true }

-- open, and nowhere fixed
abbrev pub opened : Shared → Shared
opened f = record f { closed = false; fixed = [] }

-- of another package, with no marks; nothing changes where it is the bug's own
abbrev pub moved_to : List ℕ → Shared → Shared
moved_to package_name f =
    if bytes_eq package_name f.package then f
    else record f { «package» = package_name; found = []; fixed = [] }

-- moved to a package, and found in the version there, and not fixed there
abbrev pub reassigned : List ℕ → Option VersionArg → Shared → Shared
reassigned package_name None f = moved_to package_name f
reassigned package_name (Some version) f = marked_found (node_meant package_name version) (moved_to package_name f)

-- blocked by these bugs too
abbrev pub blocked_by : List ℕ → Shared → Shared
blocked_by ns f = record f { blockers = number_set (f.blockers ++ ns) }

-- blocked by none of these bugs
abbrev pub unblocked_by : List ℕ → Shared → Shared
unblocked_by ns f = record f { blockers = filter (λ n. not (has ns n)) f.blockers }

-- the tags after these steps, taken in the order written
abbrev pub tags_after : List TagStep → List Tag → List Tag
tags_after [] tags = tags
tags_after (Add tag ∷ steps) tags = tags_after steps (with_tag tags tag)
tags_after (Remove tag ∷ steps) tags = tags_after steps (without_tag tags tag)
tags_after (Clear ∷ steps) tags = tags_after steps []

-- the packages that a bug affects after this step with these names
abbrev pub affects_after : AffectsStep → List (List ℕ) → List (List ℕ) → List (List ℕ)
affects_after affecting.Add names affects = name_set (affects ++ names)
affects_after affecting.Remove names affects = filter (λ n. not (has_name names n)) affects
affects_after affecting.Replace names affects = name_set names

-- what a command of this sender makes of the shared fields of the bug that it names, and of those
-- merged with it
abbrev pub shared_after : List ℕ → Command ℕ → Shared → Shared
shared_after sender (commands.Found n None) f = opened f
shared_after sender (commands.Found n (Some version)) f = found_at (node_meant f.package version) f
shared_after sender (commands.NotFound n version) f = record f { found = without_node f.found (node_meant f.package version) }
shared_after sender (commands.Fixed n version) f = marked_fixed (node_meant f.package version) f
shared_after sender (commands.NotFixed n version) f = record f { fixed = without_node f.fixed (node_meant f.package version) }
shared_after sender (commands.Close n None) f = closed f
shared_after sender (commands.Close n (Some version)) f = closed (marked_fixed (node_meant f.package version) f)
shared_after sender (commands.Reopen n who) f = if f.closed then opened f else f
shared_after sender (commands.Severity n severity) f = record f { severity = severity }
shared_after sender (commands.Tags n steps) f = record f { tags = tags_after steps f.tags }
shared_after sender (commands.Reassign n package_name version) f = reassigned package_name version f
shared_after sender (commands.Forwarded n text) f = record f { forwarded = Some text }
shared_after sender (commands.NotForwarded n) f = record f { forwarded = None }
shared_after sender (commands.Owner n who) f = record f { owner = Some (person sender who) }
shared_after sender (commands.NoOwner n) f = record f { owner = None }
shared_after sender (commands.Block n ns) f = blocked_by ns f
shared_after sender (commands.Unblock n ns) f = unblocked_by ns f
shared_after sender (commands.Archive n) f = record f { archived = true }
shared_after sender (commands.Unarchive n) f = record f { archived = false }
shared_after sender (commands.Affects n step names) f = record f { affects = affects_after step names f.affects }
shared_after sender command f = f

-- the new title of the bug m, where a command gives one: of the bug that it names alone
abbrev pub new_title : Command ℕ → ℕ → Option (List ℕ)
new_title (commands.Retitle n text) m = if m == n then Some text else None
new_title command m = None

-- the new submitter of the bug m, where a command gives one: of the bug that it names alone, or of
-- each closed bug that is reopened by somebody
abbrev pub new_submitter : List ℕ → Command ℕ → Shared → ℕ → Option (List ℕ)
new_submitter sender (commands.Submitter n who) f m = if m == n then Some (person sender who) else None
new_submitter sender (commands.Reopen n (Some who)) f m = if f.closed then Some (person sender who) else None
new_submitter sender command f m = None

-- a change to the record of every bug m that is merged with n: of its shared fields, and of its
-- title and its submitter, where there is a new one
abbrev pub change_set : Desk → ℕ → (Shared → Shared) → (ℕ → Option (List ℕ)) → (Shared → ℕ → Option (List ℕ)) → Desk
change_set d n f title who = each_bug d (λ m b. record b {
  shared = if has b.merged n then f b.shared else b.shared;
  title = if has b.merged n then unwrap_or (title m) b.title else b.title;
  submitter = if has b.merged n then unwrap_or (who b.shared m) b.submitter else b.submitter;
})

-- The refusals of the own tests of a command that changes records, in their order; those of merging
-- are in `Merges`, those of copying in `Clones`.
-- This is the open head of the bug that it names, these are the bugs merged with it, and these its
-- shared fields.
abbrev pub own_tests : Command ℕ → Option Node → List ℕ → Shared → List (Option Refusal)
own_tests (commands.Block n ns) head merged f = option_map OwnSet (find (has merged) ns) ∷ []
own_tests (commands.Archive n) head merged f = (if f.closed then None else Some (NotDone n)) ∷ option_map StillFound head ∷ []
own_tests (commands.Unarchive n) head merged f = (if f.archived then None else Some (NotArchived n)) ∷ []
own_tests command head merged f = []

-- a command that changes records, and no set, after its own tests; `head_of` gives open heads
abbrev pub records_changed : (Shared → Option Node) → List ℕ → Command ℕ → Desk → Result Desk Refusal
records_changed head_of sender command d =
    at_bug (d.bug (bug_named command)) (bug_named command)
    (λ b. unless (first_of (own_tests command (head_of b.shared) b.merged b.shared))
    (Ok (change_set d (bug_named command) (shared_after sender command) (new_title command) (new_submitter sender command))))

-- What a command of this sender comes to, none of whose bug words is refused.
-- `taken` tells the refusal of the names that it gives, and `head_of` gives open heads.
abbrev pub carried_out : (List ℕ → Option Refusal) → (Shared → Option Node) → Desk → List ℕ → Command ℕ → Result Desk Refusal
carried_out taken head_of d sender (commands.Merge n ns) = sets_joined first_difference d n ns
carried_out taken head_of d sender (commands.ForceMerge n ns) = sets_joined package_difference d n ns
carried_out taken head_of d sender (commands.Unmerge n) = unmerged d n
carried_out taken head_of d sender (commands.Clone n ks) = cloned taken d n ks
carried_out taken head_of d sender command = records_changed head_of sender command d

-- The new desk, or the refusal, of a command by this sender whose bug words mean this, whose names
-- have this refusal, and whose bugs have these open heads: the first refusal of a bug word, or else
-- what the command comes to.
abbrev pub step_by : {N : Type 0} → (N → Result ℕ Refusal) → (List ℕ → Option Refusal) → (Shared → Option Node)
    → Desk → List ℕ → Command N → Result Desk Refusal
step_by means taken head_of d sender command =
    unless (words_refusal means d.bug command)
    (carried_out taken head_of d sender (command_over (number_by means) command))

-- of a command over bug words, where these names are known
abbrev pub step : Names → Desk → List ℕ → Command Named → Result Desk Refusal
step names d sender command = step_by (meaning names) (name_refusal names) (open_head d.tree) d sender command

-- of a command over numbers, none of whose names is refused
abbrev pub step_of_numbers : Desk → List ℕ → Command ℕ → Result Desk Refusal
step_of_numbers d sender command = step_by (λ n. Ok n) (λ ks. None) (open_head d.tree) d sender command

-- the found marks of a new report
abbrev pub found_first : Option Node → List Node
found_first None = []
found_first (Some n) = n ∷ []

-- the record of a new report under this number: open, merged with none, and found at this node, if
-- one is given (reports are this project's own rule)
abbrev pub new_bug : ℕ → List ℕ → List ℕ → Severity → List ℕ → Option Node → Bug
new_bug number sender package_name severity title node = record {
  title = title;
  submitter = sender;
  shared = record {
    «package» = package_name;
    severity = severity;
    closed = false;
    forwarded = None;
    owner = None;
    tags =
        [];
    affects =
        [];
    found = found_first node;
    fixed = [];
    blockers = [];
    archived = false;
  };
  merged = number ∷ [];
}

-- the desk after a report: one bug is new
abbrev pub reported : Desk → List ℕ → List ℕ → Severity → List ℕ → Option Node → Desk
reported d sender package_name severity title node =
    with_new_bugs d (λ n. new_bug n sender package_name severity title node) 1
