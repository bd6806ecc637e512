-- A command keeps the limits of shared fields, and those of titles and submitters.
use Rattle.std.proofs.Common.{ℕ, Bool, true, false, cond, eqb, List, [], ◌∷◌, Option, Some, None}
use Rattle.std.specs.Prelude.{◌++◌, not, filter, unwrap_or}
use Rattle.std.specs.Str.{bytes_eq}
use Rattle.debver.specs.Names.{IsName}
use Rattle.version_nodes.specs.Nodes.{Node, IsNode}
use Rattle.bug_record.specs.Sets.{has, Each, number_set}
use Rattle.base_words.specs.Texts.{IsGoodText, IfGiven}
use Rattle.bug_record.specs.Marks.{IsNodeSet, with_node, without_node}
use Rattle.bug_record.specs.Tags.{IsTagSet, with_tag, without_tag}
use Rattle.bug_record.specs.PackageSets.{has_name, IsNameSet}
use Rattle.bug_record.specs.Desk.{IsGoodShared}
use Rattle.bug_record.specs.Commands.{node_meant, person, IsGoodVersion, IsGoodPerson, HasGoodParts, IsUtf8Person, HasUtf8Texts}
use Rattle.bug_record.specs.Steps.{marked_found, marked_fixed, found_at, opened, closed, moved_to, reassigned, tags_after}
use Rattle.bug_record.specs.Steps.{shared_after, new_title, new_submitter, affects_after}
use Rattle.bug_record.specs.declared.bug.Shared.{Shared}
use Rattle.bug_record.specs.declared.command.Command.{Command}
use Rattle.bug_record.specs.declared.command.Command.TheVariants as commands
use Rattle.bug_record.specs.declared.command.TagStep.{TagStep}
use Rattle.bug_record.specs.declared.command.TagStep.TheVariants.{Add, Remove, Clear}
use Rattle.bug_record.specs.declared.command.VersionArg.{VersionArg}
use Rattle.bug_record.specs.declared.command.AffectsStep.{AffectsStep}
use Rattle.bug_record.specs.declared.command.AffectsStep.TheVariants as affecting
use Rattle.bug_record.specs.declared.command.Who.{Who}
use Rattle.bug_record.specs.declared.command.Who.TheVariants.{Sender, Given}
use Rattle.bug_record.specs.declared.tag.Tag.{Tag}
use Rattle.bug_record.proofs.MarkLemmas.{set-none, set-with, set-without}
use Rattle.bug_record.proofs.PackageLemmas.{names-set, names-filter}
use Rattle.bug_record.proofs.TagLemmas.{set-none_tags, set-with_tag, set-without_tag}

-- the node that a version means for a package name
pub meant-valid : (package_name : List ℕ) (version : VersionArg) → IsName package_name → IsGoodVersion version
    → IsNode (node_meant package_name version)
meant-valid package_name version name good = record { source = source version.source good.source; version = good.version }
  where
    source : (s : Option (List ℕ)) → IfGiven IsName s → IsName (unwrap_or s package_name)
    source None h = name
    source (Some s) h = h

-- fields with another state and other marks
abbrev with_marks : Bool → List Node → List Node → Shared → Shared
with_marks state found fixed f = record f { closed = state; found = found; fixed = fixed }

good-marks : (state : Bool) (found fixed : List Node) (f : Shared) → IsNodeSet found → IsNodeSet fixed → IsGoodShared f
    → IsGoodShared (with_marks state found fixed f)
good-marks state found fixed f a b h =
    record { package_name = h.package_name; forwarded = h.forwarded; owner = h.owner; tags = h.tags; affects = h.affects; found = a; fixed = b }

good-marked_found : (n : Node) (f : Shared) → IsNode n → IsGoodShared f → IsGoodShared (marked_found n f)
good-marked_found n f v h =
    good-marks f.closed (with_node f.found n) (without_node f.fixed n) f (set-with f.found n h.found v)
    (set-without f.fixed n h.fixed) h

good-marked_fixed : (n : Node) (f : Shared) → IsNode n → IsGoodShared f → IsGoodShared (marked_fixed n f)
good-marked_fixed n f v h =
    good-marks f.closed (without_node f.found n) (with_node f.fixed n) f (set-without f.found n h.found)
    (set-with f.fixed n h.fixed v) h

good-found_at : (n : Node) (f : Shared) → IsNode n → IsGoodShared f → IsGoodShared (found_at n f)
good-found_at n f v h =
    good-marks (found_at n f).closed (with_node f.found n) (without_node f.fixed n) f (set-with f.found n h.found v)
    (set-without f.fixed n h.fixed) h

good-closed : (f : Shared) → IsGoodShared f → IsGoodShared (closed f)
good-closed f h = good-marks true f.found f.fixed f h.found h.fixed h

good-opened : (f : Shared) → IsGoodShared f → IsGoodShared (opened f)
good-opened f h = good-marks false f.found [] f h.found set-none h

good-moved_to : (package_name : List ℕ) (f : Shared) → IsName package_name → IsGoodShared f
    → IsGoodShared (moved_to package_name f)
good-moved_to package_name f name h =
    elim (bytes_eq package_name f.«package») as (λ t. IsGoodShared
    (cond t f (record f { «package» = package_name; found = []; fixed = [] }))) [
      | true ↦ h
      | false ↦
          record {
            package_name = name;
            forwarded = h.forwarded;
            owner = h.owner;
            tags = h.tags;
            affects = h.affects;
            found = set-none;
            fixed =
                set-none;
          }
    ]

good-reassigned : (package_name : List ℕ) (version : Option VersionArg) (f : Shared) → IsName package_name
    → IfGiven IsGoodVersion version → IsGoodShared f → IsGoodShared (reassigned package_name version f)
good-reassigned package_name None f name good h = good-moved_to package_name f name h
good-reassigned package_name (Some version) f name good h =
    good-marked_found (node_meant package_name version) (moved_to package_name f) (meant-valid package_name version name good)
    (good-moved_to package_name f name h)

-- tags stay a set
set-tags_after : (steps : List TagStep) (tags : List Tag) → IsTagSet tags → IsTagSet (tags_after steps tags)
set-tags_after [] tags h = h
set-tags_after (Add t ∷ steps) tags h = set-tags_after steps (with_tag tags t) (set-with_tag tags t h)
set-tags_after (Remove t ∷ steps) tags h = set-tags_after steps (without_tag tags t) (set-without_tag tags t h)
set-tags_after (Clear ∷ steps) tags h = set-tags_after steps [] set-none_tags

-- affected packages stay a set of names
each-both : (xs ys : List (List ℕ)) → Each IsName xs → Each IsName ys → Each IsName (xs ++ ys)
each-both [] ys a b = b
each-both (x ∷ xs) ys a b = (a.0, each-both xs ys a.1 b)

set-affects_after : (step : AffectsStep) (names affects : List (List ℕ)) → Each IsName names → IsNameSet affects
    → IsNameSet (affects_after step names affects)
set-affects_after affecting.Add names affects good h = names-set (affects ++ names) (each-both affects names h.valid good)
set-affects_after affecting.Remove names affects good h = names-filter (λ n. not (has_name names n)) affects h
set-affects_after affecting.Replace names affects good h = names-set names good

-- fields forwarded to somebody, or to nobody
good-forwarded : (text : Option (List ℕ)) (f : Shared) → IfGiven IsGoodText text → IsGoodShared f
    → IsGoodShared (record f { forwarded = text })
good-forwarded text f good h =
    record { package_name = h.package_name; forwarded = good; owner = h.owner; tags = h.tags; affects = h.affects; found = h.found; fixed = h.fixed }

-- fields of another owner, or of none
good-owner : (who : Option (List ℕ)) (f : Shared) → IfGiven IsGoodText who → IsGoodShared f
    → IsGoodShared (record f { owner = who })
good-owner who f good h =
    record {
      package_name = h.package_name;
      forwarded = h.forwarded;
      owner = good;
      tags = h.tags;
      affects = h.affects;
      found = h.found;
      fixed =
          h.fixed;
    }

-- fields that are archived, or not
good-archived : (archived : Bool) (f : Shared) → IsGoodShared f → IsGoodShared (record f { archived = archived })
good-archived archived f h =
    record {
      package_name = h.package_name;
      forwarded = h.forwarded;
      owner = h.owner;
      tags = h.tags;
      affects = h.affects;
      found = h.found;
      fixed =
          h.fixed;
    }

-- fields of other blockers
good-blockers : (blockers : List ℕ) (f : Shared) → IsGoodShared f → IsGoodShared (record f { blockers = blockers })
good-blockers blockers f h =
    record {
      package_name = h.package_name;
      forwarded = h.forwarded;
      owner = h.owner;
      tags = h.tags;
      affects = h.affects;
      found = h.found;
      fixed =
          h.fixed;
    }

-- who is meant is a text
good-person : (sender : List ℕ) (who : Who) → IsGoodText sender → IsGoodPerson who → IsUtf8Person who
    → IsGoodText (person sender who)
good-person sender Sender h good utf8 = h
good-person sender (Given text) h good utf8 = (good, utf8)

pub good-shared_after : (sender : List ℕ) (command : Command ℕ) → IsGoodText sender → HasGoodParts command → HasUtf8Texts command
    → (f : Shared) → IsGoodShared f → IsGoodShared (shared_after sender command f)
good-shared_after sender (commands.Found n None) text good utf8 f h = good-opened f h
good-shared_after sender (commands.Found n (Some version)) text good utf8 f h =
    good-found_at (node_meant f.«package» version) f (meant-valid f.«package» version h.package_name good) h
good-shared_after sender (commands.NotFound n version) text good utf8 f h = let m = node_meant f.«package» version in
    good-marks f.closed (without_node f.found m) f.fixed f (set-without f.found m h.found) h.fixed h
good-shared_after sender (commands.Fixed n version) text good utf8 f h =
    good-marked_fixed (node_meant f.«package» version) f (meant-valid f.«package» version h.package_name good) h
good-shared_after sender (commands.NotFixed n version) text good utf8 f h = let m = node_meant f.«package» version in
    good-marks f.closed f.found (without_node f.fixed m) f h.found (set-without f.fixed m h.fixed) h
good-shared_after sender (commands.Close n None) text good utf8 f h = good-closed f h
good-shared_after sender (commands.Close n (Some version)) text good utf8 f h =
    let m = node_meant f.«package» version in
    good-closed (marked_fixed m f) (good-marked_fixed m f (meant-valid f.«package» version h.package_name good) h)
good-shared_after sender (commands.Reopen n who) text good utf8 f h =
    elim f.closed as (λ t. IsGoodShared (cond t (opened f) f)) [ true ↦ good-opened f h | false ↦ h ]
good-shared_after sender (commands.Severity n severity) text good utf8 f h =
    record {
      package_name = h.package_name;
      forwarded = h.forwarded;
      owner = h.owner;
      tags = h.tags;
      affects = h.affects;
      found = h.found;
      fixed =
          h.fixed;
    }
good-shared_after sender (commands.Tags n steps) text good utf8 f h =
    record {
      package_name = h.package_name;
      forwarded = h.forwarded;
      owner = h.owner;
      tags =
          set-tags_after steps f.tags h.tags;
      affects = h.affects;
      found = h.found;
      fixed = h.fixed;
    }
good-shared_after sender (commands.Reassign n package_name version) text good utf8 f h =
    good-reassigned package_name version f good.0 good.1 h
good-shared_after sender (commands.Block n ns) text good utf8 f h = good-blockers (number_set (f.blockers ++ ns)) f h
good-shared_after sender (commands.Unblock n ns) text good utf8 f h = good-blockers (filter (λ m. not (has ns m)) f.blockers) f h
good-shared_after sender (commands.Forwarded n address) text good utf8 f h = good-forwarded (Some address) f (good, utf8) h
good-shared_after sender (commands.NotForwarded n) text good utf8 f h = good-forwarded None f tt h
good-shared_after sender (commands.Owner n who) text good utf8 f h =
    good-owner (Some (person sender who)) f (good-person sender who text good utf8) h
good-shared_after sender (commands.NoOwner n) text good utf8 f h = good-owner None f tt h
good-shared_after sender (commands.Archive n) text good utf8 f h = good-archived true f h
good-shared_after sender (commands.Unarchive n) text good utf8 f h = good-archived false f h
good-shared_after sender (commands.Affects n step names) text good utf8 f h =
    record {
      package_name = h.package_name;
      forwarded = h.forwarded;
      owner = h.owner;
      tags = h.tags;
      affects = set-affects_after step names f.affects good h.affects;
      found = h.found;
      fixed = h.fixed;
    }
good-shared_after sender _ text good utf8 f h = h

pub good-new_title : (command : Command ℕ) → HasGoodParts command → HasUtf8Texts command → (m : ℕ)
    → IfGiven IsGoodText (new_title command m)
good-new_title (commands.Retitle n text) good utf8 m =
    elim (eqb m n) as (λ t. IfGiven IsGoodText (cond t (Some text) None)) [ true ↦ (good, utf8) | false ↦ tt ]
good-new_title _ good utf8 m = tt

pub good-new_submitter : (sender : List ℕ) (command : Command ℕ) → IsGoodText sender → HasGoodParts command → HasUtf8Texts command
    → (f : Shared) (m : ℕ) → IfGiven IsGoodText (new_submitter sender command f m)
good-new_submitter sender (commands.Reopen n None) h good utf8 f m = tt
good-new_submitter sender (commands.Reopen n (Some who)) h good utf8 f m =
    elim f.closed as (λ t. IfGiven IsGoodText (cond t (Some (person sender who)) None))
    [ true ↦ good-person sender who h good utf8 | false ↦ tt ]
good-new_submitter sender (commands.Submitter n who) h good utf8 f m =
    elim (eqb m n) as (λ t. IfGiven IsGoodText (cond t (Some (person sender who)) None))
    [ true ↦ good-person sender who h good utf8 | false ↦ tt ]
good-new_submitter sender _ h good utf8 f m = tt
