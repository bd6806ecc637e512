-- Edits that no row stands in the way of: the numbers are at most the largest one of a bug, and
-- what comes is not there.
-- This project's own rule.
use Rattle.std.specs.Prelude.{ℕ, ◌≡◌, ◌≤◌, false, List, [], ◌∷◌, None, ⊤}
use Rattle.version_nodes.specs.Nodes.{Node}
use Rattle.version_nodes.specs.Trees.{has_node, knows}
use Rattle.version_nodes.specs.declared.statuses.MarkKind.{MarkKind}
use Rattle.version_nodes.specs.declared.statuses.MarkKind.TheVariants.{Found, Fixed}
use Rattle.bug_record.specs.Sets.{has}
use Rattle.bug_record.specs.PackageSets.{has_name}
use Rattle.base_words.specs.declared.named.TheConstants.{LARGEST_NUMBER}
use Rattle.table_content.specs.Content.{Content}
use Rattle.table_content.specs.Edits.{edited, places_of}
use Rattle.table_content.specs.declared.edit.Edit.{Edit}
use Rattle.table_content.specs.declared.edit.Edit.TheVariants as edits

abbrev pub marks_of : MarkKind → Content → ℕ → List Node
marks_of Found c k = c.found k
marks_of Fixed c k = c.fixed k

abbrev pub IsFree : Edit → Content → Type 0
IsFree (edits.DropFields k) c = k ≤ LARGEST_NUMBER
IsFree (edits.PutFields k f) c = (k ≤ LARGEST_NUMBER) × (c.fields k ≡ None)
IsFree (edits.DropMember n) c = n ≤ LARGEST_NUMBER
IsFree (edits.PutMember k m) c = (k ≤ LARGEST_NUMBER) × (m.number ≤ LARGEST_NUMBER) × (c.key m.number ≡ None)
IsFree (edits.DropMarks k) c = k ≤ LARGEST_NUMBER
IsFree (edits.PutMark k kind v) c = (k ≤ LARGEST_NUMBER) × (has_node (marks_of kind c k) v ≡ false)
IsFree (edits.DropBlockers k) c = k ≤ LARGEST_NUMBER
IsFree (edits.PutBlocker k b) c = (k ≤ LARGEST_NUMBER) × (b ≤ LARGEST_NUMBER) × (has (c.blockers k) b ≡ false)
IsFree (edits.DropAffects k) c = k ≤ LARGEST_NUMBER
IsFree (edits.PutAffects k n) c = (k ≤ LARGEST_NUMBER) × (has_name (c.affects k) n ≡ false)
IsFree (edits.DropNear k) c = k ≤ LARGEST_NUMBER
IsFree (edits.DropNearAt k v) c = k ≤ LARGEST_NUMBER
IsFree (edits.PutNear k v x) c = (k ≤ LARGEST_NUMBER) × (c.near k v ≡ None)
IsFree (edits.DropLink v) c = ⊤
IsFree (edits.PutLink v p) c = knows c.nodes v ≡ false
IsFree (edits.PutMessage id sender message) c = c.messages id ≡ None
IsFree (edits.PutOutcome id place outcome) c = has (places_of (c.outcomes id)) place ≡ false
IsFree (edits.PutOutcomeNumber id place n) c = (n ≤ LARGEST_NUMBER) × (has (c.outcome_numbers id place) n ≡ false)

-- each edit is free when its turn comes
abbrev pub AreFree : List Edit → Content → Type 0
AreFree [] c = ⊤
AreFree (e ∷ es) c = IsFree e c × AreFree es (edited e c)
