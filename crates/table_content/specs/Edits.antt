-- What one edit makes of a content.
-- This project's own rule.
use Rattle.std.specs.Prelude.{ℕ, ◌==◌, ◌&&◌, nat_lt, not, List, [], ◌∷◌, filter, map, Some, None, if◌then◌else◌, Option}
use Rattle.std.specs.BTreeMap.{insert_entry}
use Rattle.std.specs.Str.{bytes_eq}
use Rattle.version_nodes.specs.Nodes.{Node, same_node, node_cmp}
use Rattle.version_nodes.specs.declared.statuses.MarkKind.{MarkKind}
use Rattle.version_nodes.specs.declared.statuses.MarkKind.TheVariants.{Found, Fixed}
use Rattle.bug_record.specs.Marks.{with_node}
use Rattle.bug_record.specs.PackageSets.{with_name}
use Rattle.bug_record.specs.declared.bug.Member.{Member}
use Rattle.version_marks.specs.declared.near.Near.{Near}
use Rattle.table_content.specs.Content.{Content}
use Rattle.bug_record.specs.declared.outcome.Outcome.{Outcome}
use Rattle.table_encodings.specs.Encodings.{tags_number, tags_in}
use Rattle.table_encodings.specs.Outcomes.{bare}
use Rattle.table_content.specs.declared.edit.Edit.{Edit}
use Rattle.table_content.specs.declared.edit.Edit.TheVariants as edits
use Rattle.table_content.specs.declared.edit.SetFields.{SetFields}
use Rattle.table_content.specs.declared.edit.ToldOutcome.{ToldOutcome}

-- the function with another value at k
abbrev pub put_at : {A : Type 0} → ℕ → A → (ℕ → A) → ℕ → A
put_at k x f n = if k == n then x else f n

-- the function with another value at an id
abbrev pub put_of : {A : Type 0} → List ℕ → A → (List ℕ → A) → List ℕ → A
put_of id x f other = if bytes_eq id other then x else f other

-- a list by number with one more item, behind those of its number
abbrev pub placed : {T : Type 0} → (T → ℕ) → List T → T → List T
placed number [] x = x ∷ []
placed number (y ∷ ys) x = if nat_lt (number x) (number y) then x ∷ y ∷ ys else y ∷ placed number ys x

-- the places of outcomes
abbrev pub places_of : List ToldOutcome → List ℕ
places_of ts = map (λ (t : ToldOutcome). t.place) ts

-- the fields as a row keeps them: its tags as a set
abbrev pub kept_fields : SetFields → SetFields
kept_fields f = record f { tags = tags_in (tags_number f.tags) }

abbrev pub with_fields : ℕ → SetFields → Content → Content
with_fields k f c = record c { fields = put_at k (Some (kept_fields f)) c.fields }

abbrev pub without_fields : ℕ → Content → Content
without_fields k c = record c { fields = put_at k None c.fields }

-- a bug comes into a set, and goes from every set
abbrev pub with_member : ℕ → Member → Content → Content
with_member k m c = record c {
  key = put_at m.number (Some k) c.key;
  members = put_at k (placed (λ (x : Member). x.number) (c.members k) m) c.members;
}

abbrev pub without_member : ℕ → Content → Content
without_member n c = record c {
  key = put_at n None c.key;
  members = λ k. filter (λ m. not (n == m.number)) (c.members k);
}

abbrev pub with_mark : ℕ → MarkKind → Node → Content → Content
with_mark k Found v c = record c { found = put_at k (with_node (c.found k) v) c.found }
with_mark k Fixed v c = record c { fixed = put_at k (with_node (c.fixed k) v) c.fixed }

abbrev pub without_marks : ℕ → Content → Content
without_marks k c = record c { found = put_at k [] c.found; fixed = put_at k [] c.fixed }

abbrev pub with_blocker : ℕ → ℕ → Content → Content
with_blocker k b c = record c { blockers = put_at k (placed (λ n. n) (c.blockers k) b) c.blockers }

abbrev pub without_blockers : ℕ → Content → Content
without_blockers k c = record c { blockers = put_at k [] c.blockers }

abbrev pub with_affected : ℕ → List ℕ → Content → Content
with_affected k n c = record c { affects = put_at k (with_name (c.affects k) n) c.affects }

abbrev pub without_affected : ℕ → Content → Content
without_affected k c = record c { affects = put_at k [] c.affects }

abbrev pub with_near : ℕ → Node → Near → Content → Content
with_near k v x c = record c { near = λ j w. if (k == j) && same_node v w then Some x else c.near j w }

abbrev pub without_near : ℕ → Content → Content
without_near k c = record c { near = put_at k (λ v. None) c.near }

abbrev pub without_near_at : ℕ → Node → Content → Content
without_near_at k v c = record c { near = λ j w. if (k == j) && same_node v w then None else c.near j w }

abbrev pub with_link : Node → Option Node → Content → Content
with_link v p c = record c { nodes = insert_entry node_cmp c.nodes v p }

abbrev pub without_link : Node → Content → Content
without_link v c = record c { nodes = filter (λ e. not (same_node v e.0)) c.nodes }

abbrev pub with_message : List ℕ → List ℕ → List ℕ → Content → Content
with_message id sender message c = record c { messages = put_of id (Some (record { from = sender; message = message })) c.messages }

-- an outcome comes, without the numbers of an accepted line
abbrev pub with_outcome : List ℕ → ℕ → Outcome → Content → Content
with_outcome id place outcome c = record c {
  outcomes = put_of id (placed (λ (t : ToldOutcome). t.place) (c.outcomes id) (record { place = place; outcome = bare outcome })) c.outcomes;
}

abbrev pub with_outcome_number : List ℕ → ℕ → ℕ → Content → Content
with_outcome_number id place n c = record c {
  outcome_numbers = put_of id (put_at place (placed (λ k. k) (c.outcome_numbers id place) n) (c.outcome_numbers id)) c.outcome_numbers;
}

-- what the edit makes of the content
abbrev pub edited : Edit → Content → Content
edited (edits.DropFields k) c = without_fields k c
edited (edits.PutFields k f) c = with_fields k f c
edited (edits.DropMember n) c = without_member n c
edited (edits.PutMember k m) c = with_member k m c
edited (edits.DropMarks k) c = without_marks k c
edited (edits.PutMark k kind v) c = with_mark k kind v c
edited (edits.DropBlockers k) c = without_blockers k c
edited (edits.PutBlocker k b) c = with_blocker k b c
edited (edits.DropAffects k) c = without_affected k c
edited (edits.PutAffects k n) c = with_affected k n c
edited (edits.DropNear k) c = without_near k c
edited (edits.DropNearAt k v) c = without_near_at k v c
edited (edits.PutNear k v x) c = with_near k v x c
edited (edits.DropLink v) c = without_link v c
edited (edits.PutLink v p) c = with_link v p c
edited (edits.PutMessage id sender message) c = with_message id sender message c
edited (edits.PutOutcome id place outcome) c = with_outcome id place outcome c
edited (edits.PutOutcomeNumber id place n) c = with_outcome_number id place n c

-- one edit after another
abbrev pub edited_all : List Edit → Content → Content
edited_all [] c = c
edited_all (e ∷ es) c = edited_all es (edited e c)
