-- The desk that a content shows: a bug is the join of its own row with the row, the affected
-- packages, the marks and the blockers of its set; and what it shows of messages that have an id.
-- This project's own rule.
use Rattle.std.specs.Prelude.{ℕ, List, map, Option, option_map}
use Rattle.bug_record.specs.Desk.{Desk}
use Rattle.bug_record.specs.declared.bug.Shared.{Shared}
use Rattle.bug_record.specs.declared.bug.SetImage.{SetImage}
use Rattle.store_keys.specs.Keys.{keyed_desk}
use Rattle.bug_record.specs.declared.outcome.Outcome.{Outcome}
use Rattle.store_contract.specs.Kept.{Keeping}
use Rattle.table_content.specs.Content.{Content}
use Rattle.table_encodings.specs.Outcomes.{numbered}
use Rattle.table_content.specs.declared.edit.SetFields.{SetFields}
use Rattle.table_content.specs.declared.edit.ToldOutcome.{ToldOutcome}

-- the fields of a row of sets, without affected packages, marks and blockers
abbrev pub fields_of : Shared → SetFields
fields_of s = record {
  «package» = s.«package»;
  severity = s.severity;
  closed = s.closed;
  forwarded = s.forwarded;
  owner = s.owner;
  tags = s.tags;
  archived = s.archived;
}

-- the shared fields of the set of a key that has this row
abbrev pub shared_of : Content → ℕ → SetFields → Shared
shared_of c k f = record {
  «package» = f.«package»;
  severity = f.severity;
  closed = f.closed;
  forwarded = f.forwarded;
  owner = f.owner;
  tags = f.tags;
  affects = c.affects k;
  found = c.found k;
  fixed = c.fixed k;
  blockers = c.blockers k;
  archived = f.archived;
}

-- the image of the set of a key
abbrev pub image : Content → ℕ → Option SetImage
image c k = option_map (λ f. record { shared = shared_of c k f; members = c.members k }) (c.fields k)

abbrev pub desk_in : Content → Desk
desk_in c = keyed_desk c.key (image c) c.nodes c.next

-- the outcomes at these places, an accepted line's with the numbers of its place
abbrev pub with_their_numbers : (ℕ → List ℕ) → List ToldOutcome → List Outcome
with_their_numbers numbers ts = map (λ t. numbered (numbers t.place) t.outcome) ts

-- the outcomes of the message of an id, in order
abbrev pub outcomes_of : Content → List ℕ → List Outcome
outcomes_of c id = with_their_numbers (c.outcome_numbers id) (c.outcomes id)

-- what is kept: of each known id its sender, its text and its outcomes
abbrev pub keeping_in : Content → Keeping
keeping_in c id = option_map (λ m. record { from = m.from; message = m.message; outcomes = outcomes_of c id }) (c.messages id)
