-- What the tables of a desk say, with no row in it.
-- This project's own rule.
use Rattle.std.specs.Prelude.{ℕ, List, [], Option, None}
use Rattle.version_nodes.specs.Nodes.{Node}
use Rattle.version_nodes.specs.Trees.{Ancestry, no_nodes}
use Rattle.bug_record.specs.declared.bug.Member.{Member}
use Rattle.version_marks.specs.declared.near.Near.{Near}
use Rattle.table_content.specs.declared.edit.SetFields.{SetFields}
use Rattle.table_content.specs.declared.edit.SentMessage.{SentMessage}
use Rattle.table_content.specs.declared.edit.ToldOutcome.{ToldOutcome}

-- A set of merged bugs has a key, which is the number of one of its bugs.
pub record Content : Type 0 where
  -- the next number to give
  pub next : ℕ
  -- the key of each bug's set
  pub key : ℕ → Option ℕ
  -- of each key, the bugs of its set, by number
  pub members : ℕ → List Member
  -- of each key, the fields of its set, if there is one
  pub fields : ℕ → Option SetFields
  -- of each key, the nodes that are marked found and fixed, in node order
  pub found : ℕ → List Node
  pub fixed : ℕ → List Node
  -- of each key, the bugs on which its set waits, by number
  pub blockers : ℕ → List ℕ
  -- of each key, the packages that its set affects, in the order of their bytes
  pub affects : ℕ → List (List ℕ)
  -- the known nodes with their parents
  pub nodes : Ancestry
  -- of each key, the nearest mark of its set as seen from a node
  pub near : ℕ → Node → Option Near
  -- of each id, the sender and the text of its message, if it is known
  pub messages : List ℕ → Option SentMessage
  -- of each id, what came of the first lines of its message, by place; an accepted line's numbers
  -- stand by themselves
  pub outcomes : List ℕ → List ToldOutcome
  -- of each id and place, the numbers of an accepted line, ascending
  pub outcome_numbers : List ℕ → ℕ → List ℕ

-- no bug, no node, no message
abbrev pub no_content : ℕ → Content
no_content first = record {
  next = first;
  key = λ n. None;
  members = λ k. [];
  fields = λ k. None;
  found = λ k. [];
  fixed = λ k. [];
  blockers = λ k. [];
  affects = λ k. [];
  nodes = no_nodes;
  near = λ k v. None;
  messages = λ id. None;
  outcomes = λ id. [];
  outcome_numbers = λ id place. [];
}
