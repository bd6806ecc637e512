-- Contents that a desk keeps.
-- This project's own rule.
use Rattle.std.specs.Prelude.{ℕ, ◌≡◌, ◌==◌, ◌&&◌, ◌||◌, Bool, true, false, List, [], ◌∷◌, length, None}
use Rattle.version_nodes.specs.Nodes.{Node}
use Rattle.bug_record.specs.Desk.{IsSound}
use Rattle.bug_record.specs.Sets.{numbers_below}
use Rattle.store_keys.specs.Keys.{IsKeyed}
use Rattle.bug_record.specs.declared.outcome.Outcome.{Outcome}
use Rattle.bug_record.specs.declared.outcome.Outcome.TheVariants.{Changed, Refused, Stopped}
use Rattle.store_contract.specs.Kept.{AreGoodKept}
use Rattle.version_marks.specs.Nearest.{nearest_of}
use Rattle.table_content.specs.Content.{Content}
use Rattle.table_content.specs.Edits.{places_of}
use Rattle.table_content.specs.View.{image, desk_in, keeping_in}
use Rattle.table_content.specs.declared.edit.ToldOutcome.{ToldOutcome}

-- whether the outcome is that of an accepted line
abbrev pub is_accepted : Outcome → Bool
is_accepted (Changed numbers) = true
is_accepted (Refused refusal) = false
is_accepted Stopped = false

-- whether there is one of an accepted line at this place
abbrev pub is_accepted_at : List ToldOutcome → ℕ → Bool
is_accepted_at [] place = false
is_accepted_at (t ∷ ts) place = ((t.place == place) && is_accepted t.outcome) || is_accepted_at ts place

pub record IsKeptContent (c : Content) : Type 0 where
  -- a bug is in the set of its key, a bug of a set has that set's key, and a key is the number of
  -- one of its set's bugs, whichever
  pub keyed : IsKeyed c.key (image c)
  -- the desk that is shown is sound
  pub sound : IsSound (desk_in c)
  -- where no set is, nothing is said of one
  pub no_members : (k : ℕ) → c.fields k ≡ None → c.members k ≡ []
  pub no_found : (k : ℕ) → c.fields k ≡ None → c.found k ≡ []
  pub no_fixed : (k : ℕ) → c.fields k ≡ None → c.fixed k ≡ []
  pub no_blockers : (k : ℕ) → c.fields k ≡ None → c.blockers k ≡ []
  pub no_affects : (k : ℕ) → c.fields k ≡ None → c.affects k ≡ []
  -- the nearest mark of a set as seen from a known node is the first one on the node's line; with
  -- no mark there, from an unknown node, and where no set is, there is none
  pub near : (k : ℕ) (v : Node) → c.near k v ≡ nearest_of c.nodes (c.found k) (c.fixed k) v
  -- where no message is known, nothing is said of one
  pub no_outcomes : (id : List ℕ) → c.messages id ≡ None → c.outcomes id ≡ []
  -- the places of a message's outcomes are 0, 1 and so on, with no gap
  pub places : (id : List ℕ) → places_of (c.outcomes id) ≡ numbers_below (length (c.outcomes id))
  -- numbers stand only at the places of accepted lines
  pub no_numbers : (id : List ℕ) (place : ℕ) → is_accepted_at (c.outcomes id) place ≡ false → c.outcome_numbers id place ≡ []
  -- what is kept of each message is right: so each has an outcome
  pub good : AreGoodKept (keeping_in c)
