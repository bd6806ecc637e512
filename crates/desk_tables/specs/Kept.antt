-- A desk over a connection, whose content is remembered also once a fault has shut the connection.
use Rattle.std.specs.Prelude.{ℕ, List, ◌≡◌, Option, Some, None, IfSome}
use Rattle.sqlite.specs.Held.{Held, state}
use Rattle.sqlite_trees.specs.declared.store.Store as store
use Rattle.version_nodes.specs.Trees.{Ancestry}
use Rattle.bug_record.specs.Desk.{Desk}
use Rattle.bug_record.specs.declared.bug.SetImage.{SetImage}
use Rattle.bug_record.specs.declared.command.Change.{Change}
use Rattle.store_keys.specs.Keys.{key_of}
use Rattle.table_content.specs.Content.{Content}
use Rattle.table_content.specs.Kept.{IsKeptContent}
use Rattle.table_content.specs.View.{desk_in, image, keeping_in}
use Rattle.table_schema.specs.Steps.{seen}
use Rattle.store_contract.specs.Kept.{Keeping}
use Rattle.table_writes.specs.Needs.{IsPlaceIn}
use Rattle.table_opening.specs.Shown.{HasContent}

-- the images that are known of a content are those of its sets, each under the number of its first
-- bug
abbrev pub AreKnown : (ℕ → Option SetImage) → Content → Type 0
AreKnown known c = (k : ℕ) (i : SetImage) → known k ≡ Some i → (image c k ≡ Some i) × (key_of i ≡ k)

-- the next number that is known is the content's
abbrev pub IsNextIn : Option ℕ → Content → Type 0
IsNextIn known c = IfSome known (λ n. n ≡ c.next)

-- the next number that is known after the change of a line, if there is one
abbrev pub next_after : Option Change → Option ℕ → Option ℕ
next_after None known = known
next_after (Some change) known = Some change.next

-- What is remembered of a content: the images of sets, the place that comes next of a message, and
-- the next number.
pub record Remembered : Type 0 where
  pub sets : ℕ → Option SetImage
  pub place : Option (List ℕ × ℕ)
  pub next : Option ℕ

-- it is right of the content
pub record AreRemembered (known : Remembered) (c : Content) : Type 0 where
  pub sets : AreKnown known.sets c
  pub place : IsPlaceIn known.place c
  pub next : IsNextIn known.next c

module _ {S : Type 0} (g : store.Ghosts S) where
  -- what a connection shows
  unfoldable pub content_seen : Held S → Content
  content_seen conn = seen (state g conn)

  abbrev pub desk_seen : Held S → Desk
  desk_seen conn = desk_in (content_seen conn)

  -- and what is kept of messages
  abbrev pub keeping_seen : Held S → Keeping
  keeping_seen conn = keeping_in (content_seen conn)

  -- A desk was shown by the connection as it was last made or found, and is kept.
  -- The tree that was read, if it was, is the desk's, and what is remembered is right of it.
  pub record IsKept (last : Held S) (family : Option Ancestry) (facts : Remembered) : Type 0 where
    pub shown : HasContent (content_seen last) (state g last)
    pub content : IsKeptContent (content_seen last)
    pub tree : IfSome family (λ t. t ≡ (content_seen last).nodes)
    pub known : AreRemembered facts (content_seen last)
