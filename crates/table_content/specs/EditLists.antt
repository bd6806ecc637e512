-- The edits of an image, one after another.
use Rattle.std.specs.Prelude.{ℕ, ◌==◌, ◌&&◌, List, [], ◌∷◌, ◌++◌, map, flat_map, Bool, if◌then◌else◌}
use Rattle.table_content.specs.Moving.{stood, adds_alone, others}
use Rattle.version_nodes.specs.Nodes.{Node}
use Rattle.version_nodes.specs.declared.statuses.MarkKind.{MarkKind}
use Rattle.version_nodes.specs.declared.statuses.MarkKind.TheVariants.{Found, Fixed}
use Rattle.bug_record.specs.declared.bug.Member.{Member}
use Rattle.bug_record.specs.declared.bug.SetImage.{SetImage}
use Rattle.store_keys.specs.Keys.{key_of}
use Rattle.version_marks.specs.declared.near.NearRow.{NearRow}
use Rattle.table_content.specs.View.{fields_of}
use Rattle.table_content.specs.declared.edit.Edit.{Edit}
use Rattle.table_content.specs.declared.edit.Edit.TheVariants.{DropFields, PutFields, DropMember, PutMember, DropMarks, PutMark, DropBlockers, PutBlocker, DropAffects, PutAffects, DropNear, DropNearAt, PutNear}

-- the marks of a number go, but for those of a key that keeps them
abbrev pub mark_drops : Bool → ℕ → ℕ → List Edit
mark_drops keeps key n = if keeps && (key == n) then [] else DropMarks n ∷ DropNear n ∷ []

-- what stands under a number goes, and its bug
abbrev pub drops_of : Bool → ℕ → ℕ → List Edit
drops_of keeps key n = DropMember n ∷ DropFields n ∷ DropBlockers n ∷ DropAffects n ∷ mark_drops keeps key n

abbrev pub drops : Bool → ℕ → List Member → List Edit
drops keeps key ms = flat_map (λ m. drops_of keeps key m.number) ms

abbrev pub member_puts : ℕ → List Member → List Edit
member_puts key ms = map (PutMember key) ms

abbrev pub blocker_puts : ℕ → List ℕ → List Edit
blocker_puts key bs = map (PutBlocker key) bs

abbrev pub affected_puts : ℕ → List (List ℕ) → List Edit
affected_puts key names = map (PutAffects key) names

abbrev pub mark_puts : ℕ → MarkKind → List Node → List Edit
mark_puts key kind nodes = map (PutMark key kind) nodes

abbrev pub near_puts : ℕ → List NearRow → List Edit
near_puts key rows = map (λ r. PutNear key r.node r.near) rows

abbrev pub all_mark_puts : SetImage → List NearRow → List Edit
all_mark_puts i rows =
    mark_puts (key_of i) Found i.shared.found ++ (mark_puts (key_of i) Fixed i.shared.fixed ++ near_puts (key_of i) rows)

abbrev pub shared_puts : SetImage → List Edit
shared_puts i =
    PutFields (key_of i) (fields_of i.shared)
    ∷ (blocker_puts (key_of i) i.shared.blockers ++ affected_puts (key_of i) i.shared.affects)

abbrev pub set_puts : SetImage → List Edit
set_puts i = member_puts (key_of i) i.members ++ shared_puts i

-- the rows of nearest marks that did not stand come in the place of what stands at their nodes
abbrev pub near_moves : ℕ → List Node → List Node → List NearRow → List Edit
near_moves key found fixed [] = []
near_moves key found fixed (r ∷ rows) =
    if stood found fixed r.near then near_moves key found fixed rows
    else DropNearAt key r.node ∷ PutNear key r.node r.near ∷ near_moves key found fixed rows

-- what stands under a key goes, but for its bugs and its marks
abbrev pub row_drops : ℕ → List Edit
row_drops key = DropFields key ∷ DropBlockers key ∷ DropAffects key ∷ []

-- the marks of an image come in the place of these, of which those stay that it has, where it has
-- all of them
abbrev pub mark_moves : SetImage → List Node → List Node → List Edit
mark_moves i found fixed =
    if adds_alone i found fixed
    then mark_puts (key_of i) Found (others found i.shared.found) ++ mark_puts (key_of i) Fixed (others fixed i.shared.fixed)
    else DropMarks (key_of i) ∷ (mark_puts (key_of i) Found i.shared.found ++ mark_puts (key_of i) Fixed i.shared.fixed)

-- The image of a set whose bugs stay, and of whose marks none is lost: of the nearest marks those
-- move that are not what they were.
abbrev pub moves : SetImage → List Node → List Node → List NearRow → List Edit
moves i found fixed rows =
    row_drops (key_of i) ++ (shared_puts i ++ (mark_moves i found fixed ++ near_moves (key_of i) found fixed rows))

-- what stands under a key goes, and its bugs stay
abbrev pub key_drops : Bool → ℕ → List Edit
key_drops keeps key = DropFields key ∷ DropBlockers key ∷ DropAffects key ∷ mark_drops keeps key key
