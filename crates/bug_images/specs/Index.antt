-- The positions of bugs in a list of images.
use Rattle.std.specs.Prelude.{ℕ, ◌+◌, ◌==◌, List, [], ◌∷◌, Option, Some, None, option_map, slice_get, if◌then◌else◌}
use Rattle.std.specs.Option.{option_or, option_and_then}
use Rattle.bug_record.specs.Images.{bug_of}
use Rattle.bug_record.specs.declared.bug.Bug.{Bug}
use Rattle.bug_record.specs.declared.bug.Member.{Member}
use Rattle.bug_record.specs.declared.bug.SetImage.{SetImage}
use Rattle.bug_images.specs.declared.index.Position.{Position}

-- the position of the bug n among these members, which begin at `member`, of the image at `image`
abbrev pub position_among : ℕ → ℕ → List Member → ℕ → Option Position
position_among image member [] n = None
position_among image member (m ∷ ms) n =
    if m.number == n then Some (record { image = image; member = member }) else position_among image (member + 1) ms n

-- its position among these images, which begin at `image`
abbrev pub position_in : ℕ → List SetImage → ℕ → Option Position
position_in image [] n = None
position_in image (i ∷ is) n = option_or (position_among image 0 i.members n) (position_in (image + 1) is n)

-- the bug at a position
abbrev pub bug_at : List SetImage → Option Position → Option Bug
bug_at is None = None
bug_at is (Some p) = option_and_then (λ i. option_map (bug_of i) (slice_get i.members p.member)) (slice_get is p.image)
