-- The bugs of several sets, and the image of one that has its own row.
use Rattle.std.specs.Prelude.{ℕ, List, flat_map, Option, Some}
use Rattle.bug_record.specs.Images.{numbers_of}
use Rattle.bug_record.specs.declared.bug.SetImage.{SetImage}
use Rattle.table_content.specs.Content.{Content}
use Rattle.table_content.specs.View.{shared_of}
use Rattle.table_content.specs.declared.edit.SetFields.{SetFields}

-- the numbers of the bugs of the sets of these keys, set by set
abbrev pub bugs_of : Content → List ℕ → List ℕ
bugs_of c keys = flat_map (λ k. numbers_of (c.members k)) keys

-- the image of the set of a key that has these fields
abbrev pub image_with : Content → ℕ → SetFields → Option SetImage
image_with c k f = Some (record { shared = shared_of c k f; members = c.members k })
