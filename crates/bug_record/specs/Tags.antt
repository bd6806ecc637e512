-- Tags (the BTS page 'control and manipulation'; that the list is closed is this project's own
-- rule).
use Rattle.std.specs.Prelude.{ℕ, Bool, not, ◌==◌, codes, List, [], ◌∷◌, map, filter, Option}
use Rattle.std.specs.List.{list_any, find}
use Rattle.base_words.specs.AnyCase.{is_word}
use Rattle.base_sequences.specs.Sets.{IsAscending, with_item}
use Rattle.bug_record.specs.declared.tag.Tag.{Tag}
use Rattle.bug_record.specs.declared.tag.Tag.TheVariants as tags

-- all tags, in the order of the bytes of their names
abbrev pub all_tags : List Tag
all_tags =
    tags.A11y ∷ tags.Confirmed ∷ tags.DebianInstaller ∷ tags.FixedUpstream ∷ tags.Ftbfs ∷ tags.Help ∷ tags.Ipv6 ∷ tags.L10n
    ∷ tags.Lfs ∷ tags.Moreinfo ∷ tags.Newcomer ∷ tags.Patch ∷ tags.Pending ∷ tags.Security ∷ tags.Unreproducible
    ∷ tags.Upstream ∷ tags.Wontfix ∷ []

-- a tag's place among them, counted from 0
abbrev pub tag_place : Tag → ℕ
tag_place tags.A11y = 0
tag_place tags.Confirmed = 1
tag_place tags.DebianInstaller = 2
tag_place tags.FixedUpstream = 3
tag_place tags.Ftbfs = 4
tag_place tags.Help = 5
tag_place tags.Ipv6 = 6
tag_place tags.L10n = 7
tag_place tags.Lfs = 8
tag_place tags.Moreinfo = 9
tag_place tags.Newcomer = 10
tag_place tags.Patch = 11
tag_place tags.Pending = 12
tag_place tags.Security = 13
tag_place tags.Unreproducible = 14
tag_place tags.Upstream = 15
tag_place tags.Wontfix = 16

abbrev pub tag_name : Tag → List ℕ
tag_name tags.A11y = codes "a11y"
tag_name tags.Confirmed = codes "confirmed"
tag_name tags.DebianInstaller = codes "d-i"
tag_name tags.FixedUpstream = codes "fixed-upstream"
tag_name tags.Ftbfs = codes "ftbfs"
tag_name tags.Help = codes "help"
tag_name tags.Ipv6 = codes "ipv6"
tag_name tags.L10n = codes "l10n"
tag_name tags.Lfs = codes "lfs"
tag_name tags.Moreinfo = codes "moreinfo"
tag_name tags.Newcomer = codes "newcomer"
tag_name tags.Patch = codes "patch"
tag_name tags.Pending = codes "pending"
tag_name tags.Security = codes "security"
tag_name tags.Unreproducible = codes "unreproducible"
tag_name tags.Upstream = codes "upstream"
tag_name tags.Wontfix = codes "wontfix"

-- the tag that a word names, in any ASCII case
abbrev pub tag_of : List ℕ → Option Tag
tag_of word = find (λ tag. is_word word (tag_name tag)) all_tags

abbrev pub same_tag : Tag → Tag → Bool
same_tag t u = tag_place t == tag_place u

abbrev pub has_tag : List Tag → Tag → Bool
has_tag set t = list_any (same_tag t) set

-- the set with the tag, in the order of tags, and without it
abbrev pub with_tag : List Tag → Tag → List Tag
with_tag set t = with_item tag_place set t

abbrev pub without_tag : List Tag → Tag → List Tag
without_tag set t = filter (λ u. not (same_tag t u)) set

-- each tag stands once, in the order of tags
abbrev pub IsTagSet : List Tag → Type 0
IsTagSet set = IsAscending (map tag_place set)
