-- Sets of tags and their numbers.
use Rattle.std.proofs.Common.{rules, ◌≡◌, ◌<◌, ◌^◌, ℕ, zero, suc, Bool, true, false, cond, ◌&&◌, ◌+◌, ◌*◌, List, [], ◌∷◌, map, length, refl, ap, sym, ◌∙◌, arith}
use Rattle.std.specs.Prelude.{filter, ◌==◌, ◌/◌, ◌%◌}
use Rattle.std.proofs.Math.Nat.{pow-suc}
use Rattle.bug_record.specs.declared.tag.Tag.TheVariants as tags
use Rattle.bug_record.proofs.TagLemmas.{same-tag_sets, set-tag_filter, has-tag_filter}
use Rattle.bug_record.specs.Tags.{all_tags, tag_place, has_tag, IsTagSet}
use Rattle.bug_record.specs.declared.tag.Tag.{Tag}
use Rattle.table_encodings.specs.Encodings.{flag, binary, chosen, tags_number, tags_in}

digit : (b : Bool) (n : ℕ) → ((flag b + 2 * n) % 2 == 1) ≡ b
digit true n = grind (arith)
digit false n = grind (arith)

others : (b : Bool) (n : ℕ) → ((flag b + 2 * n) / 2) ≡ n
others true n = omega (arith)
others false n = omega (arith)

-- the tags are those that the test names
chosen_by : (p : Tag → Bool) (ts : List Tag) → chosen (binary (map p ts)) ts ≡ filter p ts
chosen_by p [] = refl
chosen_by p (t ∷ ts) =
    ap (λ b. cond b (t ∷ chosen ((flag (p t) + 2 * binary (map p ts)) / 2) ts) (chosen ((flag (p t) + 2 * binary (map p ts)) / 2) ts))
    (digit (p t) (binary (map p ts)))
    ∙ ap (λ n. cond (p t) (t ∷ chosen n ts) (chosen n ts)) (others (p t) (binary (map p ts)))
    ∙ ap (λ xs. cond (p t) (t ∷ xs) xs) (chosen_by p ts)

-- ---- sets of tags

every : (t : Tag) → has_tag all_tags t ≡ true
every tags.A11y = refl
every _ = refl

all_ascend : IsTagSet all_tags
all_ascend = search rules

pub read_back : (ts : List Tag) → IsTagSet ts → tags_in (tags_number ts) ≡ ts
unfolding tags_in tags_number
read_back ts set =
    chosen_by (has_tag ts) all_tags
    ∙ same-tag_sets (filter (has_tag ts) all_tags) ts (set-tag_filter (has_tag ts) all_tags all_ascend) set
    (λ t. has-tag_filter (has_tag ts) all_tags t ∙ ap (λ b. b && has_tag ts t) (every t))

-- ---- numbers of tags

binary_below : (bs : List Bool) → binary bs < 2 ^ length bs
binary_below [] = omega arith
binary_below (true ∷ bs) = omega (arith, binary_below bs, pow-suc 2 (length bs))
binary_below (false ∷ bs) = omega (arith, binary_below bs, pow-suc 2 (length bs))

-- the number of tags has no digit above theirs
pub number_below : (ts : List Tag) → tags_number ts < 2 ^ length all_tags
unfolding tags_number
number_below ts = binary_below (map (has_tag ts) all_tags)

-- the digit of a number at a place
abbrev digit_at : ℕ → ℕ → Bool
digit_at n zero = n % 2 == 1
digit_at n (suc place) = digit_at (n / 2) place

-- the lowest digits of a number, one for each of these tags
abbrev digits : ℕ → List Tag → List Bool
digits n [] = []
digits n (t ∷ ts) = (n % 2 == 1) ∷ digits (n / 2) ts

whole : (n m : ℕ) (b : Bool) → (n % 2 == 1) ≡ b → m ≡ n / 2 → flag b + 2 * m ≡ n
whole n m true e is = grind (arith)
whole n m false e is = grind (arith)

digits_back : (n : ℕ) (ts : List Tag) → n < 2 ^ length ts → binary (digits n ts) ≡ n
digits_back n [] less = omega (arith, less)
digits_back n (t ∷ ts) less =
    whole n (binary (digits (n / 2) ts)) (n % 2 == 1) refl (digits_back (n / 2) ts (omega (arith, less, pow-suc 2 (length ts))))

-- a number with no digit above those of the tags is that of its tags
pub number_back : (n : ℕ) → n < 2 ^ length all_tags → tags_number (tags_in n) ≡ n
unfolding tags_in tags_number
number_back n less =
    let p : Tag → Bool = λ t. digit_at n (tag_place t) in
    let back : binary (map p all_tags) ≡ n = digits_back n all_tags less in
    let are : chosen n all_tags ≡ filter p all_tags = ap (λ m. chosen m all_tags) (sym back) ∙ chosen_by p all_tags in
    let tests : (t : Tag) → has_tag (filter p all_tags) t ≡ p t =
    λ t. has-tag_filter p all_tags t ∙ ap (λ b. b && p t) (every t) in
    ap (λ (ts : List Tag). binary (map (has_tag ts) all_tags)) are
    ∙ ap (λ (q : Tag → Bool). binary (map q all_tags)) (λ i t. tests t i)
    ∙ back
