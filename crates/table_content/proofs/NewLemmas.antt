-- The content of a new desk.
use Rattle.std.proofs.Common.{◌≡◌, ◌<◌, ◌≤◌, ℕ, List, [], refl, arith}
use Rattle.std.proofs.lemmas.Option.{none-some}
use Rattle.base_words.specs.declared.named.TheConstants.{AFTER_LARGEST, LARGEST_NUMBER}
use Rattle.version_nodes.proofs.ForestProp.{no_nodes-forest}
use Rattle.bug_record.specs.Sets.{numbers_below}
use Rattle.table_content.specs.Content.{no_content}
use Rattle.table_content.specs.Kept.{IsKeptContent}

after : (first : ℕ) → first ≤ LARGEST_NUMBER → first ≤ AFTER_LARGEST
after first h = omega (arith, h)

no_numbers_below : ◌≡◌ {A = List ℕ} [] (numbers_below 0)
unfolding numbers_below
no_numbers_below = refl

pub new_kept : (first : ℕ) → 0 < first → first ≤ LARGEST_NUMBER → IsKeptContent (no_content first)
new_kept first low high = record {
  keyed = record {
    found = λ n k e. absurd (none-some k e);
    known = λ n k i e h. absurd (none-some i e);
    own = λ k i e. absurd (none-some i e);
  };
  sound = record {
    own = λ n b e. absurd (none-some b e);
    ascending = λ n b e. absurd (none-some b e);
    agree = λ n m b e h. absurd (none-some b e);
    texts = λ n b e. absurd (none-some b e);
    blockers = λ n b e. absurd (none-some b e);
    in_range = λ n b e. absurd (none-some b e);
    forest = no_nodes-forest;
    next_in_range = (low, after first high);
  };
  no_members = λ k e. refl;
  no_found = λ k e. refl;
  no_fixed = λ k e. refl;
  no_blockers = λ k e. refl;
  no_affects = λ k e. refl;
  near = λ k v. refl;
  no_outcomes = λ id e. refl;
  places = λ id. no_numbers_below;
  no_numbers = λ id place e. refl;
  good = λ id k e. absurd (none-some k e);
}
