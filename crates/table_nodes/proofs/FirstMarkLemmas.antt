-- The first marks of a line that goes on by a node, and the keys of the sets that have one.
use Rattle.std.proofs.Common.{◌≡◌, ◌<◌, ◌≤◌, ℕ, Bool, true, false, cond, ◌||◌, List, [], ◌∷◌, ◌++◌, Option, Some, None, refl, sym, ap, ◌∙◌, arith}
use Rattle.std.specs.Prelude.{option_map}
use Rattle.std.specs.Option.{option_or}
use Rattle.std.proofs.lemmas.Option.{none-some}
use Rattle.base_words.specs.declared.named.TheConstants.{LARGEST_NUMBER, AFTER_LARGEST}
use Rattle.version_nodes.specs.Nodes.{Node}
use Rattle.version_nodes.specs.Trees.{has_node}
use Rattle.version_nodes.specs.declared.statuses.MarkKind.TheVariants.{Found, Fixed}
use Rattle.bug_record.specs.Sets.{has}
use Rattle.bug_record.specs.Images.{bug_of}
use Rattle.bug_record.specs.declared.bug.SetImage.{SetImage}
use Rattle.version_marks.specs.Nearest.{own_mark, nearest_on}
use Rattle.version_marks.specs.declared.near.Near.{Near}
use Rattle.version_marks.proofs.LineLemmas.{longer}
use Rattle.store_keys.proofs.KeyLemmas.{shown-some}
use Rattle.table_content.specs.Content.{Content}
use Rattle.table_content.specs.View.{image, shared_of}
use Rattle.table_content.specs.Kept.{IsKeptContent}
use Rattle.table_content.specs.declared.edit.SetFields.{SetFields}
use Rattle.table_nodes.specs.FirstMarks.{mark, mark_at}

-- ---- one more node

module _ (found fixed : List Node) (v : Node) where
  -- what one node has
  one_node : (a b : Bool) → has_node found v ≡ a → has_node fixed v ≡ b
      → nearest_on found fixed (v ∷ []) ≡ cond a (Some (mark v Found)) (cond b (Some (mark v Fixed)) None)
  one_node true b e f =
      ap (λ t. option_map (own_mark found) (cond (t || has_node fixed v) (Some v) None)) e
      ∙ ap (λ t. Some (mark v (cond t Found Fixed))) e
  one_node false true e f =
      ap (λ t. option_map (own_mark found) (cond (t || has_node fixed v) (Some v) None)) e
      ∙ ap (λ t. option_map (own_mark found) (cond t (Some v) None)) f
      ∙ ap (λ t. Some (mark v (cond t Found Fixed))) e
  one_node false false e f =
      ap (λ t. option_map (own_mark found) (cond (t || has_node fixed v) (Some v) None)) e
      ∙ ap (λ t. option_map (own_mark found) (cond t (Some v) None)) f

  pub goes_on : (ns : List Node) (found_keys fixed_keys : List ℕ) (k : ℕ) → has found_keys k ≡ has_node found v
      → has fixed_keys k ≡ has_node fixed v
      → nearest_on found fixed (ns ++ v ∷ []) ≡ option_or (nearest_on found fixed ns) (mark_at v found_keys fixed_keys k)
  goes_on ns found_keys fixed_keys k p q =
      longer found fixed ns (v ∷ [])
      ∙ ap (option_or (nearest_on found fixed ns)) (one_node (has found_keys k) (has fixed_keys k) (sym p) (sym q))

-- ---- keys

no_marks : (ns : List Node) → nearest_on [] [] ns ≡ None
no_marks [] = refl
no_marks (n ∷ ns) = no_marks ns

at_most : (k next : ℕ) → k < next → next ≤ AFTER_LARGEST → k ≤ LARGEST_NUMBER
at_most k next low limit = omega (arith, low, limit)

pub small_key : (c : Content) (k : ℕ) (ns : List Node) (near : Near) → IsKeptContent c
    → nearest_on (c.found k) (c.fixed k) ns ≡ Some near → k ≤ LARGEST_NUMBER
small_key c k ns near kept h = cases (c.fields k) refl
  where
    cases : (o : Option SetFields) → c.fields k ≡ o → k ≤ LARGEST_NUMBER
    cases None e =
        absurd (none-some near (sym (no_marks ns)
        ∙ sym (ap (λ (vs : List Node). nearest_on vs (c.fixed k) ns) (kept.no_found k e) ∙ ap (λ (vs : List Node). nearest_on [] vs ns) (kept.no_fixed k e)) ∙ h))
    cases (Some f) e =
        let i : SetImage = record { shared = shared_of c k f; members = c.members k } in
        let is : image c k ≡ Some i = ap (option_map (λ f. let i : SetImage = record { shared = shared_of c k f; members = c.members k } in i)) e in
        let x = shown-some c.key (image c) kept.keyed k k i is (kept.keyed.own k i is) in
        at_most k c.next (kept.sound.in_range k (bug_of i x.0) x.1).1 kept.sound.next_in_range.1
