-- What is asked of a content, against the desk that it shows.
use Rattle.std.proofs.Common.{◌≡◌, ◌<◌, ℕ, Bool, true, false, cond, ◌||◌, ◌&&◌, List, [], ◌∷◌, Option, Some, None, sym, refl, ap, ◌∙◌, subst, arith}
use Rattle.std.specs.Prelude.{option_map, nat_lt}
use Rattle.std.specs.Option.{option_map_or, option_and_then}
use Rattle.std.proofs.lemmas.Bool.Decides.{nat_tests}
use Rattle.std.proofs.lemmas.Option.{none-some}
use Rattle.version_nodes.specs.Nodes.{Node}
use Rattle.version_nodes.specs.Trees.{Ancestry, IsForest, has_node, knows, line}
use Rattle.version_nodes.specs.Statuses.{first_marked, first_kind, kind_at}
use Rattle.version_nodes.specs.declared.statuses.MarkKind.{MarkKind}
use Rattle.version_nodes.specs.declared.statuses.MarkKind.TheVariants.{Found, Fixed}
use Rattle.ancestry.proofs.LineLemmas.{line_step, line_above, unknown_has_none}
use Rattle.bug_record.specs.Asked.{passes, numbers_where}
use Rattle.bug_record.specs.Sets.{has, IsAscending, numbers_below}
use Rattle.bug_record.specs.Images.{bug_of, member_at}
use Rattle.bug_record.specs.declared.bug.Shared.{Shared}
use Rattle.bug_record.specs.declared.bug.SetImage.{SetImage}
use Rattle.base_sequences.proofs.SetLemmas.{has-filter, has-numbers_below, IsAscending-filter, IsAscending-numbers_below, same-ascending}
use Rattle.store_keys.proofs.KeyLemmas.{found-image, shown-some}
use Rattle.version_marks.specs.Nearest.{nearest_on, nearest_of, own_mark}
use Rattle.version_marks.specs.declared.near.Near.{Near}
use Rattle.table_content.specs.Content.{Content}
use Rattle.table_content.specs.View.{shared_of, image, desk_in}
use Rattle.table_content.specs.Kept.{IsKeptContent}
use Rattle.table_content.specs.Branches.{with_nodes}
use Rattle.table_content.specs.KindsAtNodes.{set_passes, bug_passes, kind_here, kind_of}
use Rattle.table_content.specs.declared.edit.SetFields.{SetFields}

pub branch_kept : (c : Content) (t : Ancestry) → IsKeptContent c → IsForest t → IsKeptContent (with_nodes t c)
branch_kept c t kept forest = record {
  keyed = kept.keyed;
  sound = record {
    own = kept.sound.own;
    ascending = kept.sound.ascending;
    agree = kept.sound.agree;
    texts = kept.sound.texts;
    blockers = λ n b e. let h = kept.sound.blockers n b e in
        record { ascending = h.ascending; there = h.there; outside = h.outside };
    in_range = kept.sound.in_range;
    forest = forest;
    next_in_range = kept.sound.next_in_range;
  };
  no_members = kept.no_members;
  no_found = kept.no_found;
  no_fixed = kept.no_fixed;
  no_blockers = kept.no_blockers;
  no_affects = kept.no_affects;
  near = λ k v. refl;
  no_outcomes = kept.no_outcomes;
  places = kept.places;
  no_numbers = kept.no_numbers;
  good = kept.good;
}

module _ (c : Content) (test : Shared → Bool) (kept : IsKeptContent c) where
  -- a bug passes on the desk where its set does
  same_answer : (n : ℕ) → (nat_lt n c.next && passes test ((desk_in c).bug n)) ≡ bug_passes test c n
  same_answer n = by_key (c.key n) refl
    where
      none : (a : Bool) → (a && false) ≡ false
      none true = refl
      none false = refl

      low : (a b : ℕ) → a < b → nat_lt a b ≡ true
      low a b l = grind (arith, nat_tests)

      by_fields : (k : ℕ) (i : SetImage) (o : Option SetFields) → option_map (λ (f : SetFields). record { shared = shared_of c k f; members = c.members k }) o ≡ Some i
          → test i.shared ≡ option_map_or (λ f. test (shared_of c k f)) o false
      by_fields k i None e = absurd (none-some i e)
      by_fields k i (Some f) e = ap (λ (o : Option SetImage). option_map_or (λ (j : SetImage). test j.shared) o false) (sym e)

      by_key : (o : Option ℕ) → c.key n ≡ o → (nat_lt n c.next && passes test ((desk_in c).bug n)) ≡ option_map_or (set_passes test c) o false
      by_key None e =
          ap (λ (o : Option ℕ). nat_lt n c.next && passes test (option_and_then (λ (i : SetImage). option_map (bug_of i) (member_at i.members n)) (option_and_then (image c) o))) e
          ∙ none (nat_lt n c.next)
      by_key (Some k) e =
          let i = found-image c.key (image c) kept.keyed n k e in
          let x = shown-some c.key (image c) kept.keyed k n i.0 i.1 i.2 in
          ap (λ t. t && passes test ((desk_in c).bug n)) (low n c.next (kept.sound.in_range n (bug_of i.0 x.0) x.1).1)
          ∙ ap (passes test) x.1
          ∙ by_fields k i.0 (c.fields k) i.1

  pub asked : (numbers : List ℕ) → IsAscending numbers → ((n : ℕ) → has numbers n ≡ bug_passes test c n) → numbers ≡ numbers_where test (desk_in c)
  asked numbers up are =
      same-ascending numbers (numbers_where test (desk_in c)) up
      (IsAscending-filter (λ n. passes test ((desk_in c).bug n)) (numbers_below c.next) (IsAscending-numbers_below c.next))
      (λ n. are n ∙ sym (has-filter (λ n. passes test ((desk_in c).bug n)) (numbers_below c.next) n
      ∙ ap (λ t. t && passes test ((desk_in c).bug n)) (has-numbers_below c.next n) ∙ same_answer n))

-- ---- the nearest mark

module _ (found fixed : List Node) where
  kind_on : (ns : List Node) → option_map (λ (near : Near). near.kind) (nearest_on found fixed ns) ≡ first_kind found fixed ns
  kind_on ns = cases (first_marked found fixed ns)
    where
      cases : (o : Option Node) → option_map (λ (near : Near). near.kind) (option_map (own_mark found) o) ≡ option_map (kind_at found) o
      cases None = refl
      cases (Some v) = refl

  -- the first node's own mark comes first
  own_first : (v : Node) (ns : List Node) (nearest : Option MarkKind) → (has_node found v ≡ false → has_node fixed v ≡ false
      → nearest ≡ first_kind found fixed (v ∷ ns)) → kind_here found fixed nearest v ≡ first_kind found fixed (v ∷ ns)
  own_first v ns nearest h = cases (has_node found v) (has_node fixed v) refl refl
    where
      cases : (a b : Bool) → has_node found v ≡ a → has_node fixed v ≡ b → kind_here found fixed nearest v ≡ first_kind found fixed (v ∷ ns)
      cases true b p q =
          ap (λ t. cond t (Some Found) (cond (has_node fixed v) (Some Fixed) nearest)) p
          ∙ sym (ap (λ t. option_map (kind_at found) (cond (t || has_node fixed v) (Some v) (first_marked found fixed ns))) p
          ∙ ap (λ t. Some (cond t Found Fixed)) p)
      cases false true p q =
          ap (λ t. cond t (Some Found) (cond (has_node fixed v) (Some Fixed) nearest)) p
          ∙ ap (λ t. cond t (Some Fixed) nearest) q
          ∙ sym (ap (λ t. option_map (kind_at found) (cond (t || has_node fixed v) (Some v) (first_marked found fixed ns))) p
          ∙ ap (λ t. option_map (kind_at found) (cond t (Some v) (first_marked found fixed ns))) q
          ∙ ap (λ t. Some (cond t Found Fixed)) p)
      cases false false p q =
          ap (λ t. cond t (Some Found) (cond (has_node fixed v) (Some Fixed) nearest)) p
          ∙ ap (λ t. cond t (Some Fixed) nearest) q ∙ h p q

pub nearest_kind : (c : Content) (k : ℕ) (v : Node) → IsKeptContent c → kind_of c k v ≡ first_kind (c.found k) (c.fixed k) (line c.nodes v)
nearest_kind c k v kept =
    let step = line_step c.nodes v kept.sound.forest in
    subst (λ (ns : List Node). kind_of c k v ≡ first_kind (c.found k) (c.fixed k) ns) (sym step)
    (own_first (c.found k) (c.fixed k) v _ _ (λ p q.
    ap (option_map (λ (near : Near). near.kind)) (kept.near k v)
    ∙ cases p q (knows c.nodes v) refl
    ∙ ap (first_kind (c.found k) (c.fixed k)) step))
  where
    cases : has_node (c.found k) v ≡ false → has_node (c.fixed k) v ≡ false → (b : Bool) → knows c.nodes v ≡ b
        → option_map (λ (near : Near). near.kind) (nearest_of c.nodes (c.found k) (c.fixed k) v) ≡ first_kind (c.found k) (c.fixed k) (line c.nodes v)
    cases p q true e =
        ap (λ t. option_map (λ (near : Near). near.kind) (cond t (nearest_on (c.found k) (c.fixed k) (line c.nodes v)) None)) e
        ∙ kind_on (c.found k) (c.fixed k) (line c.nodes v)
    cases p q false e =
        ap (λ t. option_map (λ (near : Near). near.kind) (cond t (nearest_on (c.found k) (c.fixed k) (line c.nodes v)) None)) e
        ∙ sym (ap (first_kind (c.found k) (c.fixed k)) (line_step c.nodes v kept.sound.forest
        ∙ ap (λ (o : Option Node). v ∷ line_above (line c.nodes) o) (unknown_has_none c.nodes v e)) ∙ alone)
      where
        alone : first_kind (c.found k) (c.fixed k) (v ∷ []) ≡ None
        alone = ap (λ t. option_map (kind_at (c.found k)) (cond (t || has_node (c.fixed k) v) (Some v) None)) p
            ∙ ap (λ t. option_map (kind_at (c.found k)) (cond t (Some v) None)) q
