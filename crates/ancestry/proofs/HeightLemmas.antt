-- The first marked node of a line is the one that stands highest.
use Rattle.std.proofs.Common.{◌≡◌, ◌≤◌, ◌<◌, ℕ, true, false, Bool, cond, ◌||◌, List, [], ◌∷◌, length, refl, sym, ap, ◌∙◌, arith}
use Rattle.std.specs.Prelude.{max, ◌+◌, nat_lt, if◌then◌else◌, Some, None, option_map}
use Rattle.std.proofs.lemmas.Bool.Decides.{nat_tests}
use Rattle.ancestry.specs.Heights.{height, greatest_height, kind_by_heights}
use Rattle.version_nodes.specs.Nodes.{Node, same_node}
use Rattle.version_nodes.specs.Statuses.{first_marked, kind_at, first_kind}
use Rattle.version_nodes.specs.Trees.{has_node}
use Rattle.version_nodes.specs.declared.statuses.MarkKind.TheVariants.{Found, Fixed}

height-le : (line : List Node) (n : Node) → height line n ≤ length line
height-le [] n = omega arith
height-le (m ∷ line) n = cases (height-le line n) (same_node m n)
  where
    cases : height line n ≤ length line → (t : Bool) → cond t (length line + 1) (height line n) ≤ length (m ∷ line)
    cases less true = omega arith
    cases less false = omega arith

greatest-le : (line nodes : List Node) → greatest_height line nodes ≤ length line
greatest-le line [] = omega arith
greatest-le line (n ∷ nodes) = omega (arith, height-le line n, greatest-le line nodes)

greatest-none : (nodes : List Node) → greatest_height [] nodes ≡ 0
greatest-none nodes = omega (arith, greatest-le [] nodes)

-- the first node of a line stands highest
greatest-first : (m : Node) (line nodes : List Node)
    → greatest_height (m ∷ line) nodes ≡ cond (has_node nodes m) (length line + 1) (greatest_height line nodes)
greatest-first m line [] = refl
greatest-first m line (n ∷ nodes) =
    ap (max (height (m ∷ line) n)) (greatest-first m line nodes) ∙ cases (same_node m n) (has_node nodes m)
  where
    low : height line n ≤ length line
    low = height-le line n

    lows : greatest_height line nodes ≤ length line
    lows = greatest-le line nodes

    cases : (t u : Bool)
        → max (cond t (length line + 1) (height line n)) (cond u (length line + 1) (greatest_height line nodes))
        ≡ cond (t || u) (length line + 1) (max (height line n) (greatest_height line nodes))
    cases true true = omega arith
    cases true false = omega (arith, lows)
    cases false true = omega (arith, low)
    cases false false = refl

-- found decides, where it stands as high, and fixed, where it stands higher
found-decides : (found fixed : ℕ) → fixed ≤ found → 0 < found → kind_by_heights found fixed ≡ Some Found
found-decides found fixed h g = grind (arith, nat_tests)

fixed-decides : (found fixed : ℕ) → found < fixed → kind_by_heights found fixed ≡ Some Fixed
fixed-decides found fixed h = grind (arith, nat_tests)

-- one node more before the line, which may be marked
one-more : (found fixed line : List Node) (m : Node) (a b : ℕ) → a ≤ length line → b ≤ length line
    → first_kind found fixed line ≡ kind_by_heights a b
    → (t u : Bool) → has_node found m ≡ t
    → option_map (kind_at found) (cond (t || u) (Some m) (first_marked found fixed line))
    ≡ kind_by_heights (cond t (length line + 1) a) (cond u (length line + 1) b)
one-more found fixed line m a b h g same true true e =
    ap (λ t. Some (if t then Found else Fixed)) e ∙ sym (found-decides (length line + 1) (length line + 1) (omega arith) (omega arith))
one-more found fixed line m a b h g same true false e =
    ap (λ t. Some (if t then Found else Fixed)) e ∙ sym (found-decides (length line + 1) b (omega arith) (omega arith))
one-more found fixed line m a b h g same false true e =
    ap (λ t. Some (if t then Found else Fixed)) e ∙ sym (fixed-decides a (length line + 1) (omega arith))
one-more found fixed line m a b h g same false false e = same

-- the nodes that stand highest tell the kind of the first mark
pub kind-heights : (found fixed line : List Node)
    → first_kind found fixed line ≡ kind_by_heights (greatest_height line found) (greatest_height line fixed)
kind-heights found fixed [] =
    ap (λ k. kind_by_heights k 0) (sym (greatest-none found))
    ∙ ap (λ k. kind_by_heights (greatest_height [] found) k) (sym (greatest-none fixed))
kind-heights found fixed (m ∷ line) =
    let a = greatest_height line found in
    let b = greatest_height line fixed in
    let high = length line + 1 in
    one-more found fixed line m a b (greatest-le line found) (greatest-le line fixed) (kind-heights found fixed line)
    (has_node found m) (has_node fixed m) refl
    ∙ ap (λ k. kind_by_heights k (cond (has_node fixed m) high b)) (sym (greatest-first m line found))
    ∙ ap (λ k. kind_by_heights (greatest_height (m ∷ line) found) k) (sym (greatest-first m line fixed))

-- one node more, by whether it stands above a height
pub above-first : (h a b : ℕ) → h < a → true ≡ nat_lt h (max a b)
above-first h a b l = grind (arith, nat_tests)

pub above-others : (h a b : ℕ) → a ≤ h → nat_lt h (max a b) ≡ nat_lt h b
above-others h a b l = grind (arith, nat_tests)

none-fixed : (a : ℕ) → kind_by_heights a 0 ≡ (if nat_lt 0 a then Some Found else None)
none-fixed a = grind (arith, nat_tests)

-- the kind where nothing is marked as fixed, and where something may be
pub kind-found : (found fixed line : List Node) → length fixed ≡ 0
    → first_kind found fixed line ≡ (if nat_lt 0 (greatest_height line found) then Some Found else None)
kind-found found [] line e = kind-heights found [] line ∙ none-fixed (greatest_height line found)
kind-found found (n ∷ fixed) line e = absurd (omega (arith, e))

pub kind-above : (found fixed line : List Node) (a : ℕ) → a ≡ greatest_height line found
    → first_kind found fixed line ≡ (if nat_lt a (greatest_height line fixed) then Some Fixed else if nat_lt 0 a then Some Found else None)
kind-above found fixed line a e =
    kind-heights found fixed line ∙ ap (λ k. kind_by_heights k (greatest_height line fixed)) (sym e)
