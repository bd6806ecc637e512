-- What the query of a nearest mark's kind answers.
use Rattle.table_sets.proofs.Imports.{kind_row, kind_rows}
use Rattle.table_schema.proofs.Exports.{◌≡◌, ℕ, pos, ◌==◌, ◌&&◌, true, List, [], ◌∷◌, codes, filter, Option, Some, None, option_map, refl, sym, ap, ◌∙◌, arith, option_map_or, bytes_eq, understood, Row, Term, col, Int, Text, everything, Node, same_node, passes, equals, equals_at, IsQueryOf, hits, holds_text, same_number, and_true, last_row, same_text, one_kept, one_alike, IsRead, asks, one_answer, Near, eqb-true, and_parts, holds, NEAREST, desk_schema, NearestRow, nearest_cells, is_of, nearest, keyed_nearest, AreApart, rows_apart}
use Rattle.version_nodes.proofs.NodeLemmas.{same_true}

abbrev read_text : List ℕ
read_text = codes "SELECT kind FROM nearest WHERE set_key = ?1 AND source = ?2 AND version = ?3"

abbrev from_node : List Term
from_node = equals 1 ∷ equals_at 2 1 ∷ equals_at 3 2 ∷ []

abbrev params_of : ℕ → Node → Row
params_of k v = Int (pos k) ∷ Text v.source ∷ Text v.version ∷ []

read_is : (k : ℕ) (v : Node) → IsQueryOf desk_schema read_text (params_of k v) NEAREST from_node (col 1 6 ∷ []) [] (codes "kind" ∷ [])
unfolding understood everything
read_is k v = record { command_is = refl; plain = (refl, refl); whole = omega arith; given = refl; unlisted = refl; typed = refl }

-- whether a row is of the key and the node
hit_row : (k : ℕ) (v : Node) (x : NearestRow) → passes from_node (params_of k v) (nearest_cells x) ≡ is_of k v x
hit_row k v x =
    let number = sym (and_true (holds (params_of k v ∷ nearest_cells x ∷ []) (equals 1))) ∙ hits 1 (pos k) (nearest_cells x) ∙ same_number x.key k in
    let source = holds_text 2 1 (params_of k v) (nearest_cells x) v.source refl ∙ same_text x.node.source v.source in
    let version = holds_text 3 2 (params_of k v) (nearest_cells x) v.version refl ∙ same_text x.node.version v.version in
    (λ i. number i && (source i && (version i && true))) ∙ ap (λ b. (x.key == k) && (bytes_eq x.node.source v.source && b)) (and_true _)

-- two rows of a key and a node have one key of the table
one_key : (k : ℕ) (v : Node) (x y : NearestRow) → is_of k v x ≡ true → is_of k v y ≡ true → is_of y.key y.node x ≡ true
one_key k v x y here there =
    let parts = and_parts (y.key == k) (same_node y.node v) there in
    let number = eqb-true y.key k parts.0 in
    let place = same_true y.node v parts.1 in
    (λ i. is_of (number i) (place i) x) ∙ here

kinds_are : (o : Option NearestRow) → option_map_or (λ (r : Row). r ∷ []) (option_map (λ (x : NearestRow). kind_row x.near.kind) o) []
    ≡ kind_rows (option_map (λ (near : Near). near.kind) (option_map (λ (x : NearestRow). x.near) o))
kinds_are None = refl
kinds_are (Some x) = refl

pub near_read : (k : ℕ) (v : Node) → IsRead read_text (params_of k v) (λ c rows. rows ≡ kind_rows (option_map (λ near. near.kind) (c.near k v)))
near_read k v = asks nearest read_text (params_of k v) from_node (col 1 6 ∷ []) (codes "kind" ∷ []) _ (record {
  text = read_is k v;
  is_hit = is_of k v;
  hits = hit_row k v;
  of = λ x. kind_row x.near.kind;
  row = λ r. r;
  back = λ r. r;
  same = λ r. refl;
  shows = λ x. refl;
  AreFine = AreApart keyed_nearest;
  fine = λ s inside live all. rows_apart keyed_nearest s inside live all;
  says = λ xs c apart good rows any. one_answer (λ (x : NearestRow). kind_row x.near.kind) (λ (r : Row). r) (last_row (is_of k v) xs) (filter (is_of k v) xs)
      (one_kept (is_of k v) xs (one_alike (is_of k v) keyed_nearest.alike (one_key k v) xs apart)) rows any ∙ kinds_are (last_row (is_of k v) xs);
})
