-- What the statements on nearest mean.
use Rattle.table_schema.proofs.Exports.{◌≡◌, ℕ, pos, ◌==◌, Bool, true, false, not, if◌then◌else◌, List, [], ◌∷◌, codes, filter, Option, None, refl, sym, ap, ◌∙◌, arith, ◌&&◌, bytes_eq, eqb-true, and_parts, Insert, Delete, understood, Row, Values, Term, lit, col, Null, Int, Text, everything, Node, IsNode, same_node, Near, passes, equals, equals_at, holds, holds_text, and_true, same_text, rowids_of, IsCallOf, hits, same_number, put_at, edited, kind_number, IsFree, PutNear, DropNear, DropNearAt, NEAREST, desk_schema, NearestRow, nearest_cells, is_of, near_in, cast_int, cast_null, nearest, keyed_nearest, said_more, said_left, none_said, turned, IsWrite, adds, clears}
use Rattle.version_nodes.specs.NodeLaws.{same_node_equiv}
use Rattle.version_nodes.proofs.NodeLemmas.{same_true}

-- ---- a nearest mark comes

abbrev add_text : List ℕ
add_text = codes "INSERT INTO nearest VALUES (?1, ?2, ?3, ?4, ?5, ?6)"

abbrev terms : List Term
terms = lit Null ∷ col 0 0 ∷ col 0 1 ∷ col 0 2 ∷ col 0 3 ∷ col 0 4 ∷ col 0 5 ∷ []

abbrev add_params : ℕ → Node → Near → Row
add_params k v near = Int (pos k) ∷ Text v.source ∷ Text v.version ∷ Text near.mark.source ∷ Text near.mark.version ∷ Int (pos (kind_number near.kind)) ∷ []

add_call : (k : ℕ) (v : Node) (near : Near) → IsCallOf desk_schema add_text (add_params k v near) (Insert 6 (Values terms 7))
unfolding understood everything
add_call k v near = record { command_is = refl; writes = tt; plain = (refl, refl); whole = omega arith; given = refl }

pub add_is : (k : ℕ) (v : Node) (near : Near) → IsNode v → IsNode near.mark → IsWrite add_text (add_params k v near) (IsFree (PutNear k v near)) (edited (PutNear k v near))
add_is k v near is is' = adds keyed_nearest add_text (add_params k v near) terms (PutNear k v near) (record {
  text = record { call = add_call k v near; typed = refl; one = λ row. refl };
  new = λ id. record { id = id; key = k; node = v; near = near };
  own = λ id. refl;
  is = λ rows. rw (cast_null, cast_int (pos k), cast_int (pos (kind_number near.kind))) refl;
  good = λ id. record { node = is; mark = is' };
  kept = λ id. record { datatype = λ db. refl; not_null = λ db. refl; check = λ db. refl; keyed = refl };
  more = λ xs id c. λ i. record c { near = λ j w. said_more (λ (x : NearestRow). x.near) (is_of j w) xs (record { id = id; key = k; node = v; near = near }) i };
  none = λ xs id c free. none_said (λ (x : NearestRow). x.near) (is_of k v) xs free.1;
})

-- ---- those of a key go

abbrev clear_text : List ℕ
clear_text = codes "DELETE FROM nearest WHERE set_key = ?1"

clear_call : (k : ℕ) → IsCallOf desk_schema clear_text (Int (pos k) ∷ []) (Delete 6 (rowids_of NEAREST (equals 1 ∷ [])))
unfolding understood everything
clear_call k = record { command_is = refl; writes = tt; plain = (refl, refl); whole = omega arith; given = refl }

hit_key : (k : ℕ) (x : NearestRow) → passes (equals 1 ∷ []) (Int (pos k) ∷ []) (nearest_cells x) ≡ (x.key == k)
hit_key k x = hits 1 (pos k) (nearest_cells x) ∙ same_number x.key k

own_key : (k n : ℕ) (v : Node) (x : NearestRow) → is_of n v x ≡ true → (x.key == k) ≡ (k == n)
own_key k n v x here = ap (λ m. m == k) (eqb-true x.key n (and_parts (x.key == n) (same_node x.node v) here).0) ∙ turned n k

at_node : (b : Bool) (f : Node → Option Near) (v : Node) → (if b then None else f v) ≡ (if b then (λ (w : Node). None) else f) v
at_node true f v = refl
at_node false f v = refl

less : (k n : ℕ) (v : Node) (xs : List NearestRow) → near_in (filter (λ x. not (x.key == k)) xs) n v ≡ put_at k (λ w. None) (near_in xs) n v
less k n v xs = said_left (λ (x : NearestRow). x.near) (is_of n v) (λ x. x.key == k) (k == n) (own_key k n v) xs ∙ at_node (k == n) (near_in xs n) v

pub clear_is : (k : ℕ) → IsWrite clear_text (Int (pos k) ∷ []) (IsFree (DropNear k)) (edited (DropNear k))
clear_is k = clears nearest clear_text (Int (pos k) ∷ []) (equals 1 ∷ []) (DropNear k) (record {
  call = clear_call k;
  typed = refl;
  is_hit = λ x. x.key == k;
  hits = hit_key k;
  less = λ xs c. λ i. record c { near = λ n v. less k n v xs i };
})

-- ---- the one of a key and a node goes

abbrev clear_at_text : List ℕ
clear_at_text = codes "DELETE FROM nearest WHERE set_key = ?1 AND source = ?2 AND version = ?3"

abbrev at_place : List Term
at_place = equals 1 ∷ equals_at 2 1 ∷ equals_at 3 2 ∷ []

abbrev place_params : ℕ → Node → Row
place_params k v = Int (pos k) ∷ Text v.source ∷ Text v.version ∷ []

clear_at_call : (k : ℕ) (v : Node) → IsCallOf desk_schema clear_at_text (place_params k v) (Delete 6 (rowids_of NEAREST at_place))
unfolding understood everything
clear_at_call k v = record { command_is = refl; writes = tt; plain = (refl, refl); whole = omega arith; given = refl }

-- whether a row is of the key and the node
hit_place : (k : ℕ) (v : Node) (x : NearestRow) → passes at_place (place_params k v) (nearest_cells x) ≡ is_of k v x
hit_place k v x =
    let number = sym (and_true (holds (place_params k v ∷ nearest_cells x ∷ []) (equals 1))) ∙ hits 1 (pos k) (nearest_cells x) ∙ same_number x.key k in
    let source = holds_text 2 1 (place_params k v) (nearest_cells x) v.source refl ∙ same_text x.node.source v.source in
    let version = holds_text 3 2 (place_params k v) (nearest_cells x) v.version refl ∙ same_text x.node.version v.version in
    (λ i. number i && (source i && (version i && true))) ∙ ap (λ b. (x.key == k) && (bytes_eq x.node.source v.source && b)) (and_true _)

own_place : (k n : ℕ) (v w : Node) (x : NearestRow) → is_of n w x ≡ true → is_of k v x ≡ ((k == n) && same_node v w)
own_place k n v w x here =
    let parts = and_parts (x.key == n) (same_node x.node w) here in
    let number = eqb-true x.key n parts.0 in
    let place = same_true x.node w parts.1 in
    (λ i. is_of k v (record x { key = number i; node = place i })) ∙ (λ i. turned n k i && same_node_equiv.symm w v i)

less_at : (k n : ℕ) (v w : Node) (xs : List NearestRow)
    → near_in (filter (λ x. not (is_of k v x)) xs) n w ≡ (if (k == n) && same_node v w then None else near_in xs n w)
less_at k n v w xs = said_left (λ (x : NearestRow). x.near) (is_of n w) (is_of k v) ((k == n) && same_node v w) (own_place k n v w) xs

pub clear_at_is : (k : ℕ) (v : Node) → IsWrite clear_at_text (place_params k v) (IsFree (DropNearAt k v)) (edited (DropNearAt k v))
clear_at_is k v = clears nearest clear_at_text (place_params k v) at_place (DropNearAt k v) (record {
  call = clear_at_call k v;
  typed = refl;
  is_hit = is_of k v;
  hits = hit_place k v;
  less = λ xs c. λ i. record c { near = λ n w. less_at k n v w xs i };
})
