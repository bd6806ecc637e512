-- What the statements on nodes mean.
use Rattle.table_nodes.proofs.Imports.{link_row, IsLink, AreLinksOf}
use Rattle.table_schema.proofs.Exports.{◌≡◌, ℕ, ℤ, ◌&&◌, true, List, [], ◌∷◌, codes, map, filter, Option, Some, None, option_map, refl, ap, subst, ◌∙◌, arith, AllByRecursion, IsPermutation, bytes_eq, All-from_recursion, recursion_from_All, All-permutation, IsPermutation-trans, Insert, Delete, next_rowid, understood, Row, column, Values, Term, lit, col, or_null, Null, Text, everything, accepts_terms, Node, IsNode, node, same_node, Ancestry, IfGiven, passes, equals_at, inserted, rowids_of, IsCallOf, IsQueryOf, IsGoodRow, holds_text, and_true, Content, edited, IsFree, PutLink, DropLink, maybe_text, text_in, NODES, nodes_table, desk_schema, NodeRow, node_cells, IsNodeRow, node_between, cast_null, same_text, nodes, keyed_nodes, AreApart, rows_apart, no_row, link_of, links_are, parent_back, IsWrite, IsRead, adds, clears, asks}
use Rattle.version_nodes.specs.NodeLaws.{same_node_equiv}
use Rattle.table_schema.proofs.NodeLists.{one_more as one_link, none_left}

-- ---- a node comes

abbrev add_text : List ℕ
add_text = codes "INSERT INTO nodes VALUES (?1, ?2, ?3, ?4)"

abbrev terms : List Term
terms = lit Null ∷ col 0 0 ∷ col 0 1 ∷ col 0 2 ∷ col 0 3 ∷ []

abbrev add_params : Node → Option Node → Row
add_params v p = Text v.source ∷ Text v.version ∷ or_null Text (option_map (λ (n : Node). n.source) p) ∷ or_null Text (option_map (λ (n : Node). n.version) p) ∷ []

add_call : (v : Node) (p : Option Node) → IsCallOf desk_schema add_text (add_params v p) (Insert 5 (Values terms 5))
unfolding understood everything
add_call v p = record { command_is = refl; writes = tt; plain = (refl, refl); whole = omega arith; given = refl }

-- what depends on whether there is a parent
record Holds (v : Node) (p : Option Node) : Type 0 where
  typed : accepts_terms terms (add_params v p) ≡ true
  is : (rows : List Row) → inserted nodes_table rows terms (add_params v p) ≡ node_cells (record { id = next_rowid rows; node = v; parent = p })
  kept : (id : ℤ) → IsGoodRow desk_schema nodes_table (node_cells (record { id = id; node = v; parent = p }))

with_parent : (v : Node) (p : Option Node) → Holds v p
with_parent v None = record { typed = refl; is = λ rows. rw cast_null refl; kept = λ id. record { datatype = λ db. refl; not_null = λ db. refl; check = λ db. refl; keyed = refl } }
with_parent v (Some p) = record { typed = refl; is = λ rows. rw cast_null refl; kept = λ id. record { datatype = λ db. refl; not_null = λ db. refl; check = λ db. refl; keyed = refl } }

pub add_is : (v : Node) (p : Option Node) → IsNode v → IfGiven IsNode p → IsWrite add_text (add_params v p) (IsFree (PutLink v p)) (edited (PutLink v p))
add_is v p is is' = adds keyed_nodes add_text (add_params v p) terms (PutLink v p) (record {
  text = record { call = add_call v p; typed = (with_parent v p).typed; one = λ row. refl };
  new = λ id. record { id = id; node = v; parent = p };
  own = λ id. refl;
  is = (with_parent v p).is;
  good = λ id. record { node = is; parent = is' };
  kept = (with_parent v p).kept;
  more = λ xs id c. ap (λ (t : Ancestry). let d : Content = record c { nodes = t } in d) (one_link xs (record { id = id; node = v; parent = p }));
  none = λ xs id c free. no_row v xs free;
})

-- ---- a node goes

abbrev clear_text : List ℕ
clear_text = codes "DELETE FROM nodes WHERE source = ?1 AND version = ?2"

abbrev of_node : List Term
of_node = equals_at 1 0 ∷ equals_at 2 1 ∷ []

abbrev params_of : Node → Row
params_of v = Text v.source ∷ Text v.version ∷ []

clear_call : (v : Node) → IsCallOf desk_schema clear_text (params_of v) (Delete 5 (rowids_of NODES of_node))
unfolding understood everything
clear_call v = record { command_is = refl; writes = tt; plain = (refl, refl); whole = omega arith; given = refl }

-- whether a row is of the node
hit_node : (v : Node) (x : NodeRow) → passes of_node (params_of v) (node_cells x) ≡ same_node v x.node
hit_node v x =
    let source = holds_text 1 0 (params_of v) (node_cells x) v.source refl ∙ same_text x.node.source v.source in
    let version = holds_text 2 1 (params_of v) (node_cells x) v.version refl ∙ same_text x.node.version v.version in
    (λ i. source i && (version i && true)) ∙ ap (λ b. bytes_eq x.node.source v.source && b) (and_true _) ∙ same_node_equiv.symm x.node v

pub clear_is : (v : Node) → IsWrite clear_text (params_of v) (IsFree (DropLink v)) (edited (DropLink v))
clear_is v = clears nodes clear_text (params_of v) of_node (DropLink v) (record {
  call = clear_call v;
  typed = refl;
  is_hit = λ x. same_node v x.node;
  hits = hit_node v;
  less = λ xs c. ap (λ (t : Ancestry). let d : Content = record c { nodes = t } in d) (none_left v xs);
})

-- ---- all nodes are read

abbrev read_text : List ℕ
read_text = codes "SELECT source, version, parent_source, parent_version FROM nodes"

abbrev shown_terms : List Term
shown_terms = col 1 1 ∷ col 1 2 ∷ col 1 3 ∷ col 1 4 ∷ []

abbrev names : List (List ℕ)
names = codes "source" ∷ codes "version" ∷ codes "parent_source" ∷ codes "parent_version" ∷ []

read_is : IsQueryOf desk_schema read_text [] NODES [] shown_terms [] names
unfolding understood everything
read_is = record { command_is = refl; plain = (refl, refl); whole = omega arith; given = refl; unlisted = refl; typed = refl }

abbrev link_back : Row → Node × Option Node
link_back r = (node (text_in (column r 0)) (text_in (column r 1)), node_between (maybe_text (column r 2)) (maybe_text (column r 3)))

back_is : (l : Node × Option Node) → link_back (link_row l) ≡ l
back_is l = ap (λ p. (l.0, p)) (parent_back l.1)

valid_links : (xs : List NodeRow) → AllByRecursion IsNodeRow xs → AllByRecursion IsLink (map link_of xs)
valid_links [] h = tt
valid_links (x ∷ xs) h = (record { node = h.0.node; parent = h.0.parent }, valid_links xs h.1)

-- where there is no test, each row passes
all_pass : (xs : List NodeRow) → filter (λ x. true) xs ≡ xs
all_pass [] = refl
all_pass (x ∷ xs) = ap (λ ys. x ∷ ys) (all_pass xs)

pub links_read : IsRead read_text [] (λ c rows. AreLinksOf c.nodes rows)
links_read = asks nodes read_text [] [] shown_terms names _ (record {
  text = read_is;
  is_hit = λ x. true;
  hits = λ x. refl;
  of = link_of;
  row = link_row;
  back = link_back;
  same = back_is;
  shows = λ x. refl;
  AreFine = AreApart keyed_nodes;
  fine = λ s inside live all. rows_apart keyed_nodes s inside live all;
  says = λ xs c apart good links any.
      let all = subst (λ ys. IsPermutation (map link_of ys) links) (all_pass xs) any in
      record {
        links = links;
        are = refl;
        valid = recursion_from_All IsLink _ (All-permutation IsLink _ _ all (All-from_recursion IsLink _ (valid_links xs good)));
        same = IsPermutation-trans _ _ _ (links_are xs apart) all;
      };
})
