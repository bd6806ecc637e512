-- What the query of the marks at a node answers.
use Rattle.table_sets.proofs.Imports.{mark_row, SetMark}
use Rattle.table_schema.proofs.Exports.{◌≡◌, ℕ, ◌==◌, ◌&&◌, true, List, [], ◌∷◌, codes, map, refl, sym, ap, ◌∙◌, arith, ⊤, unwrap_or, bytes_eq, understood, Row, column, Term, col, Text, everything, Node, same_node, has_node, Found, passes, equals_at, number_in, IsQueryOf, holds_text, and_true, kind_number, kind_in, MARKS, desk_schema, MarkRow, mark_cells, mark_rows, marks, kind_back, same_text, owners_any, IsRead, asks}
use Rattle.table_sets.specs.MarkedAt.{AreMarksAt}
use Rattle.table_sets.proofs.MarkStatements.{said}

abbrev read_text : List ℕ
read_text = codes "SELECT set_key, kind FROM marks WHERE source = ?1 AND version = ?2"

abbrev at_node : List Term
at_node = equals_at 3 0 ∷ equals_at 4 1 ∷ []

abbrev shown_terms : List Term
shown_terms = col 1 1 ∷ col 1 2 ∷ []

abbrev names : List (List ℕ)
names = codes "set_key" ∷ codes "kind" ∷ []

abbrev params_of : Node → Row
params_of v = Text v.source ∷ Text v.version ∷ []

read_is : (v : Node) → IsQueryOf desk_schema read_text (params_of v) MARKS at_node shown_terms [] names
unfolding understood everything
read_is v = record { command_is = refl; plain = (refl, refl); whole = omega arith; given = refl; unlisted = refl; typed = refl }

-- whether a row is of the node
hit_node : (v : Node) (x : MarkRow) → passes at_node (params_of v) (mark_cells x) ≡ same_node x.node v
hit_node v x =
    let source = holds_text 3 0 (params_of v) (mark_cells x) v.source refl ∙ same_text x.node.source v.source in
    let version = holds_text 4 1 (params_of v) (mark_cells x) v.version refl ∙ same_text x.node.version v.version in
    (λ i. source i && (version i && true)) ∙ ap (λ b. bytes_eq x.node.source v.source && b) (and_true _)

abbrev mark_of : MarkRow → SetMark
mark_of x = record { key = x.key; kind = x.kind }

abbrev mark_back : Row → SetMark
mark_back r = record { key = number_in (column r 0); kind = unwrap_or (kind_in (number_in (column r 1))) Found }

back_is : (m : SetMark) → mark_back (mark_row m) ≡ m
back_is m = ap (λ o. let n : SetMark = record { key = m.key; kind = unwrap_or o Found } in n) (kind_back m.kind)

pub marks_read : (v : Node) → IsRead read_text (params_of v) (λ c rows. (ms : List SetMark) × (rows ≡ map mark_row ms) × AreMarksAt v c ms)
marks_read v = asks marks read_text (params_of v) at_node shown_terms names _ (record {
  text = read_is v;
  is_hit = λ x. same_node x.node v;
  hits = hit_node v;
  of = mark_of;
  row = mark_row;
  back = mark_back;
  same = back_is;
  shows = λ x. refl;
  AreFine = λ xs. ⊤;
  fine = λ s inside live all. tt;
  says = λ xs c fine good ms any. (
    ms,
    refl,
    λ k kind. owners_any mark_rows mark_of (λ m. (m.key == k) && (kind_number m.kind == kind_number kind)) (k, kind) v (λ x. refl) xs ms any ∙ ap (λ ns. has_node ns v) (sym (said kind xs c k)),
  );
})
