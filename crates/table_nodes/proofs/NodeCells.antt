-- The cells of a node that may be missing.
-- Nothing here speaks of a statement.
use Rattle.table_schema.proofs.Exports.{◌≡◌, ◌≢◌, Option, Some, None, refl, sym, ap, ◌∙◌, or_null, Value, Null, Text, Node, IsNode, IfGiven}

pub no_node : (v : Option Node) (source : Value) → source ≡ Null → source ≡ or_null (λ (n : Node). Text n.source) v → None ≡ v
no_node None source null is = refl
no_node (Some n) source null is = absurd cc

-- the node is there, with these cells
pub record IsThere (v : Option Node) (source version : Value) : Type 0 where
  pub node : Node
  pub is : v ≡ Some node
  pub valid : IsNode node
  pub source_is : source ≡ Text node.source
  pub version_is : version ≡ Text node.version

pub node_there : (v : Option Node) (source version : Value) → IfGiven IsNode v → source ≢ Null
    → source ≡ or_null (λ (n : Node). Text n.source) v → version ≡ or_null (λ (n : Node). Text n.version) v → IsThere v source version
node_there None source version valid other a b = absurd (other a)
node_there (Some n) source version valid other a b = record { node = n; is = refl; valid = valid; source_is = a; version_is = b }

-- a node with the texts of two cells is the one that stands there
pub same_here : (n v : Node) (source version : Value) → source ≡ Text n.source → version ≡ Text n.version
    → source ≡ Text v.source → version ≡ Text v.version → n ≡ v
same_here n v source version a b e f =
    let s : Text n.source ≡ Text v.source = sym a ∙ e in
    let w : Text n.version ≡ Text v.version = sym b ∙ f in
    let is : n.source ≡ v.source = cc in
    let are : n.version ≡ v.version = cc in
    λ i. record { source = is i; version = are i }

pub parent_here : (n : Node) (v : Option Node) (source version : Value) → source ≡ Text n.source → version ≡ Text n.version
    → source ≡ or_null (λ (m : Node). Text m.source) v → version ≡ or_null (λ (m : Node). Text m.version) v → Some n ≡ v
parent_here n None source version a b e f = absurd (let h : Text n.source ≡ Null = sym a ∙ e in cc)
parent_here n (Some m) source version a b e f = ap Some (same_here n m source version a b e f)
