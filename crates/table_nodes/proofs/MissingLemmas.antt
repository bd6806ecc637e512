-- The rows of the nodes whose line has a changed node are all those that are missing.
use Rattle.std.proofs.Common.{◌≡◌, ℕ, Bool, true, false, cond, ◌&&◌, List, Option, Some, None, is_some, refl, sym, ap, ◌∙◌}
use Rattle.version_nodes.specs.Nodes.{Node}
use Rattle.version_nodes.specs.Trees.{Ancestry, has_node, knows, line}
use Rattle.version_marks.specs.Nearest.{nearest_on, nearest_of, meets}
use Rattle.version_marks.specs.declared.near.Near.{Near}
use Rattle.version_marks.proofs.LineLemmas.{sees_same}
use Rattle.table_content.specs.Content.{Content}
use Rattle.table_content.specs.Kept.{IsKeptContent}
use Rattle.table_content.specs.Branches.{ChangesNodes, AreMissing}
use Rattle.table_content.specs.declared.branches.SetNear.{SetNear}
use Rattle.table_nodes.specs.Grown.{IsGrown}
use Rattle.table_nodes.specs.Missing.{AreRowsOn}

pub changes : (c : Content) (u : Ancestry) (changed : List Node) → IsGrown c.nodes u changed → ChangesNodes c u changed
changes c u changed grown = record { forest = grown.forest; others = grown.others; known = grown.known }

both_none : (b : Bool) → ◌≡◌ {A = Option Near} (cond b None None) None
both_none true = refl
both_none false = refl

-- what is there is not new
not_new : (o : Option Near) → cond (is_some o) None o ≡ None
not_new None = refl
not_new (Some near) = refl

module _ (c : Content) (u : Ancestry) (changed nodes : List Node) (rows : List SetNear) (kept : IsKeptContent c)
    (grown : IsGrown c.nodes u changed) (are : (v : Node) → has_node nodes v ≡ (knows u v && meets changed (line u v))) where
  abbrev new : ℕ → Node → Option Near
  new k v = cond (is_some (c.near k v)) None (nearest_of u (c.found k) (c.fixed k) v)

  -- there is nothing new elsewhere
  elsewhere : (k : ℕ) (v : Node) (b : Bool) → knows u v ≡ b → (b && meets changed (line u v)) ≡ false → new k v ≡ None
  elsewhere k v false e h =
      ap (λ b. cond (is_some (c.near k v)) None (cond b (nearest_on (c.found k) (c.fixed k) (line u v)) None)) e
      ∙ both_none (is_some (c.near k v))
  elsewhere k v true e h =
      ap (λ (o : Option Near). cond (is_some (c.near k v)) None o)
      (sees_same c.nodes u changed grown.others (c.found k) (c.fixed k) v kept.sound.forest grown.forest h ∙ sym (kept.near k v))
      ∙ not_new (c.near k v)

  pub missing : AreRowsOn c u nodes rows → AreMissing c u rows
  missing on = record {
    once = on.once;
    keys = on.keys;
    rows_are = λ k v. on.here k v ∙ cases k v (has_node nodes v) refl;
    right = λ k v near e. grown.sees (c.found k) (c.fixed k) v near (sym (kept.near k v) ∙ e);
  }
    where
      cases : (k : ℕ) (v : Node) (b : Bool) → has_node nodes v ≡ b → cond b (new k v) None ≡ new k v
      cases k v true e = refl
      cases k v false e = sym (elsewhere k v (knows u v) refl (sym (are v) ∙ e))
