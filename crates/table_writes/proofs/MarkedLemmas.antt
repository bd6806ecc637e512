-- The first marks of a line, node by node, by the marks that are read at each.
use Rattle.std.proofs.Common.{◌≡◌, ℕ, ◌+◌, ◌<◌, Bool, true, false, cond, ◌||◌, ◌&&◌, ◌==◌, List, [], ◌∷◌, ◌++◌, length, take, get_or, refl, sym, ap, ◌∙◌}
use Rattle.std.specs.Option.{option_or}
use Rattle.std.specs.Ordering.{nat_cmp}
use Rattle.std.specs.BTreeMap.{BTreeMap, get}
use Rattle.std.proofs.lemmas.List.{take_more}
use Rattle.version_nodes.specs.Nodes.{Node}
use Rattle.version_nodes.specs.declared.statuses.MarkKind.{MarkKind}
use Rattle.version_nodes.specs.declared.statuses.MarkKind.TheVariants.{Found, Fixed}
use Rattle.bug_record.specs.Sets.{has}
use Rattle.version_marks.specs.Nearest.{nearest_on}
use Rattle.version_marks.specs.declared.near.Near.{Near}
use Rattle.version_marks.proofs.LineLemmas.{longer}
use Rattle.table_content.specs.Content.{Content}
use Rattle.table_encodings.specs.Encodings.{kind_number}
use Rattle.table_nodes.specs.FirstMarks.{mark_at}
use Rattle.table_nodes.proofs.FirstMarkLemmas.{goes_on}
use Rattle.table_sets.specs.MarkedAt.{has_mark, AreMarksAt}
use Rattle.table_sets.specs.declared.node_marks.SetMark.{SetMark}
use Rattle.table_writes.specs.Marked.{keys_of_kind}

and_true : (a : Bool) → (a && true) ≡ a
and_true true = refl
and_true false = refl

and_false : (a : Bool) → (a && false) ≡ false
and_false true = refl
and_false false = refl

has_keys : (kind : MarkKind) (ms : List SetMark) (k : ℕ) → has (keys_of_kind kind ms) k ≡ has_mark ms k kind
has_keys kind [] k = refl
has_keys kind (m ∷ ms) k =
    elim (kind_number m.kind == kind_number kind)
    as (λ t. has (cond t (m.key ∷ keys_of_kind kind ms) (keys_of_kind kind ms)) k ≡ (((m.key == k) && t) || has_mark ms k kind)) [
      | true ↦ ap (λ b. (m.key == k) || b) (has_keys kind ms k) ∙ sym (ap (λ b. b || has_mark ms k kind) (and_true (m.key == k)))
      | false ↦ has_keys kind ms k ∙ sym (ap (λ b. b || has_mark ms k kind) (and_false (m.key == k)))
    ]

-- the marks that are read at one node
pub marks_here : (c : Content) (v : Node) (ms : List SetMark) → AreMarksAt v c ms → (k : ℕ)
    → mark_at v (keys_of_kind Found ms) (keys_of_kind Fixed ms) k ≡ nearest_on (c.found k) (c.fixed k) (v ∷ [])
marks_here c v ms are k =
    sym (goes_on (c.found k) (c.fixed k) v [] (keys_of_kind Found ms) (keys_of_kind Fixed ms) k (has_keys Found ms k ∙ are k Found)
    (has_keys Fixed ms k ∙ are k Fixed))

pub marks_added : (c : Content) (v : Node) (ms : List SetMark) (m m' : BTreeMap ℕ Near) → AreMarksAt v c ms
    → ((k : ℕ) → get nat_cmp m' k ≡ option_or (get nat_cmp m k) (mark_at v (keys_of_kind Found ms) (keys_of_kind Fixed ms) k))
    → (k : ℕ) → get nat_cmp m' k ≡ option_or (get nat_cmp m k) (nearest_on (c.found k) (c.fixed k) (v ∷ []))
marks_added c v ms m m' are made k = made k ∙ ap (option_or (get nat_cmp m k)) (marks_here c v ms are k)

-- one more node of the line
pub one_further : (c : Content) (ns : List Node) (i : ℕ) (v : Node) (m m' : BTreeMap ℕ Near) → i < length ns → v ≡ get_or ns i v
    → ((k : ℕ) → get nat_cmp m k ≡ nearest_on (c.found k) (c.fixed k) (take i ns))
    → ((k : ℕ) → get nat_cmp m' k ≡ option_or (get nat_cmp m k) (nearest_on (c.found k) (c.fixed k) (v ∷ [])))
    → (k : ℕ) → get nat_cmp m' k ≡ nearest_on (c.found k) (c.fixed k) (take (i + 1) ns)
one_further c ns i v m m' l is before made k =
    made k
    ∙ ap (λ o. option_or o (nearest_on (c.found k) (c.fixed k) (v ∷ []))) (before k)
    ∙ sym (ap (nearest_on (c.found k) (c.fixed k)) (take_more ns i v l ∙ ap (λ x. take i ns ++ x ∷ []) (sym is))
    ∙ longer (c.found k) (c.fixed k) (take i ns) (v ∷ []))
