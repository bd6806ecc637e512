-- Rows are read back from their cells.
use Rattle.table_schema.proofs.Imports.{◌≡◌, ℕ, pos, List, Bool, true, false, unwrap_or, Option, Some, None, refl, ap, ◌∙◌, or_null, Int, Text, Node, MarkKind, Found, Fixed, severity_in, flag, flag_in, kind_number, kind_in, outcome_kind, outcome_number, outcome_field, outcome_node, outcome_in, maybe_number, maybe_text, SetRow, set_cells, set_in, MarkRow, mark_cells, mark_in, NodeRow, node_cells, node_in, node_between, NearestRow, nearest_cells, nearest_in, OutcomeRow, outcome_cells, outcome_row_in, IsOutcomeRow}
use Rattle.version_marks.specs.declared.near.Near.{Near}
use Rattle.bug_record.specs.Severities.{rank}
use Rattle.bug_record.specs.declared.outcome.Outcome.TheVariants.{Stopped}
use Rattle.bug_record.specs.declared.severity.Severity.{Severity}
use Rattle.bug_record.specs.declared.severity.Severity.TheVariants.{Critical}
use Rattle.table_encodings.proofs.OutcomeLemmas.{outcome_back}

severity_back : (s : Severity) → severity_in (rank s) ≡ Some s
severity_back Critical = refl
severity_back _ = refl

flag_back : (b : Bool) → flag_in (flag b) ≡ Some b
flag_back true = refl
flag_back false = refl

text_back : (t : Option (List ℕ)) → maybe_text (or_null Text t) ≡ t
text_back None = refl
text_back (Some t) = refl

number_back : (n : Option ℕ) → maybe_number (or_null (λ k. Int (pos k)) n) ≡ n
number_back None = refl
number_back (Some n) = refl

pub kind_back : (kind : MarkKind) → kind_in (kind_number kind) ≡ Some kind
kind_back Found = refl
kind_back Fixed = refl

pub parent_back : (p : Option Node) → node_between (maybe_text (or_null (λ (q : Node). Text q.source) p)) (maybe_text (or_null (λ (q : Node). Text q.version) p)) ≡ p
parent_back None = refl
parent_back (Some p) = refl

pub set_back : (x : SetRow) → set_in (set_cells x) ≡ x
set_back x = λ i. record x {
  severity = unwrap_or (severity_back x.severity i) Critical;
  closed = unwrap_or (flag_back x.closed i) false;
  forwarded = text_back x.forwarded i;
  owner = text_back x.owner i;
  archived = unwrap_or (flag_back x.archived i) false;
}

pub mark_back : (x : MarkRow) → mark_in (mark_cells x) ≡ x
mark_back x = ap (λ o. let y : MarkRow = record x { kind = unwrap_or o Found } in y) (kind_back x.kind)

pub nearest_back : (x : NearestRow) → nearest_in (nearest_cells x) ≡ x
nearest_back x = ap (λ o. let near : Near = record { mark = x.near.mark; kind = unwrap_or o Found } in let y : NearestRow = record x { near = near } in y) (kind_back x.near.kind)

pub node_back : (x : NodeRow) → node_in (node_cells x) ≡ x
node_back x = ap (λ p. let y : NodeRow = record x { parent = p } in y) (parent_back x.parent)

pub outcome_row_back : (x : OutcomeRow) → IsOutcomeRow x → outcome_row_in (outcome_cells x) ≡ x
outcome_row_back x good = λ i. record { id = x.id; message_id = x.message_id; place = x.place; outcome = same i }
  where
    same : (outcome_row_in (outcome_cells x)).outcome ≡ x.outcome
    same =
        (λ i. unwrap_or (outcome_in (outcome_kind x.outcome) (number_back (outcome_number x.outcome) i) (number_back (outcome_field x.outcome) i) (parent_back (outcome_node x.outcome) i)) Stopped)
        ∙ ap (λ o. unwrap_or o Stopped) (outcome_back x.outcome)
        ∙ good.is_bare
