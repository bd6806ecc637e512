-- What a SELECT of one column of one table, with one equation in WHERE, means.
-- It is one plain query under a schema with no view.
use Rattle.table_history.proofs.Imports.{Expr, out-Expr, Expr-F, Shown-F}
use Rattle.table_schema.proofs.Exports.{◌≡◌, ℕ, negsuc, pos, List, [], ◌∷◌, ◌++◌, true, false, map, Option, Some, None, Ok, Err, refl, sym, ap, subst, ◌∙◌, is_some, option_map, read, end, inner, Schema, Table, Term, lit, Int, table_at, table_in, bound, bounds, heading, is_column, shared, within, tests, shown, outputs, inner_join, join, joins, result, matching, body, lower, Checked, and_then, ◌>>=◌, pure, lift, last, take_slot, fresh, max_budget, keys, sorts, Name, Context, outermost, having, parts, ungrouped, assembled, named, paging, constant_or, number, conjuncts, Mismatch, NeedsView, Program, accepts_program, Level, Carried}
use Rattle.std.proofs.Common.{unwrap_or}
use Rattle.sqlite.specs.Command.TheVariants.{Select as Asking}
use Rattle.sqlite_ast.specs.declared.Binary.TheVariants.{Eq}
use Rattle.sqlite_ast.specs.declared.Core.{Core, out-Core}
use Rattle.sqlite_ast.specs.declared.Origin.TheVariants as origin
use Rattle.sqlite_ast.specs.declared.Select.{Select, out-Select}
use Rattle.sqlite_ast.specs.declared.Shown as written
use Rattle.sqlite_ast.specs.declared.Source.{Source, out-Source}
use Rattle.sqlite_draft.specs.Query.{query_of, grouping_of}
use Rattle.sqlite_draft.specs.declared.join.Step.TheVariants.{Inner}
use Rattle.sqlite_draft.specs.declared.query.Draft.{Draft}
use Rattle.sqlite_resolve.specs.Program as building
use Rattle.sqlite_resolve.specs.declared.body.Body.{Body}
use Rattle.sqlite_resolve.specs.declared.body.Joined.{Joined}
use Rattle.sqlite_schema.specs.Program.{let_in}
use Rattle.sqlite_schema.specs.declared.program.Table.{Table as Let}
use Rattle.sqlite_resolve.specs.declared.scope.Bound.{Bound}
use Rattle.sqlite_resolve.specs.declared.scope.Output.{Output}
use Rattle.sqlite_resolve.specs.declared.select.Clauses.{Clauses}
use Rattle.sqlite_resolve.specs.declared.state.State.{State}
use Rattle.table_history.proofs.QuietLemmas.{Quiet, Any, through, same_ok, choice, pure_quiet, lift_quiet, last_quiet, slot_quiet, quiet_then, column_at_quiet, integer_quiet, equation_quiet}

-- ---- as it is written

-- one table, by its name
pub record IsPlainSource (src : Source) : Type 0 where
  pub name : List ℕ
  pub origin_is : (out-Source src).origin ≡ origin.Table name
  pub inner_is : (out-Source src).is_left ≡ false
  pub unfiltered : (out-Source src).on ≡ None
  pub unshared : (out-Source src).using ≡ []

pub record IsPlainShown (sh : written.Shown) : Type 0 where
  pub e : Expr
  pub alias : Option (List ℕ)
  pub text : List ℕ
  pub one : written.out-Shown sh ≡ Shown-F.One e alias text
  pub table : Option (List ℕ)
  pub name : List ℕ
  pub column : out-Expr e ≡ Expr-F.Column table name

pub record IsPlainTest (e : Expr) : Type 0 where
  pub a : Expr
  pub b : Expr
  pub equals : out-Expr e ≡ Expr-F.Binary Eq a b
  pub table : Option (List ℕ)
  pub name : List ℕ
  pub column : out-Expr a ≡ Expr-F.Column table name
  pub text : List ℕ
  pub integer : out-Expr b ≡ Expr-F.Integer text

pub record IsPlainCore (core : Core) : Type 0 where
  pub src : Source
  pub from : (out-Core core).from ≡ src ∷ []
  pub source : IsPlainSource src
  pub sh : written.Shown
  pub shows : (out-Core core).shown ≡ sh ∷ []
  pub shown : IsPlainShown sh
  pub e : Expr
  pub filter : (out-Core core).filter ≡ Some e
  pub test : IsPlainTest e
  pub ungrouped : (out-Core core).group ≡ []
  pub unkept : (out-Core core).having ≡ None
  pub undistinct : (out-Core core).distinct ≡ false

pub record IsPlainSelect (s : Select) : Type 0 where
  pub core : IsPlainCore (out-Select s).first
  pub alone : (out-Select s).with ≡ []
  pub single : (out-Select s).others ≡ []
  pub unordered : (out-Select s).order ≡ []
  pub unlimited : (out-Select s).limit ≡ None
  pub unshifted : (out-Select s).offset ≡ None

-- ---- the tables

IsOne : List Bound → Type 0
IsOne tables = (b : Bound) × (tables ≡ b ∷ []) × (b.shared ≡ [])

bound_quiet : (schema : Schema) (src : Source) → IsPlainSource src → Quiet (λ b. b.shared ≡ []) (bound schema src)
unfolding bound
bound_quiet schema src plain = quiet_then Any (λ b. b.shared ≡ []) take_slot _ slot_quiet (λ slot _. quiet_then {A = Name × ℕ} Any (λ b. b.shared ≡ []) (lift (table_in schema slot (out-Source src).origin)) _ (lift_quiet _)
    (λ found _. pure_quiet (λ b. b.shared ≡ []) _ plain.unshared))

bounds_quiet : (schema : Schema) (src : Source) → IsPlainSource src → Quiet IsOne (bounds schema (src ∷ []))
unfolding bounds IsOne
bounds_quiet schema src plain = quiet_then (λ b. b.shared ≡ []) IsOne (bound schema src) (λ b. pure (b ∷ [])) (bound_quiet schema src plain) (λ b none. pure_quiet IsOne (b ∷ []) (b, refl, none))

-- ---- what is shown

abbrev output_of : Context → Expr → Option (List ℕ) → List ℕ → Term → Carried → Output
output_of cx e alias text t l = record { name = unwrap_or alias (heading cx e text); is_alias = is_some alias; is_column = is_column e; term = t; carried = l }

shown_quiet : (cx : Context) (tables : List Bound) (sh : written.Shown) → IsPlainShown sh → Quiet Any (shown lower cx tables [] sh)
unfolding shown
shown_quiet cx tables sh plain = rw plain.one
    (quiet_then Any Any (lower cx plain.e) (λ t. last >>= (λ l. pure (output_of cx plain.e plain.alias plain.text t l ∷ []))) (column_at_quiet 699 cx plain.e plain.table plain.name plain.column)
    (λ t _. quiet_then Any Any last (λ l. pure (output_of cx plain.e plain.alias plain.text t l ∷ [])) last_quiet (λ l _. pure_quiet Any (output_of cx plain.e plain.alias plain.text t l ∷ []) tt)))

result_quiet : (cx : Context) (level : Level) (core : Core) → IsPlainCore core → Quiet Any (result lower cx level core)
unfolding result outputs
result_quiet cx level core plain = rw plain.shows
    (quiet_then {A = List Output} Any Any (shown lower (within cx level true) level.tables [] plain.sh) pure (shown_quiet (within cx level true) level.tables plain.sh plain.shown) (λ longer _. pure_quiet Any longer tt))

-- ---- FROM and WHERE

IsInner : Joined → Type 0
IsInner j = (tree : ℕ) × (j.steps ≡ Inner tree ∷ [])

abbrev none_joined : Joined
none_joined = record { steps = []; filter = [] }

join_quiet : (cx : Context) (tables : List Bound) (b : Bound) (src : Source) → b.shared ≡ [] → IsPlainSource src → Quiet IsInner (join lower cx tables none_joined b src)
unfolding join shared inner_join tests IsInner
join_quiet cx tables b src none plain = quiet_then {A = Table} Any IsInner (lift (table_at cx.schema b.table)) _ (lift_quiet _) (λ table _.
    rw (none, plain.inner_is, plain.unfiltered) (λ s a t quiet is. pure_quiet IsInner (record { steps = Inner table.tree ∷ []; filter = [] }) (table.tree, refl) s a t quiet is))

joins_quiet : (cx : Context) (tables : List Bound) (src : Source) → IsOne tables → IsPlainSource src → Quiet IsInner (joins lower cx tables (src ∷ []))
unfolding joins IsOne
joins_quiet cx tables src (b, is, none) plain =
    rw (plain.unfiltered, plain.unshared, is) (quiet_then IsInner IsInner (join lower cx (b ∷ []) none_joined b src) pure (join_quiet cx (b ∷ []) b src none plain) (λ j inner. pure_quiet IsInner j inner))

test_quiet : (cx : Context) (done : List Term) (e : Expr) → IsPlainTest e → Quiet Any (tests lower cx done (Some e))
unfolding tests
test_quiet cx done e plain = quiet_then Any Any (lower cx e) (λ t. pure (done ++ conjuncts t))
    (equation_quiet 699 cx e plain.a plain.b plain.equals (column_at_quiet 698 cx plain.a plain.table plain.name plain.column) (integer_quiet 698 cx plain.b plain.text plain.integer))
    (λ t _. pure_quiet Any (done ++ conjuncts t) tt)

matching_quiet : (cx : Context) (level : Level) (core : Core) → IsOne level.tables → IsPlainCore core → Quiet IsInner (matching lower cx level core)
unfolding matching IsInner
matching_quiet cx level core one plain = rw (plain.from, plain.filter)
    (quiet_then IsInner IsInner (joins lower (within cx level false) level.tables (plain.src ∷ [])) _ (joins_quiet (within cx level false) level.tables plain.src one plain.source) (λ j inner.
    quiet_then {A = List Term} Any IsInner (tests lower (within cx level false) j.filter (Some plain.e)) (λ filter. pure (record j { filter = filter })) (test_quiet (within cx level false) j.filter plain.e plain.test)
    (λ filter _. pure_quiet IsInner (record j { filter = filter }) inner)))

IsInnerBody : Body → Type 0
IsInnerBody b = (tree : ℕ) × (b.steps ≡ Inner tree ∷ [])

body_quiet : (cx : Context) (core : Core) → IsPlainCore core → Quiet IsInnerBody (body lower cx core)
unfolding body IsInner IsInnerBody
body_quiet cx core plain = rw plain.from (quiet_then IsOne IsInnerBody (bounds cx.schema (plain.src ∷ [])) _ (bounds_quiet cx.schema plain.src plain.source) (λ tables one.
    quiet_then {A = List Output} Any IsInnerBody (result lower cx (record { tables = tables; shown = [] }) core) _ (result_quiet cx (record { tables = tables; shown = [] }) core plain) (λ columns _.
    quiet_then IsInner IsInnerBody (matching lower cx (record { tables = tables; shown = columns }) core)
    (λ joined. pure (record { level = record { tables = tables; shown = columns }; steps = joined.steps; filter = joined.filter }))
    (matching_quiet cx (record { tables = tables; shown = columns }) core one plain)
    (λ joined inner. pure_quiet IsInnerBody (record { level = record { tables = tables; shown = columns }; steps = joined.steps; filter = joined.filter }) inner))))

-- ---- one SELECT

-- no aggregate, and one table
record IsPlainPart (r : Clauses × State) : Type 0 where
  pub steps : r.1.steps ≡ []
  pub ungrouped : r.0.is_grouped ≡ false
  pub inner : IsInnerBody r.0.body

plain_parts : (schema : Schema) (core : Core) (r : Clauses × State) → IsPlainCore core → parts schema core [] (fresh 1 max_budget) ≡ Ok r → IsPlainPart r
unfolding parts keys sorts having tests
plain_parts schema core r plain is =
    let bare = rw (plain.ungrouped, plain.unkept) at is in
    let h = through (body lower (outermost schema) core (fresh 1 max_budget)) _ r bare in
    let q = body_quiet (outermost schema) core plain (fresh 1 max_budget) h.0.0 h.0.1 (record { steps = refl; aggregates = refl }) h.1 in
    let e = same_ok (rw q.0.aggregates at h.2) in
    record {
      steps = subst (λ (x : Clauses × State). x.1.steps ≡ []) e q.0.steps;
      ungrouped = ap (λ (x : Clauses × State). x.0.is_grouped) (sym e);
      inner = subst (λ (x : Clauses × State). IsInnerBody x.0.body) e q.1;
    }

-- a query of one table, with no group, and whole
pub record IsPlainDraft (page : Term × Term) (d : Draft) : Type 0 where
  pub tree : ℕ
  pub from : d.from ≡ inner tree end
  pub ungrouped : d.group ≡ None
  pub undistinct : d.distinct ≡ false
  pub limit : d.limit ≡ page.0
  pub offset : d.offset ≡ page.1

plain_draft : (core : Core) (page : Term × Term) (r : Clauses × State) (d : Draft) → IsPlainCore core → IsPlainPart r → assembled (out-Core core).distinct page.0 page.1 r.0 r.1 ≡ Ok d → IsPlainDraft page d
unfolding assembled ungrouped IsInnerBody
plain_draft core page r d plain part is =
    let e = same_ok (rw (part.ungrouped, part.steps, part.inner.1, plain.undistinct) at is) in
    record {
      tree = part.inner.0;
      from = ap (λ (x : Draft). x.from) (sym e);
      ungrouped = ap (λ (x : Draft). x.group) (sym e);
      undistinct = ap (λ (x : Draft). x.distinct) (sym e);
      limit = ap (λ (x : Draft). x.limit) (sym e);
      offset = ap (λ (x : Draft). x.offset) (sym e);
    }

pub plain_named : (schema : Schema) (core : Core) (page : Term × Term) (shown : building.Shown) → IsPlainCore core → named schema core [] page ≡ Ok shown → IsPlainDraft page shown.0
unfolding named
plain_named schema core page shown plain is =
    let one = through (parts schema core [] (fresh 1 max_budget)) _ shown is in
    let two = through (assembled (out-Core core).distinct page.0 page.1 one.0.0 one.0.1) _ shown one.2 in
    subst (λ (x : building.Shown). IsPlainDraft page x.0) (same_ok two.2) (plain_draft core page one.0 two.0 plain (plain_parts schema core one.0 plain one.1) two.1)

-- ---- a whole text

-- under a schema with no view no view is met, and nothing is computed first
plain_viewing : (query : Schema → Select → building.Building building.Shown) (schema : Schema) (core : Core) (page : Term × Term) (lets : List Let) (out : (building.Shown × Schema) × List Let) → schema.views ≡ [] → IsPlainCore core
    → building.viewing query schema core [] page 64 schema lets ≡ Ok out → (out.1 ≡ lets) × IsPlainDraft page out.0.0.0
unfolding building.viewing building.view building.view_text
plain_viewing query schema core page lets out none plain is = go (named schema core [] page) refl is
  where
    go : (r : Checked building.Shown) → named schema core [] page ≡ r → building.or_view query (building.viewing query schema core [] page 63) schema schema r lets ≡ Ok out → (out.1 ≡ lets) × IsPlainDraft page out.0.0.0
    go (Ok shown) known is =
        let e = same_ok is in
        (ap (λ (x : (building.Shown × Schema) × List Let). x.1) (sym e), subst (λ (x : (building.Shown × Schema) × List Let). IsPlainDraft page x.0.0.0) e (plain_named schema core page shown plain known))
    go (Err (NeedsView at)) known is = absurd (let no = rw none at is in cc)
    go (Err _) known is = absurd (let no = is in cc)

abbrev whole_page : Term × Term
whole_page = (lit (Int (negsuc 0)), number 0)

plain_query : (schema : Schema) (s : Select) (out : building.Shown × List Let) → schema.views ≡ [] → IsPlainSelect s → building.query schema s ≡ Ok out → (out.1 ≡ []) × IsPlainDraft whole_page out.0.0
unfolding building.query building.query_to building.level building.with building.whole building.alone building.single building.sources building.source paging constant_or
plain_query schema s out none plain is =
    let bare = rw (plain.alone, plain.single, plain.unordered, plain.unlimited, plain.unshifted, plain.core.from, plain.core.source.origin_is) at is in
    let one = through (building.viewing (building.query_to 15) schema (out-Select s).first [] whole_page 64 schema []) (λ r. Ok (r.0.0, r.1)) out bare in
    let e = same_ok one.2 in
    let it = plain_viewing (building.query_to 15) schema (out-Select s).first whole_page [] one.0 none plain.core one.1 in
    (ap (λ (x : building.Shown × List Let). x.1) (sym e) ∙ it.0, subst (λ (x : building.Shown × List Let). IsPlainDraft whole_page x.0.0) e it.1)

-- the query of one table, with nothing computed first
pub record IsPlainQuery (query : Program) : Type 0 where
  pub tree : ℕ
  pub lets : query.lets ≡ []
  pub from : query.body.from ≡ inner tree end
  pub ungrouped : query.body.group ≡ None
  pub undistinct : query.body.distinct ≡ false
  pub limit : query.body.limit ≡ lit (Int (negsuc 0))
  pub offset : query.body.offset ≡ lit (Int (pos 0))

plain_program : (schema : Schema) (lets : List Let) (d : Draft) (query : Program) → lets ≡ [] → IsPlainDraft whole_page d → building.program schema lets d ≡ Ok query → IsPlainQuery query
unfolding building.program
plain_program schema lets d query none plain is = choice (accepts_program schema (map let_in lets) (query_of d) []) (Ok (record { lets = lets; body = query_of d })) (Err Mismatch) (Ok query) is
    (λ h.
    let e = same_ok h in
    record {
      tree = plain.tree;
      lets = ap (λ (x : Program). x.lets) (sym e) ∙ none;
      from = ap (λ (x : Program). x.body.from) (sym e) ∙ plain.from;
      ungrouped = ap (λ (x : Program). x.body.group) (sym e) ∙ ap (option_map grouping_of) plain.ungrouped;
      undistinct = ap (λ (x : Program). x.body.distinct) (sym e) ∙ plain.undistinct;
      limit = ap (λ (x : Program). x.body.limit) (sym e) ∙ plain.limit;
      offset = ap (λ (x : Program). x.body.offset) (sym e) ∙ plain.offset;
    })
    (λ h. absurd (let no = h in cc))

same_query : {p q : Program} {ns ms : List (List ℕ)} → Asking p ns ≡ Asking q ms → p ≡ q
same_query e = cc

pub plain_read : (schema : Schema) (s : Select) (query : Program) (names : List (List ℕ)) → schema.views ≡ [] → IsPlainSelect s → read schema s ≡ Ok (Asking query names) → IsPlainQuery query
unfolding read
plain_read schema s query names none plain is =
    let one = through (building.query schema s) (λ q. and_then (building.program schema q.1 q.0.0) (λ p. Ok (Asking p q.0.1))) (Asking query names) is in
    let two = through (building.program schema one.0.1 one.0.0.0) (λ p. Ok (Asking p one.0.0.1)) (Asking query names) one.2 in
    let it = plain_query schema s one.0 none plain one.1 in
    subst IsPlainQuery (same_query (same_ok two.2)) (plain_program schema one.0.1 one.0.0.0 two.0 it.0 it.1 two.1)
