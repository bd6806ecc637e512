-- What the text that asks for the number is under any schema.
-- It is one query with no parameter, or refused.
use Rattle.table_history.proofs.Imports.{number_text, Asks}
use Rattle.table_schema.proofs.Exports.{◌≡◌, ◌≤◌, ◌+◌, ℕ, List, [], codes, length, false, if◌then◌else◌, Option, None, Ok, Err, refl, sym, ap, subst, ◌∙◌, arith, Select, compiled, first, planned, meaning, returning, command, read, small, with_command, understood, reads_listing, misses_table, if_select, listing_schema, Schema, Checked, and_then, Compiled, NoSuchTable, Returning, Program, everything}
use Rattle.sqlite.specs.Command.{Command}
use Rattle.sqlite.specs.Compile.{timed}
use Rattle.sqlite_ast.specs.declared.Select as written_select
use Rattle.sqlite_ast.specs.declared.Statement.TheVariants as written
use Rattle.sqlite_resolve.specs.Program.{query as queried, program}
use Rattle.sqlite_syntax.specs.declared.statement.Parsed.{Parsed}
use Rattle.table_history.proofs.PlainSelect.{IsPlainSelect, IsPlainQuery, plain_read}
use Rattle.table_history.proofs.QuietLemmas.{through, same_ok}

-- ---- the listing of a schema has no such table

unlisted : if_select (compiled listing_schema number_text) ≡ Err NoSuchTable
unfolding everything listing_schema
unlisted = refl

settled : (r : Checked Compiled) → (if misses_table r then if_select (compiled listing_schema number_text) else r) ≡ r
settled (Ok c) = refl
settled (Err NoSuchTable) = unlisted
settled (Err _) = refl

pub is_compiled : (schema : Schema) → understood schema number_text ≡ compiled schema number_text
unfolding understood
is_compiled schema = settled (compiled schema number_text)

pub reads_tables : (schema : Schema) (c : Compiled) → compiled schema number_text ≡ Ok c → reads_listing schema number_text ≡ false
reads_tables schema c is = ap misses_table is

-- ---- the text as it is parsed

abbrev IsQuestion : Checked Parsed → Type 0
IsQuestion (Ok p) = (s : written_select.Select) × (p.statement ≡ written.Select s) × (p.formats ≡ []) × (p.names ≡ []) × (length number_text ≤ p.tail) × IsPlainSelect s
IsQuestion (Err e) = ⊥

question : IsQuestion (first number_text)
unfolding everything
question = (
  _,
  refl,
  refl,
  refl,
  omega arith,
  record {
    core = record {
      src = _;
      from = refl;
      source = record { name = codes "meta"; origin_is = refl; inner_is = refl; unfiltered = refl; unshared = refl };
      sh = _;
      shows = refl;
      shown = record { e = _; alias = None; text = codes "schema"; one = refl; table = None; name = codes "schema"; column = refl };
      e = _;
      filter = refl;
      test = record { a = _; b = _; equals = refl; table = None; name = codes "id"; column = refl; text = codes "1"; integer = refl };
      ungrouped = refl;
      unkept = refl;
      undistinct = refl;
    };
    alone = refl;
    single = refl;
    unordered = refl;
    unlimited = refl;
    unshifted = refl;
  },
)

-- ---- what is compiled of it

-- one query, with no parameter
pub record IsQuery (schema : Schema) (c : Compiled) : Type 0 where
  pub query : Program
  pub asks : Asks schema query
  pub same : asks.found ≡ c
  pub bare : c.returning ≡ None
  pub untimed : c.formats ≡ []
  pub unnamed : c.names ≡ []
  pub whole : length number_text ≤ c.tail
  -- the text as it is written, and what is read of it
  pub select : written_select.Select
  pub plain : IsPlainSelect select
  pub read_is : read schema select ≡ Ok (Select query asks.names)

selects : (schema : Schema) (s : written_select.Select) (k : Command) → read schema s ≡ Ok k → (query : Program) × (names : List (List ℕ)) × (k ≡ Select query names)
unfolding read
selects schema s k is =
    let one = through (queried schema s) (λ q. and_then (program schema q.1 q.0.0) (λ p. Ok (Select p q.0.1))) k is in
    let two = through (program schema one.0.1 one.0.0.0) (λ p. Ok (Select p one.0.0.1)) k one.2 in
    (two.0, one.0.0.1, sym (same_ok two.2))

-- the parts of what is compiled
record Parts (schema : Schema) (c : Compiled) : Type 0 where
  pub parsed : Parsed
  pub is_first : first number_text ≡ Ok parsed
  pub plan : List (List ℕ) × (Command × Option Returning)
  pub is_planned : planned schema parsed ≡ Ok plan
  pub is : with_command parsed plan ≡ c

parts : (schema : Schema) (c : Compiled) → compiled schema number_text ≡ Ok c → Parts schema c
unfolding compiled
parts schema c is =
    let one = through (first number_text) (λ p. and_then (planned schema p) (λ plan. Ok (with_command p plan))) c is in
    let two = through (planned schema one.0) (λ plan. Ok (with_command one.0 plan)) c one.2 in
    record { parsed = one.0; is_first = one.1; plan = two.0; is_planned = two.1; is = same_ok two.2 }

-- what a question plans
record Plans (schema : Schema) (s : written_select.Select) (plan : List (List ℕ) × (Command × Option Returning)) : Type 0 where
  pub query : Program
  pub names : List (List ℕ)
  pub read_is : read schema s ≡ Ok (Select query names)
  pub is : plan ≡ ([], (Select query names, None))

means : (schema : Schema) (s : written_select.Select) (base : ℕ) (found : Command × Option Returning)
    → and_then (returning schema base (written.Select s)) (λ shown. and_then (command schema [] base (written.Select s)) (λ c. Ok (c, shown))) ≡ Ok found
    → (query : Program) × (names : List (List ℕ)) × (read schema s ≡ Ok (Select query names)) × (found ≡ (Select query names, None))
unfolding returning command
means schema s base found is =
    let k = through (read schema s) (λ c. Ok (c, None)) found is in
    let selected = selects schema s k.0 k.1 in
    (selected.0, selected.1, k.1 ∙ ap (λ c. Ok c) selected.2, sym (same_ok k.2) ∙ ap (λ c. (c, None)) selected.2)

meant : (schema : Schema) (p : Parsed) (s : written_select.Select) (base : ℕ) (found : Command × Option Returning) → p.statement ≡ written.Select s → p.formats ≡ [] → meaning schema p base ≡ Ok found
    → (query : Program) × (names : List (List ℕ)) × (read schema s ≡ Ok (Select query names)) × (found ≡ (Select query names, None))
unfolding meaning
meant schema p s base found selected untimed is = means schema s base found (rw (selected, untimed) at is)

plans : (schema : Schema) (p : Parsed) (s : written_select.Select) (plan : List (List ℕ) × (Command × Option Returning)) → p.statement ≡ written.Select s → p.formats ≡ [] → planned schema p ≡ Ok plan → Plans schema s plan
unfolding planned timed
plans schema p s plan selected untimed is =
    let formats = timed schema p.formats p.statement in
    let no_time : formats ≡ [] = ap (timed schema p.formats) selected ∙ untimed in
    let one = through (meaning schema p (small p.names + small formats)) (λ found. Ok (formats, found)) plan is in
    let m = meant schema p s (small p.names + small formats) one.0 selected untimed one.1 in
    record { query = m.0; names = m.1; read_is = m.2; is = sym (same_ok one.2) ∙ ap (λ f. (f, one.0)) no_time ∙ ap (λ x. ([], x)) m.3 }

pub always_query : (schema : Schema) (c : Compiled) → compiled schema number_text ≡ Ok c → IsQuery schema c
always_query schema c is =
    let it = parts schema c is in
    let q = subst IsQuestion it.is_first question in
    let plan = plans schema it.parsed q.0 it.plan q.1 q.2 it.is_planned in
    let known : c ≡ with_command it.parsed ([], (Select plan.query plan.names, None)) = sym it.is ∙ ap (with_command it.parsed) plan.is in
    record {
      query = plan.query;
      asks = record { found = c; is = is; names = plan.names; selects = ap (λ (x : Compiled). x.command) known };
      same = refl;
      bare = ap (λ (x : Compiled). x.returning) known;
      untimed = ap (λ (x : Compiled). x.formats) known;
      unnamed = ap (λ (x : Compiled). x.names) known ∙ q.3;
      whole = subst (λ (x : Compiled). length number_text ≤ x.tail) (sym known) q.4;
      select = q.0;
      plain = q.5;
      read_is = plan.read_is;
    }

same_query : {p q : Program} {ns ms : List (List ℕ)} → Select p ns ≡ Select q ms → p ≡ q
same_query e = cc

-- under a schema with no view it is one plain query of a table
pub asks_plain : (schema : Schema) (query : Program) → schema.views ≡ [] → Asks schema query → IsPlainQuery query
asks_plain schema query none a =
    let q = always_query schema a.found a.is in
    let same : q.query ≡ query = same_query (sym q.asks.selects ∙ ap (λ (x : Compiled). x.command) q.same ∙ a.selects) in
    subst IsPlainQuery same (plain_read schema q.select q.query q.asks.names none q.plain q.read_is)

-- it is one query
pub asks_one : (schema : Schema) (p q : Program) → Asks schema p → Asks schema q → p ≡ q
asks_one schema p q a b = same_query (sym a.selects ∙ ap (λ (x : Compiled). x.command) (same_ok (sym a.is ∙ b.is)) ∙ b.selects)
