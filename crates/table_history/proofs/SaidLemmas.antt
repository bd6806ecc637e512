-- What a database says of the number of its schema: the tables of a desk say theirs, one without
-- views says one thing, and that is what the rows of an answer say.
use Rattle.table_history.proofs.Imports.{Compare, Step, history, schema_at, IsUnder, numbered_cells, number_text, Asks, IsAnswer, IsRefused, Says, AreNumber, SaysSchema, SaysNone, ReadsSchema, IsSaid, ReadsRows}
use Rattle.table_schema.proofs.Exports.{◌≡◌, ◌<◌, inl, inr, ℕ, zero, suc, pos, drop, List, [], ◌∷◌, codes, true, None, Ok, Err, IsTrue, map, filter, refl, sym, ap, subst, ◌∙◌, true≢false, arith, negsuc, false, ◌≢◌, Some, Result, IfOk, IfErr, IsPermutation, command_of, one_permutation, Select, compiled, Answers, RefusesQuery, Database, binary, Row, value_cmp, Schema, State, IsUnchanged, Term, lit, col, op2, eval_all, Error, Int, Null, Program, everything, accepts_program, Binary, query_of, passes, number_row, finds, found, Content, META, first_schema, IsPermutation-map, IsPermutation-sym, Query, end, inner, matches_as, Output, output, StoreFault, Foreign, Memory, fault_of, memory_faults}
use Rattle.sqlite.specs.Program.{overlay}
use Rattle.sqlite_rules.proofs.ListLemmas.{any_has}
use Rattle.sqlite_sql.specs.declared.ops.CompareOp.TheVariants.{Eq}
use Rattle.table_history.specs.declared.number.SchemaRead.{SchemaRead}
use Rattle.table_history.specs.declared.number.SchemaRead.TheVariants.{Number, NoNumber}
use Rattle.table_history.proofs.StepLemmas.{AfterEach, after_any}
use Rattle.sqlite.specs.Query.{IsAnswer as IsQueryAnswer}
use Rattle.table_history.proofs.NumberText.{asks_plain, asks_one}
use Rattle.table_history.proofs.PlainSelect.{IsPlainQuery}
use Rattle.sqlite.specs.Reading.{IsReadError}
use Rattle.sqlite.specs.declared.types.Value.{Value}

-- ---- the tables of a desk

same_number : {m n : ℕ} → number_row m ∷ [] ≡ number_row n ∷ [] → m ≡ n
same_number e = cc

abbrev tests : List Term
tests = op2 (Compare Eq Binary) (col 1 0) (lit (Int (pos 1))) ∷ []

abbrev the_query : Program
the_query = record { lets = []; body = query_of META tests (col 1 2 ∷ []) [] }

-- what the text is under a schema
abbrev Compiles : Schema → Type 0
Compiles schema = command_of (compiled schema number_text) ≡ Select the_query (codes "schema" ∷ [])

abbrev Types : Schema → Type 0
Types schema = accepts_program schema [] the_query.body [] ≡ true

-- under each schema of the history it is a query, and typed
abbrev IsQuery : Schema → List Step → Type 0
IsQuery schema later = Compiles schema × Types schema

queries : AfterEach IsQuery history
unfolding everything
queries = ((refl, refl), ((refl, refl), ((refl, refl), tt)))

query_at : (k : ℕ) → 0 < k → IsQuery (schema_at k) (drop k history)
query_at zero some = absurd (omega arith)
query_at (suc k) some = after_any IsQuery first_schema (drop 1 history) k queries.0 queries.1

hit : (k next : ℕ) → passes tests [] (numbered_cells k next) ≡ true
unfolding binary value_cmp lib.Ieee.is_nan lib.Ieee.lt
hit k next = refl

same_query : {p q : Program} {ns ms : List (List ℕ)} → Select p ns ≡ Select q ms → p ≡ q
same_query e = cc

-- a database under schema n, whose one row of meta has this number
module _ (n next : ℕ) (s : State) (some : 0 < n) (under : s.now.schema ≡ schema_at n) (meta : s.now.trees META ≡ numbered_cells n next ∷ []) where
  compiles : Compiles (schema_at n)
  compiles = (query_at n some).0

  asked : (p : Program) → Asks s.now.schema p → p ≡ the_query
  asked p a = same_query (sym a.selects ∙ ap command_of (sym (subst (λ k. compiled k number_text ≡ Ok a.found) under a.is)) ∙ compiles)

  says_rows : (rows : List Row) → IsAnswer s.now rows → rows ≡ number_row n ∷ []
  says_rows rows (p, a, answer) =
      let answers = subst (λ q. Answers s.now q [] rows) (asked p a) answer in
      let permuted = found META tests (col 1 2 ∷ []) [] s.now.trees [] rows (finds META tests (col 1 2 ∷ []) [] s.now.trees [] rows answers.answer) in
      let one = subst (λ xs. IsPermutation (map (λ r. eval_all (col 1 2 ∷ []) ([] ∷ r ∷ [])) (filter (passes tests []) xs)) rows) meta permuted in
      one_permutation (number_row n) rows (rw (hit n next) at one)

  reads : (e : Error) → RefusesQuery None s.now the_query [] e → ⊥
  reads e (inl (why, refused)) = true≢false (sym (query_at n some).1 ∙ sym (ap (λ k. accepts_program k [] the_query.body []) under) ∙ refused)
  reads e (inr (inl (why, inl sums))) = sums
  reads e (inr (inl (why, inr folds))) = (any_has (λ _. ⊥) (overlay s.now.trees [] META) folds).2
  reads e (inr (inr (why, some))) = absurd (let no = some in cc)

  never_refused : IsRefused s.now → ⊥
  never_refused (inl (fault, is)) = absurd (let no = sym compiles ∙ ap command_of (subst (λ k. compiled k number_text ≡ Err fault) under is) in cc)
  never_refused (inr (p, a, e, refused)) = reads e (subst (λ q. RefusesQuery None s.now q [] e) (asked p a) refused)

  says_number : (read : SchemaRead) → Says s.now read → read ≡ Number n
  says_number (Number m) (rows, answer, said) = let same = sym said.1 ∙ says_rows rows answer in let e : m ≡ n = same_number same in ap Number e
  says_number NoNumber (inl refused) = absurd (never_refused refused)
  says_number NoNumber (inr (rows, answer, other)) = absurd (other n (some, says_rows rows answer))

pub under_says : (k : ℕ) (c : Content) (s : State) → IsUnder k c s → IsTrue s.is_open → (read : SchemaRead) → Says s.now read → read ≡ Number k
under_says k c s was live = let it = was.shown live in says_number k c.next s it.some (was.schema live) it.meta

-- ---- a database whose schema has no view

-- the plain query of a table, with what else a query has
abbrev plain_body : ℕ → Query → Query
plain_body tree q = record q { from = inner tree end; group = None; distinct = false; limit = lit (Int (negsuc 0)); offset = lit (Int (pos 0)) }

abbrev plain_of : ℕ → Query → Program
plain_of tree q = record { lets = []; body = plain_body tree q }

is_plain_of : (query : Program) (it : IsPlainQuery query) → query ≡ plain_of it.tree query.body
is_plain_of query it = λ i. record {
  lets = it.lets i;
  body = record query.body { from = it.from i; group = it.ungrouped i; distinct = it.undistinct i; limit = it.limit i; offset = it.offset i };
}

module _ (db : Database) (tree : ℕ) (q : Query) where
  -- what it shows, in the order of the table
  abbrev shown_rows : List Row
  shown_rows = map (λ (o : Output). o.1) (map (output (plain_body tree q)) (matches_as Null (overlay db.trees []) q.filter (inner tree end) ([] ∷ [])))

  in_some_order : (rows : List Row) → Answers db (plain_of tree q) [] rows → IsPermutation shown_rows rows
  in_some_order rows h =
      let a : IsQueryAnswer (plain_body tree q) (overlay db.trees []) [] rows = h.answer Null in
      let kept = a.distinct ∙ ap (map (output (plain_body tree q))) a.grouped in
      subst (IsPermutation shown_rows) (sym a.shown) (subst (λ k. IsPermutation (map (λ (o : Output). o.1) k) (map (λ (o : Output). o.1) a.ordered)) kept (IsPermutation-map (λ (o : Output). o.1) _ _ a.same))

  one_answer : (row : Row) (rows : List Row) → Answers db (plain_of tree q) [] (row ∷ []) → Answers db (plain_of tree q) [] rows → rows ≡ row ∷ []
  one_answer row rows one other =
      let all : shown_rows ≡ row ∷ [] = one_permutation row shown_rows (IsPermutation-sym _ _ (in_some_order (row ∷ []) one)) in
      one_permutation row rows (subst (λ xs. IsPermutation xs rows) all (in_some_order rows other))

  not_both : (rows : List Row) (e : Error) → Answers db (plain_of tree q) [] rows → RefusesQuery None db (plain_of tree q) [] e → ⊥
  not_both rows e one (inl (why, refused)) = true≢false (sym one.typed ∙ refused)
  not_both rows e one (inr (inl (why, inl sums))) = sums
  not_both rows e one (inr (inl (why, inr folds))) = (any_has (λ _. ⊥) (overlay db.trees [] tree) folds).2
  not_both rows e one (inr (inr (why, some))) = absurd (let no = some in cc)

module _ (db : Database) (none : db.schema.views ≡ []) where
  same_answer : (row : Row) (rows : List Row) → IsAnswer db (row ∷ []) → IsAnswer db rows → rows ≡ row ∷ []
  same_answer row rows (p, a, one) (r, b, other) =
      let it = asks_plain db.schema p none a in
      let is = is_plain_of p it in
      one_answer db it.tree p.body row rows (subst (λ x. Answers db x [] (row ∷ [])) is one) (subst (λ x. Answers db x [] rows) (asks_one db.schema r p b a ∙ is) other)

  unrefused : (rows : List Row) → IsAnswer db rows → IsRefused db → ⊥
  unrefused rows (p, a, one) (inl (fault, is)) = absurd (let no = sym a.is ∙ is in cc)
  unrefused rows (p, a, one) (inr (r, b, e, refused)) =
      let it = asks_plain db.schema p none a in
      let is = is_plain_of p it in
      not_both db it.tree p.body rows e (subst (λ x. Answers db x [] rows) is one) (subst (λ x. RefusesQuery None db x [] e) (asks_one db.schema r p b a ∙ is) refused)

  numbered : (n : ℕ) (rows : List Row) → SaysSchema db n → IsAnswer db rows → AreNumber n rows
  numbered n rows (found, answer, said) other = (said.0, same_answer (number_row n) rows (subst (IsAnswer db) said.1 answer) other)

  never_none : (n : ℕ) → SaysSchema db n → SaysNone db → ⊥
  never_none n says (inl refused) = unrefused says.0 says.1 refused
  never_none n says (inr (rows, answer, other)) = other n (numbered n rows says answer)

  one_number : (n m : ℕ) → SaysSchema db n → SaysSchema db m → n ≡ m
  one_number n m one (rows, answer, said) = let same = sym (numbered n rows one answer).1 ∙ said.1 in cc

  pub says_one : (a b : SchemaRead) → Says db a → Says db b → b ≡ a
  says_one (Number n) (Number m) one two = ap Number (one_number m n two one)
  says_one (Number n) NoNumber one two = absurd (never_none n one two)
  says_one NoNumber (Number m) one two = absurd (never_none m two one)
  says_one NoNumber NoNumber one two = refl

-- ---- an error of a cell

-- one that is told as no foreign fault is want of memory
pub read_fault : (at : ℕ) (v : Value) (e : Error) → IsReadError at v e → fault_of e ≢ Foreign → fault_of e ≡ Memory
read_fault at v e (inl is) other = absurd (other (ap fault_of is))
read_fault at v e (inr (inl is)) other = absurd (other (ap fault_of is))
read_fault at v e (inr (inr (inl is))) other = absurd (other (ap fault_of is))
read_fault at v e (inr (inr (inr (inl is)))) other = absurd (other (ap fault_of is))
read_fault at v e (inr (inr (inr (inr is)))) other = ap fault_of is

-- ---- the rows of an answer

says : (db : Database) (rows : List Row) (read : SchemaRead) → IsAnswer db rows → IsSaid rows read → Says db read
says db rows (Number n) answer said = (rows, answer, said)
says db rows NoNumber answer said = inr (rows, answer, said)

module _ {A : Type 0} (items : A → List Row) (old new : State) where
  -- the tables of a desk say the number of their schema
  under : (k : ℕ) (c : Content) (r : Result SchemaRead StoreFault) → IsUnder k c old → IfOk r (λ read. IsUnchanged old new × Says old.now read) → IfOk r (λ read. read ≡ Number k)
  under k c (Ok read) is h = under_says k c old is h.0.0.was_open read h.1
  under k c (Err e) is h = tt

  -- nothing else is said
  only : (r : Result SchemaRead StoreFault) → old.now.schema.views ≡ [] → IfOk r (λ read. IsUnchanged old new × Says old.now read) → IfOk r (λ read. (other : SchemaRead) → Says old.now other → other ≡ read)
  only (Ok read) none h = λ other said. says_one old.now none read other h.1 said
  only (Err e) none h = tt

  abbrev Said : Result SchemaRead StoreFault → Type 0
  Said r = IfOk r (λ read. IsUnchanged old new × Says old.now read)

  pub no_rows : ReadsRows items old new (Ok None) → ReadsSchema old new (Ok NoNumber)
  no_rows one = record {
    survives = one.survives;
    keeps = one.keeps;
    ok = λ clean limit. let h = one.none clean limit refl in (h.0, inl h.1);
    sure = tt;
    cause = λ clean. tt;
    only = λ clean limit none. let h = one.none clean limit refl in only (Ok NoNumber) none (h.0, inl h.1);
    under = λ k c clean is. let h = one.none clean is.unlimited refl in under k c (Ok NoNumber) is (h.0, inl h.1);
  }

  pub stopped : (fault : StoreFault) → ReadsRows items old new (Err fault) → ReadsSchema old new (Err fault)
  stopped fault one = record { survives = one.survives; keeps = one.keeps; ok = λ clean limit. tt; sure = one.sure; cause = one.cause; only = λ clean limit none. tt; under = λ k c clean is. tt }

  pub from_rows : (rows : A) (r : Result SchemaRead StoreFault) → ReadsRows items old new (Ok (Some rows)) → IfOk r (IsSaid (items rows)) → IfErr r (λ fault. fault ≡ Memory) → ReadsSchema old new r
  from_rows rows r one said memory = record {
    survives = one.survives;
    keeps = one.keeps;
    ok = λ clean limit. both r said (one.some clean rows refl);
    sure = known r memory;
    cause = λ clean. memory_faults old new r memory;
    only = λ clean limit none. only r none (both r said (one.some clean rows refl));
    under = λ k c clean is. under k c r is (both r said (one.some clean rows refl));
  }
    where
      both : (r : Result SchemaRead StoreFault) → IfOk r (IsSaid (items rows)) → IsUnchanged old new × IsAnswer old.now (items rows) → Said r
      both (Ok read) said h = (h.0, says old.now (items rows) read h.1 said)
      both (Err e) said h = tt

      known : (r : Result SchemaRead StoreFault) → IfErr r (λ fault. fault ≡ Memory) → IfErr r (λ fault. fault ≢ Foreign)
      known (Ok read) h = tt
      known (Err fault) h = λ foreign. absurd (let no = sym h ∙ foreign in cc)
