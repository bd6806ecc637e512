-- What is shown of trees that hold a desk.
use Rattle.table_opening.proofs.Imports.{AreUnder, IsDesk, HasContent, HasContentUnder, HoldsContent, AreTablesOf, AreTablesUnder, HoldTables}
use Rattle.table_schema.proofs.Exports.{◌≡◌, ℕ, List, [], ◌∷◌, inl, inr, ne_eqb, arith, sym, ap, subst, ◌∙◌, cases_eq, Database, IsDatabase, Row, State, Opens, IsLive, with_tree, Content, META, desk_schema, meta_cells, next_in, content_of, AreShown, seen}
use mathlib.Core.Path.{fun_ext}
use Rattle.sqlite_catalog.proofs.ReadLemmas.{lists_once}
use Rattle.sqlite_catalog.specs.Listing.{Lists}
use Rattle.sqlite_trees.specs.Objects.{catalog_tree}
use Rattle.sqlite_trees.specs.Tree.{Trees}
use Rattle.table_history.specs.History.{schema_at}
use Rattle.table_history.specs.declared.history.TheConstants.{NEWEST}

-- what was committed of a desk are its tables
pub committed_tables : (s : State) (c : Content) → IsDesk s × (seen s ≡ c) → AreTablesOf c s.committed.trees
committed_tables s c shown =
    let same : s.now.trees ≡ s.committed.trees = ap (λ (d : Database). d.trees) shown.0.settled in
    record {
      sound = subst (λ (t : Trees). IsDatabase (record { schema = desk_schema; trees = t })) same
          (subst (λ k. IsDatabase (record { schema = k; trees = s.now.trees })) shown.0.schema shown.0.sound);
      shown = subst AreShown same shown.0.shown;
      content = sym (ap content_of same) ∙ shown.1;
    }

-- a database that lists schema k has it
pub shows_tables : (s : State) (trees : Trees) (k : ℕ) (c : Content) → Opens s → IsLive s → s.committed.trees ≡ trees → AreTablesUnder k c trees → HasContentUnder k c s
shows_tables s trees k c opens live is tables clean o =
    let now : s.now.trees ≡ trees = ap (λ (d : Database). d.trees) opens.clean ∙ is in
    let sound = (live opens.is_open).0 in
    let listed : Lists (s.now.trees catalog_tree) (schema_at k) = subst (λ (t : Trees). Lists (t catalog_tree) (schema_at k)) (sym now) tables.sound.lists in
    record {
      settled = opens.clean;
      schema = lists_once (s.now.trees catalog_tree) s.now.schema (schema_at k) sound.lists listed;
      sound = sound;
      shown = subst (AreUnder k c) (sym now) tables.shown;
    }

pub holds_tables : (s : State) (trees : Trees) (c : Content) → Opens s → IsLive s → s.committed.trees ≡ trees → HoldTables c trees → HoldsContent c s
holds_tables s trees c opens live is (k, tables) = (k, shows_tables s trees k c opens live is tables)

-- ---- the newest schema

restored : (db : Trees) (meta : List Row) → db META ≡ meta → with_tree db META meta ≡ db
restored db meta is = fun_ext (λ t. elim (cases_eq t META) [ inl e ↦ rw e (sym is) | inr other ↦ rw (ne_eqb t META other) ])

-- tables under the newest schema are a desk's, and those of a desk are under it
pub of_newest : (c : Content) (db : Trees) → AreTablesUnder NEWEST c db → AreTablesOf c db
of_newest c db tables =
    let same = restored db (meta_cells c.next ∷ []) tables.shown.meta in
    record { sound = tables.sound; shown = subst AreShown same tables.shown.shown; content = sym (ap content_of same) ∙ tables.shown.says }

under_newest : (c : Content) (db : Trees) → AreShown db → content_of db ≡ c → AreUnder NEWEST c db
under_newest c db shown says =
    let meta = shown.meta in
    let next : meta.0 ≡ c.next = sym (ap next_in meta.1) ∙ ap (λ (k : Content). k.next) says in
    let row : db META ≡ meta_cells c.next ∷ [] = meta.1 ∙ ap (λ n. meta_cells n ∷ []) next in
    let same = restored db (meta_cells c.next ∷ []) row in
    record { some = omega arith; known = omega arith; meta = row; shown = subst AreShown (sym same) shown; says = ap content_of same ∙ says }

pub are_newest : (c : Content) (db : Trees) → AreTablesOf c db → AreTablesUnder NEWEST c db
are_newest c db tables = record { sound = tables.sound; shown = under_newest c db tables.shown tables.content }

pub newest_held : (c : Content) (db : Trees) → AreTablesOf c db → HoldTables c db
newest_held c db tables = (NEWEST, are_newest c db tables)

-- a desk under the newest schema is a desk
pub newest_shows : (c : Content) (s : State) → HasContentUnder NEWEST c s → HasContent c s
newest_shows c s shows clean o =
    let it = shows clean o in
    let tables = of_newest c s.now.trees (record { sound = subst (λ k. IsDatabase (record { schema = k; trees = s.now.trees })) it.schema it.sound; shown = it.shown }) in
    (record { settled = it.settled; schema = it.schema; sound = it.sound; shown = tables.shown }, tables.content)

pub shows_newest : (c : Content) (s : State) → HasContent c s → HasContentUnder NEWEST c s
shows_newest c s shows clean o =
    let it = shows clean o in
    record { settled = it.0.settled; schema = it.0.schema; sound = it.0.sound; shown = under_newest c s.now.trees it.0.shown it.1 }
