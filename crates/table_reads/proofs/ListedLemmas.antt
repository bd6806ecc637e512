-- The rows of all sets of a package that are found at a node, in a content that a desk keeps.
use Rattle.std.proofs.Common.{◌≡◌, ◌⊎◌, inl, inr, ◌<◌, ◌^◌, ◌+◌, ℕ, Bool, true, false, not, ◌||◌, ◌&&◌, ◌==◌, List, [], ◌∷◌, ◌++◌, length, drop, get_or, Option, Some, None, if◌then◌else◌, sym, refl, ap, subst, ◌∙◌}
use Rattle.std.specs.Prelude.{filter, flat_map, is_some, option_map}
use Rattle.std.specs.BTreeMap.{BTreeMap, get}
use Rattle.std.specs.List.{AllByRecursion}
use Rattle.std.specs.List.Sorted.{IsStrictlySortedBy}
use Rattle.std.specs.Map.{keys_of, values_of}
use Rattle.std.specs.Option.{option_or, option_and_then, option_map_or}
use Rattle.std.specs.Ordering.{nat_cmp}
use Rattle.std.specs.Str.{bytes_eq}
use Rattle.std.proofs.lemmas.Bool.{false≢true, true≢false, eqb-true, eq-eqb}
use Rattle.std.proofs.lemmas.Cmp.{nat_cmp_total}
use Rattle.std.proofs.lemmas.List.Elements.{recursion_from_All}
use Rattle.std.proofs.lemmas.Map.Views.{All-found}
use Rattle.std.proofs.lemmas.Option.{none-some, same_Some}
use Rattle.version_nodes.specs.Nodes.{Node}
use Rattle.version_nodes.specs.Statuses.{status_on}
use Rattle.version_nodes.specs.Trees.{line}
use Rattle.bug_record.specs.Asked.{numbers_where}
use Rattle.bug_record.specs.Heads.{is_found}
use Rattle.bug_record.specs.Images.{numbers_of, bug_of, member_at}
use Rattle.bug_record.specs.PackageSets.{has_name}
use Rattle.bug_record.specs.Sets.{has, Each, IsAscending}
use Rattle.base_sequences.proofs.SetLemmas.{has-append}
use Rattle.bug_record.specs.Severities.{all_severities}
use Rattle.bug_record.specs.declared.bug.Bug.{Bug}
use Rattle.bug_record.specs.declared.bug.Member.{Member}
use Rattle.bug_record.specs.declared.bug.Shared.{Shared}
use Rattle.bug_record.specs.declared.bug.SetImage.{SetImage}
use Rattle.bug_record.specs.Rows.{row_of, rows_of, with_row}
use Rattle.bug_record.specs.declared.row.ListRow.{ListRow}
use Rattle.store_keys.specs.Listing.{is_listed_on, is_row_of}
use Rattle.store_keys.proofs.ImageLemmas.{has-member_some, member-has}
use Rattle.store_keys.proofs.KeyLemmas.{found-image, shown, shown-some}
use Rattle.store_keys.proofs.ListLemmas.{rows-listed}
use Rattle.table_content.specs.Content.{Content}
use Rattle.table_content.specs.Kept.{IsKeptContent}
use Rattle.table_content.specs.KindsAtNodes.{set_passes, bug_passes}
use Rattle.table_content.specs.View.{image, desk_in, shared_of}
use Rattle.table_content.specs.declared.edit.SetFields.{SetFields}
use Rattle.table_content.proofs.QuestionLemmas.{asked}
use Rattle.table_sets.specs.Affecting.{AreKeysAffecting}
use Rattle.table_sets.specs.Listed.{is_of, row_fields, keys_in, IsListedSet, AreKeysFor}
use Rattle.table_sets.specs.declared.listed.ListedSet.{ListedSet}
use Rattle.store_contract.specs.Store.{AreListed}
use Rattle.table_reads.proofs.KeyLemmas.{image_is, set_small}
use Rattle.table_reads.proofs.LoopLemmas.{here}
use Rattle.table_reads.proofs.RowSteps.{or_or, none_or, rows_of_members}
use Rattle.table_reads.specs.Found.{is_shown_at, is_found_in}
use Rattle.table_reads.specs.Keys.{AreKeysToList}
use Rattle.table_reads.specs.Rows.{row_at, row_in, row_for, row_among}
use Rattle.table_sets.specs.declared.listed.RowFields.{RowFields}
use Rattle.table_reads.proofs.FoundLemmas.{found_right}
use Rattle.table_reads.proofs.MapLemmas.{ascending, has_number}

-- ---- plain values

or_none : {A : Type 0} (o : Option A) → option_or None o ≡ o
or_none None = refl
or_none (Some a) = refl

or_same : {A : Type 0} (o : Option A) → option_or o o ≡ o
or_same None = refl
or_same (Some a) = refl

-- one test within another
tests : {A : Type 0} (of kept affects found : Bool) (o : Option A)
    → (if (of && kept) || affects then (if kept && found then o else None) else None) ≡ (if (of || affects) && kept && found then o else None)
tests true true affects found o = refl
tests true false true found o = refl
tests true false false found o = refl
tests false kept true found o = refl
tests false kept false found o = refl

-- ---- the rows of one set

row_of_image : (c : Content) (k : ℕ) (v : Node) (n : ℕ) (i : SetImage) (o : Option ListRow) → image c k ≡ Some i
    → option_or (row_in c k v n) o ≡ (if is_shown_at c k v i.shared then option_or (row_at i n) o else o)
row_of_image c k v n i o is =
    ap (λ (s : Option SetImage). option_or (option_and_then (λ j. if is_shown_at c k v j.shared then row_at j n else None) s) o) is
    ∙ elim (is_shown_at c k v i.shared) as (λ b. option_or (if b then row_at i n else None) o ≡ (if b then option_or (row_at i n) o else o)) [ true ↦ refl | false ↦ refl ]

row_of_none : (c : Content) (k : ℕ) (v : Node) (n : ℕ) (o : Option ListRow) → image c k ≡ None → option_or (row_in c k v n) o ≡ o
row_of_none c k v n o none = ap (λ (s : Option SetImage). option_or (option_and_then (λ j. if is_shown_at c k v j.shared then row_at j n else None) s) o) none

module _ (c : Content) (k : ℕ) (v : Node) (n : ℕ) (o : Option ListRow) (kept : IsKeptContent c) where
  abbrev image_of : SetFields → SetImage
  image_of g = record { shared = shared_of c k g; members = c.members k }

  abbrev said_of : SetFields → RowFields
  said_of g = record { severity = g.severity; closed = g.closed }

  abbrev put_among : RowFields → Option ListRow
  put_among f = if is_found_in c k v f.closed then option_or (row_among f (c.members k) n) o else o

  ascending_bugs : (i : SetImage) → image c k ≡ Some i → IsAscending (numbers_of i.members)
  ascending_bugs i e =
      let x = shown-some c.key (image c) kept.keyed k k i e (kept.keyed.own k i e) in
      kept.sound.ascending k (bug_of i x.0) x.1

  -- a set that is not archived gives the rows of its bugs where they are found
  pub row_listed : (f : RowFields) → option_and_then row_fields (c.fields k) ≡ Some f → option_or (row_in c k v n) o ≡ put_among f
  row_listed f is = cases (c.fields k) refl is
    where
      within : (g : SetFields) → c.fields k ≡ Some g → (b : Bool) → g.archived ≡ b
          → (if b then None else Some (said_of g)) ≡ Some f → option_or (row_in c k v n) o ≡ put_among f
      within g e true a h = absurd (none-some f h)
      within g e false a h =
          row_of_image c k v n (image_of g) o (image_is c k g e)
          ∙ ap (λ b. if not b && is_found_in c k v g.closed then option_or (row_at (image_of g) n) o else o) a
          ∙ ap (λ (r : Option ListRow). if is_found_in c k v g.closed then option_or r o else o) (sym (rows_of_members (image_of g) n (ascending_bugs (image_of g) (image_is c k g e))))
          ∙ ap put_among (same_Some _ _ h)

      cases : (s : Option SetFields) → c.fields k ≡ s → option_and_then row_fields s ≡ Some f → option_or (row_in c k v n) o ≡ put_among f
      cases None e h = absurd (none-some f h)
      cases (Some g) e h = within g e g.archived refl h

  -- one that is archived, or is not there, gives none
  pub row_unlisted : option_and_then row_fields (c.fields k) ≡ None → option_or (row_in c k v n) o ≡ o
  row_unlisted is = cases (c.fields k) refl is
    where
      within : (g : SetFields) → c.fields k ≡ Some g → (b : Bool) → g.archived ≡ b
          → (if b then None else Some (said_of g)) ≡ None → option_or (row_in c k v n) o ≡ o
      within g e true a h =
          row_of_image c k v n (image_of g) o (image_is c k g e)
          ∙ ap (λ b. if not b && is_found_in c k v g.closed then option_or (row_at (image_of g) n) o else o) a
      within g e false a h = absurd (none-some _ (sym h))

      cases : (s : Option SetFields) → c.fields k ≡ s → option_and_then row_fields s ≡ None → option_or (row_in c k v n) o ≡ o
      cases None e h = row_of_none c k v n o (ap (option_map image_of) e)
      cases (Some g) e h = within g e g.archived refl h

-- the rows of one more set, and those of the sets that are left
pub set_came : (c : Content) (v : Node) (keys : List ℕ) (at k other n : ℕ) (old new to : Option ListRow) → at < length keys → k ≡ get_or keys at other
    → new ≡ option_or (row_in c k v n) old → option_or (row_for c v (drop at keys) n) old ≡ to → option_or (row_for c v (drop (at + 1) keys) n) new ≡ to
set_came c v keys at k other n old new to low is came before =
    ap (option_or (row_for c v (drop (at + 1) keys) n)) came
    ∙ sym (or_or (row_for c v (drop (at + 1) keys) n) (row_in c k v n) old)
    ∙ sym (ap (λ (ks : List ℕ). option_or (row_for c v ks n) old) (here keys at k other low is))
    ∙ before

pub listed_came : (c : Content) (v : Node) (ss : List ListedSet) (at n : ℕ) (s other : ListedSet) (old new to : Option ListRow) → at < length ss → s ≡ get_or ss at other
    → new ≡ option_or (row_in c s.key v n) old → option_or (row_for c v (keys_in (drop at ss)) n) old ≡ to → option_or (row_for c v (keys_in (drop (at + 1) ss)) n) new ≡ to
listed_came c v ss at n s other old new to low is came before =
    ap (option_or (row_for c v (keys_in (drop (at + 1) ss)) n)) came
    ∙ sym (or_or (row_for c v (keys_in (drop (at + 1) ss)) n) (row_in c s.key v n) old)
    ∙ sym (ap (λ (xs : List ListedSet). option_or (row_for c v (keys_in xs) n) old) (here ss at s other low is))
    ∙ before

-- the rows of some sets, and then of others
pub row_for_both : (c : Content) (v : Node) (n : ℕ) (keys more : List ℕ) → row_for c v (keys ++ more) n ≡ option_or (row_for c v more n) (row_for c v keys n)
row_for_both c v n [] more = sym (none_or (row_for c v more n))
row_for_both c v n (k ∷ keys) more =
    ap (λ o. option_or o (row_in c k v n)) (row_for_both c v n keys more) ∙ or_or (row_for c v more n) (row_for c v keys n) (row_in c k v n)

-- ---- the rows of a package

itself : (k : ℕ) → (k == k) ≡ true
itself k = eq-eqb k k refl

either : (a b : Bool) → b ≡ true → (a || b) ≡ true
either true b h = refl
either false b h = h

-- what holds of each that is there
each_of : (P : ℕ → Type 0) (ks : List ℕ) → ((k : ℕ) → has ks k ≡ true → P k) → Each P ks
each_of P [] all = tt
each_of P (k ∷ ks) all = (all k (ap (λ t. t || has ks k) (itself k)), each_of P ks (λ j h. all j (either (k == j) (has ks j) h)))

-- the keys of both questions
pub keys_both : (p : List ℕ) (c : Content) (keys more all : List ℕ) → AreKeysFor p c keys → AreKeysAffecting p c more → all ≡ keys ++ more → AreKeysToList p c all
keys_both p c keys more all a b is = λ k. ap (λ ks. has ks k) is ∙ has-append keys more k ∙ (λ i. a k i || b k i)

module _ (c : Content) (kept : IsKeptContent c) where
  -- the key of a set of which a list asks is a u32
  pub listed_small : (s : ListedSet) → IsListedSet c s → s.key < 2 ^ 32
  listed_small s is = cases (c.fields s.key) refl is
    where
      cases : (o : Option SetFields) → c.fields s.key ≡ o → option_and_then row_fields o ≡ Some s.fields → s.key < 2 ^ 32
      cases None e h = absurd (none-some s.fields h)
      cases (Some f) e h = set_small c kept s.key (record { shared = shared_of c s.key f; members = c.members s.key }) (image_is c s.key f e)

  -- and so is that of one that affects the package
  affecting_small : (p : List ℕ) (k : ℕ) → has_name (c.affects k) p ≡ true → k < 2 ^ 32
  affecting_small p k h = cases (c.fields k) refl
    where
      cases : (o : Option SetFields) → c.fields k ≡ o → k < 2 ^ 32
      cases None e = absurd (false≢true (sym (ap (λ (names : List (List ℕ)). has_name names p) (kept.no_affects k e)) ∙ h))
      cases (Some f) e = set_small c kept k (record { shared = shared_of c k f; members = c.members k }) (image_is c k f e)

  pub keys_small : (p keys : List ℕ) → AreKeysAffecting p c keys → Each (λ k. k < 2 ^ 32) keys
  keys_small p keys are = each_of (λ k. k < 2 ^ 32) keys (λ k h. affecting_small p k (sym (are k) ∙ h))

module _ (c : Content) (kept : IsKeptContent c) (p : List ℕ) (v : Node) where
  abbrev test : Shared → Bool
  test = is_listed_on (line c.nodes v) p

  abbrev set_of : ℕ → SetFields → SetImage
  set_of k f = record { shared = shared_of c k f; members = c.members k }

  -- a set that has not the bug says nothing of it
  no_row : (k n : ℕ) → (c.key n ≡ Some k → ⊥) → row_in c k v n ≡ None
  no_row k n other = cases (image c k) refl
    where
      within : (i : SetImage) → image c k ≡ Some i → (o : Option Member) → member_at i.members n ≡ o → (b : Bool)
          → (if b then option_map (row_of n) (option_map (bug_of i) o) else None) ≡ None
      within i e None m true = refl
      within i e None m false = refl
      within i e (Some x) m b = absurd (other (kept.keyed.known n k i e (has-member_some i.members n x m)))

      cases : (o : Option SetImage) → image c k ≡ o → option_and_then (λ i. if is_shown_at c k v i.shared then row_at i n else None) o ≡ None
      cases None e = refl
      cases (Some i) e = within i e (member_at i.members n) refl (is_shown_at c k v i.shared)

  no_rows : (ks : List ℕ) (n : ℕ) → c.key n ≡ None → row_for c v ks n ≡ None
  no_rows [] n none = refl
  no_rows (k ∷ ks) n none = (λ i. option_or (no_rows ks n none i) (no_row k n (λ e. none-some k (sym none ∙ e)) i))

  -- what is said of a bug is what its own set says
  one_row : (ks : List ℕ) (n k : ℕ) → c.key n ≡ Some k → row_for c v ks n ≡ (if has ks k then row_in c k v n else None)
  one_row [] n k e = refl
  one_row (j ∷ ks) n k e = go (j == k) refl (one_row ks n k e)
    where
      same : (b : Bool) → option_or (if b then row_in c k v n else None) (row_in c k v n) ≡ row_in c k v n
      same true = or_same (row_in c k v n)
      same false = or_none (row_in c k v n)

      go : (b : Bool) → (j == k) ≡ b → row_for c v ks n ≡ (if has ks k then row_in c k v n else None)
          → option_or (row_for c v ks n) (row_in c j v n) ≡ (if b || has ks k then row_in c k v n else None)
      go true is h = (λ i. option_or (h i) (row_in c (eqb-true j k is i) v n)) ∙ same (has ks k)
      go false is h =
          (λ i. option_or (h i) (no_row j n (λ o. true≢false (sym (eq-eqb j k (same_Some _ _ (sym o ∙ e))) ∙ is)) i))
          ∙ none_or (if has ks k then row_in c k v n else None)

  module _ (keys : List ℕ) (are : AreKeysToList p c keys) where
    -- a bug is not listed and has no row, or is listed and has its row
    abbrev IsSaid : ℕ → Type 0
    IsSaid n =
        ((bug_passes test c n ≡ false) × (row_for c v keys n ≡ None))
        ⊎ ((b : Bug) × ((desk_in c).bug n ≡ Some b) × (bug_passes test c n ≡ true) × (row_for c v keys n ≡ Some (row_of n b)))

    -- of a bug in a set
    in_set : (n k : ℕ) (f : SetFields) (x : Member) → c.key n ≡ Some k → c.fields k ≡ Some f → member_at (c.members k) n ≡ Some x
        → (desk_in c).bug n ≡ Some (bug_of (set_of k f) x) → IsSaid n
    in_set n k f x e is m shows = cases (test (shared_of c k f)) refl
      where
        passing : bug_passes test c n ≡ test (shared_of c k f)
        passing =
            ap (λ (o : Option ℕ). option_map_or (set_passes test c) o false) e
            ∙ ap (λ (o : Option SetFields). option_map_or (λ g. test (shared_of c k g)) o false) is

        here : row_in c k v n ≡ (if is_shown_at c k v (shared_of c k f) then Some (row_of n (bug_of (set_of k f) x)) else None)
        here =
            ap (λ (o : Option SetImage). option_and_then (λ i. if is_shown_at c k v i.shared then row_at i n else None) o) (image_is c k f is)
            ∙ ap (λ (o : Option Member). if is_shown_at c k v (shared_of c k f) then option_map (row_of n) (option_map (bug_of (set_of k f)) o) else None) m

        said : row_for c v keys n ≡ (if test (shared_of c k f) then Some (row_of n (bug_of (set_of k f) x)) else None)
        said =
            one_row keys n k e
            ∙ (λ i. if (are k ∙ ap (λ (o : Option SetFields). is_of p o || has_name (c.affects k) p) is) i then here i else None)
            ∙ ap (λ t. if (bytes_eq f.«package» p && not f.archived) || has_name (c.affects k) p then (if not f.archived && t then Some (row_of n (bug_of (set_of k f) x)) else None) else None)
            (found_right c k v (shared_of c k f) kept refl refl)
            ∙ tests (bytes_eq f.«package» p) (not f.archived) (has_name (c.affects k) p) (is_found (status_on (line c.nodes v) (c.found k) (c.fixed k) f.closed)) (Some (row_of n (bug_of (set_of k f) x)))

        cases : (b : Bool) → test (shared_of c k f) ≡ b → IsSaid n
        cases true t = inr (bug_of (set_of k f) x, shows, passing ∙ t, said ∙ ap (λ b. if b then Some (row_of n (bug_of (set_of k f) x)) else None) t)
        cases false t = inl (passing ∙ t, said ∙ ap (λ b. if b then Some (row_of n (bug_of (set_of k f) x)) else None) t)

    is_said : (n : ℕ) → IsSaid n
    is_said n = by_key (c.key n) refl
      where
        by_fields : (k : ℕ) → c.key n ≡ Some k → (i : SetImage) → image c k ≡ Some i → has (numbers_of i.members) n ≡ true
            → (o : Option SetFields) → c.fields k ≡ o → IsSaid n
        by_fields k e i s h None is = absurd (none-some i (sym (ap (option_map (set_of k)) is) ∙ s))
        by_fields k e i s h (Some f) is =
            let same : set_of k f ≡ i = same_Some _ _ (sym (image_is c k f is) ∙ s) in
            let x = member-has (c.members k) n (subst (λ (j : SetImage). has (numbers_of j.members) n ≡ true) (sym same) h) in
            in_set n k f x.0 e is x.1
            (shown c.key (image c) kept.keyed k n (set_of k f) (image_is c k f is) (subst (λ (j : SetImage). has (numbers_of j.members) n ≡ true) (sym same) h)
            ∙ ap (option_map (bug_of (set_of k f))) x.1)

        by_key : (o : Option ℕ) → c.key n ≡ o → IsSaid n
        by_key None e = inl (ap (λ (o : Option ℕ). option_map_or (set_passes test c) o false) e, no_rows keys n e)
        by_key (Some k) e = let i = found-image c.key (image c) kept.keyed n k e in by_fields k e i.0 i.1 i.2 (c.fields k) refl

    module _ (m : BTreeMap ℕ ListRow) (up : IsStrictlySortedBy nat_cmp (keys_of m.entries)) (has_rows : (n : ℕ) → get nat_cmp m n ≡ row_for c v keys n) where
      -- the numbers are those of the bugs that are listed
      numbers_are : keys_of m.entries ≡ numbers_where test (desk_in c)
      numbers_are = asked c test kept (keys_of m.entries) (ascending (keys_of m.entries) up) (λ n. has_number m n ∙ ap is_some (has_rows n) ∙ is_there n (is_said n))
        where
          is_there : (n : ℕ) → IsSaid n → is_some (row_for c v keys n) ≡ bug_passes test c n
          is_there n (inl h) = ap is_some h.1 ∙ sym h.0
          is_there n (inr h) = ap is_some h.3 ∙ sym h.2

      -- a row that is there is the bug's
      shows_row : (n : ℕ) (r : ListRow) → row_for c v keys n ≡ Some r → IsSaid n → (b : Bug) × ((desk_in c).bug n ≡ Some b) × (r ≡ row_of n b)
      shows_row n r e (inl h) = absurd (none-some r (sym h.1 ∙ e))
      shows_row n r e (inr h) = (h.0, h.1, same_Some _ _ (sym e ∙ h.3))

      rows_are : (es : List (ℕ × ListRow)) → AllByRecursion (λ e. get nat_cmp m e.0 ≡ Some e.1) es → values_of es ≡ rows_of (desk_in c).bug (keys_of es)
      rows_are [] all = refl
      rows_are (e ∷ es) all =
          let b = shows_row e.0 e.1 (sym (has_rows e.0) ∙ all.0) (is_said e.0) in
          (λ i. b.2 i ∷ rows_are es all.1 i) ∙ sym (ap (λ (o : Option Bug). with_row e.0 o (rows_of (desk_in c).bug (keys_of es))) b.1)

      pub are_listed : (sorted : List ListRow) → sorted ≡ flat_map (λ severity. filter (is_row_of severity) (values_of m.entries)) all_severities → AreListed (desk_in c) p v sorted
      are_listed sorted is =
          rows-listed (desk_in c) p v (values_of m.entries) sorted
          (rows_are m.entries (recursion_from_All (λ e. get nat_cmp m e.0 ≡ Some e.1) m.entries (All-found nat_cmp_total m up))
          ∙ ap (rows_of (desk_in c).bug) numbers_are) is
