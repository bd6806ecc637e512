-- Which bugs a list has.
use Rattle.std.proofs.Common.{◌≡◌, inl, inr, ◌⊎◌, ℕ, ◌<◌, Bool, true, false, List, [], ◌∷◌, ◌++◌, Option, Some, None, refl, sym, ap, ◌∙◌}
use Rattle.std.proofs.Common.{IsTrue, IsFalse, length, arith}
use Rattle.std.specs.Prelude.{◌==◌, ◌&&◌, ◌||◌, if◌then◌else◌, not, flat_map, nat_lt, option_map}
use Rattle.std.specs.Str.{bytes_eq}
use Rattle.std.proofs.lemmas.Bool.{eqb-true, false≢true, or_parts, or_right, or_from, or_cases, and_parts, and_from}
use Rattle.std.proofs.lemmas.Bool.Decides.{nat_tests}
use Rattle.std.proofs.lemmas.Slice.Eq.{bytes_eq-Decides}
use Rattle.version_nodes.specs.Nodes.{Node}
use Rattle.version_nodes.specs.Trees.{Ancestry, has_node, line}
use Rattle.version_nodes.specs.Statuses.{first_marked, kind_at, status_by, status_on, status}
use Rattle.version_nodes.specs.declared.statuses.MarkKind.TheVariants.{Found as MarkedFound, Fixed as MarkedFixed}
use Rattle.version_nodes.specs.declared.statuses.Status.{Status}
use Rattle.version_nodes.specs.declared.statuses.Status.TheVariants.{Found, Absent, Done}
use Rattle.bug_record.specs.Sets.{Each, has, numbers_below}
use Rattle.bug_record.specs.Heads.{is_found}
use Rattle.bug_record.specs.Desk.{Desk}
use Rattle.bug_record.specs.Asked.{passes, numbers_where}
use Rattle.bug_record.specs.PackageSets.{has_name}
use Rattle.bug_record.specs.Lists.{concerns, is_listed, is_listed_as, listed}
use Rattle.bug_record.specs.Severities.{all_severities, rank}
use Rattle.bug_record.specs.declared.bug.Bug.{Bug}
use Rattle.bug_record.specs.declared.bug.Shared.{Shared}
use Rattle.bug_record.specs.declared.severity.Severity.{Severity}
use Rattle.bug_record.specs.declared.severity.Severity.TheVariants.{Critical, Grave, Serious, Important, Normal, Minor, Wishlist}
use Rattle.base_sequences.proofs.SetLemmas.{has-append, has-filter, has-numbers_below}
use Rattle.message_directives.specs.Readable.{IsUnmarked, IsFoundFirst, IsFoundUnmarked, IsIn}

-- whether a version is marked
abbrev is_marked : Shared → Node → Bool
is_marked f n = has_node f.found n || has_node f.fixed n

-- the first marked version of a line
abbrev Marked : List Node → Shared → Option Node → Type 0
Marked versions f None = Each (IsUnmarked f) versions
Marked versions f (Some n) =
    (before : List Node) × (after : List Node) × (versions ≡ before ++ n ∷ after) × Each (IsUnmarked f) before

later : (versions : List Node) (f : Shared) (x : Node) (o : Option Node) → IsUnmarked f x → Marked versions f o
    → Marked (x ∷ versions) f o
later versions f x None u h = (u, h)
later versions f x (Some n) u h = (x ∷ h.0, h.1, ap (λ (ns : List Node). x ∷ ns) h.2, (u, h.3))

first : (versions : List Node) (f : Shared) → Marked versions f (first_marked f.found f.fixed versions)
first [] f = tt
first (x ∷ versions) f = here (is_marked f x) refl (first versions f)
  where
    here : (b : Bool) → is_marked f x ≡ b → Marked versions f (first_marked f.found f.fixed versions)
        → Marked (x ∷ versions) f (if b then Some x else first_marked f.found f.fixed versions)
    here true q h = ([], versions, refl, tt)
    here false q h = later versions f x (first_marked f.found f.fixed versions) (or_parts (has_node f.found x) (has_node f.fixed x) q) h

-- the same by what stands before and after it
first_is : (f : Shared) (before : List Node) (n : Node) (after : List Node) → Each (IsUnmarked f) before
    → IsTrue (is_marked f n) → first_marked f.found f.fixed (before ++ n ∷ after) ≡ Some n
first_is f [] n after u m = ap (λ (b : Bool). if b then Some n else first_marked f.found f.fixed after) m
first_is f (x ∷ before) n after u m =
    ap (λ (b : Bool). if b then Some x else first_marked f.found f.fixed (before ++ n ∷ after)) (or_from _ _ u.0.0 u.0.1)
    ∙ first_is f before n after u.1 m

none_is : (f : Shared) (versions : List Node) → Each (IsUnmarked f) versions → first_marked f.found f.fixed versions ≡ None
none_is f [] u = refl
none_is f (x ∷ versions) u =
    ap (λ (b : Bool). if b then Some x else first_marked f.found f.fixed versions) (or_from _ _ u.0.0 u.0.1)
    ∙ none_is f versions u.1

-- a list of no node
empty : (nodes : List Node) → IsTrue (length nodes == 0) → nodes ≡ []
empty [] e = refl
empty (n ∷ nodes) e = let none : length (n ∷ nodes) ≡ 0 = eqb-true (length (n ∷ nodes)) 0 e in absurd (omega arith)

-- the status by the first marked version
abbrev status_of : Shared → Option Node → Status
status_of f o = status_by (option_map (kind_at f.found) o) (length f.found == 0)

-- a status that is Found by a test alone
absent_else : (b : Bool) → IsTrue (is_found (if b then Found else Absent)) → IsTrue b
absent_else true h = refl
absent_else false h = absurd (false≢true h)

fixed_else : (f : Shared) (b : Bool)
    → IsTrue (is_found (status_by (Some (if b then MarkedFound else MarkedFixed)) (length f.found == 0))) → IsTrue b
fixed_else f true h = refl
fixed_else f false h = absurd (false≢true h)

-- the first mark decides
by_marks : (versions : List Node) (f : Shared) (o : Option Node) → Marked versions f o → IsTrue (is_found (status_of f o))
    → IsFoundFirst versions f ⊎ IsFoundUnmarked versions f
by_marks versions f None m h = inr (m, empty f.found (absent_else (length f.found == 0) h))
by_marks versions f (Some n) m h = inl (record {
  before = m.0;
  marked = n;
  after = m.1;
  line_is = m.2;
  unmarked = m.3;
  found = fixed_else f (has_node f.found n) h;
})

marks_decide : (versions : List Node) (f : Shared) → IsFoundFirst versions f ⊎ IsFoundUnmarked versions f
    → IsTrue (is_found (status_of f (first_marked f.found f.fixed versions)))
marks_decide versions f (inl m) =
    ap (λ (ns : List Node). is_found (status_of f (first_marked f.found f.fixed ns))) m.line_is
    ∙ ap (λ (o : Option Node). is_found (status_of f o))
    (first_is f m.before m.marked m.after m.unmarked (ap (λ (b : Bool). b || has_node f.fixed m.marked) m.found))
    ∙ ap (λ (b : Bool). is_found (status_by (Some (if b then MarkedFound else MarkedFixed)) (length f.found == 0))) m.found
marks_decide versions f (inr m) =
    ap (λ (o : Option Node). is_found (status_of f o)) (none_is f versions m.0)
    ∙ ap (λ (ns : List Node). is_found (if length ns == 0 then Found else Absent)) m.1

-- closed, with nothing marked fixed
abbrev is_done : Shared → Bool
is_done f = f.closed && (length f.fixed == 0)

done_is : (f : Shared) → IsTrue f.closed × (f.fixed ≡ []) → IsTrue (is_done f)
done_is f h = λ i. h.0 i && (length (h.1 i) == 0)

-- Found at a version
found_there : (versions : List Node) (f : Shared) (b : Bool) → is_done f ≡ b
    → IsTrue (is_found (if b then Done else status_of f (first_marked f.found f.fixed versions)))
    → (¬ (IsTrue f.closed × (f.fixed ≡ []))) × (IsFoundFirst versions f ⊎ IsFoundUnmarked versions f)
found_there versions f true q h = absurd (false≢true h)
found_there versions f false q h = (λ p. false≢true (sym q ∙ done_is f p), by_marks versions f _ (first versions f) h)

found_at : (tree : Ancestry) (f : Shared) (v : Node) → IsTrue (is_found (status tree f.found f.fixed f.closed v))
    → (¬ (IsTrue f.closed × (f.fixed ≡ []))) × (IsFoundFirst (line tree v) f ⊎ IsFoundUnmarked (line tree v) f)
unfolding status status_on
found_at tree f v h = found_there (line tree v) f (is_done f) refl h

not_done_is : (f : Shared) → (¬ (IsTrue f.closed × (f.fixed ≡ []))) → is_done f ≡ false
not_done_is f h = decided (is_done f) refl
  where
    decided : (b : Bool) → is_done f ≡ b → is_done f ≡ false
    decided true q = let p = and_parts f.closed (length f.fixed == 0) q in absurd (h (p.0, empty f.fixed p.1))
    decided false q = q

is_found_at : (tree : Ancestry) (f : Shared) (v : Node) → (¬ (IsTrue f.closed × (f.fixed ≡ [])))
    → IsFoundFirst (line tree v) f ⊎ IsFoundUnmarked (line tree v) f
    → IsTrue (is_found (status tree f.found f.fixed f.closed v))
unfolding status status_on
is_found_at tree f v done marks =
    ap (λ (b : Bool). is_found (if b then Done else status_of f (first_marked f.found f.fixed (line tree v))))
    (not_done_is f done)
    ∙ marks_decide (line tree v) f marks

-- the test of a list
not_true : (b : Bool) → IsTrue (not b) → IsFalse b
not_true true e = absurd (false≢true e)
not_true false e = refl

listed_is_in : (tree : Ancestry) (name : List ℕ) (v : Node) (f : Shared) → IsTrue (is_listed tree name v f) → IsIn tree name v f
listed_is_in tree name v f h =
    let p = and_parts (concerns f name && not f.archived) _ h in
    let q = and_parts (concerns f name) (not f.archived) p.0 in
    let r = found_at tree f v p.1 in record {
      of_package = belongs (or_cases (bytes_eq f.«package» name) (has_name f.affects name) q.0);
      not_archived = not_true f.archived q.1;
      not_done = r.0;
      marks = r.1;
    }
  where
    belongs : IsTrue (bytes_eq f.«package» name) ⊎ IsTrue (has_name f.affects name)
        → (f.«package» ≡ name) ⊎ IsTrue (has_name f.affects name)
    belongs (inl e) = inl ((bytes_eq-Decides f.«package» name).0 e)
    belongs (inr e) = inr e

in_is_listed : (tree : Ancestry) (name : List ℕ) (v : Node) (f : Shared) → IsIn tree name v f → IsTrue (is_listed tree name v f)
in_is_listed tree name v f h =
    and_from _ _ (and_from _ _ (concerned h.of_package) (ap not h.not_archived))
    (is_found_at tree f v h.not_done h.marks)
  where
    concerned : (f.«package» ≡ name) ⊎ IsTrue (has_name f.affects name) → IsTrue (concerns f name)
    concerned (inl e) = ap (λ (b : Bool). b || has_name f.affects name) ((bytes_eq-Decides f.«package» name).1 e)
    concerned (inr e) = or_right (bytes_eq f.«package» name) (has_name f.affects name) e

-- a number of one of several lists
of_some : (g : Severity → List ℕ) (ss : List Severity) (n : ℕ) → IsTrue (has (flat_map g ss) n)
    → (s : Severity) × IsTrue (has (g s) n)
of_some g [] n h = absurd (false≢true h)
of_some g (s ∷ ss) n h =
    here (or_cases (has (g s) n) (has (flat_map g ss) n) (sym (has-append (g s) (flat_map g ss) n) ∙ h)) (of_some g ss n)
  where
    here : IsTrue (has (g s) n) ⊎ IsTrue (has (flat_map g ss) n)
        → (IsTrue (has (flat_map g ss) n) → (s : Severity) × IsTrue (has (g s) n)) → (s : Severity) × IsTrue (has (g s) n)
    here (inl e) more = (s, e)
    here (inr e) more = more e

in_some : (g : Severity → List ℕ) (before : List Severity) (s : Severity) (after : List Severity) (n : ℕ) → IsTrue (has (g s) n)
    → IsTrue (has (flat_map g (before ++ s ∷ after)) n)
in_some g [] s after n h =
    has-append (g s) (flat_map g after) n ∙ ap (λ (b : Bool). b || has (flat_map g after) n) h
in_some g (x ∷ before) s after n h =
    has-append (g x) (flat_map g (before ++ s ∷ after)) n
    ∙ ap (λ (b : Bool). has (g x) n || b) (in_some g before s after n h) ∙ or_last (has (g x) n)
  where
    or_last : (b : Bool) → (b || true) ≡ true
    or_last true = refl
    or_last false = refl

-- each severity stands among them
in_all : (g : Severity → List ℕ) (s : Severity) (n : ℕ) → IsTrue (has (g s) n) → IsTrue (has (flat_map g all_severities) n)
in_all g Critical n h = in_some g [] Critical (Grave ∷ Serious ∷ Important ∷ Normal ∷ Minor ∷ Wishlist ∷ []) n h
in_all g Grave n h = in_some g (Critical ∷ []) Grave (Serious ∷ Important ∷ Normal ∷ Minor ∷ Wishlist ∷ []) n h
in_all g Serious n h = in_some g (Critical ∷ Grave ∷ []) Serious (Important ∷ Normal ∷ Minor ∷ Wishlist ∷ []) n h
in_all g Important n h = in_some g (Critical ∷ Grave ∷ Serious ∷ []) Important (Normal ∷ Minor ∷ Wishlist ∷ []) n h
in_all g Normal n h = in_some g (Critical ∷ Grave ∷ Serious ∷ Important ∷ []) Normal (Minor ∷ Wishlist ∷ []) n h
in_all g Minor n h = in_some g (Critical ∷ Grave ∷ Serious ∷ Important ∷ Normal ∷ []) Minor (Wishlist ∷ []) n h
in_all g Wishlist n h = in_some g (Critical ∷ Grave ∷ Serious ∷ Important ∷ Normal ∷ Minor ∷ []) Wishlist [] n h

same_rank : (s : Severity) → IsTrue (rank s == rank s)
same_rank Critical = refl
same_rank _ = refl

-- a number of those that pass a test
where_is : (test : Shared → Bool) (d : Desk) (n : ℕ) → has (numbers_where test d) n ≡ (nat_lt n d.next && passes test (d.bug n))
where_is test d n =
    has-filter (λ n. passes test (d.bug n)) (numbers_below d.next) n
    ∙ ap (λ (b : Bool). b && passes test (d.bug n)) (has-numbers_below d.next n)

passed : (test : Shared → Bool) (o : Option Bug) → IsTrue (passes test o) → (b : Bug) × (o ≡ Some b) × IsTrue (test b.shared)
passed test None h = absurd (false≢true h)
passed test (Some b) h = (b, refl, h)

pub listed_there : (d : Desk) (name : List ℕ) (v : Node) (n : ℕ) → IsTrue (has (listed d name v) n)
    → (b : Bug) × (d.bug n ≡ Some b) × IsIn d.tree name v b.shared
listed_there d name v n h =
    let s = of_some (λ severity. numbers_where (is_listed_as d.tree name v severity) d) all_severities n h in
    let p = and_parts (nat_lt n d.next) _ (sym (where_is (is_listed_as d.tree name v s.0) d n) ∙ s.1) in
    let b = passed (is_listed_as d.tree name v s.0) (d.bug n) p.1 in
    (b.0, b.1, listed_is_in d.tree name v b.0.shared (and_parts (is_listed d.tree name v b.0.shared) _ b.2).0)

pub there_listed : (d : Desk) (name : List ℕ) (v : Node) (n : ℕ) (b : Bug) → n < d.next → d.bug n ≡ Some b
    → IsIn d.tree name v b.shared → IsTrue (has (listed d name v) n)
there_listed d name v n b low e h =
    let s = b.shared.severity in
    let test = is_listed_as d.tree name v s in
    let pass : IsTrue (passes test (d.bug n)) =
    ap (passes test) e ∙ and_from _ _ (in_is_listed d.tree name v b.shared h) (same_rank s) in
    let below : IsTrue (nat_lt n d.next) = grind (arith, nat_tests) in
    in_all (λ severity. numbers_where (is_listed_as d.tree name v severity) d) s n
    (where_is test d n ∙ and_from _ _ below pass)
