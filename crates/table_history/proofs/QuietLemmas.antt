-- Reading an expression that holds no aggregate and needs no step leaves no aggregate and no step.
use Rattle.table_history.proofs.Imports.{Expr, out-Expr, Expr-F, Term, lit, col, Compare}
use Rattle.table_schema.proofs.Exports.{◌≡◌, ℕ, ◌+◌, ◌-◌, List, [], Bool, true, false, if◌then◌else◌, nat_lt, Option, None, Ok, Err, refl, sym, subst, suc, not, ◌&&◌, ◌==◌, slice_get, ⊤, opened, node_at, lower_to, operation, both, combine, wanted_truth, tests_truth, tests_alias, operated, Checked, and_then, or_else, Lowering, ◌>>=◌, ◌>>◌, pure, fail, lift, get, last, carry, begin, finish, spend, again, height, max_height, take_slot, max_slots, chosen, passed, written_or, nothing, either, pending, Name, Context, find, shown_again, column_at, term_of, TooBig, NoSuchColumn, Column, Rowid, Alias, Level, Carried}
use Rattle.sqlite_ast.specs.declared.Binary.TheVariants.{Eq}
use Rattle.sqlite_resolve.specs.Expr.{passes, node}
use Rattle.sqlite_resolve.specs.Literal.{integer}
use Rattle.sqlite_resolve.specs.Scope.{column}
use Rattle.sqlite_resolve.specs.declared.error.CompileError.{CompileError}
use Rattle.sqlite_resolve.specs.declared.scope.Found.{Found}
use Rattle.sqlite_resolve.specs.declared.scope.Output.{Output}
use Rattle.sqlite_resolve.specs.declared.state.Passes.{Passes}
use Rattle.sqlite_resolve.specs.declared.state.State.{State}
use Rattle.sqlite_draft.specs.Measure.{nodes, reads}
use Rattle.sqlite_sql.specs.declared.ops.CompareOp.TheVariants.{Eq as CompareEq}
use Rattle.sqlite_value.specs.declared.keys.Collation.{Collation}

-- ---- what is left

pub record IsQuiet (s : State) : Type 0 where
  pub steps : s.steps ≡ []
  pub aggregates : s.aggregates ≡ []

-- where there was neither there is neither, and Good holds of what is given
abbrev pub Quiet : {A : Type 0} → (A → Type 0) → Lowering A → Type 0
Quiet {A} Good p = (s : State) (a : A) (t : State) → IsQuiet s → p s ≡ Ok (a, t) → IsQuiet t × Good a

abbrev pub Any : {A : Type 0} → A → Type 0
Any a = ⊤

pub through : {A B : Type 0} (r : Checked A) (f : A → Checked B) (b : B) → and_then r f ≡ Ok b → (a : A) × (r ≡ Ok a) × (f a ≡ Ok b)
through (Ok a) f b is = (a, refl, is)
through (Err e) f b is = absurd (let no = is in cc)

pub same_ok : {A : Type 0} {a b : A} → ◌≡◌ {A = Checked A} (Ok a) (Ok b) → a ≡ b
same_ok e = cc

pub choice : {X R : Type 0} (b : Bool) (x y r : X) → (if b then x else y) ≡ r → (x ≡ r → R) → (y ≡ r → R) → R
choice true x y r is one two = one is
choice false x y r is one two = two is

quiet_at : {A : Type 0} (Good : A → Type 0) (b a : A) (s t : State) → IsQuiet s → Good b → ◌≡◌ {A = Checked (A × State)} (Ok (b, s)) (Ok (a, t)) → IsQuiet t × Good a
quiet_at {A} Good b a s t quiet good is =
    let e = same_ok is in
    (subst (λ (x : A × State). IsQuiet x.1) e quiet, subst (λ (x : A × State). Good x.0) e good)

-- ---- one step

pub pure_quiet : {A : Type 0} (Good : A → Type 0) (b : A) → Good b → Quiet Good (pure b)
pure_quiet Good b good s a t quiet is = quiet_at Good b a s t quiet good is

pub lift_quiet : {A : Type 0} (r : Checked A) → Quiet Any (lift r)
lift_quiet r s a t quiet is = let h = through r (λ x. Ok (x, s)) (a, t) is in quiet_at Any h.0 a s t quiet tt h.2

pub fail_quiet : {A : Type 0} (Good : A → Type 0) (e : CompileError) → Quiet Good (fail {A = A} e)
fail_quiet Good e s a t quiet is = absurd (let no = is in cc)

pub get_quiet : Quiet IsQuiet get
get_quiet s a t quiet is = quiet_at IsQuiet s a s t quiet quiet is

pub last_quiet : Quiet Any last
last_quiet s a t quiet is = quiet_at Any s.last a s t quiet tt is

carry_quiet : (c : Carried) → Quiet Any (carry c)
carry_quiet c s a t quiet is = quiet_at Any tt a (record s { last = c }) t (record { steps = quiet.steps; aggregates = quiet.aggregates }) tt is

begin_quiet : Quiet Any begin
unfolding begin
begin_quiet s a t quiet is = quiet_at Any s.written a (record s { written = None; last = nothing }) t (record { steps = quiet.steps; aggregates = quiet.aggregates }) tt is

finish_quiet : (outer : Option Collation) (p : Passes) → Quiet Any (finish outer p)
unfolding finish
finish_quiet outer p s a t quiet is =
    quiet_at Any tt a (record s { written = either outer s.written; last = written_or s.written (passed p s.last) }) t (record { steps = quiet.steps; aggregates = quiet.aggregates }) tt is

spend_quiet : (n : ℕ) → Quiet Any (spend n)
unfolding spend
spend_quiet n s a t quiet is =
    choice (nat_lt n s.budget) (Ok (tt, record s { budget = s.budget - n })) (Err TooBig) (Ok (a, t)) is
    (λ e. quiet_at Any tt a (record s { budget = s.budget - n }) t (record { steps = quiet.steps; aggregates = quiet.aggregates }) tt e)
    (λ e. absurd (let no = e in cc))

pub slot_quiet : Quiet Any take_slot
unfolding take_slot
slot_quiet s a t quiet is =
    choice (nat_lt s.next max_slots) (Ok (s.next, record s { next = s.next + 1 })) (Err TooBig) (Ok (a, t)) is
    (λ e. quiet_at Any s.next a (record s { next = s.next + 1 }) t (record { steps = quiet.steps; aggregates = quiet.aggregates }) tt e)
    (λ e. absurd (let no = e in cc))

-- ---- one after another

pub quiet_then : {A B : Type 0} (Good : A → Type 0) (Better : B → Type 0) (p : Lowering A) (f : A → Lowering B) → Quiet Good p → ((a : A) → Good a → Quiet Better (f a)) → Quiet Better (p >>= f)
quiet_then Good Better p f one two s b t quiet is =
    let h = through (p s) (λ r. f r.0 r.1) (b, t) is in
    let q = one s h.0.0 h.0.1 quiet h.1 in
    two h.0.0 q.1 h.0.1 b t q.0 h.2

pub if_quiet : {A : Type 0} (Good : A → Type 0) (b : Bool) (p q : Lowering A) → Quiet Good p → Quiet Good q → Quiet Good (if b then p else q)
if_quiet Good true p q one two = one
if_quiet Good false p q one two = two

-- ---- a column

again_quiet : (t : Term) → Quiet Any (again t)
unfolding again
again_quiet t = quiet_then Any Any (spend (nodes t)) (λ _. if nat_lt max_height (height t) then fail TooBig else pure t) (spend_quiet (nodes t))
    (λ _ _. if_quiet Any (nat_lt max_height (height t)) (fail TooBig) (pure t) (fail_quiet Any TooBig) (pure_quiet Any t tt))

shown_quiet : (may : Bool) (shown : List Output) (at : ℕ) → Quiet Any (shown_again may shown at)
unfolding shown_again
shown_quiet may shown at = quiet_then {A = Output} Any Any (lift (or_else (slice_get shown at) NoSuchColumn)) _ (lift_quiet _)
    (λ output _. if_quiet Any (reads pending output.term && not may) _ _ (fail_quiet Any _) (quiet_then Any Any (carry output.carried) (λ _. again output.term) (carry_quiet output.carried) (λ _ _. again_quiet output.term)))

found_quiet : (cx : Context) (f : Found) → Quiet Any (term_of cx f)
unfolding term_of
found_quiet cx (Column slot table at) = quiet_then Any Any (lift (column_at cx.schema slot table at)) (λ found. carry found.1 >> pure found.0) (lift_quiet _)
    (λ found _. quiet_then Any Any (carry found.1) (λ _. pure found.0) (carry_quiet found.1) (λ _ _. pure_quiet Any found.0 tt))
found_quiet cx (Rowid slot table) = quiet_then Any Any (carry nothing) (λ _. pure (col slot 0)) (carry_quiet nothing) (λ _ _. pure_quiet Any (col slot 0) tt)
found_quiet cx (Alias depth at) = if_quiet Any (not cx.may_alias) _ _ (fail_quiet Any _) (quiet_then {A = Level} Any Any (lift (or_else (slice_get cx.levels depth) NoSuchColumn)) _ (lift_quiet _) (λ l _. shown_quiet (cx.may_aggregate && depth == 0) l.shown at))

column_quiet : (cx : Context) (table : Option Name) (name : Name) → Quiet Any (column cx table name)
unfolding column
column_quiet cx table name = quiet_then Any Any (lift (find cx table name)) (term_of cx) (lift_quiet _) (λ f _. found_quiet cx f)

-- ---- an expression

node_quiet : (low : Context → Expr → Lowering Term) (cx : Context) (e : Expr) → Quiet Any (opened low cx e) → Quiet Any (node low cx e)
unfolding node
node_quiet low cx e one = quiet_then Any Any (spend 1) _ (spend_quiet 1) (λ _ _. quiet_then Any Any begin _ begin_quiet (λ outer _. quiet_then Any Any (opened low cx e) _ one
    (λ t _. quiet_then Any Any (finish outer (passes e)) _ (finish_quiet outer (passes e)) (λ _ _. pure_quiet Any t tt))))

lower_quiet : (depth : ℕ) (cx : Context) (e : Expr) → Quiet Any (opened (lower_to depth) cx e) → Quiet Any (lower_to (suc depth) cx e)
unfolding lower_to
lower_quiet depth cx e one = node_quiet (lower_to depth) cx e one

pub column_at_quiet : (depth : ℕ) (cx : Context) (e : Expr) (table : Option Name) (name : Name) → out-Expr e ≡ Expr-F.Column table name → Quiet Any (lower_to (suc depth) cx e)
unfolding opened
column_at_quiet depth cx e table name is = lower_quiet depth cx e (subst (λ layer. Quiet Any (node_at (lower_to depth) cx layer)) (sym is) (column_quiet cx table name))

pub integer_quiet : (depth : ℕ) (cx : Context) (e : Expr) (text : List ℕ) → out-Expr e ≡ Expr-F.Integer text → Quiet Any (lower_to (suc depth) cx e)
unfolding opened
integer_quiet depth cx e text is =
    lower_quiet depth cx e (subst (λ layer. Quiet Any (node_at (lower_to depth) cx layer)) (sym is) (quiet_then Any Any (lift (integer false text)) (λ x. pure (lit x)) (lift_quiet _) (λ x _. pure_quiet Any (lit x) tt)))

combine_quiet : (cx : Context) (how : Collation) (x y : Term) → Quiet Any (combine cx Eq how x y)
unfolding combine
combine_quiet cx how x y = pure_quiet Any (operated cx (Compare CompareEq how) x y) tt

-- an equation between two
equals_quiet : (low : Context → Expr → Lowering Term) (cx : Context) (a b : Expr) → Quiet Any (low cx a) → Quiet Any (low cx b) → Quiet Any (operation low cx Eq a b)
unfolding operation both wanted_truth tests_truth tests_alias
equals_quiet low cx a b one two =
    quiet_then Any Any (low cx a) (λ x. last >>= (λ p. low cx b >>= (λ y. last >>= (λ q. combine cx Eq (chosen p q) x y)))) one (λ x _.
    quiet_then Any Any last (λ p. low cx b >>= (λ y. last >>= (λ q. combine cx Eq (chosen p q) x y))) last_quiet (λ p _.
    quiet_then Any Any (low cx b) (λ y. last >>= (λ q. combine cx Eq (chosen p q) x y)) two (λ y _.
    quiet_then Any Any last (λ q. combine cx Eq (chosen p q) x y) last_quiet (λ q _. combine_quiet cx (chosen p q) x y))))

pub equation_quiet : (depth : ℕ) (cx : Context) (e a b : Expr) → out-Expr e ≡ Expr-F.Binary Eq a b → Quiet Any (lower_to depth cx a) → Quiet Any (lower_to depth cx b) → Quiet Any (lower_to (suc depth) cx e)
unfolding opened
equation_quiet depth cx e a b is one two = lower_quiet depth cx e (subst (λ layer. Quiet Any (node_at (lower_to depth) cx layer)) (sym is) (equals_quiet (lower_to depth) cx a b one two))
