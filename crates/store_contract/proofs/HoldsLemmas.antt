-- Calls of a store, one after another.
use Rattle.store_contract.specs.Store.{Holds, Asks}
use Rattle.store_contract.specs.Crashes.{Holding}

-- no call
pub holds_none : {S : Type 0} (k h : S → Type 0) (a : S) {P : Type 0} → P → Holds k h a a P
holds_none k h a p = record { honest = λ w. w; kept = λ u w. u; fact = λ u w. p }

-- one call after another
pub holds_then : {S : Type 0} {k h : S → Type 0} {a b c : S} {P Q R : Type 0} → Holds k h a b P → Holds k h b c Q → (P → Q → R)
    → Holds k h a c R
holds_then x y f = record {
  honest = λ w. x.honest (y.honest w);
  kept = λ u w. y.kept (x.kept u (y.honest w)) w;
  fact = λ u w. f (x.fact u (y.honest w)) (y.fact (x.kept u (y.honest w)) w);
}

pub holds_both : {S : Type 0} {k h : S → Type 0} {a b c : S} {P Q : Type 0} → Holds k h a b P → Holds k h b c Q
    → Holds k h a c (P × Q)
holds_both x y = holds_then x y (λ p q. (p, q))

pub holds_weaker : {S : Type 0} {k h : S → Type 0} {a b : S} {P Q : Type 0} → Holds k h a b P → (P → Q) → Holds k h a b Q
holds_weaker x f = record { honest = x.honest; kept = x.kept; fact = λ u w. f (x.fact u w) }

-- where more is known of a kept store as the calls begin
pub holds_where : {S : Type 0} {k h : S → Type 0} {a b : S} {P Q : Type 0} → Holds k h a b P → (k a → h b → P → Q)
    → Holds k h a b Q
holds_where x f = record { honest = x.honest; kept = x.kept; fact = λ u w. f u w (x.fact u w) }

-- the same of questions
pub asks_none : {S : Type 0} (k h : S → Type 0) (l : S → Holding → Holding → Type 0) (a : S) {P : Type 0} → P → Asks k h l a a P
asks_none k h l a p = record { holds = holds_none k h a p; was_kept = λ u w. u; left = λ w x y u. u }

pub asks_then : {S : Type 0} {k h : S → Type 0} {l : S → Holding → Holding → Type 0} {a b c : S} {P Q R : Type 0} → Asks k h l a b P
    → Asks k h l b c Q → (P → Q → R) → Asks k h l a c R
asks_then x y f = record {
  holds = holds_then x.holds y.holds f;
  was_kept = λ u w. x.was_kept (y.was_kept u w) (y.holds.honest w);
  left = λ w v z u. y.left w v z (x.left (y.holds.honest w) v z u);
}

pub asks_weaker : {S : Type 0} {k h : S → Type 0} {l : S → Holding → Holding → Type 0} {a b : S} {P Q : Type 0} → Asks k h l a b P
    → (P → Q) → Asks k h l a b Q
asks_weaker x f = record { holds = holds_weaker x.holds f; was_kept = x.was_kept; left = x.left }
