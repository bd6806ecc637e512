-- Contents that say the same are one, and edits one after another.
use Rattle.std.proofs.Common.{◌≡◌, ℕ, Bool, true, false, cond, ◌||◌, List, [], ◌∷◌, ◌++◌, refl, ap}
use Rattle.std.specs.Prelude.{filter, not}
use Rattle.version_nodes.specs.Nodes.{Node}
use Rattle.table_content.specs.Content.{Content}
use Rattle.table_content.specs.Edits.{edited, edited_all}
use Rattle.table_content.specs.declared.edit.Edit.{Edit}

-- two contents say the same, field by field
pub record SaysSame (a b : Content) : Type 0 where
  pub next : a.next ≡ b.next
  pub key : (n : ℕ) → a.key n ≡ b.key n
  pub members : (k : ℕ) → a.members k ≡ b.members k
  pub fields : (k : ℕ) → a.fields k ≡ b.fields k
  pub found : (k : ℕ) → a.found k ≡ b.found k
  pub fixed : (k : ℕ) → a.fixed k ≡ b.fixed k
  pub blockers : (k : ℕ) → a.blockers k ≡ b.blockers k
  pub affects : (k : ℕ) → a.affects k ≡ b.affects k
  pub nodes : a.nodes ≡ b.nodes
  pub near : (k : ℕ) (v : Node) → a.near k v ≡ b.near k v
  pub messages : (id : List ℕ) → a.messages id ≡ b.messages id
  pub outcomes : (id : List ℕ) → a.outcomes id ≡ b.outcomes id
  pub outcome_numbers : (id : List ℕ) (place : ℕ) → a.outcome_numbers id place ≡ b.outcome_numbers id place

pub same_content : (a b : Content) → SaysSame a b → a ≡ b
same_content a b s = λ i. record {
  next = s.next i;
  key = λ n. s.key n i;
  members = λ k. s.members k i;
  fields = λ k. s.fields k i;
  found = λ k. s.found k i;
  fixed = λ k. s.fixed k i;
  blockers = λ k. s.blockers k i;
  affects = λ k. s.affects k i;
  nodes = s.nodes i;
  near = λ k v. s.near k v i;
  messages = λ id. s.messages id i;
  outcomes = λ id. s.outcomes id i;
  outcome_numbers = λ id place. s.outcome_numbers id place i;
}

pub edited_all-append : (xs ys : List Edit) (c : Content) → edited_all (xs ++ ys) c ≡ edited_all ys (edited_all xs c)
edited_all-append [] ys c = refl
edited_all-append (e ∷ xs) ys c = edited_all-append xs ys (edited e c)

-- one test after another
pub first_or_later : {A : Type 0} (a b : Bool) (x y : A) → cond b x (cond a x y) ≡ cond (a || b) x y
first_or_later true true x y = refl
first_or_later true false x y = refl
first_or_later false b x y = refl

pub filter_all : {A : Type 0} (xs : List A) → filter (λ x. true) xs ≡ xs
filter_all [] = refl
filter_all (x ∷ xs) = ap (λ ys. x ∷ ys) (filter_all xs)

pub filter_twice : {A : Type 0} (p q : A → Bool) (xs : List A)
    → filter (λ x. not (q x)) (filter (λ x. not (p x)) xs) ≡ filter (λ x. not (p x || q x)) xs
filter_twice p q [] = refl
filter_twice p q (x ∷ xs) =
    elim (p x) as (λ t. filter (λ z. not (q z)) (cond (not t) (x ∷ filter (λ z. not (p z)) xs) (filter (λ z. not (p z)) xs))
    ≡ cond (not (t || q x)) (x ∷ filter (λ z. not (p z || q z)) xs) (filter (λ z. not (p z || q z)) xs)) [
      | true ↦ filter_twice p q xs
      | false ↦ ap (λ ys. cond (not (q x)) (x ∷ ys) ys) (filter_twice p q xs)
    ]
