-- What the edits that clear an image's rows make of a content.
use Rattle.std.proofs.Common.{◌≡◌, ℕ, Bool, true, false, cond, ◌||◌, ◌&&◌, List, [], ◌∷◌, None, sym, refl, ap, ◌∙◌}
use Rattle.std.specs.Prelude.{filter, not, ◌==◌}
use Rattle.std.proofs.lemmas.Bool.{eqb-true}
use Rattle.version_nodes.specs.Nodes.{Node}
use Rattle.bug_record.specs.Sets.{has}
use Rattle.bug_record.specs.Images.{numbers_of}
use Rattle.bug_record.specs.declared.bug.Member.{Member}
use Rattle.bug_record.specs.declared.bug.SetImage.{SetImage}
use Rattle.store_keys.specs.Keys.{key_of}
use Rattle.table_content.specs.Content.{Content}
use Rattle.table_content.specs.Edits.{put_at, edited_all}
use Rattle.table_content.specs.EditLists.{mark_drops, drops_of, drops}
use Rattle.table_content.specs.Images.{without_image}
use Rattle.table_content.proofs.EditLemmas.{same_content, edited_all-append, first_or_later, filter_all, filter_twice}

-- whether the marks of a number go
abbrev goes : Bool → ℕ → ℕ → Bool
goes keeps key k = not (keeps && (key == k))

-- the content without these bugs and what stands under their numbers
abbrev without : Bool → ℕ → List Member → Content → Content
without keeps key ms c = record c {
  key = λ n. cond (has (numbers_of ms) n) None (c.key n);
  members = λ k. filter (λ m. not (has (numbers_of ms) m.number)) (c.members k);
  fields = λ k. cond (has (numbers_of ms) k) None (c.fields k);
  found = λ k. cond (has (numbers_of ms) k && goes keeps key k) [] (c.found k);
  fixed = λ k. cond (has (numbers_of ms) k && goes keeps key k) [] (c.fixed k);
  blockers = λ k. cond (has (numbers_of ms) k) [] (c.blockers k);
  affects = λ k. cond (has (numbers_of ms) k) [] (c.affects k);
  near = λ k. cond (has (numbers_of ms) k && goes keeps key k) (λ v. None) (c.near k);
}

-- what stands at k after the marks of n went
abbrev at_mark : {A : Type 0} → Bool → ℕ → ℕ → A → (ℕ → A) → ℕ → A
at_mark keeps key n x f k = cond (keeps && (key == n)) (f k) (put_at n x f k)

mark_later : {A : Type 0} (keeps : Bool) (key n k : ℕ) (r : Bool) (x : A) (f : ℕ → A)
    → cond (r && goes keeps key k) x (at_mark keeps key n x f k) ≡ cond (((n == k) || r) && goes keeps key k) x (f k)
mark_later keeps key n k r x f =
    elim (n == k) as (λ t. (n == k) ≡ t → cond (r && goes keeps key k) x (cond (keeps && (key == n)) (f k) (cond t x (f k)))
    ≡ cond ((t || r) && goes keeps key k) x (f k)) [
      | true ↦ λ q. here r (keeps && (key == k)) (keeps && (key == n)) (ap (λ (z : ℕ). keeps && (key == z)) (eqb-true n k q))
      | false ↦ λ q. there (r && goes keeps key k) (keeps && (key == n))
    ] refl
  where
    here : (r s u : Bool) → u ≡ s → cond (r && not s) x (cond u (f k) x) ≡ cond (not s) x (f k)
    here true true u e = ap (λ t. cond t (f k) x) e
    here true false u e = refl
    here false true u e = ap (λ t. cond t (f k) x) e
    here false false u e = ap (λ t. cond t (f k) x) e

    there : (a u : Bool) → cond a x (cond u (f k) (f k)) ≡ cond a x (f k)
    there true u = refl
    there false true = refl
    there false false = refl

-- one bug goes, and then the others
abbrev one : Bool → ℕ → ℕ → Content → Content
one keeps key n c = record c {
  key = put_at n None c.key;
  members = λ k. filter (λ m. not (n == m.number)) (c.members k);
  fields = put_at n None c.fields;
  found = at_mark keeps key n [] c.found;
  fixed = at_mark keeps key n [] c.fixed;
  blockers = put_at n [] c.blockers;
  affects = put_at n [] c.affects;
  near = at_mark keeps key n (λ v. None) c.near;
}

drops_one : (keeps : Bool) (key n : ℕ) (c : Content) → edited_all (drops_of keeps key n) c ≡ one keeps key n c
drops_one keeps key n c =
    elim (keeps && (key == n)) as (λ t.
    let d : Content = record c {
      key = put_at n None c.key;
      members = λ k. filter (λ m. not (n == m.number)) (c.members k);
      fields = put_at n None c.fields;
      blockers = put_at n [] c.blockers;
      affects = put_at n [] c.affects;
    } in
    edited_all (cond t [] (mark_drops false key n)) d
    ≡ record d {
      found = λ k. cond t (c.found k) (put_at n [] c.found k);
      fixed = λ k. cond t (c.fixed k) (put_at n [] c.fixed k);
      near = λ k. cond t (c.near k) (put_at n (λ v. None) c.near k);
    }) [ true ↦ refl | false ↦ refl ]

later : (keeps : Bool) (key : ℕ) (m : Member) (ms : List Member) (c : Content)
    → without keeps key ms (one keeps key m.number c) ≡ without keeps key (m ∷ ms) c
later keeps key m ms c = same_content _ _ (record {
  next = refl;
  key = λ n. first_or_later (m.number == n) (has (numbers_of ms) n) None (c.key n);
  members = λ k. filter_twice (λ (x : Member). m.number == x.number) (λ (x : Member). has (numbers_of ms) x.number) (c.members k);
  fields = λ k. first_or_later (m.number == k) (has (numbers_of ms) k) None (c.fields k);
  found = λ k. mark_later keeps key m.number k (has (numbers_of ms) k) [] c.found;
  fixed = λ k. mark_later keeps key m.number k (has (numbers_of ms) k) [] c.fixed;
  blockers = λ k. first_or_later (m.number == k) (has (numbers_of ms) k) [] (c.blockers k);
  affects = λ k. first_or_later (m.number == k) (has (numbers_of ms) k) [] (c.affects k);
  nodes = refl;
  near = λ k v. ap (λ (f : Node → _). f v) (mark_later keeps key m.number k (has (numbers_of ms) k) (λ v. None) c.near);
  messages = λ id. refl;
  outcomes = λ id. refl;
  outcome_numbers = λ id place. refl;
})

dropped : (keeps : Bool) (key : ℕ) (ms : List Member) (c : Content) → edited_all (drops keeps key ms) c ≡ without keeps key ms c
dropped keeps key [] c = same_content _ _ (record {
  next = refl;
  key = λ n. refl;
  members = λ k. sym (filter_all (c.members k));
  fields = λ k. refl;
  found = λ k. refl;
  fixed = λ k. refl;
  blockers = λ k. refl;
  affects = λ k. refl;
  nodes = refl;
  near = λ k v. refl;
  messages = λ id. refl;
  outcomes = λ id. refl;
  outcome_numbers = λ id place. refl;
})
dropped keeps key (m ∷ ms) c =
    edited_all-append (drops_of keeps key m.number) (drops keeps key ms) c
    ∙ ap (edited_all (drops keeps key ms)) (drops_one keeps key m.number c)
    ∙ dropped keeps key ms (one keeps key m.number c)
    ∙ later keeps key m ms c

-- the rows of an image are cleared
pub cleared : (same : Bool) (i : SetImage) (c : Content) → edited_all (drops same (key_of i) i.members) c ≡ without_image same i c
cleared same i c = dropped same (key_of i) i.members c
