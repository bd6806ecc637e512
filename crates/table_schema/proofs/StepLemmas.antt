-- What calls inside a transaction come to together.
-- Nothing here speaks of a statement.
use Rattle.table_schema.proofs.Imports.{◌≡◌, inl, ℕ, ◌+◌, ◌<◌, suc, add-one, length, drop, get_or, drop-cons, ◌≤◌, map, flat_map, List, [], ◌∷◌, ◌++◌, Result, Ok, Err, IfOk, IfErr, arith, refl, sym, ap, subst, ◌∙◌, ⊤, State, HasCleanDisk, Survives, StoreFault, Memory, faults_later, memory_fault, memory_faults, Content, edited, edited_all, IsFree, AreFree, Edit, IsInside, seen, Goes, Acts, Serves, Plays, PlaysAll}
use Rattle.std.proofs.Math.ListN.{drop_of_length-le}
use Rattle.sqlite.proofs.InsideLemmas.{keeps_then}
use Rattle.sqlite.proofs.StateLemmas.{survives_then}
use Rattle.table_content.proofs.EditLemmas.{edited_all-append}

survives_stay : (s : State) → Survives s s (λ _. ⊥)
survives_stay s = record { clean = omega arith; shield = λ h. h; counts = omega arith; limit = refl; closes = λ clean o. inl o; crash = λ clean db h. inl h }

-- nothing is called
pub acts_none : {A : Type 0} (s : State) (a : A) (Free : Content → Type 0) (P : Content → Content → A → Type 0) → ((c : Content) → P c c a) → Acts s s (Ok a) Free P
acts_none s a Free P same = record {
  survives = survives_stay s;
  keeps = λ clean inside. record { was_open = λ o. o; committed = λ _. refl };
  ok = λ clean inside. record { inside = inside; serves = λ o. o; changed = same (seen s) };
  cause = λ clean inside free. tt;
}

-- nothing is called, for want of memory
pub acts_unable : {A : Type 0} (s : State) (fault : StoreFault) (Free : Content → Type 0) (P : Content → Content → A → Type 0) → fault ≡ Memory → Acts {A = A} s s (Err fault) Free P
acts_unable s fault Free P is = record {
  survives = survives_stay s;
  keeps = λ clean inside. record { was_open = λ o. o; committed = λ _. refl };
  ok = λ clean inside. tt;
  cause = λ clean inside free. memory_fault s s fault is;
}

-- the call failed, and with it the step
pub acts_stop : {A B : Type 0} (old new : State) (fault : StoreFault) (F G : Content → Type 0) (P : Content → Content → A → Type 0) (Q : Content → Content → B → Type 0)
    → ((c : Content) → G c → F c) → Acts {A = A} old new (Err fault) F P → Acts {A = B} old new (Err fault) G Q
acts_stop old new fault F G P Q weaker h = record { survives = h.survives; keeps = h.keeps; ok = λ clean inside. tt; cause = λ clean inside free. h.cause clean inside (λ o. weaker _ (free o)) }

module _ {A B : Type 0} (old mid new : State) (a : A) (F G H : Content → Type 0) (P : Content → Content → A → Type 0) (Q : Content → Content → B → Type 0) (R : Content → Content → B → Type 0) where
  -- one call after another
  pub acts_then : (r : Result B StoreFault) → ((c : Content) → H c → F c) → ((c d : Content) → P c d a → H c → G d) → ((c d e : Content) (b : B) → P c d a → Q d e b → R c e b)
      → Acts old mid (Ok a) F P → Acts mid new r G Q → Acts old new r H R
  acts_then r first free join one two = record {
    survives = survives_then old mid new _ _ (λ _. ⊥) (λ _ db none. none) (λ _ db none. none) one.survives two.survives;
    keeps = λ clean inside. keeps_then old mid new (one.keeps (early clean) inside) (two.keeps clean (went clean inside).inside);
    ok = λ clean inside. goes r (went clean inside) (two.ok clean (went clean inside).inside);
    cause = λ clean inside all. faults_later old mid new _ _ one.survives two.survives (early clean) r (two.cause clean (went clean inside).inside (λ o. free _ _ (went clean inside).changed (all ((one.keeps (early clean) inside).was_open o))));
  }
    where
      early : HasCleanDisk new → HasCleanDisk mid
      early clean = omega (arith, two.survives.clean, clean)

      went : HasCleanDisk new → IsInside old → Goes old mid (λ c d. P c d a)
      went clean inside = one.ok (early clean) inside

      goes : (r : Result B StoreFault) → Goes old mid (λ c d. P c d a) → IfOk r (λ b. Goes mid new (λ c d. Q c d b)) → IfOk r (λ b. Goes old new (λ c d. R c d b))
      goes (Ok b) g h = record { inside = h.inside; serves = λ o. h.serves (g.serves o); changed = join _ _ _ b g.changed h.changed }
      goes (Err e) g h = tt

pub acts_weaker : {A : Type 0} (old new : State) (r : Result A StoreFault) (F G : Content → Type 0) (P Q : Content → Content → A → Type 0) → ((c : Content) → G c → F c) → ((c d : Content) (a : A) → P c d a → Q c d a)
    → Acts old new r F P → Acts old new r G Q
acts_weaker old new r F G P Q free weaker h = record { survives = h.survives; keeps = h.keeps; ok = λ clean inside. goes r (h.ok clean inside); cause = λ clean inside all. h.cause clean inside (λ o. free _ (all o)) }
  where
    goes : (r : Result _ StoreFault) → IfOk r (λ a. Goes old new (λ c d. P c d a)) → IfOk r (λ a. Goes old new (λ c d. Q c d a))
    goes (Ok a) g = record { inside = g.inside; serves = g.serves; changed = weaker _ _ a g.changed }
    goes (Err e) g = tt

-- pure work on what a call answered
pub acts_work : {A B : Type 0} (old new : State) (a : A) (r : Result B StoreFault) (F : Content → Type 0) (P : Content → Content → A → Type 0) (Q : Content → Content → B → Type 0)
    → ((c d : Content) → P c d a → IfOk r (Q c d) × IfErr r (λ fault. fault ≡ Memory)) → Acts old new (Ok a) F P → Acts old new r F Q
acts_work old new a r F P Q work h = record {
  survives = h.survives;
  keeps = h.keeps;
  ok = λ clean inside. let g = h.ok clean inside in goes r g (work _ _ g.changed).0;
  cause = λ clean inside free. memory_faults old new r (work _ _ (h.ok clean inside).changed).1;
}
  where
    goes : (r : Result _ StoreFault) → Goes old new (λ c d. P c d a) → IfOk r (Q (seen old) (seen new)) → IfOk r (λ b. Goes old new (λ c d. Q c d b))
    goes (Ok b) g q = record { inside = g.inside; serves = g.serves; changed = q }
    goes (Err e) g q = tt

both : {B X : Type 0} (Q : B → Type 0) (r : Result B StoreFault) → X → IfOk r Q → IfOk r (λ b. X × Q b)
both Q (Ok b) x q = (x, q)
both Q (Err e) x q = tt

-- the same of a question
pub reads_work : {A B : Type 0} (old new : State) (a : A) (r : Result B StoreFault) (F : Content → Type 0) (P : Content → A → Type 0) (Q : Content → B → Type 0)
    → ((c : Content) → P c a → IfOk r (Q c) × IfErr r (λ fault. fault ≡ Memory)) → Acts old new (Ok a) F (λ c d a. (d ≡ c) × P c a) → Acts old new r F (λ c d b. (d ≡ c) × Q c b)
reads_work old new a r F P Q work h = acts_work old new a r F _ _ (λ c d p. let w = work c p.1 in (both (Q c) r p.0 w.0, w.1)) h

-- ---- edits

abbrev pub done : Result (Unit {0}) StoreFault
done = Ok tt

abbrev pub failed : StoreFault → Result (Unit {0}) StoreFault
failed fault = Err fault

abbrev pub none : Unit {0}
none = tt

-- one edit, and then others
pub plays_then : (old mid new : State) (e : Edit) (es : List Edit) (r : Result (Unit {0}) StoreFault) → Plays e old mid done → PlaysAll es mid new r → PlaysAll (e ∷ es) old new r
plays_then old mid new e es r one two = acts_then old mid new none (IsFree e) (AreFree es) (AreFree (e ∷ es)) _ _ (λ c d _. d ≡ edited_all (e ∷ es) c) r
    (λ c all. all.0) (λ c d p all. subst (AreFree es) (sym p) all.1) (λ c d x _ p q. q ∙ ap (edited_all es) p) one two

-- the first of several edits failed
pub plays_stop : (old new : State) (e : Edit) (es : List Edit) (fault : StoreFault) → Plays e old new (failed fault) → PlaysAll (e ∷ es) old new (failed fault)
plays_stop old new e es fault one = acts_stop old new fault (IsFree e) (AreFree (e ∷ es)) _ _ (λ c all. all.0) one

-- ---- a loop that makes an edit for each item

module _ {T : Type 0} (edit : T → Edit) (xs : List T) where
  -- some of the edits are made; those that are left are free, and make the whole
  abbrev pub IsLeft : ℕ → Content → Content → Type 0
  IsLeft at c d = (AreFree (map edit xs) c → AreFree (map edit (drop at xs)) d) × (edited_all (map edit (drop at xs)) d ≡ edited_all (map edit xs) c)

  next : (at : ℕ) (x other : T) → at < length xs → x ≡ get_or xs at other → drop at xs ≡ x ∷ drop (at + 1) xs
  next at x other low is = drop-cons xs at other low ∙ ap (λ y. y ∷ drop (suc at) xs) (sym is) ∙ ap (λ k. x ∷ drop k xs) (sym (add-one at))

  pub left_step : (old mid new : State) (at : ℕ) (x other : T) → at < length xs → x ≡ get_or xs at other → Acts old mid done (AreFree (map edit xs)) (λ c d _. IsLeft at c d)
      → Plays (edit x) mid new done → Acts old new done (AreFree (map edit xs)) (λ c d _. IsLeft (at + 1) c d)
  left_step old mid new at x other low is one two =
      let here = next at x other low is in
      acts_then old mid new none (AreFree (map edit xs)) (IsFree (edit x)) (AreFree (map edit xs)) _ _ (λ c d _. IsLeft (at + 1) c d) done
      (λ c all. all) (λ c d p all. (subst (λ ys. AreFree (map edit ys) d) here (p.0 all)).0)
      (λ c d e _ p q. (
        (λ all. subst (AreFree (map edit (drop (at + 1) xs))) (sym q) (subst (λ ys. AreFree (map edit ys) d) here (p.0 all)).1),
        ap (edited_all (map edit (drop (at + 1) xs))) q ∙ sym (ap (λ ys. edited_all (map edit ys) d) here) ∙ p.1,
      )) one two

  pub left_stop : (old mid new : State) (at : ℕ) (x other : T) (fault : StoreFault) → at < length xs → x ≡ get_or xs at other → Acts old mid done (AreFree (map edit xs)) (λ c d _. IsLeft at c d)
      → Plays (edit x) mid new (failed fault) → PlaysAll (map edit xs) old new (failed fault)
  left_stop old mid new at x other fault low is one two =
      let here = next at x other low is in
      acts_stop old new fault (AreFree (map edit xs)) (AreFree (map edit xs)) (λ c d _. ⊤) _ (λ c all. all)
      (acts_then old mid new none (AreFree (map edit xs)) (IsFree (edit x)) (AreFree (map edit xs)) _ _ (λ c d _. ⊤) (failed fault)
      (λ c all. all) (λ c d p all. (subst (λ ys. AreFree (map edit ys) d) here (p.0 all)).0) (λ c d e _ p q. tt) one two)

-- each edit is made
pub left_end : {T : Type 0} (edit : T → Edit) (xs : List T) (old new : State) (at : ℕ) → length xs ≤ at → Acts old new done (AreFree (map edit xs)) (λ c d _. IsLeft edit xs at c d) → PlaysAll (map edit xs) old new done
left_end edit xs old new at past all =
    acts_weaker old new done (AreFree (map edit xs)) (AreFree (map edit xs)) (λ c d _. IsLeft edit xs at c d) (λ c d _. d ≡ edited_all (map edit xs) c) (λ c g. g)
    (λ c d _ p. sym (ap (λ ys. edited_all (map edit ys) d) (drop_of_length-le xs past)) ∙ p.1) all

map_same : {X : Type 0} (xs : List X) → map (λ x. x) xs ≡ xs
map_same [] = refl
map_same (x ∷ xs) = ap (λ ys. x ∷ ys) (map_same xs)

-- of a list of edits
pub edits_end : (es : List Edit) (old new : State) (at : ℕ) → length es ≤ at → Acts old new done (AreFree (map (λ (e : Edit). e) es)) (λ c d _. IsLeft (λ (e : Edit). e) es at c d) → PlaysAll es old new done
edits_end es old new at past all = subst (λ ds. PlaysAll ds old new done) (map_same es) (left_end (λ (e : Edit). e) es old new at past all)

pub edits_stop : (es : List Edit) (old new : State) (fault : StoreFault) → PlaysAll (map (λ (e : Edit). e) es) old new (failed fault) → PlaysAll es old new (failed fault)
edits_stop es old new fault all = subst (λ ds. PlaysAll ds old new (failed fault)) (map_same es) all

-- ---- a loop that makes several edits for each item

free_parts : (xs ys : List Edit) (c : Content) → AreFree (xs ++ ys) c → AreFree xs c × AreFree ys (edited_all xs c)
free_parts [] ys c all = (tt, all)
free_parts (x ∷ xs) ys c all = let more = free_parts xs ys (edited x c) all.1 in ((all.0, more.0), more.1)

module _ {T : Type 0} (edits : T → List Edit) (xs : List T) where
  -- the edits of some items are made; those that are left are free, and make the whole
  abbrev pub AreLeft : ℕ → Content → Content → Type 0
  AreLeft at c d = (AreFree (flat_map edits xs) c → AreFree (flat_map edits (drop at xs)) d) × (edited_all (flat_map edits (drop at xs)) d ≡ edited_all (flat_map edits xs) c)

  here : (at : ℕ) (x other : T) → at < length xs → x ≡ get_or xs at other → flat_map edits (drop at xs) ≡ edits x ++ flat_map edits (drop (at + 1) xs)
  here at x other low is =
      ap (flat_map edits) (drop-cons xs at other low) ∙ ap (λ y. edits y ++ flat_map edits (drop (suc at) xs)) (sym is) ∙ ap (λ k. edits x ++ flat_map edits (drop k xs)) (sym (add-one at))

  parts : (at : ℕ) (x other : T) → at < length xs → x ≡ get_or xs at other → (c d : Content) → AreLeft at c d → AreFree (flat_map edits xs) c
      → AreFree (edits x) d × AreFree (flat_map edits (drop (at + 1) xs)) (edited_all (edits x) d)
  parts at x other low is c d p all = free_parts (edits x) (flat_map edits (drop (at + 1) xs)) d (subst (λ ys. AreFree ys d) (here at x other low is) (p.0 all))

  pub lists_step : (old mid new : State) (at : ℕ) (x other : T) → at < length xs → x ≡ get_or xs at other → Acts old mid done (AreFree (flat_map edits xs)) (λ c d _. AreLeft at c d)
      → PlaysAll (edits x) mid new done → Acts old new done (AreFree (flat_map edits xs)) (λ c d _. AreLeft (at + 1) c d)
  lists_step old mid new at x other low is one two =
      acts_then old mid new none (AreFree (flat_map edits xs)) (AreFree (edits x)) (AreFree (flat_map edits xs)) _ _ (λ c d _. AreLeft (at + 1) c d) done
      (λ c all. all) (λ c d p all. (parts at x other low is c d p all).0)
      (λ c d e _ p q. (
        (λ all. subst (AreFree (flat_map edits (drop (at + 1) xs))) (sym q) (parts at x other low is c d p all).1),
        ap (edited_all (flat_map edits (drop (at + 1) xs))) q ∙ sym (edited_all-append (edits x) (flat_map edits (drop (at + 1) xs)) d)
            ∙ sym (ap (λ ys. edited_all ys d) (here at x other low is)) ∙ p.1,
      )) one two

  pub lists_stop : (old mid new : State) (at : ℕ) (x other : T) (fault : StoreFault) → at < length xs → x ≡ get_or xs at other → Acts old mid done (AreFree (flat_map edits xs)) (λ c d _. AreLeft at c d)
      → PlaysAll (edits x) mid new (failed fault) → PlaysAll (flat_map edits xs) old new (failed fault)
  lists_stop old mid new at x other fault low is one two =
      acts_stop old new fault (AreFree (flat_map edits xs)) (AreFree (flat_map edits xs)) (λ c d _. ⊤) _ (λ c all. all)
      (acts_then old mid new none (AreFree (flat_map edits xs)) (AreFree (edits x)) (AreFree (flat_map edits xs)) _ _ (λ c d _. ⊤) (failed fault)
      (λ c all. all) (λ c d p all. (parts at x other low is c d p all).0) (λ c d e _ p q. tt) one two)

  pub lists_end : (old new : State) (at : ℕ) → length xs ≤ at → Acts old new done (AreFree (flat_map edits xs)) (λ c d _. AreLeft at c d) → PlaysAll (flat_map edits xs) old new done
  lists_end old new at past all =
      acts_weaker old new done (AreFree (flat_map edits xs)) (AreFree (flat_map edits xs)) (λ c d _. AreLeft at c d) (λ c d _. d ≡ edited_all (flat_map edits xs) c) (λ c g. g)
      (λ c d _ p. sym (ap (λ ys. edited_all (flat_map edits ys) d) (drop_of_length-le xs past)) ∙ p.1) all

-- ---- the last call found the store open, and so did the first

pub serves_last : {A B : Type 0} (old mid new : State) (a : A) (r : Result B StoreFault) (F G : Content → Type 0) (P : Content → Content → A → Type 0) (Q : Content → Content → B → Type 0)
    → Acts old mid (Ok a) F P → Acts mid new r G Q → Serves mid new r → Serves old new r
serves_last old mid new a (Ok b) F G P Q one two serves clean inside =
    let early : HasCleanDisk mid = omega (arith, two.survives.clean, clean) in
    (one.keeps early inside).was_open (serves clean (one.ok early inside).inside)
serves_last old mid new a (Err e) F G P Q one two serves clean inside = tt
