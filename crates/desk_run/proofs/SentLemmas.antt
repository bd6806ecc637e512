-- A message that goes on takes its next lines.
use Rattle.std.proofs.Common.{◌≡◌, ◌≤◌, ◌-◌, ◌+◌, ℕ, zero, suc, Bool, true, false, List, [], ◌∷◌, ◌++◌, length, map, take, drop, zip, filter, Option, Some, None}
use Rattle.std.proofs.Common.{refl, ap, sym, ◌∙◌, subst, arith}
use Rattle.std.specs.Prelude.{if◌then◌else◌}
use Rattle.std.proofs.lemmas.List.{take-append-drop, drop-append-le, length-append}
use Rattle.bug_record.specs.Desk.{Desk}
use Rattle.bug_record.specs.Sets.{Each}
use Rattle.control_lines.specs.Lines.{lines_of}
use Rattle.bug_record.specs.declared.outcome.Outcome.{Outcome}
use Rattle.base_faults.specs.declared.store_fault.End.{End}
use Rattle.base_faults.specs.declared.store_fault.End.TheVariants as ends
use Rattle.store_contract.specs.Message.{Entry, Machine, machine, after_lines, end_of}
use Rattle.store_contract.specs.Kept.{Keeping, has_outcome, outcomes_kept, outcomes_in, lines_told, told, kept_with, IsOfMessage, IsResumed, GoesOn}
use Rattle.store_contract.specs.Kept.{AreGoodKept}
use Rattle.store_contract.specs.declared.kept.Kept.{Kept}
use Rattle.desk_run.specs.Calls.{IsSent}
use Rattle.desk_run.specs.Grown.{Grown}
use Rattle.desk_run.proofs.GrownLemmas.{grows}
use Rattle.desk_run.proofs.ZipLemmas.{zip-none}

-- lines that are left have an outcome
all_told : (lines : List (List ℕ)) → Each (λ line. has_outcome line ≡ true) (lines_told lines)
all_told [] = tt
all_told (line ∷ lines) =
    elim (has_outcome line) as (λ b. has_outcome line ≡ b → Each (λ line. has_outcome line ≡ true) (if b then line ∷ lines_told lines else lines_told lines))
    [ true ↦ λ e. (e, all_told lines) | false ↦ λ e. all_told lines ] refl

dropped : (P : List ℕ → Type 0) (n : ℕ) (lines : List (List ℕ)) → Each P lines → Each P (drop n lines)
dropped P zero lines all = all
dropped P (suc n) [] all = tt
dropped P (suc n) (line ∷ lines) all = dropped P n lines all.1

-- the lines of a front that have an outcome are the first ones that do
filter-append : (p : List ℕ → Bool) (xs ys : List (List ℕ)) → filter p (xs ++ ys) ≡ filter p xs ++ filter p ys
filter-append p [] ys = refl
filter-append p (x ∷ xs) ys =
    elim (p x) as (λ b. (if b then x ∷ filter p (xs ++ ys) else filter p (xs ++ ys)) ≡ (if b then x ∷ filter p xs else filter p xs) ++ filter p ys)
    [ true ↦ ap (λ l. x ∷ l) (filter-append p xs ys) | false ↦ filter-append p xs ys ]

front_told : (j : ℕ) (lines : List (List ℕ)) → lines_told lines ≡ lines_told (take j lines) ++ lines_told (drop j lines)
front_told j lines = ap lines_told (sym (take-append-drop j lines)) ∙ filter-append has_outcome (take j lines) (drop j lines)

-- a front of a front
take-front : (xs ys : List (List ℕ)) (n : ℕ) → n ≤ length xs → take n (xs ++ ys) ≡ take n xs
take-front xs ys zero h = refl
take-front [] ys (suc n) h = absurd (omega (arith, h))
take-front (x ∷ xs) ys (suc n) h = ap (λ l. x ∷ l) (take-front xs ys n (omega (arith, h)))

length-take-own : (taken : List Entry) (xs : List (List ℕ)) → map (λ entry. entry.0) taken ≡ take (length taken) xs
    → length taken ≤ length xs
length-take-own [] xs e = omega arith
length-take-own (entry ∷ taken) [] e = absurd (cc)
length-take-own (entry ∷ taken) (x ∷ xs) e =
    let rest : map (λ entry. entry.0) taken ≡ take (length taken) xs = cc in
    let h = length-take-own taken xs rest in omega (arith, h)

-- the next lines of a front are the next lines
next_in_front : (taken : List Entry) (n j : ℕ) (lines : List (List ℕ)) → n ≤ length (lines_told (take j lines))
    → map (λ entry. entry.0) taken ≡ take (length taken) (drop n (lines_told (take j lines)))
    → map (λ entry. entry.0) taken ≡ take (length taken) (drop n (lines_told lines))
next_in_front taken n j lines few next =
    let front = lines_told (take j lines) in
    next
    ∙ sym (ap (λ l. take (length taken) (drop n l)) (front_told j lines)
    ∙ ap (take (length taken)) (drop-append-le n front (lines_told (drop j lines)) few)
    ∙ take-front (drop n front) (lines_told (drop j lines)) (length taken) (length-take-own taken (drop n front) next))

-- the parts of lines with their outcomes
parts_of : (xs : List (List ℕ)) (ys : List Outcome) → length ys ≤ length xs → outcomes_in (zip xs ys) ≡ ys
parts_of xs [] h = ap outcomes_in (zip-none xs [] refl)
parts_of [] (y ∷ ys) h = absurd (omega (arith, h))
parts_of (x ∷ xs) (y ∷ ys) h = ap (λ l. y ∷ l) (parts_of xs ys (omega (arith, h)))

lines_in : (xs : List (List ℕ)) (ys : List Outcome) → length ys ≤ length xs → map (λ entry. entry.0) (zip xs ys) ≡ take (length ys) xs
lines_in xs [] h = ap (map (λ (entry : Entry). entry.0)) (zip-none xs [] refl)
lines_in [] (y ∷ ys) h = absurd (omega (arith, h))
lines_in (x ∷ xs) (y ∷ ys) h = ap (λ l. x ∷ l) (lines_in xs ys (omega (arith, h)))

-- kept outcomes are no more than the message has lines for
pub few_kept : (id sender message : List ℕ) (kept : Keeping) → AreGoodKept kept → IsOfMessage sender message (kept id)
    → length (outcomes_kept (kept id)) ≤ length (lines_told (lines_of message))
few_kept id sender message kept good same = by (kept id) refl same
  where
    by : (o : Option Kept) → kept id ≡ o → IsOfMessage sender message o → length (outcomes_kept o) ≤ length (lines_told (lines_of message))
    by None e of = omega arith
    by (Some k) e of = subst (λ m. length k.outcomes ≤ length (lines_told (lines_of m))) of.1 (good id k e).1.few

map-append : {A B : Type 0} (f : A → B) (xs ys : List A) → map f (xs ++ ys) ≡ map f xs ++ map f ys
map-append f [] ys = refl
map-append f (x ∷ xs) ys = ap (λ l. f x ∷ l) (map-append f xs ys)

take-none : (k : ℕ) (xs : List (List ℕ)) → xs ≡ [] → take k xs ≡ []
take-none zero xs e = refl
take-none (suc k) [] e = refl
take-none (suc k) (x ∷ xs) e = absurd (cc)

-- the first so many, and then some of the others
take-more : (xs : List (List ℕ)) (n m : ℕ) → take n xs ++ take m (drop n xs) ≡ take (n + m) xs
take-more xs zero m = let e : m ≡ zero + m = omega arith in ap (λ k. take k xs) e
take-more [] (suc n) m = take-none m [] refl ∙ sym (take-none (suc n + m) [] refl)
take-more (x ∷ xs) (suc n) m =
    let e : suc (n + m) ≡ suc n + m = omega arith in
    ap (λ l. x ∷ l) (take-more xs n m) ∙ ap (λ k. take k (x ∷ xs)) e

-- a message that went on from what was kept in these lines
pub went_on : (id sender message : List ℕ) (outcomes : List Entry) (end : End) (d e : Desk) (k l : Keeping) (lines : List (List ℕ))
    → AreGoodKept k → IsOfMessage sender message (k id)
    → (g : Grown sender (machine d (told (lines_of message) (outcomes_kept (k id)))) lines (machine e outcomes))
    → map (λ entry. entry.0) g.taken ≡ take (length g.taken) (drop (length (outcomes_kept (k id))) (lines_told (lines_of message)))
    → l ≡ kept_with id sender message (outcomes_in outcomes) k
    → (end ≡ ends.All → (end_of outcomes ≡ ends.All) × (lines ≡ drop (length (outcomes_kept (k id))) (lines_told (lines_of message))))
    → IsSent id sender message outcomes end (d, k) (e, l)
went_on id sender message outcomes end d e k l lines good same g next kept all =
    let was = outcomes_kept (k id) in
    let before = told (lines_of message) was in
    let own = lines_told (lines_of message) in
    let few = few_kept id sender message k good same in
    let firsts = lines_in own was few in
    let parts : outcomes_in outcomes ≡ was ++ outcomes_in g.taken =
    ap outcomes_in g.outcomes
    ∙ map-append (λ entry. entry.1) before g.taken
    ∙ ap (λ l. l ++ outcomes_in g.taken) (parts_of own was few) in
    let both : map (λ entry. entry.0) outcomes ≡ take (length was) own ++ map (λ entry. entry.0) g.taken =
    ap (map (λ entry. entry.0)) g.outcomes
    ∙ map-append (λ entry. entry.0) before g.taken
    ∙ ap (λ l. l ++ map (λ entry. entry.0) g.taken) firsts in
    let long : length outcomes ≡ length was + length g.taken =
    ap length g.outcomes
    ∙ length-append before g.taken
    ∙ ap (λ n. n + length g.taken) (sym (length-map before) ∙ ap length firsts ∙ length-front own (length was) few) in
    record {
      taken = g.taken;
      took = record {
        same = same;
        next = next;
        machine_took = g.after ∙ ap (machine e) g.outcomes;
        kept = kept ∙ ap (λ os. kept_with id sender message os k) parts;
      };
      shown = g.outcomes;
      lines = both ∙ ap (λ l. take (length was) own ++ l) next ∙ take-more own (length was) (length g.taken)
          ∙ ap (λ n. take n own) (sym long);
      all = λ h.
          let p = all h in
          both
          ∙ ap (λ l. take (length was) own ++ l) (g.whole p.0 ∙ p.1)
          ∙ take-append-drop (length was) own;
    }
  where
    length-map : (es : List Entry) → length (map (λ (entry : Entry). entry.0) es) ≡ length es
    length-map [] = refl
    length-map (x ∷ es) = ap suc (length-map es)

    length-front : (xs : List (List ℕ)) (n : ℕ) → n ≤ length xs → length (take n xs) ≡ n
    length-front xs zero h = refl
    length-front [] (suc n) h = absurd (omega (arith, h))
    length-front (x ∷ xs) (suc n) h = ap suc (length-front xs n (omega (arith, h)))

-- from what the machine did
grown_by : (sender : List ℕ) (m : Machine) (lines : List (List ℕ)) (last : Machine)
    → Each (λ line. has_outcome line ≡ true) lines → after_lines sender m lines ≡ last → Grown sender m lines last
grown_by sender m lines last all e = subst (Grown sender m lines) e (grows sender lines all m)

-- a message that came to an end of its own
ended : (id sender message : List ℕ) (outcomes : List Entry) (end : End) (d e : Desk) (k l : Keeping) → AreGoodKept k
    → IsOfMessage sender message (k id)
    → GoesOn sender (drop (length (outcomes_kept (k id))) (lines_told (lines_of message))) d
    (told (lines_of message) (outcomes_kept (k id))) outcomes end e
    → l ≡ kept_with id sender message (outcomes_in outcomes) k → IsSent id sender message outcomes end (d, k) (e, l)
ended id sender message outcomes end d e k l good same h kept =
    let own = lines_told (lines_of message) in
    let left = drop (length (outcomes_kept (k id))) own in
    let g = grown_by sender (machine d (told (lines_of message) (outcomes_kept (k id)))) left (machine e outcomes)
    (dropped (λ line. has_outcome line ≡ true) (length (outcomes_kept (k id))) own (all_told (lines_of message))) h.after in
    went_on id sender message outcomes end d e k l left good same g g.next kept (λ is. (h.end_is ∙ is, refl))

pub resumed_sent : (id sender message : List ℕ) (outcomes : List Entry) (end : End) (d e : Desk) (k l : Keeping) → AreGoodKept k
    → IsOfMessage sender message (k id) → IsResumed sender (lines_of message) (outcomes_kept (k id)) d outcomes end e
    → l ≡ kept_with id sender message (outcomes_in outcomes) k → IsSent id sender message outcomes end (d, k) (e, l)
resumed_sent id sender message outcomes ends.All d e k l good same h kept = ended id sender message outcomes ends.All d e k l good same h kept
resumed_sent id sender message outcomes ends.Stopped d e k l good same h kept =
    ended id sender message outcomes ends.Stopped d e k l good same h kept
resumed_sent id sender message outcomes ends.TooManyUnreadable d e k l good same h kept =
    ended id sender message outcomes ends.TooManyUnreadable d e k l good same h kept
resumed_sent id sender message outcomes (ends.Store fault j) d e k l good same h kept =
    let n = length (outcomes_kept (k id)) in
    let front = lines_told (take (j - 1) (lines_of message)) in
    let g = grown_by sender (machine d (told (lines_of message) (outcomes_kept (k id)))) (drop n front) (machine e outcomes)
    (dropped (λ line. has_outcome line ≡ true) n front (all_told (take (j - 1) (lines_of message)))) h.3.after in
    went_on id sender message outcomes (ends.Store fault j) d e k l (drop n front) good same g
    (next_in_front g.taken n (j - 1) (lines_of message) h.2 g.next) kept (λ is. absurd (cc))
