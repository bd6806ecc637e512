-- What ends a message.
use Rattle.std.proofs.Common.{◌≡◌, ℕ, ◌<◌, ◌≤◌, ◌+◌, List, [], ◌∷◌, ◌++◌, Bool, true, false, ◌∙◌, ap, refl, arith}
use Rattle.std.specs.Prelude.{◌||◌, nat_le, if◌then◌else◌}
use Rattle.std.specs.List.{list_any}
use Rattle.std.proofs.lemmas.List.Sums.{sum_by-append}
use Rattle.std.proofs.lemmas.Bool.Decides.{nat_tests}
use Rattle.base_faults.specs.declared.store_fault.StoreFault.{StoreFault}
use Rattle.base_faults.specs.declared.store_fault.End.TheVariants.{All, Stopped, TooManyUnreadable, Store}
use Rattle.store_contract.specs.Message.{Entry, is_stop, is_unreadable, unreadable_count, end_of}

any-push : (p : Entry → Bool) (es : List Entry) (e : Entry) → list_any p (es ++ e ∷ []) ≡ (list_any p es || p e)
any-push p [] e = elim (p e) as (λ t. (t || false) ≡ t) [ true ↦ refl | false ↦ refl ]
any-push p (x ∷ es) e =
    elim (p x) as (λ t. (t || list_any p (es ++ e ∷ [])) ≡ ((t || list_any p es) || p e))
    [ true ↦ refl | false ↦ any-push p es e ]

-- the tests of a message that goes on
abbrev pub stops : List Entry → Bool
stops es = list_any (λ (e : Entry). is_stop e.1) es

end_at : (a b : Bool) → (if a then Stopped else if b then TooManyUnreadable else All) ≡ All → (a ≡ false) × (b ≡ false)
end_at true b h = absurd (cc)
end_at false true h = absurd (cc)
end_at false false h = (refl, refl)

pub open_tests : (es : List Entry) → end_of es ≡ All → (stops es ≡ false) × (nat_le 5 (unreadable_count es) ≡ false)
unfolding end_of
open_tests es h = end_at (stops es) (nat_le 5 (unreadable_count es)) h

-- fewer than five lines could not be read
pub few : (es : List Entry) → end_of es ≡ All → unreadable_count es < 5
few es h = let t = (open_tests es h).1 in grind (arith, nat_tests)

pub end_is : (a b : Bool) (es : List Entry) → stops es ≡ a → nat_le 5 (unreadable_count es) ≡ b
    → end_of es ≡ (if a then Stopped else if b then TooManyUnreadable else All)
unfolding end_of
end_is a b es p q = ap (λ (t : Bool). if t then Stopped else if nat_le 5 (unreadable_count es) then TooManyUnreadable else All) p
    ∙ ap (λ (t : Bool). if a then Stopped else if t then TooManyUnreadable else All) q

-- one outcome more
pub count-push : (es more : List Entry) (e : Entry) → more ≡ es ++ e ∷ []
    → unreadable_count more ≡ unreadable_count es + (if is_unreadable e.1 then 1 else 0)
count-push es more e m =
    ap unreadable_count m
    ∙ (sum_by-append (λ (x : Entry). if is_unreadable x.1 then 1 else 0) es (e ∷ [])
    ∙ ap (λ n. unreadable_count es + n) (omega arith))

-- at most one more
pub one_at_most : (t : Bool) → (if t then 1 else 0) ≤ 1
one_at_most true = omega arith
one_at_most false = omega arith

pub end_at_stop : (es more : List Entry) (e : Entry) → end_of es ≡ All → more ≡ es ++ e ∷ [] → is_stop e.1 ≡ true
    → end_of more ≡ Stopped
end_at_stop es more e h m s =
    let a : stops more ≡ true =
    ap stops m ∙ (any-push (λ (x : Entry). is_stop x.1) es e
    ∙ (ap (λ (t : Bool). t || is_stop e.1) (open_tests es h).0 ∙ s)) in
    end_is true (nat_le 5 (unreadable_count more)) more a refl

pub goes_past : (es more : List Entry) (e : Entry) → end_of es ≡ All → more ≡ es ++ e ∷ [] → is_stop e.1 ≡ false
    → stops more ≡ false
goes_past es more e h m s =
    ap stops m ∙ (any-push (λ (x : Entry). is_stop x.1) es e ∙ (ap (λ (t : Bool). t || is_stop e.1) (open_tests es h).0 ∙ s))

pub end_at_fifth : (es more : List Entry) (e : Entry) → end_of es ≡ All → more ≡ es ++ e ∷ [] → is_stop e.1 ≡ false
    → 5 ≤ unreadable_count more → end_of more ≡ TooManyUnreadable
end_at_fifth es more e h m s n =
    let b : nat_le 5 (unreadable_count more) ≡ true = grind (arith, nat_tests) in
    end_is false true more (goes_past es more e h m s) b

pub end_not_yet : (es more : List Entry) (e : Entry) → end_of es ≡ All → more ≡ es ++ e ∷ [] → is_stop e.1 ≡ false
    → unreadable_count more < 5 → end_of more ≡ All
end_not_yet es more e h m s n =
    let b : nat_le 5 (unreadable_count more) ≡ false = grind (arith, nat_tests) in
    end_is false false more (goes_past es more e h m s) b

no_store_end : (a b : Bool) (fault : StoreFault) (k : ℕ)
    → (if a then Stopped else if b then TooManyUnreadable else All) ≡ Store fault k → ⊥
no_store_end true b fault k h = cc
no_store_end false true fault k h = cc
no_store_end false false fault k h = cc

-- outcomes never end in a fault of the store
pub never_store : (es : List Entry) (fault : StoreFault) (k : ℕ) → end_of es ≡ Store fault k → ⊥
unfolding end_of
never_store es fault k h = no_store_end (stops es) (nat_le 5 (unreadable_count es)) fault k h

pub at_start_open : end_of [] ≡ All
unfolding end_of
at_start_open = refl
