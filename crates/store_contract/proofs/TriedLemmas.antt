-- What a crash leaves after calls that came one after another.
use Rattle.std.proofs.Common.{◌≡◌, List, Result, Ok, Err, ◌∙◌, sym, ap, subst, refl}
use Rattle.bug_record.specs.Desk.{Desk}
use Rattle.bug_record.specs.Images.{put}
use Rattle.bug_record.specs.declared.command.Change.{Change}
use Rattle.base_faults.specs.declared.store_fault.StoreFault.{StoreFault}
use Rattle.store_contract.specs.Crashes.{Holding, LeavesAfter}
use Rattle.store_contract.specs.Kept.{Keeping}
use Rattle.store_contract.specs.Store.{Holds, Asks, Answers, Applies}
use Rattle.store_contract.specs.Tried.{LeavesTried, tried_by}

-- a call after one that did what it tried
pub tried_then : {S : Type 0} (leaves : S → Holding → Holding → Type 0) (a b c : S) (k l : Keeping) (d e f tried : Desk) → l ≡ k
    → LeavesTried leaves a b k d e e → LeavesTried leaves b c l e f tried → LeavesTried leaves a c k d f tried
tried_then leaves a b c k l d e f tried same x y alone =
    subst (λ z. leaves c (f, z) (tried, z)) same (y (subst (λ z. leaves b (e, z) (e, z)) (sym same) (x alone)))

-- the same desk, said in another way
pub tried_is : {S : Type 0} (leaves : S → Holding → Holding → Type 0) (a b : S) (k : Keeping) (d e tried other : Desk)
    → tried ≡ other → LeavesTried leaves a b k d e tried → LeavesTried leaves a b k d e other
tried_is leaves a b k d e tried other same x = subst (λ z. LeavesTried leaves a b k d e z) same x

-- three things that one call says
pub holds_three : {S : Type 0} {k h : S → Type 0} {a b : S} {P Q R : Type 0} → Holds k h a b P → Holds k h a b Q → Holds k h a b R
    → Holds k h a b (P × (Q × R))
holds_three x y z = record { honest = x.honest; kept = x.kept; fact = λ u w. (x.fact u w, (y.fact u w, z.fact u w)) }

-- the desk stays at a question
answered_same : {T : Type 0} (d e : Desk) (r : Result T StoreFault) (P : T → Type 0) → Answers d e r P → e ≡ d
answered_same d e (Ok answer) P p = p.1
answered_same d e (Err fault) P p = p

-- a question, whatever is tried after it
pub asked_tried : {S T : Type 0} {k h : S → Type 0} {l : S → Holding → Holding → Type 0}
    → ((s : S) (x y : Holding) → l s x x → l s x y) → (a b : S) (kept : Keeping) (d e tried : Desk) (r : Result T StoreFault)
    (P : T → Type 0) → Asks k h l a b (Answers d e r P) → Holds k h a b (LeavesTried l a b kept d e tried)
asked_tried {l = l} either a b kept d e tried r P asks = record {
  honest = asks.holds.honest;
  kept = asks.holds.kept;
  fact = λ u w alone.
      let same = sym (answered_same d e r P (asks.holds.fact u w)) in
      either b (e, kept) (tried, kept)
      (subst (λ (z : Desk). l b (z, kept) (z, kept)) same (asks.left w (d, kept) (d, kept) alone));
}

-- no call
pub none_tried : {S : Type 0} {l : S → Holding → Holding → Type 0} → ((s : S) (x y : Holding) → l s x x → l s x y) → (a : S)
    (kept : Keeping) (d tried : Desk) → LeavesTried l a a kept d d tried
none_tried either a kept d tried alone = either a (d, kept) (tried, kept) alone

-- a change that a store was to carry out
pub applied_tried : {S T : Type 0} (l : S → Holding → Holding → Type 0) (a b : S) (kept : Keeping) (d e : Desk) (change : Change)
    (r : Result T StoreFault) → Applies d e r change → LeavesAfter l a b (put d change, kept) r
    → LeavesTried l a b kept d e (tried_by r e (put d change))
applied_tried l a b kept d e change (Ok done) is left alone = subst (λ (z : Desk). l b (z, kept) (z, kept)) (sym is) left
applied_tried l a b kept d e change (Err fault) is left alone =
    subst (λ (z : Desk). l b (z, kept) (put d change, kept)) (sym is) (left (d, kept) alone)

pub holds_both_here : {S : Type 0} {k h : S → Type 0} {a b : S} {P Q : Type 0} → Holds k h a b P → Holds k h a b Q
    → Holds k h a b (P × Q)
holds_both_here x y = record { honest = x.honest; kept = x.kept; fact = λ u w. (x.fact u w, y.fact u w) }
