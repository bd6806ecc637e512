-- Loops over keys, one key after another.
use Rattle.std.proofs.Common.{◌≡◌, ◌<◌, ◌+◌, ℕ, suc, zero, add-one, List, [], ◌∷◌, ◌++◌, length, get_or, drop, drop-cons, refl, sym, ap, ◌∙◌, arith}
use Rattle.bug_record.specs.Sets.{Each, with_item, with_items}
use Rattle.bug_record.specs.Images.{numbers_of}
use Rattle.table_content.specs.Content.{Content}
use Rattle.table_reads.specs.Bugs.{bugs_of}

-- the one at a place, and those after it
pub here : {T : Type 0} (xs : List T) (at : ℕ) (x other : T) → at < length xs → x ≡ get_or xs at other → drop at xs ≡ x ∷ drop (at + 1) xs
here xs at x other low is = drop-cons xs at other low ∙ ap (λ y. y ∷ drop (suc at) xs) (sym is) ∙ ap (λ k. x ∷ drop k xs) (sym (add-one at))

-- what holds of each holds there
pub each_at : {T : Type 0} (P : T → Type 0) (xs : List T) (at : ℕ) (other : T) → at < length xs → Each P xs → P (get_or xs at other)
each_at P [] at other low all = absurd (omega (arith, low))
each_at P (x ∷ xs) zero other low all = all.0
each_at P (x ∷ xs) (suc at) other low all = each_at P xs at other (omega (arith, low)) all.1

with_more : (xs ys set : List ℕ) → with_items (λ n. n) set (xs ++ ys) ≡ with_items (λ n. n) (with_items (λ n. n) set xs) ys
with_more [] ys set = refl
with_more (x ∷ xs) ys set = with_more xs ys (with_item (λ n. n) set x)

-- the bugs of one more set, and those of the sets that are left
pub one_more : (c : Content) (keys : List ℕ) (at k other : ℕ) (set next : List ℕ) → at < length keys → k ≡ get_or keys at other → next ≡ with_items (λ n. n) set (numbers_of (c.members k))
    → with_items (λ n. n) next (bugs_of c (drop (at + 1) keys)) ≡ with_items (λ n. n) set (bugs_of c (drop at keys))
one_more c keys at k other set next low is e =
    ap (λ s. with_items (λ n. n) s (bugs_of c (drop (at + 1) keys))) e
    ∙ sym (ap (λ ks. with_items (λ n. n) set (bugs_of c ks)) (here keys at k other low is) ∙ with_more (numbers_of (c.members k)) (bugs_of c (drop (at + 1) keys)) set)
