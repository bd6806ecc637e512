-- The version of a hundred tildes comes first of all, and so the nodes of a package begin at it.
use Rattle.std.proofs.Common.{◌≡◌, ℕ, ◌+◌, ◌-◌, ◌≤◌, ◌==◌, ◌<◌, ◌⊎◌, zero, suc, true, false, cond, List, [], ◌∷◌, ◌++◌, length}
use Rattle.std.proofs.Common.{Bool, Some, refl, sym, ap, ◌∙◌, inl, inr, arith, append-nil}
use Rattle.std.proofs.lemmas.Bool.{cases_Bool, eqb-true}
use Rattle.std.proofs.lemmas.Bool.Decides.{nat_tests}
use Rattle.std.proofs.lemmas.List.{length-append}
use Rattle.std.specs.Cmp.{tied_itself}
use Rattle.std.specs.Cmp.Lexicographic.{slice_cmp, nat_list_cmp_total}
use Rattle.std.specs.Ordering.{nat_cmp, ordering_then, is_le}
use Rattle.std.specs.declared.cmp.Ordering.{Ordering}
use Rattle.std.specs.declared.cmp.Ordering.TheVariants.{Less}
use Rattle.debver.specs.Characters.{is_digit}
use Rattle.debver.specs.Parts.{epoch_text, revision_text}
use Rattle.debver.specs.Cut.{cut, IsVersion}
use Rattle.debver.specs.Keys.{key, key_from, weight, first_numbers, string_cmp}
use Rattle.debver.specs.Versions.{epoch_value, revision_or_zero, total_cmp}
use Rattle.debver.proofs.OrderLaws.{total_cmp_total}
use Rattle.version_nodes.specs.Nodes.{Node, node, node_cmp}
use Rattle.version_nodes.specs.Lowest.{tildes, lowest_version}

abbrev upto : ℕ → List ℕ → List ℕ → Ordering
upto n k l = slice_cmp nat_cmp (first_numbers n k) (first_numbers n l)

zero_less : (x : ℕ) → 0 < x → nat_cmp 0 x ≡ Less
zero_less x h = grind (arith, nat_tests)

-- a key that begins with a zero precedes one that does not
zero_first : (n : ℕ) (k l : List ℕ) (x : ℕ) → 0 < x → upto (suc n) (0 ∷ k) (x ∷ l) ≡ Less
zero_first n k l x h = ap (λ o. ordering_then o (upto n k l)) (zero_less x h)

weight_above : (c : ℕ) → (c == 126) ≡ false → 0 < weight c
weight_above c h = grind (arith, nat_tests)

-- tildes precede each string that is no longer, but for themselves
tildes_first : (k n : ℕ) (s : List ℕ) → k ≤ n → length s ≤ k → (upto n (key (tildes k)) (key s) ≡ Less) ⊎ (s ≡ tildes k)
tildes_first zero n [] l h = inr refl
tildes_first zero n (c ∷ s) l h = absurd (omega arith)
tildes_first (suc k) zero s l h = absurd (omega arith)
tildes_first (suc k) (suc n) [] l h = inl (zero_first n (key (tildes k)) (0 ∷ []) 1 (omega arith))
tildes_first (suc k) (suc n) (c ∷ s) l h = by_first (tildes_first k n s (omega arith) (omega arith))
  where
    longer : key (c ∷ s) ≡ weight c ∷ key s → (c == 126) ≡ false → upto (suc n) (key (tildes (suc k))) (key (c ∷ s)) ≡ Less
    longer e off =
        ap (λ x. upto (suc n) (key (tildes (suc k))) x) e
        ∙ zero_first n (key (tildes k)) (key s) (weight c) (weight_above c off)

    again : key (c ∷ s) ≡ weight c ∷ key s → c ≡ 126 → (upto n (key (tildes k)) (key s) ≡ Less) ⊎ (s ≡ tildes k)
        → (upto (suc n) (key (tildes (suc k))) (key (c ∷ s)) ≡ Less) ⊎ (c ∷ s ≡ tildes (suc k))
    again e is (inl less) = inl (ap (λ x. upto (suc n) (key (tildes (suc k))) x) (e ∙ ap (λ x. weight x ∷ key s) is) ∙ less)
    again e is (inr same) = inr (λ i. is i ∷ same i)

    by_first : (upto n (key (tildes k)) (key s) ≡ Less) ⊎ (s ≡ tildes k)
        → (upto (suc n) (key (tildes (suc k))) (key (c ∷ s)) ≡ Less) ⊎ (c ∷ s ≡ tildes (suc k))
    by_first rest =
        let step : Bool → List ℕ = λ b. cond b (1 ∷ key_from (Some (c - 48)) s) (weight c ∷ key s) in
        elim (cases_Bool (is_digit c)) [
          | inl digit ↦
              inl (ap (λ b. upto (suc n) (key (tildes (suc k))) (step b)) digit
              ∙ zero_first n (key (tildes k)) (key_from (Some (c - 48)) s) 1 (omega arith))
          | inr other ↦
              let e : key (c ∷ s) ≡ weight c ∷ key s = ap step other in
              elim (cases_Bool (c == 126)) [
                | inl tilde ↦ again e (eqb-true c 126 tilde) rest
                | inr off ↦ inl (longer e off)
              ]
        ]

-- ---- versions

-- a list with no more elements than one of its parts is that part
whole_part : (v a b c : List ℕ) → v ≡ a ++ (b ++ c) → length v ≤ length b → v ≡ b
whole_part v a b c e l =
    by_parts a c e (omega (arith, ap length e, length-append a (b ++ c), length-append b c))
    (omega (arith, ap length e, length-append a (b ++ c), length-append b c))
  where
    by_parts : (a c : List ℕ) → v ≡ a ++ (b ++ c) → length a ≡ 0 → length c ≡ 0 → v ≡ b
    by_parts [] [] e m n = e ∙ append-nil b
    by_parts [] (x ∷ c) e m n = absurd (omega arith)
    by_parts (x ∷ a) c e m n = absurd (omega arith)

part_short : (v a b c : List ℕ) → v ≡ a ++ (b ++ c) → length b ≤ length v
part_short v a b c e = omega (arith, ap length e, length-append a (b ++ c), length-append b c)

abbrev by_parts_cmp : ℕ → Ordering → Ordering → Ordering → Ordering
by_parts_cmp epoch upstream revision bytes =
    ordering_then (ordering_then (nat_cmp 0 epoch) (ordering_then upstream revision)) bytes

lower_upstream : (epoch : ℕ) (revision bytes : Ordering) → is_le (by_parts_cmp epoch Less revision bytes) ≡ true
lower_upstream zero revision bytes = refl
lower_upstream (suc epoch) revision bytes =
    ap (λ o. is_le (ordering_then (ordering_then o (ordering_then Less revision)) bytes)) (zero_less (suc epoch) (omega arith))

pub lowest_first : (v : List ℕ) → IsVersion v → is_le (total_cmp lowest_version v) ≡ true
lowest_first v version =
    let w = cut v in
    let whole = version.cut.whole in
    let short = part_short v (epoch_text w.epoch) w.upstream (revision_text w.revision) whole in
    by_upstream (tildes_first 100 (length (key lowest_version) + length (key w.upstream) + 2) w.upstream (omega arith)
    (omega (arith, short, version.short)))
  where
    by_upstream : (string_cmp lowest_version (cut v).upstream ≡ Less) ⊎ ((cut v).upstream ≡ lowest_version)
        → is_le (total_cmp lowest_version v) ≡ true
    by_upstream (inl less) =
        ap (λ o. is_le (by_parts_cmp (epoch_value (cut v)) o (string_cmp (48 ∷ []) (revision_or_zero (cut v)))
        (slice_cmp nat_cmp lowest_version v))) less
        ∙ lower_upstream (epoch_value (cut v)) (string_cmp (48 ∷ []) (revision_or_zero (cut v)))
        (slice_cmp nat_cmp lowest_version v)
    by_upstream (inr same) =
        let w = cut v in
        let is : v ≡ lowest_version = whole_part v (epoch_text w.epoch) w.upstream (revision_text w.revision) version.cut.whole
        (omega (arith, version.short, ap length same)) ∙ same in
        ap (λ z. is_le (total_cmp z v)) (sym is) ∙ ap is_le (tied_itself total_cmp_total v)

-- ---- nodes

-- a node of the package is not before the lowest
pub lowest_below : (source : List ℕ) (n : Node) → n.source ≡ source → IsVersion n.version
    → is_le (node_cmp (node source lowest_version) n) ≡ true
lowest_below source n e version =
    ap (λ s. is_le (ordering_then (slice_cmp nat_cmp source s) (total_cmp lowest_version n.version))) e
    ∙ ap (λ o. is_le (ordering_then o (total_cmp lowest_version n.version))) (tied_itself nat_list_cmp_total source)
    ∙ lowest_first n.version version
