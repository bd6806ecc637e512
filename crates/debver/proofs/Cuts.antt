-- A text is cut at its first colon and at the last hyphen of the rest in one way.

use Rattle.std.proofs.Common.{◌≡◌, ℕ, ◌<◌, ◌==◌, List, [], ◌∷◌, ◌++◌, get_or, refl, ap, sym, ◌∙◌, Bool, true, false, ◌||◌}
use Rattle.std.proofs.Common.{append_assoc, append-nil, subst}
use Rattle.std.specs.List.{list_any}
use Rattle.std.specs.Str.{NoCharPasses}
use Rattle.std.proofs.lemmas.Str.Pattern.{NoCharPasses-char}
use Rattle.std.proofs.lemmas.List.{get_or_default}
use Rattle.std.proofs.lemmas.List.Folds.{list_any_none}
use Rattle.std.proofs.lemmas.Bool.{ne_eqb, or_parts, or_right}
use Rattle.std.specs.Prelude.{Option, Some, None}
use Rattle.debver.specs.Parts.{Version, parts_of, IsCut, PrecedesFirstColon, FollowsLastHyphen, epoch_text, revision_text}
use Rattle.debver.specs.Characters.{is_colon, is_hyphen}

-- a text with no such character has no such byte
pub none_of : (c : ℕ) (bs : List ℕ) → NoCharPasses (λ d. d == c) bs → c < 128 → list_any (λ b. b == c) bs ≡ false
none_of c bs h small =
    let is_it : ℕ → Bool = λ b. b == c in
    list_any_none is_it bs
    (λ k d l. ap is_it (get_or_default bs k d 0 l) ∙ ne_eqb (get_or bs k 0) c (NoCharPasses-char c bs k h small l))

first_once : (p : ℕ → Bool) (c : ℕ) (xs ys us vs : List ℕ) → p c ≡ true → list_any p xs ≡ false → list_any p us ≡ false
    → xs ++ c ∷ ys ≡ us ++ c ∷ vs → (xs ≡ us) × (ys ≡ vs)
first_once p c [] ys [] vs pc a b e = (refl, cc)
first_once p c [] ys (u ∷ us) vs pc a b e =
    let same : c ≡ u = cc in
    let z : p u ≡ false = (or_parts (p u) (list_any p us) b).0 in absurd (cc)
first_once p c (x ∷ xs) ys [] vs pc a b e =
    let same : x ≡ c = cc in
    let z : p x ≡ false = (or_parts (p x) (list_any p xs) a).0 in absurd (cc)
first_once p c (x ∷ xs) ys (u ∷ us) vs pc a b e =
    let same : x ≡ u = cc in
    let h = first_once p c xs ys us vs pc (or_parts (p x) (list_any p xs) a).1 (or_parts (p u) (list_any p us) b).1 (cc) in
    let f = h.0 in
    (cc, h.1)

stands : (p : ℕ → Bool) (c : ℕ) (xs ys : List ℕ) → p c ≡ true → list_any p (xs ++ c ∷ ys) ≡ true
stands p c [] ys pc = ap (λ b. b || list_any p ys) pc
stands p c (x ∷ xs) ys pc = or_right (p x) (list_any p (xs ++ c ∷ ys)) (stands p c xs ys pc)

last_once : (p : ℕ → Bool) (c : ℕ) (xs ys us vs : List ℕ) → p c ≡ true → list_any p ys ≡ false → list_any p vs ≡ false
    → xs ++ c ∷ ys ≡ us ++ c ∷ vs → (xs ≡ us) × (ys ≡ vs)
last_once p c [] ys [] vs pc a b e = (refl, cc)
last_once p c [] ys (u ∷ us) vs pc a b e =
    let same : ys ≡ us ++ c ∷ vs = cc in
    let z = ap (list_any p) same ∙ stands p c us vs pc in absurd (cc)
last_once p c (x ∷ xs) ys [] vs pc a b e =
    let same : xs ++ c ∷ ys ≡ vs = cc in
    let z = sym (ap (list_any p) same) ∙ stands p c xs ys pc in absurd (cc)
last_once p c (x ∷ xs) ys (u ∷ us) vs pc a b e =
    let same : x ≡ u = cc in
    let h = last_once p c xs ys us vs pc a b (cc) in
    let f = h.0 in
    (cc, h.1)

epochs_once : (a b : Option (List ℕ)) (s t : List ℕ) → PrecedesFirstColon a s → PrecedesFirstColon b t
    → epoch_text a ++ s ≡ epoch_text b ++ t → (a ≡ b) × (s ≡ t)
epochs_once None None s t p q e = (refl, e)
epochs_once None (Some b) s t p q e =
    let z = ap (list_any is_colon) (e ∙ append_assoc b (58 ∷ []) t) ∙ stands is_colon 58 b t refl in absurd (cc)
epochs_once (Some a) None s t p q e =
    let z = ap (list_any is_colon) (sym e ∙ append_assoc a (58 ∷ []) s) ∙ stands is_colon 58 a s refl in absurd (cc)
epochs_once (Some a) (Some b) s t p q e =
    let h = first_once is_colon 58 a s b t refl p q (sym (append_assoc a (58 ∷ []) s) ∙ e ∙ append_assoc b (58 ∷ []) t) in
    (ap (λ (x : List ℕ). Some x) h.0, h.1)

revisions_once : (s t : List ℕ) (a b : Option (List ℕ)) → FollowsLastHyphen s a → FollowsLastHyphen t b
    → s ++ revision_text a ≡ t ++ revision_text b → (s ≡ t) × (a ≡ b)
revisions_once s t None None p q e = (sym (append-nil s) ∙ e ∙ append-nil t, refl)
revisions_once s t None (Some b) p q e =
    let z = ap (list_any is_hyphen) (sym (append-nil s) ∙ e) ∙ stands is_hyphen 45 t b refl in absurd (cc)
revisions_once s t (Some a) None p q e =
    let z = ap (list_any is_hyphen) (sym (append-nil t) ∙ sym e) ∙ stands is_hyphen 45 s a refl in absurd (cc)
revisions_once s t (Some a) (Some b) p q e =
    let h = last_once is_hyphen 45 s a t b refl p q e in
    (h.0, ap (λ (x : List ℕ). Some x) h.1)

-- a text is cut in one way
pub cut_once : (t : List ℕ) (v w : Version) → IsCut t v → IsCut t w → v ≡ w
cut_once t v w c d =
    let e = epochs_once v.epoch w.epoch _ _ c.first_colon d.first_colon (sym c.whole ∙ d.whole) in
    let r = revisions_once v.upstream w.upstream v.revision w.revision c.last_hyphen d.last_hyphen e.1 in
    ap (λ a. parts_of a v.upstream v.revision) e.0 ∙ ap (λ u. parts_of w.epoch u v.revision) r.0
    ∙ ap (λ b. parts_of w.epoch w.upstream b) r.1

-- cut at the first colon, and then what follows at its last hyphen
pub cut_from : (t rest upstream : List ℕ) (epoch revision : Option (List ℕ)) → t ≡ epoch_text epoch ++ rest
    → PrecedesFirstColon epoch rest → rest ≡ upstream ++ revision_text revision → FollowsLastHyphen upstream revision
    → IsCut t (parts_of epoch upstream revision)
cut_from t rest upstream epoch revision a p b q =
    record {
      whole = a ∙ ap (λ r. epoch_text epoch ++ r) b;
      first_colon = subst (PrecedesFirstColon epoch) b p;
      last_hyphen = q;
    }
