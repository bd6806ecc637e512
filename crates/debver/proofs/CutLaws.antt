-- Each text is cut in just one way, that of `cut`.

use Rattle.std.proofs.Common.{◌≡◌, ℕ, List, [], ◌∷◌, ◌++◌, refl, ap, sym, subst, ◌∙◌, Bool, cond, ◌↔◌, inl, inr, append_assoc}
use Rattle.std.proofs.Common.{append-nil}
use Rattle.std.specs.Prelude.{Option, Some, None}
use Rattle.std.specs.Bool.{then_some}
use Rattle.std.specs.List.{list_any, before_first, after_first, before_last, after_last}
use Rattle.std.proofs.lemmas.Bool.{cases_Bool, eqb-true}
use Rattle.debver.specs.Characters.{is_colon, is_hyphen}
use Rattle.debver.specs.Parts.{Version, parts_of, IsCut, HasParts, PrecedesFirstColon, FollowsLastHyphen, epoch_text}
use Rattle.debver.specs.Parts.{revision_text}
use Rattle.debver.specs.Cut.{cut, IsVersion, epoch_of, rest_of, upstream_of, revision_of}
use Rattle.debver.specs.Faults.{fault, text_fault}
use Rattle.debver.specs.declared.fault.VersionFault.{VersionFault}
use Rattle.debver.proofs.Splits.{none_before_first, split_first, none_after_last, split_last}
use Rattle.debver.proofs.Cuts.{cut_from, cut_once}
use Rattle.debver.proofs.Faultless.{faultless, no_fault}

abbrev IsColonCut : List ℕ → Option (List ℕ) → List ℕ → Type 0
IsColonCut t epoch rest = (t ≡ epoch_text epoch ++ rest) × PrecedesFirstColon epoch rest

colon_cut : (t : List ℕ) → IsColonCut t (epoch_of t) (rest_of t)
colon_cut t =
    let before = before_first is_colon t in
    let after = after_first is_colon t in
    let P : Bool → Type 0 = λ b. IsColonCut t (then_some b before) (cond b after t) in
    elim (cases_Bool (list_any is_colon t)) [
      | inl e ↦
          let s = split_first is_colon t e in
          let whole = s.2 ∙ ap (λ c. before ++ c ∷ after) (eqb-true s.0 58 s.1) ∙ sym (append_assoc before (58 ∷ []) after) in
          let here : IsColonCut t (Some before) after = (whole, none_before_first is_colon t) in
          subst P (sym e) here
      | inr e ↦
          let here : IsColonCut t None t = (refl, e) in
          subst P (sym e) here
    ]

abbrev IsHyphenCut : List ℕ → List ℕ → Option (List ℕ) → Type 0
IsHyphenCut rest upstream revision = (rest ≡ upstream ++ revision_text revision) × FollowsLastHyphen upstream revision

hyphen_cut : (t : List ℕ) → IsHyphenCut t (upstream_of t) (revision_of t)
hyphen_cut t =
    let before = before_last is_hyphen t in
    let after = after_last is_hyphen t in
    let P : Bool → Type 0 = λ b. IsHyphenCut t (cond b before t) (then_some b after) in
    elim (cases_Bool (list_any is_hyphen t)) [
      | inl e ↦
          let s = split_last is_hyphen t e in
          let whole = s.2 ∙ ap (λ c. before ++ c ∷ after) (eqb-true s.0 45 s.1) in
          let here : IsHyphenCut t before (Some after) = (whole, none_after_last is_hyphen t) in
          subst P (sym e) here
      | inr e ↦
          let here : IsHyphenCut t t None = (sym (append-nil t), e) in
          subst P (sym e) here
    ]

pub cut_is : (t : List ℕ) → IsCut t (cut t)
cut_is t =
    let p = colon_cut t in
    let q = hyphen_cut (rest_of t) in
    cut_from t _ _ _ _ p.0 p.1 q.0 q.1

pub parts_are : (t : List ℕ) (v : Version) → HasParts t v → v ≡ cut t
parts_are t v h = cut_once t v (cut t) h.cut (cut_is t)

pub cut_exactly : (t : List ℕ) (v : Version) → IsCut t v ↔ (v ≡ cut t)
cut_exactly t v = (λ h. cut_once t v (cut t) h (cut_is t), λ e. subst (IsCut t) (sym e) (cut_is t))

pub version_is : (t : List ℕ) → text_fault t ≡ None → IsVersion t
version_is t h = faultless t (cut t) (cut_is t) h

pub no_version : (t : List ℕ) (f : VersionFault) → text_fault t ≡ Some f → IsVersion t → ⊥
no_version t f h is = let n = no_fault t (cut t) is in absurd (cc)

pub parts_exactly : (t : List ℕ) (v : Version) → HasParts t v ↔ ((v ≡ cut t) × (text_fault t ≡ None))
parts_exactly t v = (
  λ h. (parts_are t v h, ap fault (sym (parts_are t v h)) ∙ no_fault t v h),
  λ h. subst (HasParts t) (sym h.0) (version_is t h.1),
)

-- cut at the first colon, and then what follows at its last hyphen
pub cut_so : (t rest upstream : List ℕ) (epoch revision : Option (List ℕ)) → t ≡ epoch_text epoch ++ rest
    → PrecedesFirstColon epoch rest → rest ≡ upstream ++ revision_text revision → FollowsLastHyphen upstream revision
    → parts_of epoch upstream revision ≡ cut t
cut_so t rest upstream epoch revision a p b q = cut_once t _ (cut t) (cut_from t rest upstream epoch revision a p b q) (cut_is t)
