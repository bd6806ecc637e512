-- A text that is cut into parts has no fault just where it has those parts.

use Rattle.std.proofs.Common.{◌≡◌, ℕ, ◌+◌, ◌==◌, List, ◌++◌, length, refl, sym, ap, ◌∙◌, arith, Bool, true, false, not, cond, inl}
use Rattle.std.proofs.Common.{inr, nat_lt, length-append}
use Rattle.std.specs.Prelude.{Option, Some, None, is_some, position}
use Rattle.std.specs.Bool.{then_some}
use Rattle.std.specs.Option.{option_map, option_or}
use Rattle.std.proofs.lemmas.Bool.{cases_Bool, ltb-false, eqb-false, le-ltb, ne_eqb}
use Rattle.debver.specs.Characters.{is_digit}
use Rattle.debver.specs.Parts.{Version, IsPart, IsEpoch, IsRevision, IsCut, HasParts, written, epoch_text, revision_text}
use Rattle.debver.specs.Parts.{in_revision}
use Rattle.debver.specs.Faults.{wrong_place, has_bad_epoch, upstream_start, upstream_fault, revision_fault, revision_fault_at}
use Rattle.debver.specs.Faults.{fault}
use Rattle.debver.specs.declared.fault.VersionFault.{VersionFault}
use Rattle.debver.specs.declared.fault.VersionFault.TheVariants.{BadUpstream, BadRevision}
use Rattle.debver.proofs.Places.{all_right, right_all}

is_right : (p : ℕ → Bool) (s : List ℕ) → wrong_place p s ≡ None → IsPart p s
is_right p s h =
    let first = position (λ c. not (p c)) s in
    elim (cases_Bool (length s == 0)) [
      | inl e ↦ let z = sym (ap (λ b. cond b (Some 0) first) e) ∙ h in absurd (cc)
      | inr e ↦
          let none = sym (ap (λ b. cond b (Some 0) first) e) ∙ h in
          let some = eqb-false (length s) 0 e in
          (omega arith, all_right p s none)
    ]

no_wrong_place : (p : ℕ → Bool) (s : List ℕ) → IsPart p s → wrong_place p s ≡ None
no_wrong_place p s h =
    let some : (length s == 0) ≡ false = ne_eqb (length s) 0 (omega (arith, h.0)) in
    ap (λ b. cond b (Some 0) (position (λ c. not (p c)) s)) some ∙ right_all p s h.1

epoch_is : (e : Option (List ℕ)) → has_bad_epoch e ≡ false → IsEpoch e
epoch_is None h = tt
epoch_is (Some e) h = is_right is_digit e (none (wrong_place is_digit e) h)
  where
    none : (o : Option ℕ) → is_some o ≡ false → o ≡ None
    none None z = refl
    none (Some x) z = absurd (cc)

no_bad_epoch : (e : Option (List ℕ)) → IsEpoch e → has_bad_epoch e ≡ false
no_bad_epoch None h = refl
no_bad_epoch (Some e) h = ap (λ (o : Option ℕ). is_some o) (no_wrong_place is_digit e h)

pub unmapped : {F : Type 0} (f : ℕ → F) (o : Option ℕ) → option_map f o ≡ None → o ≡ None
unmapped f None h = refl
unmapped f (Some x) h = absurd (cc)

revision_is : (start : ℕ) (r : Option (List ℕ)) → revision_fault_at start r ≡ None → IsRevision r
revision_is start None h = tt
revision_is start (Some r) h = is_right in_revision r (unmapped (λ i. BadRevision (start + i)) (wrong_place in_revision r) h)

no_revision_fault : (start : ℕ) (r : Option (List ℕ)) → IsRevision r → revision_fault_at start r ≡ None
no_revision_fault start None h = refl
no_revision_fault start (Some r) h = ap (option_map (λ i. BadRevision (start + i))) (no_wrong_place in_revision r h)

neither : (a b : Option VersionFault) → option_or a b ≡ None → (a ≡ None) × (b ≡ None)
neither None b h = (refl, h)
neither (Some f) b h = absurd (cc)

untested : (b : Bool) (f : VersionFault) → then_some b f ≡ None → b ≡ false
untested true f h = absurd (cc)
untested false f h = refl

pub faultless : (t : List ℕ) (v : Version) → IsCut t v → fault v ≡ None → HasParts t v
faultless t v cut h =
    let a = neither _ _ h in
    let b = neither _ _ a.1 in
    let c = neither _ _ b.1 in
    let d = neither _ _ c.1 in
    let short = ltb-false 100 (length (written v)) (untested _ _ d.1) in
    record {
      cut = cut;
      epoch = epoch_is v.epoch (untested _ _ b.0);
      upstream = is_right _ _ (unmapped _ _ c.0);
      revision = revision_is _ v.revision d.0;
      short = rw (cut.whole) short;
    }

pub no_fault : (t : List ℕ) (v : Version) → HasParts t v → fault v ≡ None
no_fault t v h =
    let whole = length-append (epoch_text v.epoch) (v.upstream ++ revision_text v.revision) in
    let rest = length-append v.upstream (revision_text v.revision) in
    let some : (length (written v) == 0) ≡ false = ne_eqb (length (written v)) 0 (omega (arith, h.upstream.0)) in
    let same = ap length h.cut.whole in
    let short : nat_lt 100 (length (written v)) ≡ false = le-ltb 100 (length (written v)) (omega (arith, h.short)) in
    let up : upstream_fault v ≡ None =
    ap (option_map (λ i. BadUpstream (upstream_start v + i))) (no_wrong_place _ _ h.upstream) in
    let rev : revision_fault v ≡ None = no_revision_fault _ v.revision h.revision in
    rw (some, no_bad_epoch v.epoch h.epoch, up, rev, short) refl
