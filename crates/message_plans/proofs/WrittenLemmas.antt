-- What is written of a change leaves the desk that the change leaves.
use Rattle.std.proofs.Common.{◌≡◌, ℕ, Bool, true, false, cond, ◌||◌, List, [], ◌∷◌, Option, Some, None, sym, refl, ap, ◌∙◌, subst}
use Rattle.std.specs.Prelude.{◌==◌, nat_lt, length, option_map, filter}
use Rattle.std.specs.Option.{option_or}
use Rattle.std.proofs.lemmas.Bool.{false≢true, eqb-true, or_parts}
use Rattle.bug_record.specs.Sets.{has, Each}
use Rattle.bug_record.specs.Desk.{Desk, IsSound, IsMergedWith}
use Rattle.bug_record.specs.Images.{numbers_of, member_at, bug_of, bug_in, put, AreApart, HasMember, CoverSets, FitsDesk}
use Rattle.bug_record.specs.Changed.{AreChanged, Replaces}
use Rattle.bug_record.specs.declared.bug.Bug.{Bug}
use Rattle.bug_record.specs.declared.bug.Member.{Member}
use Rattle.bug_record.specs.declared.bug.SetImage.{SetImage}
use Rattle.bug_record.specs.declared.command.Change.{Change}
use Rattle.bug_images.proofs.ImageLemmas.{none_left, none_right, none_both, has-member_some, bug_in-merged}
use Rattle.bug_images.proofs.ChangedLemmas.{changed-on_desk}
use Rattle.message_plans.specs.Images.{meets}
use Rattle.message_plans.specs.Changes.{MayBeMade}
use Rattle.message_plans.specs.Written.{images_with, written}

-- a bug in no image is in none that is kept
kept-none : (keep : SetImage → Bool) (is : List SetImage) (n : ℕ) → bug_in is n ≡ None → bug_in (filter keep is) n ≡ None
kept-none keep [] n e = refl
kept-none keep (i ∷ is) n e =
    let later = kept-none keep is n (none_right (option_map (bug_of i) (member_at i.members n)) (bug_in is n) e) in
    elim (keep i) as (λ t. bug_in (cond t (i ∷ filter keep is) (filter keep is)) n ≡ None) [
      | true ↦ none_both (option_map (bug_of i) (member_at i.members n)) (bug_in (filter keep is) n)
          (none_left (option_map (bug_of i) (member_at i.members n)) (bug_in is n) e) later
      | false ↦ later
    ]

apart-kept : (keep : SetImage → Bool) (is : List SetImage) → AreApart is → AreApart (filter keep is)
apart-kept keep [] a = tt
apart-kept keep (i ∷ is) a =
    let later = apart-kept keep is a.1 in
    elim (keep i) as (λ t. AreApart (cond t (i ∷ filter keep is) (filter keep is)))
    [ true ↦ (λ n own. kept-none keep is n (a.0 n own), later) | false ↦ later ]

each-kept : (P : SetImage → Type 0) (keep : SetImage → Bool) (is : List SetImage) → Each P is → Each P (filter keep is)
each-kept P keep [] h = tt
each-kept P keep (i ∷ is) h =
    let later = each-kept P keep is h.1 in
    elim (keep i) as (λ t. Each P (cond t (i ∷ filter keep is) (filter keep is))) [ true ↦ (h.0, later) | false ↦ later ]

-- an image that is left out has none of these bugs
abbrev LeavesOut : (SetImage → Bool) → List ℕ → Type 0
LeavesOut keep numbers =
    (i : SetImage) (n : ℕ) → keep i ≡ false → has (numbers_of i.members) n ≡ true → has numbers n ≡ false

-- what holds of a bug as all images show it, and of none where it is none of these, holds of it as
-- those that are kept show it
kept-shows : (keep : SetImage → Bool) (numbers : List ℕ) → LeavesOut keep numbers → (is : List SetImage) → AreApart is → (n : ℕ)
    (P : Option Bug → Type 0) → P (bug_in is n) → (has numbers n ≡ false → P None) → P (bug_in (filter keep is) n)
kept-shows keep numbers out [] a n P p q = p
kept-shows keep numbers out (i ∷ is) a n P p q =
    elim (member_at i.members n) as (λ o. member_at i.members n ≡ o → P (option_or (option_map (bug_of i) o) (bug_in is n))
    → P (bug_in (filter keep (i ∷ is)) n)) [
      | None ↦ λ e p.
          let later = kept-shows keep numbers out is a.1 n P p q in
          elim (keep i) as (λ t. P (bug_in (cond t (i ∷ filter keep is) (filter keep is)) n)) [
            | true ↦ subst (λ o. P (option_or (option_map (bug_of i) o) (bug_in (filter keep is) n))) (sym e) later
            | false ↦ later
          ]
      | Some x ↦ λ e p. elim (keep i) as (λ t. keep i ≡ t → P (bug_in (cond t (i ∷ filter keep is) (filter keep is)) n)) [
        | true ↦ λ _. subst (λ o. P (option_or (option_map (bug_of i) o) (bug_in (filter keep is) n))) (sym e) p
        | false ↦ λ k.
            let own = has-member_some i.members n x e in
            subst P (sym (kept-none keep is n (a.0 n own))) (q (out i n k own))
      ] refl
    ] refl p

-- the desk after the change is that after what is kept of it
put-kept : (keep : SetImage → Bool) (numbers : List ℕ) → LeavesOut keep numbers → (d : Desk) (old : List SetImage) (c : Change)
    → AreApart c.images → Replaces d old c.images c.next → AreChanged (bug_in old) (bug_in c.images) numbers
    → put d (record c { images = filter keep c.images }) ≡ put d c
put-kept keep numbers out d old c apart r are =
    let same : (n : ℕ) → option_or (bug_in (filter keep c.images) n) (d.bug n) ≡ option_or (bug_in c.images n) (d.bug n)
    = λ n. kept-shows keep numbers out c.images apart n (λ o. option_or o (d.bug n) ≡ option_or (bug_in c.images n) (d.bug n))
    refl ((changed-on_desk d old c.images c.next numbers r are).others n) in
    λ j. record { bug = λ n. same n j; tree = d.tree; next = c.next }

-- a change between sound desks covers whole sets
sound-covers : (d : Desk) (c : Change) → IsSound d → IsSound (put d c) → CoverSets d c.images
sound-covers d c sound after n m b e there k none =
    elim (d.bug m) as (λ o. d.bug m ≡ o → IsMergedWith b o → ⊥) [
      | None ↦ λ p h. absurd h
      | Some f ↦ λ p h. shown f h.0 (after.agree m n f (ap (λ (o : Option Bug). option_or o (d.bug m)) none ∙ p)
          (ap (λ ns. has ns n) h.0 ∙ sound.own n b e)) (bug_in c.images n) refl
    ] refl (sound.agree n m b e k)
  where
    shown : (f : Bug) → f.merged ≡ b.merged → IsMergedWith f (option_or (bug_in c.images n) (d.bug n)) → (o : Option Bug)
        → bug_in c.images n ≡ o → ⊥
    shown f s h None q = absurd (there q)
    shown f s h (Some g) q =
        let own : IsMergedWith f (Some g) = subst (λ (o : Option Bug). IsMergedWith f (option_or o (d.bug n))) q h in
        bug_in-merged c.images n m g q (ap (λ ns. has ns m) (own.0 ∙ s) ∙ k) none

-- an image without a changed bug has none of the changed bugs
left-out : (numbers : List ℕ) → LeavesOut (λ i. meets (has numbers) i.members) numbers
left-out numbers i n k own = unmet i.members k own
  where
    unmet : (ms : List Member) → meets (has numbers) ms ≡ false → has (numbers_of ms) n ≡ true → has numbers n ≡ false
    unmet [] k own = absurd (false≢true own)
    unmet (m ∷ ms) k own =
        let parts = or_parts (has numbers m.number) (meets (has numbers) ms) k in
        elim (m.number == n) as (λ t. (m.number == n) ≡ t → (t || has (numbers_of ms) n) ≡ true → has numbers n ≡ false) [
          | true ↦ λ e _. ap (has numbers) (sym (eqb-true m.number n e)) ∙ parts.0
          | false ↦ λ e own. unmet ms parts.1 own
        ] refl own

-- what holds of all images, and of those that have a changed bug, holds of those that are written
of-written : (P : List SetImage → Type 0) (numbers : List ℕ) (c : Change) → P c.images → P (images_with numbers c.images)
    → P (written numbers c).images
of-written P numbers c all some =
    elim (nat_lt (length c.images) 2) as (λ t. P (cond t c.images (images_with numbers c.images))) [ true ↦ all | false ↦ some ]

pub apart-written : (numbers : List ℕ) (c : Change) → AreApart c.images → AreApart (written numbers c).images
apart-written numbers c a =
    of-written AreApart numbers c a (apart-kept (λ i. meets (has numbers) i.members) c.images a)

pub members-written : (numbers : List ℕ) (c : Change) → Each HasMember c.images → Each HasMember (written numbers c).images
members-written numbers c h =
    of-written (Each HasMember) numbers c h (each-kept HasMember (λ i. meets (has numbers) i.members) c.images h)

pub put-written : (d : Desk) (old : List SetImage) (next : ℕ) (numbers : List ℕ) (c : Change) → AreApart c.images
    → MayBeMade d old next c → AreChanged (bug_in old) (bug_in c.images) numbers → put d (written numbers c) ≡ put d c
put-written d old next numbers c a p are =
    of-written (λ (is : List SetImage). put d (record c { images = is }) ≡ put d c) numbers c refl
    (put-kept (λ i. meets (has numbers) i.members) numbers (left-out numbers) d old c a p.replaces are)

pub fits-written : (d : Desk) (old : List SetImage) (next : ℕ) (numbers : List ℕ) (c : Change) → AreApart c.images
    → MayBeMade d old next c → AreChanged (bug_in old) (bug_in c.images) numbers → FitsDesk d (written numbers c)
fits-written d old next numbers c a p are =
    let sound = subst IsSound (sym (put-written d old next numbers c a p are)) p.fits.sound in
    record { whole = sound-covers d (written numbers c) p.replaces.sound sound; sound = sound }
