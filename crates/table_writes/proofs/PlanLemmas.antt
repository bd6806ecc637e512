-- What the edits of all images come to.
use Rattle.std.proofs.Common.{◌≡◌, ℕ, ◌+◌, ◌<◌, length, take, get_or, arith, Bool, true, false, ◌&&◌, List, [], ◌∷◌, ◌++◌, append-nil, append_assoc, refl, sym, ap, subst, ◌∙◌}
use Rattle.std.proofs.lemmas.Grind.{common_steps}
use Rattle.version_nodes.specs.Trees.{Ancestry}
use Rattle.bug_record.specs.declared.bug.SetImage.{SetImage}
use Rattle.bug_record.specs.declared.command.Change.{Change}
use Rattle.table_content.specs.Content.{Content}
use Rattle.table_content.specs.Changes.{keeps_marks, all_stay, without_images, with_images, cleared_for, FitsContent}
use Rattle.table_content.specs.Edits.{edited_all}
use Rattle.table_content.specs.Free.{AreFree}
use Rattle.table_content.specs.Images.{with_image, without_image}
use Rattle.table_content.specs.Kept.{IsKeptContent}
use Rattle.table_content.specs.declared.image_edits.RowEdits.{RowEdits}
use Rattle.table_content.proofs.ClosedLemmas.{put_nodes, no_nodes}
use Rattle.table_content.proofs.EditLemmas.{edited_all-append}
use Rattle.table_content.proofs.FreeLemmas.{free-append}
use Rattle.table_content.proofs.ReadyLemmas.{good, ready}
use Rattle.table_writes.specs.Plans.{IsPlanOf, ArePlans, cleared_edits, put_edits}

-- one more plan
pub one_more : (before : Content) (t : Ancestry) (is : List SetImage) (plans : List RowEdits) (i : SetImage) (plan : RowEdits) → ArePlans before t is plans → IsPlanOf before t i plan
    → ArePlans before t (is ++ i ∷ []) (plans ++ plan ∷ [])
one_more before t [] [] i plan are is = (is, tt)
one_more before t [] (p ∷ plans) i plan are is = absurd are
one_more before t (j ∷ js) [] i plan are is = absurd are
one_more before t (j ∷ js) (p ∷ plans) i plan are is = (are.0, one_more before t js plans i plan are.1 is)

-- what goes of all images
pub all_cleared : (before : Content) (t : Ancestry) (is : List SetImage) (plans : List RowEdits) → ArePlans before t is plans → (c : Content)
    → edited_all (cleared_edits plans) c ≡ without_images before is c
all_cleared before t [] [] are c = refl
all_cleared before t [] (p ∷ plans) are c = absurd are
all_cleared before t (i ∷ is) [] are c = absurd are
all_cleared before t (i ∷ is) (p ∷ plans) are c =
    edited_all-append p.cleared (cleared_edits plans) c ∙ ap (edited_all (cleared_edits plans)) (are.0.cleared c) ∙ all_cleared before t is plans are.1 (without_image (keeps_marks before i) i c)

with_one_more : (xs : List SetImage) (i : SetImage) (c : Content) → with_images (xs ++ i ∷ []) c ≡ with_image i (with_images xs c)
with_one_more [] i c = refl
with_one_more (x ∷ xs) i c = with_one_more xs i (with_image x c)

module _ (c : Content) (change : Change) (kept : IsKeptContent c) (fits : FitsContent c change) where
  -- the content when an image's turn comes
  abbrev turn : List SetImage → Content
  turn xs = with_images xs (cleared_for c change)

  turn_nodes : (xs : List SetImage) → (turn xs).nodes ≡ c.nodes
  turn_nodes xs = put_nodes xs (cleared_for c change) ∙ no_nodes c change.images c

  moved : (xs : List SetImage) (i : SetImage) (ys : List SetImage) → change.images ≡ xs ++ i ∷ ys → change.images ≡ (xs ++ i ∷ []) ++ ys
  moved xs i ys are = are ∙ sym (append_assoc xs (i ∷ []) ys)

  cleared_free : (xs ys : List SetImage) (plans : List RowEdits) → change.images ≡ xs ++ ys → ArePlans c c.nodes ys plans → (d : Content) → AreFree (cleared_edits plans) d
  cleared_free xs [] [] are all d = tt
  cleared_free xs [] (p ∷ plans) are all d = absurd all
  cleared_free xs (i ∷ ys) [] are all d = absurd all
  cleared_free xs (i ∷ ys) (p ∷ plans) are all d =
      free-append p.cleared (cleared_edits plans) d (all.0.free d (good c change kept fits xs i ys are)) (cleared_free (xs ++ i ∷ []) ys plans (moved xs i ys are) all.1 (edited_all p.cleared d))

  puts : (xs ys : List SetImage) (plans : List RowEdits) → change.images ≡ xs ++ ys → ArePlans c c.nodes ys plans
      → AreFree (put_edits plans) (turn xs) × (edited_all (put_edits plans) (turn xs) ≡ turn (xs ++ ys))
  puts xs [] [] are all = (tt, ap turn (sym (append-nil xs)))
  puts xs [] (p ∷ plans) are all = absurd all
  puts xs (i ∷ ys) [] are all = absurd all
  puts xs (i ∷ ys) (p ∷ plans) are all =
      let fine = good c change kept fits xs i ys are in
      let clear = ready c change kept fits xs i ys are in
      let one : edited_all p.put (turn xs) ≡ turn (xs ++ i ∷ []) = all.0.put (turn xs) (λ _. turn_nodes xs) fine clear ∙ sym (with_one_more xs i (cleared_for c change)) in
      let more = puts (xs ++ i ∷ []) ys plans (moved xs i ys are) all.1 in (
        free-append p.put (put_edits plans) (turn xs) (all.0.put_free (turn xs) fine clear) (subst (AreFree (put_edits plans)) (sym one) more.0),
        edited_all-append p.put (put_edits plans) (turn xs) ∙ ap (edited_all (put_edits plans)) one ∙ more.1 ∙ ap turn (append_assoc xs (i ∷ []) ys),
      )

  pub first_free : (plans : List RowEdits) → ArePlans c c.nodes change.images plans → AreFree (cleared_edits plans) c
  first_free plans all = cleared_free [] change.images plans refl all c

  pub then_free : (plans : List RowEdits) → ArePlans c c.nodes change.images plans → AreFree (put_edits plans) (edited_all (cleared_edits plans) c)
  then_free plans all = subst (AreFree (put_edits plans)) (sym (all_cleared c c.nodes change.images plans all c)) (puts [] change.images plans refl all).0

  pub come_to : (plans : List RowEdits) → ArePlans c c.nodes change.images plans → edited_all (put_edits plans) (edited_all (cleared_edits plans) c) ≡ with_images change.images (cleared_for c change)
  come_to plans all = ap (edited_all (put_edits plans)) (all_cleared c c.nodes change.images plans all c) ∙ (puts [] change.images plans refl all).1

-- ---- over another tree, where no mark changes

module _ (c : Content) (t : Ancestry) where
  also_over : (i : SetImage) (plan : RowEdits) → (keeps_marks c i ≡ false → c.nodes ≡ t) → IsPlanOf c t i plan → IsPlanOf c c.nodes i plan
  also_over i plan is p = record { cleared = p.cleared; put = λ d same. p.put d (λ differs. same differs ∙ is differs); free = p.free; put_free = p.put_free }

  one_differs : (a b : Bool) → a ≡ false → (a && b) ≡ false
  one_differs a b is = rw is refl

  more_differ : (a b : Bool) → b ≡ false → (a && b) ≡ false
  more_differ true b is = is
  more_differ false b is = refl

  pub all_over : (is : List SetImage) (plans : List RowEdits) → (all_stay c is ≡ false → c.nodes ≡ t) → ArePlans c t is plans → ArePlans c c.nodes is plans
  all_over [] [] same are = tt
  all_over [] (p ∷ plans) same are = absurd are
  all_over (i ∷ is) [] same are = absurd are
  all_over (i ∷ is) (p ∷ plans) same are = (
    also_over i p (λ differs. same (one_differs (keeps_marks c i) (all_stay c is) differs)) are.0,
    all_over is plans (λ differs. same (more_differ (keeps_marks c i) (all_stay c is) differs)) are.1,
  )

-- the plans of the first images, and of one more
pub grown : (before : Content) (t : Ancestry) (is : List SetImage) (at : ℕ) (i : SetImage) (plans : List RowEdits) (plan : RowEdits) (all : List RowEdits) → at < length is → i ≡ get_or is at i → all ≡ plans ++ plan ∷ []
    → ArePlans before t (take at is) plans → IsPlanOf before t i plan → ArePlans before t (take (at + 1) is) all
grown before t is at i plans plan all low here more are one =
    let next : take (at + 1) is ≡ take at is ++ get_or is at i ∷ [] = grind (arith, common_steps) in
    rw (more, next, sym here) (one_more before t (take at is) plans i plan are one)
