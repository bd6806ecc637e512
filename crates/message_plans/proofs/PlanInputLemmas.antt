-- The open head of a bug by the image of its set.
use Rattle.std.proofs.Common.{◌≡◌, ℕ, true, false, cond, List, [], ◌∷◌, Option, Some, None, Result, Ok, Err, sym, refl, ap, ◌∙◌, subst}
use Rattle.std.specs.Prelude.{IfOk}
use Rattle.std.proofs.lemmas.Bool.{false≢true}
use Rattle.std.proofs.lemmas.Option.{none-some, same_Some}
use Rattle.version_nodes.specs.Nodes.{Node}
use Rattle.bug_record.specs.Sets.{has}
use Rattle.bug_record.specs.Desk.{Desk}
use Rattle.bug_record.specs.Heads.{open_head}
use Rattle.bug_record.specs.Images.{numbers_of, image_with, HasMember, IsSetOf, AreSetsOf}
use Rattle.bug_record.specs.Plans.{IsOpenHeadFor}
use Rattle.bug_record.specs.declared.bug.Bug.{Bug}
use Rattle.bug_record.specs.declared.bug.SetImage.{SetImage}
use Rattle.bug_record.specs.declared.command.Command.{Command}
use Rattle.bug_record.specs.declared.command.Command.TheVariants as commands
use Rattle.bug_images.proofs.ImageLemmas.{image_with-shows, image_with-none, image_with-has}
use Rattle.bug_record.specs.Commands.{bugs_named}
use Rattle.base_faults.specs.declared.store_fault.StoreFault.{StoreFault}
use Rattle.store_contract.specs.Crashes.{Holding}
use Rattle.store_contract.specs.Store.{Asks, Answers, IsOpenHead}
use Rattle.store_contract.proofs.HoldsLemmas.{holds_where, asks_then}
use Rattle.message_plans.specs.Images.{ShowBugs}

-- the image that has a bug is one of those that are sets of the desk
pub set-with : (d : Desk) (is : List SetImage) (n : ℕ) (i : SetImage) → AreSetsOf d is → image_with is n ≡ Some i → IsSetOf d i
set-with d [] n i h e = absurd (none-some i e)
set-with d (j ∷ is) n i h e =
    elim (has (numbers_of j.members) n) as (λ t. cond t (Some j) (image_with is n) ≡ Some i → IsSetOf d i)
    [ true ↦ λ e. subst (IsSetOf d) (same_Some _ _ e) h.0 | false ↦ λ e. set-with d is n i h.1 e ] e

-- it has a member
pub member-with : (is : List SetImage) (n : ℕ) (i : SetImage) → image_with is n ≡ Some i → HasMember i
member-with is n i e none =
    false≢true (ap (λ ms. has (numbers_of ms) n) (sym none) ∙ image_with-has is n i e)

-- the open head of an image is that of its bug
pub head-shown : (d : Desk) (n : ℕ) (is : List SetImage) (i : SetImage) (head : Option Node) → ShowBugs d (n ∷ []) is
    → image_with is n ≡ Some i → head ≡ open_head d.tree i.shared → IsOpenHeadFor d (commands.Archive n) head
head-shown d n is i head s e h = λ b there.
    let m = image_with-shows is n i e in
    h ∙ ap (λ (z : Bug). open_head d.tree z.shared) (same_Some _ _ (sym m.1 ∙ (s.known.0 ∙ there)))

-- where no image has the bug, there is none
pub head-none : (d : Desk) (n : ℕ) (is : List SetImage) (head : Option Node) → ShowBugs d (n ∷ []) is → image_with is n ≡ None
    → IsOpenHeadFor d (commands.Archive n) head
head-none d n is head s e = λ b there. absurd (none-some b (sym (image_with-none is n e) ∙ (s.known.0 ∙ there)))

-- what is answered of the image is answered of the command that archives its bug
pub answers-head : (d new : Desk) (command : Command ℕ) (n : ℕ) (is : List SetImage) (i : SetImage)
    (result : Result (Option Node) StoreFault) → command ≡ commands.Archive n → ShowBugs d (bugs_named command) is
    → image_with is n ≡ Some i → Answers d new result (IsOpenHead d i) → Answers d new result (IsOpenHeadFor d command)
answers-head d new command n is i (Ok head) e s w h = (
  subst (λ (z : Command ℕ). IsOpenHeadFor d z head) (sym e)
      (head-shown d n is i head (subst (λ (z : Command ℕ). ShowBugs d (bugs_named z) is) e s) w h.0),
  h.1,
)
answers-head d new command n is i (Err fault) e s w h = h

pub answers-none : (d : Desk) (command : Command ℕ) (n : ℕ) (is : List SetImage) → command ≡ commands.Archive n
    → ShowBugs d (bugs_named command) is → image_with is n ≡ None → IsOpenHeadFor d command None
answers-none d command n is e s w =
    subst (λ (z : Command ℕ). IsOpenHeadFor d z None) (sym e)
    (head-none d n is None (subst (λ (z : Command ℕ). ShowBugs d (bugs_named z) is) e s) w)

-- where more is known of a kept store as the question begins
pub asks_where : {S : Type 0} {k h : S → Type 0} {l : S → Holding → Holding → Type 0} {a b : S} {P Q : Type 0} → Asks k h l a b P
    → (k a → h a → P → Q) → Asks k h l a b Q
asks_where x f = record
    { holds = holds_where x.holds (λ u w p. f u (x.holds.honest w) p); was_kept = x.was_kept; left = x.left }

-- two questions
pub asks_both : {S : Type 0} {k h : S → Type 0} {l : S → Holding → Holding → Type 0} {a b c : S} {P Q : Type 0} → Asks k h l a b P
    → Asks k h l b c Q → Asks k h l a c (P × Q)
asks_both x y = asks_then x y (λ p q. (p, q))

-- where more is known of what is answered
pub answers_weaker : {T : Type 0} (old new : Desk) {P Q R : T → Type 0} (result : Result T StoreFault) → Answers old new result P
    → IfOk result Q → ((answer : T) → P answer → Q answer → R answer) → Answers old new result R
answers_weaker old new (Ok answer) p q f = (f answer p.0 q, p.1)
answers_weaker old new (Err fault) p q f = p

-- where the content stays
pub answers_where : {T : Type 0} (old new : Desk) {Q R : T → Type 0} (result : Result T StoreFault) → new ≡ old → IfOk result Q
    → ((answer : T) → Q answer → R answer) → Answers old new result R
answers_where old new (Ok answer) e q f = (f answer q, e)
answers_where old new (Err fault) e q f = e

-- no other command needs one
pub head-other : (d : Desk) (command : Command ℕ) (head : Option Node) → ((n : ℕ) → command ≡ commands.Archive n → ⊥)
    → IsOpenHeadFor d command head
head-other d (commands.Archive n) head h = absurd (h n refl)
head-other d _ head h = tt
