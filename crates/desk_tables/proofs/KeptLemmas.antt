-- What a question and a change leave of what is remembered.
use Rattle.desk_tables.proofs.Imports.{HasTree, IsKnownIn, IsPlaceIn, Answers, state_of, content_shown, HasKeptTables, content_seen, desk_seen, IsKept, AreKnown, AreRemembered, IsNextIn, Remembered, IsDesk, HasContent, AreTablesOf, StillShows, IsAsked, IsChanged}
use Rattle.table_schema.proofs.Exports.{◌≡◌, inl, inr, ℕ, List, [], ◌∷◌, Option, None, Some, is_some, false, true, true≢false, Result, Ok, Err, OnOk, IfOk, IfErr, IfSome, IsTrue, arith, refl, sym, ap, subst, ◌∙◌, length, Held, state, HasCleanDisk, Survives, Ancestry, HasMember, IsSetOf, Change, StoreFault, IsFaultOf, FitsContent, all_stay, changed, cleared_for, Content, IsKeptContent, desk_in, change_kept, put_nodes, no_nodes, seen}
use Rattle.sqlite_trees.specs.declared.store.Store as store
use Rattle.bug_record.specs.Desk.{Desk}
use Rattle.bug_record.specs.declared.bug.SetImage.{SetImage}
use Rattle.bug_record.specs.Images.{numbers_of, image_with}
use Rattle.bug_record.specs.Sets.{has}
use Rattle.store_keys.specs.Keys.{key_of, has_bug, IsKeyed, image_at_key, set_after}
use Rattle.store_keys.proofs.ImageLemmas.{both_steps}
use Rattle.store_keys.proofs.KeyLemmas.{image-of_key}
use Rattle.table_content.proofs.ChangeLemmas.{images_are}
use Rattle.table_content.specs.View.{image}
use Rattle.table_reads.specs.Asked.{IsAskedFor}
use Rattle.store_contract.specs.Store.{IsImageOf}
use Rattle.table_reads.specs.Known.{IsPartOf, IsLearnt}
use Rattle.std.proofs.Common.{cond, Bool}
use Rattle.std.proofs.lemmas.Bool.{eqb-true}
use Rattle.std.proofs.lemmas.Option.{same_Some, none-some}
use Rattle.std.specs.Option.{option_and_then}
use Rattle.std.specs.Prelude.{◌==◌}
use Rattle.table_reads.specs.declared.images.FoundSet.{FoundSet}
use Rattle.desk_tables.specs.declared.desk.TableDesk.{TableDesk}
use Rattle.table_opening.proofs.StillLemmas.{shows_now}

-- what a connection shows is what its tables say
pub content_is : {S : Type 0} (g : store.Ghosts S) (h : Held S) → content_seen g h ≡ seen (state g h)
unfolding content_seen
content_is g h = refl

-- what is shown of a desk as it is noted anew
pub noted_kept : {S : Type 0} (g : store.Ghosts S) (last conn : Held S) (family : Option Ancestry) (known : Remembered) (c : Content) → last ≡ conn → content_seen g last ≡ c → HasContent c (state g conn) → IsKeptContent c
    → IfSome family (λ t. t ≡ c.nodes) → AreRemembered known c → IsKept g last family known
noted_kept g last conn family known c is says shows kept tree knows =
    subst (λ k. HasContent k (state g conn) → IsKeptContent k → IfSome family (λ t. t ≡ k.nodes) → AreRemembered known k → IsKept g last family known) says
    (λ shows kept tree knows. record { shown = subst (λ h. HasContent (content_seen g last) (state g h)) (sym is) shows; content = kept; tree = tree; known = knows })
    shows kept tree knows

-- ---- a question

-- what is answered, with the desk as it was
answers : {A : Type 0} (d : Desk) (r : Result A StoreFault) (P : A → Type 0) → IfOk r P → Answers d d r P
answers d (Ok a) P p = (p, refl)
answers d (Err fault) P p = refl

-- an answer of which P holds
pub answered : {A : Type 0} (old new : Desk) (r : Result A StoreFault) (P : A → Type 0) → Answers old new r P → IfOk r P
answered old new (Ok a) P h = h.0
answered old new (Err fault) P h = tt

module _ {S A : Type 0} (g : store.Ghosts S) (last old new : Held S) (family : Option Ancestry) (known : Remembered) (r : Result A StoreFault) (Fits : Content → Type 0) (P : Content → A → Type 0) where
  abbrev c : Content
  c = content_seen g last

  -- the desk stays, and what is answered is right of it
  pub record IsNoted : Type 0 where
    pub honest : HasCleanDisk (state g new) → HasCleanDisk (state g old)
    pub fact : IsKept g last family known → HasCleanDisk (state g new) → Answers (desk_seen g last) (desk_seen g last) r (P c)
    pub cause : IsKept g last family known → HasCleanDisk (state g new) → IfErr r (IsFaultOf (state g old) (state g new))

  pub noted : IsAsked (state g old) (state g new) r Fits P → StillShows (state g last) (state g old) → (IsKept g last family known → HasCleanDisk (state g old) → Fits c) → IsNoted
  noted asked stays fits = record {
    honest = early;
    fact = λ was clean. answers (desk_seen g last) r (P c) (asked.ok c clean (now was) (fits was (early clean)));
    cause = λ was clean. asked.cause c clean (now was) (fits was (early clean));
  }
    where
      now : IsKept g last family known → HasContent c (state g old)
      now was = shows_now (state g last) (state g old) c (stays c was.shown) was.shown

      early : HasCleanDisk (state g new) → HasCleanDisk (state g old)
      early clean = omega (arith, asked.survives.clean, clean)

-- ---- a change

abbrev pub made : Result (Unit {0}) StoreFault
made = Ok tt

abbrev pub refused : StoreFault → Result (Unit {0}) StoreFault
refused fault = Err fault

module _ {S : Type 0} (g : store.Ghosts S) (last old new : Held S) (family : Option Ancestry) (known : Remembered) (Fits : Content → Type 0) (after : Content → Content)
    (stays : StillShows (state g last) (state g old)) (fits : IsKept g last family known → HasCleanDisk (state g old) → Fits (content_seen g last)) where
  abbrev WasKept : Type 0
  WasKept = IsKept g last family known

  now : WasKept → HasContent (content_seen g last) (state g old)
  now was = shows_now (state g last) (state g old) (content_seen g last) (stays (content_seen g last) was.shown) was.shown

  pub crashed : (r : Result (Unit {0}) StoreFault) → IsChanged (state g old) (state g new) r Fits after → (HasCleanDisk (state g new) → WasKept)
      → Survives (state g old) (state g new) (AreTablesOf (after (content_seen g last)))
  crashed r changes was = changes.crash (content_seen g last) (λ clean. let w = was clean in (now w, fits w (changes.honest clean)))

  -- it was not made
  pub caused : (fault : StoreFault) → IsChanged (state g old) (state g new) (refused fault) Fits after → WasKept → HasCleanDisk (state g new) → IsFaultOf (state g old) (state g new) fault
  caused fault changes was clean = changes.cause (content_seen g last) clean (now was) (fits was (changes.honest clean))

  -- it was made, and after it the connection was noted anew
  pub record IsTaken (last' : Held S) (known' : Remembered) : Type 0 where
    pub kept : WasKept → HasCleanDisk (state g new) → IsKept g last' family known'
    pub says : WasKept → HasCleanDisk (state g new) → content_seen g last' ≡ after (content_seen g last)
    pub serves : WasKept → HasCleanDisk (state g new) → IsTrue (state g new).is_open

  pub taken : (last' : Held S) (known' : Remembered) → IsChanged (state g old) (state g new) made Fits after → last' ≡ new
      → (WasKept → HasCleanDisk (state g old) → IsKeptContent (after (content_seen g last)) × ((after (content_seen g last)).nodes ≡ (content_seen g last).nodes))
      → (WasKept → HasCleanDisk (state g old) → AreRemembered known' (after (content_seen g last))) → IsTaken last' known'
  taken last' known' changes is good knows = record {
    kept = λ was clean.
        let it = good was (changes.honest clean) in
        let d = done was clean in
        noted_kept g last' new family known' (after (content_seen g last)) is (says was clean) (λ _ o. (d.1, d.2)) it.0 (subst (λ n. IfSome family (λ t. t ≡ n)) (sym it.1) was.tree)
        (knows was (changes.honest clean));
    says = says;
    serves = λ was clean. (done was clean).0;
  }
    where
      done : WasKept → HasCleanDisk (state g new) → IsTrue (state g new).is_open × IsDesk (state g new) × (seen (state g new) ≡ after (content_seen g last))
      done was clean = changes.ok (content_seen g last) clean (now was) (fits was (changes.honest clean))

      says : WasKept → HasCleanDisk (state g new) → content_seen g last' ≡ after (content_seen g last)
      says was clean = ap (content_seen g) is ∙ content_is g new ∙ (done was clean).2

-- the change fits what was seen, over this tree
abbrev pub FitsOver : Option Ancestry → Change → Option SetImage → Content → Type 0
FitsOver t change before c = IsKeptContent c × FitsContent c change × HasTree t c change × IsKnownIn before c

pub change_stays : (change : Change) (c : Content) → IsKeptContent c → FitsContent c change → IsKeptContent (changed c change) × ((changed c change).nodes ≡ c.nodes)
change_stays change c kept fits = (change_kept c change kept fits, put_nodes change.images (cleared_for c change) ∙ no_nodes c change.images c)

pub fits_over : (t : Option Ancestry) (change : Change) (before : Option SetImage) (c : Content) → IsKeptContent c → FitsContent c change → HasTree t c change → IsKnownIn before c → FitsOver t change before c
fits_over t change before c kept fits tree knows = (kept, fits, tree, knows)

-- ---- what is known

-- after a change of sets
module _ (c : Content) (is : List SetImage) (known known' : ℕ → Option SetImage) where
  after_put : (after : ℕ → Option SetImage) → after ≡ set_after is (image c) → AreKnown known c → IsPartOf known' (set_after is known)
      → (k : ℕ) (i : SetImage) → known' k ≡ Some i → (after k ≡ Some i) × (key_of i ≡ k)
  after_put after are was part k i e =
      let it = cases (image_with is k) (part k i e) in
      (ap (λ (f : ℕ → Option SetImage). f k) are ∙ it.0, it.1)
    where
      given : (j : SetImage) (t : Bool) → (key_of j == k) ≡ t → cond t (Some j) None ≡ Some i → key_of i ≡ k
      given j true q w = ap key_of (sym (same_Some _ _ w)) ∙ eqb-true (key_of j) k q
      given j false q w = absurd (none-some i w)

      cases : (o : Option SetImage) → image_at_key k (known k) o ≡ Some i → (image_at_key k (image c k) o ≡ Some i) × (key_of i ≡ k)
      cases None w = was k i w
      cases (Some j) w = (w, given j (key_of j == k) refl w)

pub known_after : (change : Change) (c : Content) (known known' : ℕ → Option SetImage) → IsKeptContent c → FitsContent c change → AreKnown known c
    → IsPartOf known' (set_after change.images known) → AreKnown known' (changed c change)
known_after change c known known' kept fits was part =
    after_put c change.images known known' (image (changed c change)) (images_are c change.images kept fits.apart fits.members fits.fits.whole) was part

-- the image that is known of a bug stands under its own key
pub known_in : (key : ℕ → Option ℕ) (known : ℕ → Option SetImage) (c : Content) → AreKnown known c → (n : ℕ) (i : SetImage) → option_and_then known (key n) ≡ Some i → image c (key_of i) ≡ Some i
known_in key known c was n i e =
    let p = both_steps known (key n) i e in
    let it = was p.0 i p.2 in
    ap (image c) it.1 ∙ it.0

pub recalled_in : (key : ℕ → Option ℕ) (known : ℕ → Option SetImage) (c : Content) → AreKnown known c → (o : Option SetImage)
    → IfSome o (λ i. (n : ℕ) × (option_and_then known (key n) ≡ Some i)) → IsKnownIn o c
recalled_in key known c was None is = tt
recalled_in key known c was (Some i) is = known_in key known c was is.0 i is.1

-- of nothing that is remembered nothing is said
pub none_known : (known : Remembered) (c : Content) → ((k : ℕ) → known.sets k ≡ None) → known.place ≡ None → known.next ≡ None → AreRemembered known c
none_known known c none nowhere unread = record {
  sets = λ k i e. absurd (none-some i (sym (none k) ∙ e));
  place = subst (λ p. IsPlaceIn p c) (sym nowhere) tt;
  next = subst (λ n. IsNextIn n c) (sym unread) tt;
}

-- a set that was found is learnt
pub known_learnt : (known known' : ℕ → Option SetImage) (c : Content) (found : FoundSet) → image c found.key ≡ Some found.image → AreKnown known c → IsLearnt found.key found.image known known' → AreKnown known' c
known_learnt known known' c found here was learnt k j e = elim (learnt k j e) [
  | inl before ↦ was k j before
  | inr this ↦ (
    subst (λ (x : SetImage). image c k ≡ Some x) this.2 (subst (λ n. image c n ≡ Some found.image) this.0 here),
    ap key_of (sym this.2) ∙ this.1,
  )
]

-- what was known of less is known of it
pub known_less : (known known' : ℕ → Option SetImage) (c : Content) → IsPartOf known known' → AreKnown known' c → AreKnown known c
known_less known known' c part was k i e = was k i (part k i e)

-- the image that is known of a bug is that of its set
pub known_image : (key : ℕ → Option ℕ) (known : ℕ → Option SetImage) → IsKeyed key known → (c : Content) → IsKeptContent c → AreKnown known c → (n : ℕ) (i : SetImage)
    → option_and_then known (key n) ≡ Some i → IsImageOf (desk_in c) n (Some i)
known_image key known keyed c kept was n i e =
    let p = both_steps known (key n) i e in
    let here = (was p.0 i p.2).0 in
    let own : has (numbers_of i.members) n ≡ true = sym (ap (λ o. has_bug o n) p.2) ∙ keyed.found n p.0 p.1 in
    image-of_key c.key (image c) kept.keyed c.nodes c.next kept.sound n p.0 i (kept.keyed.known n p.0 i here own) here

-- ---- the tree

-- of no tree nothing is asked
pub no_tree : (family : Option Ancestry) (P : Ancestry → Type 0) → is_some family ≡ false → IfSome family P
no_tree None P none = tt
no_tree (Some t) P none = absurd (true≢false none)

-- a set of the desk, in its tree
pub is_asked : (t : Ancestry) (i : SetImage) (c : Content) → IsKeptContent c → HasMember i → IsSetOf (desk_in c) i → t ≡ c.nodes → IsAskedFor t i c
is_asked t i c kept some set nodes = record { image = record { kept = kept; some = some; set = set }; nodes = sym nodes }

-- the tree for a change: one that was read
pub tree_there : (family : Option Ancestry) (c : Content) (change : Change) → is_some family ≡ true → IfSome family (λ t. t ≡ c.nodes) → HasTree family c change
tree_there None c change some tree = absurd (true≢false (sym some))
tree_there (Some t) c change some tree = sym tree

-- none, where no mark changes
pub tree_spared : (family : Option Ancestry) (c : Content) (change : Change) → is_some family ≡ false → all_stay c change.images ≡ true → HasTree family c change
tree_spared None c change none stay = stay
tree_spared (Some t) c change none stay = absurd (true≢false none)

pub tree_read : (family : Option Ancestry) (c : Content) (change : Change) (r : Result (Unit {0}) StoreFault) → OnOk r (is_some family ≡ true) → IfSome family (λ t. t ≡ c.nodes) → OnOk r (HasTree family c change)
tree_read family c change (Ok done) some tree = tree_there family c change some tree
tree_read family c change (Err fault) some tree = tt

-- no image has other marks where there is none
pub none_change : (is : List SetImage) (c : Content) → length is ≡ 0 → true ≡ all_stay c is
none_change [] c none = refl
none_change (i ∷ is) c none = absurd cc

-- a desk that is kept is shown
pub kept_shows : {S : Type 0} {g : store.Ghosts S} (d : TableDesk S g) → HasKeptTables d → HasContent (content_shown d) (state_of d)
kept_shows {g = g} d kept = shows_now (state g d.last.value) (state_of d) (content_shown d) (d.stays (content_shown d) kept.shown) kept.shown
