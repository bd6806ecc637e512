-- Merging bugs: the joined image is that of the model's set, and the desk stays sound.
use Rattle.std.proofs.Common.{◌≡◌, ℕ, Bool, true, false, cond, ◌||◌, eqb, List, [], ◌∷◌, Option, Some, None, Result, Ok, Err, sym}
use Rattle.std.proofs.Common.{refl, ap, ◌∙◌, subst}
use Rattle.std.specs.Prelude.{not, option_map}
use Rattle.std.specs.List.{list_any}
use Rattle.std.specs.Option.{option_or}
use Rattle.std.proofs.lemmas.Option.{none-some}
use Rattle.std.proofs.lemmas.Bool.{false≢true, eqb-true, eq-eqb, and_parts, false_from_ne_true}
use Rattle.version_nodes.specs.Nodes.{Node, IsNode}
use Rattle.bug_record.specs.Sets.{has, IsAscending, Each}
use Rattle.base_words.specs.Texts.{IsGoodText, IfGiven}
use Rattle.bug_record.specs.Desk.{Desk, IsSound, IsGoodShared, AreGoodBlockers}
use Rattle.bug_record.specs.Bugs.{at_bug, unless, first_refusal, bugs_at, all_of}
use Rattle.bug_record.specs.Differences.{differing}
use Rattle.bug_record.specs.Words.{bug_refusal, first_bug_refusal}
use Rattle.bug_record.specs.Merges.{first_owner, joined_shared, joined_blockers, all_merged, with_merged, sets_joined}
use Rattle.debver.specs.Names.{IsName}
use Rattle.bug_record.specs.Images.{numbers_of, member_at, bug_of, bug_in, AreApart, AreSetsOf, image_with}
use Rattle.bug_record.specs.Plans.{AllKnown}
use Rattle.bug_record.specs.declared.bug.Bug.{Bug}
use Rattle.bug_record.specs.declared.bug.Shared.{Shared}
use Rattle.bug_record.specs.declared.bug.Member.{Member}
use Rattle.bug_record.specs.declared.bug.SetImage.{SetImage}
use Rattle.bug_record.specs.declared.command.Change.{Change}
use Rattle.bug_record.specs.declared.command.Field.{Field}
use Rattle.bug_record.specs.declared.command.PlanFault.TheVariants.{Refused}
use Rattle.bug_record.specs.declared.command.Refusal.{Refusal}
use Rattle.bug_record.specs.declared.command.Refusal.TheVariants.{NoBug}
use Rattle.base_sequences.proofs.SetLemmas.{IsAscending-number_set, same-ascending}
use Rattle.bug_record.proofs.MarkLemmas.{set-node_set}
use Rattle.bug_record.proofs.PackageLemmas.{names-set}
use Rattle.bug_record.proofs.TagLemmas.{set-joined_tags}
use Rattle.bug_record.proofs.MergeLemmas.{has-all_merged, has-joined_blockers, ascending-joined_blockers}
use Rattle.bug_core.specs.Others.{has_any, those_meant, others}
use Rattle.bug_core.specs.Joins.{with_members, joined_image}
use Rattle.bug_record.specs.Words.{archived_refusal}
use Rattle.bug_core.specs.Planned.{IsPlannedOf}
use Rattle.bug_core.specs.Refused.{IsRefusalOfPlan}
use Rattle.bug_images.proofs.ImageLemmas.{has-member_some, has-member_none, bug_in-merged, shown, image_with-has, image_with-shows}
use Rattle.bug_images.proofs.ImageLemmas.{image_with-none}
use Rattle.bug_fields.proofs.SoundLemmas.{agree, sound-each_bug}
use Rattle.bug_core.proofs.ReplaceLemmas.{TakesPlace, Makes, each-append}
use Rattle.bug_core.proofs.PlanLemmas.{Steps, planned-refused, planned-replaced, own-archived, own-refused}
use Rattle.bug_core.proofs.MemberLemmas.{first_member, ascending-with_members, member-with_members, meant-nowhere, meant-inside}
use Rattle.bug_core.proofs.MemberLemmas.{meant-outside}
use Rattle.bug_core.proofs.ListedLemmas.{any-from, listed-of, each-listed, bugs-known, refusal-known, bugs_refused-known}
use Rattle.bug_core.proofs.ListedLemmas.{merged-listed, merged-there}
use Rattle.bug_core.proofs.SharedLemmas.{joined-fields}

-- the joined image
abbrev pub image_joined : List SetImage → List ℕ → SetImage → SetImage
image_joined is ns i = joined_image i.shared is ns

-- the member m of it
member-joined : (is : List SetImage) (ns : List ℕ) (m : ℕ)
    → member_at (with_members [] (those_meant ns is)) m ≡ first_member (those_meant ns is) m
member-joined is ns m = member-with_members (those_meant ns is) [] m tt

shows-joined : (is : List SetImage) (ns : List ℕ) (i : SetImage) (m : ℕ) (o : Option Member)
    → first_member (those_meant ns is) m ≡ o
    → bug_in (image_joined is ns i ∷ []) m ≡ option_or (option_map (bug_of (image_joined is ns i)) o) None
shows-joined is ns i m o e =
    ap (λ (z : Option Member). option_or (option_map (bug_of (image_joined is ns i)) z) None) (member-joined is ns m ∙ e)

own-first : (n : ℕ) (ns : List ℕ) → has (n ∷ ns) n ≡ true
own-first n ns = ap (λ t. t || has ns n) (eq-eqb n n refl)

-- it stands in the place of the images that are meant
joined-takes_place : (is : List SetImage) (n : ℕ) (ns : List ℕ) (i : SetImage) → AreApart is → image_with is n ≡ Some i
    → TakesPlace is (n ∷ ns) (image_joined is (n ∷ ns) i ∷ [])
joined-takes_place is n ns i a h = record {
  inside = λ m b q k none. let x = meant-inside (n ∷ ns) is m b q k in
      none-some _ (sym none ∙ shows-joined is (n ∷ ns) i m (Some x.1) x.2);
  outside = λ m b q k. shows-joined is (n ∷ ns) i m None (meant-outside (n ∷ ns) is m b a q k);
  nowhere = λ m q. shows-joined is (n ∷ ns) i m None (meant-nowhere (n ∷ ns) is m q);
  apart = ((λ m k. refl), tt);
  members = (some, tt);
}
  where
    some : with_members [] (those_meant (n ∷ ns) is) ≡ [] → ⊥
    some e =
        let b = image_with-shows is n i h in
        let x = meant-inside (n ∷ ns) is n (bug_of i b.0) b.1
        (any-from (numbers_of i.members) (n ∷ ns) n (image_with-has is n i h) (own-first n ns)) in
        none-some x.1 (sym (ap (λ ms. member_at ms n) e) ∙ member-joined is (n ∷ ns) n ∙ x.2)

-- ---- the set of the model

-- on a sound desk a bug is in it where it is merged with one of the numbers
in-merged : (d : Desk) (ns : List ℕ) (m : ℕ) (b : Bug) → IsSound d → d.bug m ≡ Some b
    → has (all_merged (bugs_at d.bug ns)) m ≡ has_any b.merged ns
in-merged d ns m b sound e = has-all_merged (bugs_at d.bug ns) m ∙ merged-listed d ns m b sound e

-- and nothing else is
merged-bug : (d : Desk) (ns : List ℕ) (m : ℕ) → IsSound d → has (all_merged (bugs_at d.bug ns)) m ≡ true → (b : Bug)
    × (d.bug m ≡ Some b)
merged-bug d ns m sound h = merged-there d ns m sound (sym (has-all_merged (bugs_at d.bug ns) m) ∙ h)

-- the numbers of the joined members are those of the set
joined-numbers : (d : Desk) (is : List SetImage) (ns : List ℕ) → IsSound d → AreSetsOf d is → AllKnown d is ns → AreApart is
    → numbers_of (with_members [] (those_meant ns is)) ≡ all_merged (bugs_at d.bug ns)
joined-numbers d is ns sound sets known a =
    same-ascending (numbers_of (with_members [] (those_meant ns is))) (all_merged (bugs_at d.bug ns))
    (ascending-with_members (those_meant ns is) [] tt)
    (IsAscending-number_set (all_of (λ b. b.merged) (bugs_at d.bug ns))) (λ m. at m (bug_in is m) refl)
  where
    in-members : (m : ℕ) (o : Option Member) → first_member (those_meant ns is) m ≡ o → (t : Bool)
        → cond t (o ≡ None → ⊥) (o ≡ None) → has (numbers_of (with_members [] (those_meant ns is))) m ≡ t
    in-members m None e true h = absurd (h refl)
    in-members m None e false h = has-member_none (with_members [] (those_meant ns is)) m (member-joined is ns m ∙ e)
    in-members m (Some x) e true h = has-member_some (with_members [] (those_meant ns is)) m x (member-joined is ns m ∙ e)
    in-members m (Some x) e false h = absurd (none-some x (sym h))

    lacks : (m : ℕ) → bug_in is m ≡ None → has (all_merged (bugs_at d.bug ns)) m ≡ false
    lacks m q = false_from_ne_true (has (all_merged (bugs_at d.bug ns)) m) (λ h.
        let r = listed-of (λ c. has c.merged m) d.bug ns (sym (has-all_merged (bugs_at d.bug ns) m) ∙ h) in
        bug_in-merged is r.0 m r.1 (known-at ns known r.0 r.2 ∙ r.3) r.4 q)
      where
        known-at : (ks : List ℕ) → AllKnown d is ks → (k : ℕ) → has ks k ≡ true → bug_in is k ≡ d.bug k
        known-at [] f k h = absurd (false≢true h)
        known-at (l ∷ ks) f k h =
            elim (eqb l k) as (λ t. eqb l k ≡ t → (t || has ks k) ≡ true → bug_in is k ≡ d.bug k)
            [ true ↦ λ q _. subst (λ (z : ℕ). bug_in is z ≡ d.bug z) (eqb-true l k q) f.0 | false ↦ λ q h. known-at ks f.1 k h ]
            refl h

    at : (m : ℕ) (o : Option Bug) → bug_in is m ≡ o
        → has (numbers_of (with_members [] (those_meant ns is))) m ≡ has (all_merged (bugs_at d.bug ns)) m
    at m None q = in-members m (first_member (those_meant ns is) m) refl false (meant-nowhere ns is m q) ∙ sym (lacks m q)
    at m (Some b) q =
        let e : d.bug m ≡ Some b = shown d is sets m b q in
        elim (has_any b.merged ns) as (λ t. has_any b.merged ns ≡ t
        → has (numbers_of (with_members [] (those_meant ns is))) m ≡ has (all_merged (bugs_at d.bug ns)) m) [
          | true ↦ λ k.
              let x = meant-inside ns is m b q k in
              in-members m (first_member (those_meant ns is) m) refl true (λ none. none-some x.1 (sym none ∙ x.2))
              ∙ sym (in-merged d ns m b sound e ∙ k)
          | false ↦ λ k. in-members m (first_member (those_meant ns is) m) refl false (meant-outside ns is m b a q k)
              ∙ sym (in-merged d ns m b sound e ∙ k)
        ] refl

-- the change of each bug
abbrev pub bug_joined : List ℕ → Shared → ℕ → Bug → Bug
bug_joined merged shared m b =
    record b { shared = cond (has merged m) shared b.shared; merged = cond (has merged m) merged b.merged }

joined-makes : (d : Desk) (is : List SetImage) (n : ℕ) (ns : List ℕ) (i : SetImage) → IsSound d → AreSetsOf d is
    → AllKnown d is (n ∷ ns) → AreApart is → image_with is n ≡ Some i
    → Makes d is (n ∷ ns) (image_joined is (n ∷ ns) i ∷ [])
    (bug_joined (all_merged (bugs_at (bug_in is) (n ∷ ns))) (joined_shared i.shared (bugs_at (bug_in is) (n ∷ ns))))
joined-makes d is n ns i sound sets known a h = record {
  inside = λ m b q k.
      let x = meant-inside (n ∷ ns) is m b q k in
      shows-joined is (n ∷ ns) i m (Some x.1) x.2
      ∙ (λ j. Some (record {
        title = (sym x.3 j).title;
        submitter = (sym x.3 j).submitter;
        shared =
            cond (sym (inner m b q k) j) (fields j) b.shared;
        merged = cond (sym (inner m b q k) j) (numbers j) b.merged;
      }));
  elsewhere = λ m b e k. (λ j. record b {
    shared = cond (outer m b e k j) (joined_shared i.shared bugs) b.shared;
    merged =
        cond (outer m b e k j) (all_merged bugs) b.merged;
  });
}
  where
    bugs : List Bug
    bugs = bugs_at (bug_in is) (n ∷ ns)

    same : bugs ≡ bugs_at d.bug (n ∷ ns)
    same = bugs-known d is (n ∷ ns) known

    inner : (m : ℕ) (b : Bug) → bug_in is m ≡ Some b → has_any b.merged (n ∷ ns) ≡ true → has (all_merged bugs) m ≡ true
    inner m b q k = ap (λ bs. has (all_merged bs) m) same ∙ in-merged d (n ∷ ns) m b sound (shown d is sets m b q) ∙ k

    outer : (m : ℕ) (b : Bug) → d.bug m ≡ Some b → has_any b.merged (n ∷ ns) ≡ false → has (all_merged bugs) m ≡ false
    outer m b e k = ap (λ bs. has (all_merged bs) m) same ∙ in-merged d (n ∷ ns) m b sound e ∙ k

    named : (x : Member) × (bug_in is n ≡ Some (bug_of i x))
    named = image_with-shows is n i h

    good : IsGoodShared i.shared
    good = (sound.texts n (bug_of i named.0) (shown d is sets n (bug_of i named.0) named.1)).shared

    numbers : numbers_of (with_members [] (those_meant (n ∷ ns) is)) ≡ all_merged bugs
    numbers = joined-numbers d is (n ∷ ns) sound sets known a ∙ ap all_merged (sym same)

    fields : (image_joined is (n ∷ ns) i).shared ≡ joined_shared i.shared bugs
    fields = joined-fields is (n ∷ ns) n i named.0 a (own-first n ns) named.1 good.tags
        (with_members [] (those_meant (n ∷ ns) is)) numbers

-- ---- the desk stays sound

good-owner : (bugs : List Bug) → Each (λ b. IsGoodShared b.shared) bugs → IfGiven IsGoodText (first_owner bugs)
good-owner [] h = tt
good-owner (b ∷ bugs) h = cases b.shared.owner h.0.owner (good-owner bugs h.1)
  where
    cases : (o : Option (List ℕ)) → IfGiven IsGoodText o → IfGiven IsGoodText (first_owner bugs)
        → IfGiven IsGoodText (option_or o (first_owner bugs))
    cases None g r = r
    cases (Some who) g r = g

good-nodes : (f : Bug → List Node) (bugs : List Bug) → Each (λ b. Each IsNode (f b)) bugs → Each IsNode (all_of f bugs)
good-nodes f [] h = tt
good-nodes f (b ∷ bugs) h = each-append IsNode (f b) (all_of f bugs) h.0 (good-nodes f bugs h.1)

good-names : (bugs : List Bug) → Each (λ b. Each IsName b.shared.affects) bugs → Each IsName (all_of (λ b. b.shared.affects) bugs)
good-names [] h = tt
good-names (b ∷ bugs) h = each-append IsName b.shared.affects (all_of (λ b. b.shared.affects) bugs) h.0 (good-names bugs h.1)

good-joined : (d : Desk) (ns : List ℕ) (f : Shared) → IsSound d → IsGoodShared f
    → IsGoodShared (joined_shared f (bugs_at d.bug ns))
good-joined d ns f sound good = record {
  package_name = good.package_name;
  forwarded = good.forwarded;
  owner = good-owner bugs (each-listed (λ b. IsGoodShared b.shared) d.bug ns (λ k b e. (sound.texts k b e).shared));
  tags = set-joined_tags bugs;
  affects = names-set (all_of (λ b. b.shared.affects) bugs)
      (good-names bugs (each-listed (λ b. Each IsName b.shared.affects) d.bug ns (λ k b e. (sound.texts k b e).shared.affects.valid)));
  found = set-node_set (all_of (λ b. b.shared.found) bugs)
      (good-nodes (λ b. b.shared.found) bugs
      (each-listed (λ b. Each IsNode b.shared.found) d.bug ns (λ k b e. (sound.texts k b e).shared.found.valid)));
  fixed = set-node_set (all_of (λ b. b.shared.fixed) bugs)
      (good-nodes (λ b. b.shared.fixed) bugs
      (each-listed (λ b. Each IsNode b.shared.fixed) d.bug ns (λ k b e. (sound.texts k b e).shared.fixed.valid)));
}
  where
    bugs : List Bug
    bugs = bugs_at d.bug ns

-- the joined blockers are bugs of the desk, outside the joined set
good-joined_blockers : (d : Desk) (ns : List ℕ) → IsSound d
    → AreGoodBlockers d (all_merged (bugs_at d.bug ns)) (joined_blockers (bugs_at d.bug ns))
good-joined_blockers d ns sound = record {
  ascending = ascending-joined_blockers bugs;
  there = λ m h.
      let p = and_parts (list_any (λ b. has b.shared.blockers m) bugs) (not (list_any (λ b. has b.merged m) bugs))
      (sym (has-joined_blockers bugs m) ∙ h) in
      let r = listed-of (λ b. has b.shared.blockers m) d.bug ns p.0 in
      (sound.blockers r.0 r.1 r.3).there m r.4;
  outside = λ m h.
      let p = and_parts (list_any (λ b. has b.shared.blockers m) bugs) (not (list_any (λ b. has b.merged m) bugs))
      (sym (has-joined_blockers bugs m) ∙ h) in
      has-all_merged bugs m ∙ none (list_any (λ b. has b.merged m) bugs) p.1;
}
  where
    bugs : List Bug
    bugs = bugs_at d.bug ns

    none : (t : Bool) → not t ≡ true → t ≡ false
    none true h = absurd (false≢true h)
    none false h = refl

sound-joined : (d : Desk) (ns : List ℕ) (f : Shared) → IsSound d → IsGoodShared f
    → IsSound (with_merged d (all_merged (bugs_at d.bug ns)) (joined_shared f (bugs_at d.bug ns)))
sound-joined d ns f sound good = sound-each_bug d (bug_joined merged shared) sound (record {
  own = λ m b e. own m b e (has merged m) refl;
  ascending = λ m b e. ascending m b e (has merged m);
  agree = λ m k b e q. agrees m k b e (has merged m) refl q;
  texts = λ m b e. let t = sound.texts m b e in
      record { title = t.title; submitter = t.submitter; shared = fields b (has merged m) t.shared };
  blockers = λ m b e. blockers m b e (has merged m);
})
  where
    merged : List ℕ
    merged = all_merged (bugs_at d.bug ns)

    shared : Shared
    shared = joined_shared f (bugs_at d.bug ns)

    own : (m : ℕ) (b : Bug) → d.bug m ≡ Some b → (t : Bool) → has merged m ≡ t → has (cond t merged b.merged) m ≡ true
    own m b e true q = q
    own m b e false q = sound.own m b e

    ascending : (m : ℕ) (b : Bug) → d.bug m ≡ Some b → (t : Bool) → IsAscending (cond t merged b.merged)
    ascending m b e true = IsAscending-number_set (all_of (λ b. b.merged) (bugs_at d.bug ns))
    ascending m b e false = sound.ascending m b e

    blockers : (m : ℕ) (b : Bug) → d.bug m ≡ Some b → (t : Bool)
        → AreGoodBlockers d (cond t merged b.merged) (cond t shared b.shared).blockers
    blockers m b e true = good-joined_blockers d ns sound
    blockers m b e false = sound.blockers m b e

    fields : (b : Bug) (t : Bool) → IsGoodShared b.shared → IsGoodShared (cond t shared b.shared)
    fields b true h = good-joined d ns f sound good
    fields b false h = h

    agrees : (m k : ℕ) (b : Bug) → d.bug m ≡ Some b → (t : Bool) → has merged m ≡ t → has (cond t merged b.merged) k ≡ true
        → (g : Bug) × (d.bug k ≡ Some g) × ((bug_joined merged shared k g).merged ≡ cond t merged b.merged)
        × ((bug_joined merged shared k g).shared ≡ cond t shared b.shared)
    agrees m k b e true q h = let g = merged-bug d ns k sound h in
        (g.0, g.1, (λ j. cond (h j) merged g.0.merged), (λ j. cond (h j) shared g.0.shared))
    agrees m k b e false q h =
        let g = agree d sound m k b e h in
        let out : has merged k ≡ false =
        in-merged d ns k g.0 sound g.1 ∙ ap (λ z. has_any z ns) g.2 ∙ sym (in-merged d ns m b sound e) ∙ q in
        (g.0, g.1, (λ j. cond (out j) merged g.0.merged) ∙ g.2, (λ j. cond (out j) shared g.0.shared) ∙ g.3)

-- ---- the plan

-- the step of the command
abbrev merge_step : (Shared → Shared → Option Field) → ℕ → List ℕ → Desk → Result Desk Refusal
merge_step difference n ns d = unless (first_bug_refusal false d.bug (n ∷ ns)) (sets_joined difference d n ns)

-- it, by what the images show of the bugs
steps-merge : (difference : Shared → Shared → Option Field) (is : List SetImage) (next n : ℕ) (ns : List ℕ) (o : Option Bug)
    → bug_in is n ≡ o
    → Steps (n ∷ ns) (merge_step difference n ns) is next (λ d.
    unless (option_or (bug_refusal false o n) (first_bug_refusal false (bug_in is) ns)) (at_bug o n (λ first.
    unless (first_refusal (differing (difference first.shared)) (bug_in is) ns)
    (Ok (with_merged d (all_merged (bugs_at (bug_in is) (n ∷ ns)))
    (joined_shared first.shared (bugs_at (bug_in is) (n ∷ ns))))))))
steps-merge difference is next n ns o h d e k = λ j.
    unless (option_or (bug_refusal false ((sym k.0 ∙ h) j) n) (sym (bugs_refused-known false d is ns k.1) j))
    (at_bug ((sym k.0 ∙ h) j) n (λ first.
    unless (sym (refusal-known (differing (difference first.shared)) d is ns k.1) j)
    (Ok (with_merged d (all_merged (sym (bugs-known d is (n ∷ ns) k) j))
    (joined_shared first.shared (sym (bugs-known d is (n ∷ ns) k) j))))))

pub merge-no_bug : (difference : Shared → Shared → Option Field) (is : List SetImage) (next n : ℕ) (ns : List ℕ)
    → image_with is n ≡ None → IsPlannedOf (n ∷ ns) (λ d. sets_joined difference d n ns) is next (Err (Refused (NoBug n)))
merge-no_bug difference is next n ns h =
    planned-refused (n ∷ ns) (merge_step difference n ns) is next (NoBug n) tt
    (steps-merge difference is next n ns None (image_with-none is n h))

-- the first refusal of a list is one of those that its bugs have
own-first_refusal : (refuse : Option Bug → ℕ → Option Refusal) → ((o : Option Bug) (n : ℕ) → IfGiven IsRefusalOfPlan (refuse o n))
    → (bug : ℕ → Option Bug) (ns : List ℕ) → IfGiven IsRefusalOfPlan (first_refusal refuse bug ns)
own-first_refusal refuse h bug [] = tt
own-first_refusal refuse h bug (n ∷ ns) =
    either (refuse (bug n) n) (first_refusal refuse bug ns) (h (bug n) n) (own-first_refusal refuse h bug ns)
  where
    either : (o p : Option Refusal) → IfGiven IsRefusalOfPlan o → IfGiven IsRefusalOfPlan p
        → IfGiven IsRefusalOfPlan (option_or o p)
    either None p h k = k
    either (Some refusal) p h k = h

own-differing : (difference : Shared → Option Field) (bug : ℕ → Option Bug) (ns : List ℕ) (refusal : Refusal)
    → first_refusal (differing difference) bug ns ≡ Some refusal → IsRefusalOfPlan refusal
own-differing difference bug ns refusal e =
    subst (IfGiven IsRefusalOfPlan) e (own-first_refusal (differing difference) one bug ns)
  where
    one : (o : Option Bug) (n : ℕ) → IfGiven IsRefusalOfPlan (differing difference o n)
    one None n = tt
    one (Some b) n = elim (difference b.shared) as (λ f. IfGiven IsRefusalOfPlan (differing (λ _. f) (Some b) n))
        [ None ↦ tt | Some field ↦ tt ]

-- what follows where the first bug is there
abbrev first_shown : (Shared → Shared → Option Field) → List SetImage → ℕ → List ℕ → SetImage → Desk → Option Refusal → Option Refusal
    → Option Refusal → Result Desk Refusal
first_shown difference is n ns i d archived refused differs =
    unless (option_or archived refused) (unless differs
    (Ok (with_merged d (all_merged (bugs_at (bug_in is) (n ∷ ns))) (joined_shared i.shared (bugs_at (bug_in is) (n ∷ ns))))))

steps-shown : (difference : Shared → Shared → Option Field) (is : List SetImage) (next n : ℕ) (ns : List ℕ) (i : SetImage)
    → image_with is n ≡ Some i
    → Steps (n ∷ ns) (merge_step difference n ns) is next (λ d. first_shown difference is n ns i d (archived_refusal false n i.shared)
    (first_bug_refusal false (bug_in is) ns) (first_refusal (differing (difference i.shared)) (bug_in is) ns))
steps-shown difference is next n ns i h =
    let b = image_with-shows is n i h in steps-merge difference is next n ns (Some (bug_of i b.0)) b.1

pub merge-archived : (difference : Shared → Shared → Option Field) (is : List SetImage) (next n : ℕ) (ns : List ℕ) (i : SetImage)
    (refusal : Refusal) → image_with is n ≡ Some i → archived_refusal false n i.shared ≡ Some refusal
    → IsPlannedOf (n ∷ ns) (λ d. sets_joined difference d n ns) is next (Err (Refused refusal))
merge-archived difference is next n ns i refusal h a =
    planned-refused (n ∷ ns) (merge_step difference n ns) is next refusal (own-archived false n i.shared refusal a)
    (λ d e k. steps-shown difference is next n ns i h d e k
    ∙ (λ j. first_shown difference is n ns i d (a j) (first_bug_refusal false (bug_in is) ns)
    (first_refusal (differing (difference i.shared)) (bug_in is) ns)))

pub merge-refused : (difference : Shared → Shared → Option Field) (is : List SetImage) (next n : ℕ) (ns : List ℕ) (i : SetImage)
    (refusal : Refusal) → image_with is n ≡ Some i → archived_refusal false n i.shared ≡ None
    → first_bug_refusal false (bug_in is) ns ≡ Some refusal
    → IsPlannedOf (n ∷ ns) (λ d. sets_joined difference d n ns) is next (Err (Refused refusal))
merge-refused difference is next n ns i refusal h a r =
    planned-refused (n ∷ ns) (merge_step difference n ns) is next refusal (own-refused false (bug_in is) ns refusal r)
    (λ d e k. steps-shown difference is next n ns i h d e k
    ∙ (λ j. first_shown difference is n ns i d (a j) (r j) (first_refusal (differing (difference i.shared)) (bug_in is) ns)))

pub merge-differs : (difference : Shared → Shared → Option Field) (is : List SetImage) (next n : ℕ) (ns : List ℕ) (i : SetImage)
    (refusal : Refusal) → image_with is n ≡ Some i → archived_refusal false n i.shared ≡ None
    → first_bug_refusal false (bug_in is) ns ≡ None
    → first_refusal (differing (difference i.shared)) (bug_in is) ns ≡ Some refusal
    → IsPlannedOf (n ∷ ns) (λ d. sets_joined difference d n ns) is next (Err (Refused refusal))
merge-differs difference is next n ns i refusal h a r q =
    planned-refused (n ∷ ns) (merge_step difference n ns) is next refusal
    (own-differing (difference i.shared) (bug_in is) ns refusal q)
    (λ d e k. steps-shown difference is next n ns i h d e k ∙ (λ j. first_shown difference is n ns i d (a j) (r j) (q j)))

pub merge-done : (difference : Shared → Shared → Option Field) (is : List SetImage) (next n : ℕ) (ns : List ℕ) (i : SetImage)
    → AreApart is → image_with is n ≡ Some i → archived_refusal false n i.shared ≡ None
    → first_bug_refusal false (bug_in is) ns ≡ None
    → first_refusal (differing (difference i.shared)) (bug_in is) ns ≡ None
    → (change : Change) → change.images ≡ image_joined is (n ∷ ns) i ∷ others (n ∷ ns) is → change.next ≡ next
    → IsPlannedOf (n ∷ ns) (λ d. sets_joined difference d n ns) is next (Ok change)
merge-done difference is next n ns i a h out r q =
    let b = image_with-shows is n i h in
    planned-replaced (n ∷ ns) (merge_step difference n ns) is next (n ∷ ns) (image_joined is (n ∷ ns) i ∷ [])
    (bug_joined (all_merged bugs) (joined_shared i.shared bugs)) a
    (joined-takes_place is n ns i a h)
    (λ d k. k)
    (λ d e k. steps-shown difference is next n ns i h d e k ∙ (λ j. first_shown difference is n ns i d (out j) (r j) (q j)))
    (λ d sh. joined-makes d is n ns i sh.sound sh.sets sh.known a h)
    (λ d sh. subst (λ (bs : List Bug). IsSound (with_merged d (all_merged bs) (joined_shared i.shared bs)))
    (sym (bugs-known d is (n ∷ ns) sh.known))
    (sound-joined d (n ∷ ns) i.shared sh.sound
    (sh.sound.texts n (bug_of i b.0) (shown d is sh.sets n (bug_of i b.0) b.1)).shared))
  where
    bugs : List Bug
    bugs = bugs_at (bug_in is) (n ∷ ns)
