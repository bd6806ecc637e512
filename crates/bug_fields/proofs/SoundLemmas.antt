-- What keeps a desk sound.
use Rattle.std.proofs.Common.{◌≡◌, ◌≢◌, ℕ, Bool, true, false, cond, List, Option, Some, None, sym, refl, ap, ◌∙◌, subst}
use Rattle.std.specs.Prelude.{option_map, unwrap_or}
use Rattle.std.proofs.lemmas.Option.{same_Some, none-some}
use Rattle.bug_record.specs.Sets.{has, IsAscending}
use Rattle.bug_record.specs.Desk.{Desk, IsSound, IsMergedWith, IsGoodShared, HasGoodTexts, AreGoodBlockers}
use Rattle.bug_record.specs.Steps.{change_set}
use Rattle.bug_record.specs.Bugs.{each_bug}
use Rattle.base_words.specs.Texts.{IsGoodText, IfGiven}
use Rattle.bug_record.specs.declared.bug.Bug.{Bug}
use Rattle.bug_record.specs.declared.bug.Shared.{Shared}

-- a merged bug
pub merged-bug : (b : Bug) (o : Option Bug) → IsMergedWith b o → (c : Bug) × (o ≡ Some c) × (c.merged ≡ b.merged)
    × (c.shared ≡ b.shared)
merged-bug b None h = absurd h
merged-bug b (Some c) h = (c, refl, h.0, h.1)

pub merged-from : (b : Bug) (o : Option Bug) (c : Bug) → o ≡ Some c → c.merged ≡ b.merged → c.shared ≡ b.shared → IsMergedWith b o
merged-from b o c e p q = subst (IsMergedWith b) (sym e) (p, q)

pub agree : (d : Desk) → IsSound d → (n m : ℕ) (b : Bug) → d.bug n ≡ Some b → has b.merged m ≡ true → (c : Bug)
    × (d.bug m ≡ Some c) × (c.merged ≡ b.merged) × (c.shared ≡ b.shared)
agree d sound n m b h k = merged-bug b (d.bug m) (sound.agree n m b h k)

-- merged the other way round
pub merged-back : (d : Desk) → IsSound d → (n m : ℕ) (b c : Bug) → d.bug n ≡ Some b → d.bug m ≡ Some c → has c.merged n ≡ true
    → has b.merged m ≡ true
merged-back d sound n m b c hn hm k =
    let a = agree d sound m n c hm k in
    ap (λ (z : Bug). has z.merged m) (same_Some b a.0 (sym hn ∙ a.1)) ∙ ap (λ z. has z m) a.2 ∙ sound.own m c hm

-- what a changed bug was
was-mapped : {A B : Type 0} (f : A → B) (o : Option A) (c : B) → option_map f o ≡ Some c → (a : A) × (o ≡ Some a) × (f a ≡ c)
was-mapped f None c h = absurd (none-some c h)
was-mapped f (Some a) c h = (a, refl, same_Some _ _ h)

-- what a change of each bug has to keep
pub record KeepsSound (d : Desk) (f : ℕ → Bug → Bug) : Type 0 where
  pub own : (n : ℕ) (b : Bug) → d.bug n ≡ Some b → has (f n b).merged n ≡ true
  pub ascending : (n : ℕ) (b : Bug) → d.bug n ≡ Some b → IsAscending (f n b).merged
  pub agree : (n m : ℕ) (b : Bug) → d.bug n ≡ Some b → has (f n b).merged m ≡ true → (c : Bug) × (d.bug m ≡ Some c)
      × ((f m c).merged ≡ (f n b).merged) × ((f m c).shared ≡ (f n b).shared)
  pub texts : (n : ℕ) (b : Bug) → d.bug n ≡ Some b → HasGoodTexts (f n b)
  pub blockers : (n : ℕ) (b : Bug) → d.bug n ≡ Some b → AreGoodBlockers d (f n b).merged (f n b).shared.blockers

-- blockers are there after a change of each bug, and where more bugs are there
pub blockers-there : (d e : Desk) (merged blockers : List ℕ) → ((n : ℕ) → d.bug n ≢ None → e.bug n ≢ None)
    → AreGoodBlockers d merged blockers → AreGoodBlockers e merged blockers
blockers-there d e merged blockers stays h =
    record { ascending = h.ascending; there = λ n k. stays n (h.there n k); outside = h.outside }

stays-mapped : {A B : Type 0} (f : A → B) (o : Option A) → o ≢ None → option_map f o ≢ None
stays-mapped f None h e = h refl
stays-mapped f (Some a) h e = none-some (f a) (sym e)

pub sound-each_bug : (d : Desk) (f : ℕ → Bug → Bug) → IsSound d → KeepsSound d f → IsSound (each_bug d f)
sound-each_bug d f sound keeps = record {
  own = λ n c h. let w = was-mapped (f n) (d.bug n) c h in subst (λ (z : Bug). has z.merged n ≡ true) w.2 (keeps.own n w.0 w.1);
  ascending = λ n c h. let w = was-mapped (f n) (d.bug n) c h in
      subst (λ (z : Bug). IsAscending z.merged) w.2 (keeps.ascending n w.0 w.1);
  agree = λ n m c h k.
      let w = was-mapped (f n) (d.bug n) c h in
      let a = keeps.agree n m w.0 w.1 (ap (λ (z : Bug). has z.merged m) w.2 ∙ k) in
      merged-from c (option_map (f m) (d.bug m)) (f m a.0) (ap (option_map (f m)) a.1) (a.2 ∙ ap (λ (z : Bug). z.merged) w.2)
      (a.3 ∙ ap (λ (z : Bug). z.shared) w.2);
  texts = λ n c h. let w = was-mapped (f n) (d.bug n) c h in subst HasGoodTexts w.2 (keeps.texts n w.0 w.1);
  blockers = λ n c h. let w = was-mapped (f n) (d.bug n) c h in
      blockers-there d (each_bug d f) c.merged c.shared.blockers (λ m. stays-mapped (f m) (d.bug m))
      (subst (λ (z : Bug). AreGoodBlockers d z.merged z.shared.blockers) w.2 (keeps.blockers n w.0 w.1));
  in_range = λ n c h. let w = was-mapped (f n) (d.bug n) c h in sound.in_range n w.0 w.1;
  forest = sound.forest;
  next_in_range = sound.next_in_range;
}

-- a change of the fields of a set that keeps their limits
pub record KeepsLimits (f : Shared → Shared) (title : ℕ → Option (List ℕ)) (who : Shared → ℕ → Option (List ℕ)) : Type 0 where
  pub fields : (s : Shared) → IsGoodShared s → IsGoodShared (f s)
  pub titles : (m : ℕ) → IfGiven IsGoodText (title m)
  pub submitters : (s : Shared) (m : ℕ) → IfGiven IsGoodText (who s m)

pub sound-change_set : (d : Desk) (n : ℕ) (f : Shared → Shared) (title : ℕ → Option (List ℕ)) (who : Shared → ℕ → Option (List ℕ))
    → IsSound d → KeepsLimits f title who
    → ((m : ℕ) (b : Bug) → d.bug m ≡ Some b → has b.merged n ≡ true → AreGoodBlockers d b.merged (f b.shared).blockers)
    → IsSound (change_set d n f title who)
sound-change_set d n f title who sound keeps good =
    sound-each_bug d (λ m b. record b {
      shared = cond (has b.merged n) (f b.shared) b.shared;
      title = cond (has b.merged n) (unwrap_or (title m) b.title) b.title;
      submitter = cond (has b.merged n) (unwrap_or (who b.shared m) b.submitter) b.submitter;
    }) sound (record {
      own = λ m b h. sound.own m b h;
      ascending = λ m b h. sound.ascending m b h;
      agree = λ m k b h q. let a = agree d sound m k b h q in (a.0, a.1, a.2, (λ j. cond (has (a.2 j) n) (f (a.3 j)) (a.3 j)));
      texts = λ m b h. let t = sound.texts m b h in record {
        title = changed (has b.merged n) (title m) b.title (keeps.titles m) t.title;
        submitter = changed (has b.merged n) (who b.shared m) b.submitter (keeps.submitters b.shared m) t.submitter;
        shared = fields b (has b.merged n) t.shared;
      };
      blockers = λ m b h. blockers b (has b.merged n) (good m b h) (sound.blockers m b h);
    })
  where
    blockers : (b : Bug) (t : Bool) → (t ≡ true → AreGoodBlockers d b.merged (f b.shared).blockers)
        → AreGoodBlockers d b.merged b.shared.blockers → AreGoodBlockers d b.merged (cond t (f b.shared) b.shared).blockers
    blockers b true g h = g refl
    blockers b false g h = h

    fields : (b : Bug) (t : Bool) → IsGoodShared b.shared → IsGoodShared (cond t (f b.shared) b.shared)
    fields b true h = keeps.fields b.shared h
    fields b false h = h

    given : (o : Option (List ℕ)) (old : List ℕ) → IfGiven IsGoodText o → IsGoodText old → IsGoodText (unwrap_or o old)
    given None old g h = h
    given (Some text) old g h = g

    changed : (t : Bool) (o : Option (List ℕ)) (old : List ℕ) → IfGiven IsGoodText o → IsGoodText old
        → IsGoodText (cond t (unwrap_or o old) old)
    changed true o old g h = given o old g h
    changed false o old g h = h
