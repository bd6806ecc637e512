-- A desk with new bugs.
use Rattle.std.proofs.Common.{◌≡◌, ◌≢◌, ◌<◌, ◌≤◌, ◌+◌, ℕ, Bool, true, false, cond, ◌||◌, ◌&&◌, [], ◌∷◌, Some, None}
use Rattle.std.proofs.Common.{sym, refl, ap, ◌∙◌, subst, arith}
use Rattle.std.specs.Prelude.{nat_le, nat_lt}
use Rattle.std.proofs.lemmas.Option.{same_Some, none-some}
use Rattle.std.proofs.lemmas.Bool.{eq-eqb, and_parts, lt-ltb, le-ltb, le-leb, lt-leb, leb-true, ltb-true}
use Rattle.bug_record.specs.Sets.{has, IsAscending}
use Rattle.bug_record.specs.Desk.{Desk, IsSound, IsMergedWith, HasGoodTexts, AreGoodBlockers}
use Rattle.bug_record.specs.Bugs.{with_new_bugs}
use Rattle.bug_record.specs.declared.bug.Bug.{Bug}
use Rattle.base_sequences.proofs.SetLemmas.{one_number}
use Rattle.bug_record.proofs.EqualLemmas.{none-from_next}
use Rattle.bug_fields.proofs.SoundLemmas.{agree, merged-from, blockers-there}

-- whether m is one of so many numbers from the next one on
abbrev pub is_new : ℕ → ℕ → ℕ → Bool
is_new next many m = nat_le next m && nat_lt m (next + many)

pub new-parts : (next many m : ℕ) → is_new next many m ≡ true → (next ≤ m) × (m < next + many)
new-parts next many m e =
    let p = and_parts (nat_le next m) (nat_lt m (next + many)) e in (leb-true next m p.0, ltb-true m (next + many) p.1)

pub new-from : (next many m : ℕ) → next ≤ m → m < next + many → is_new next many m ≡ true
new-from next many m h k = λ j. le-leb next m h j && lt-ltb m (next + many) k j

pub new-below : (next many m : ℕ) → m < next → is_new next many m ≡ false
new-below next many m h = ap (λ t. t && nat_lt m (next + many)) (lt-leb next m h)

pub new-above : (next many m : ℕ) → next + many ≤ m → is_new next many m ≡ false
new-above next many m h =
    elim (nat_le next m) as (λ t. (t && nat_lt m (next + many)) ≡ false)
    [ true ↦ le-ltb m (next + many) h | false ↦ refl ]

-- a bug after that is a new one, or was there
added-cases : (d : Desk) (new : ℕ → Bug) (many : ℕ) (Q : Type 0) (m : ℕ) (b : Bug) → (with_new_bugs d new many).bug m ≡ Some b
    → (d.next ≤ m → m < d.next + many → new m ≡ b → Q) → (d.bug m ≡ Some b → Q) → Q
added-cases d new many Q m b h f g =
    elim (is_new d.next many m) as (λ z. is_new d.next many m ≡ z → cond z (Some (new m)) (d.bug m) ≡ Some b → Q) [
      | true ↦ λ e h. let p = new-parts d.next many m e in f p.0 p.1 (same_Some _ _ h)
      | false ↦ λ e h. g h
    ] refl h

-- no bug of a sound desk has a number from the next one on
pub none-beyond : (d : Desk) (m : ℕ) → IsSound d → d.next ≤ m → d.bug m ≡ None
none-beyond d m sound h = none-from_next d sound m d.next (omega arith) (le-ltb m d.next h)

-- a new bug, and one that was there
pub added-new : (d : Desk) (new : ℕ → Bug) (many m : ℕ) → d.next ≤ m → m < d.next + many
    → (with_new_bugs d new many).bug m ≡ Some (new m)
added-new d new many m h k = ap (λ z. cond z (Some (new m)) (d.bug m)) (new-from d.next many m h k)

pub added-old : (d : Desk) (new : ℕ → Bug) (many m : ℕ) (b : Bug) → IsSound d → d.bug m ≡ Some b
    → (with_new_bugs d new many).bug m ≡ Some b
added-old d new many m b sound h =
    ap (λ z. cond z (Some (new m)) (d.bug m)) (new-below d.next many m (sound.in_range m b h).1) ∙ h

stays-added : (d : Desk) (new : ℕ → Bug) (many m : ℕ) → d.bug m ≢ None → (with_new_bugs d new many).bug m ≢ None
stays-added d new many m h =
    elim (is_new d.next many m) as (λ z. cond z (Some (new m)) (d.bug m) ≢ None)
    [ true ↦ λ e. none-some (new m) (sym e) | false ↦ h ]

-- what new bugs have to be: each merged with no other, with good texts, and with blockers that are
-- there
pub record AreGoodNew (d : Desk) (new : ℕ → Bug) : Type 0 where
  pub alone : (n : ℕ) → (new n).merged ≡ n ∷ []
  pub texts : (n : ℕ) → HasGoodTexts (new n)
  pub blockers : (n : ℕ) → d.next ≤ n → AreGoodBlockers d (new n).merged (new n).shared.blockers

own_number : (n : ℕ) → has (n ∷ []) n ≡ true
own_number n = ap (λ z. z || false) (eq-eqb n n refl)

pub sound-added : (d : Desk) (new : ℕ → Bug) (many : ℕ) → IsSound d → AreGoodNew d new → d.next + many ≤ 1000000000
    → IsSound (with_new_bugs d new many)
sound-added d new many sound good left = record {
  own = λ m b h. added-cases d new many (has b.merged m ≡ true) m b h
      (λ l k q. ap (λ (z : Bug). has z.merged m) (sym q) ∙ ap (λ ms. has ms m) (good.alone m) ∙ own_number m)
      (λ k. sound.own m b k);
  ascending = λ m b h. added-cases d new many (IsAscending b.merged) m b h
      (λ l k q. subst IsAscending (sym (good.alone m) ∙ ap (λ (z : Bug). z.merged) q) (tt, tt)) (λ k. sound.ascending m b k);
  agree = λ n m b h k. added-cases d new many (IsMergedWith b ((with_new_bugs d new many).bug m)) n b h
      (λ l u q.
      let same : m ≡ n =
      one_number m n (ap (λ ms. has ms m) (sym (good.alone n)) ∙ ap (λ (z : Bug). has z.merged m) q ∙ k) in
      let there : (with_new_bugs d new many).bug m ≡ Some (new n) =
      ap (λ z. (with_new_bugs d new many).bug z) same ∙ added-new d new many n l u in
      merged-from b ((with_new_bugs d new many).bug m) (new n) there (ap (λ (z : Bug). z.merged) q)
      (ap (λ (z : Bug). z.shared) q))
      (λ q. let c = agree d sound n m b q k in
      merged-from b ((with_new_bugs d new many).bug m) c.0 (added-old d new many m c.0 sound c.1) c.2 c.3);
  texts = λ m b h. added-cases d new many (HasGoodTexts b) m b h (λ l k q. subst HasGoodTexts q (good.texts m))
      (λ k. sound.texts m b k);
  blockers = λ m b h. added-cases d new many (AreGoodBlockers (with_new_bugs d new many) b.merged b.shared.blockers) m b h
      (λ l k q. subst (λ (z : Bug). AreGoodBlockers (with_new_bugs d new many) z.merged z.shared.blockers) q
      (blockers-there d (with_new_bugs d new many) (new m).merged (new m).shared.blockers (stays-added d new many)
      (good.blockers m l)))
      (λ k. blockers-there d (with_new_bugs d new many) b.merged b.shared.blockers (stays-added d new many)
      (sound.blockers m b k));
  in_range = λ m b h. added-cases d new many ((0 < m) × (m < d.next + many)) m b h
      (λ l k q. ((let some : 0 < d.next = sound.next_in_range.0 in omega (arith, l, some)), k))
      (λ k. ((sound.in_range m b k).0, (let below : m < d.next = (sound.in_range m b k).1 in omega (arith, below))));
  forest = sound.forest;
  next_in_range = ((let some : 0 < d.next = sound.next_in_range.0 in omega (arith, some)), left);
}
