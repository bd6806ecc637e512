-- The desk after a report.
use Rattle.std.proofs.Common.{◌≡◌, ◌<◌, ◌+◌, ℕ, true, false, cond, eqb, List, [], ◌∷◌, Option, Some, None, sym, refl}
use Rattle.std.proofs.Common.{ap, ◌∙◌, subst, arith}
use Rattle.std.specs.Prelude.{option_map}
use Rattle.std.proofs.lemmas.Bool.{false≢true, eqb-true, eqb-false, ne_eqb, false_from_ne_true}
use Rattle.std.specs.List.Sorted.{IsStrictlySortedBy}
use Rattle.debver.specs.Names.{IsName}
use Rattle.version_nodes.specs.Nodes.{Node, IsNode}
use Rattle.bug_record.specs.Marks.{IsNodeSet}
use Rattle.base_words.specs.Texts.{IsGoodText, IfGiven}
use Rattle.bug_record.specs.Desk.{Desk, IsSound}
use Rattle.bug_record.specs.Steps.{found_first, reported, new_bug}
use Rattle.bug_record.specs.Images.{put, bug_of, CoverSets, FitsDesk}
use Rattle.std.specs.Option.{option_or}
use Rattle.bug_record.specs.declared.bug.Bug.{Bug}
use Rattle.bug_record.specs.declared.bug.Member.{Member}
use Rattle.bug_record.specs.declared.severity.Severity.{Severity}
use Rattle.bug_fields.specs.Reports.{image_of_report}
use Rattle.bug_record.proofs.MarkLemmas.{set-none}
use Rattle.bug_record.proofs.PackageLemmas.{names-none}
use Rattle.bug_fields.proofs.AddedLemmas.{is_new, new-parts, new-from, AreGoodNew, sound-added}

-- the texts of a report
pub record IsReport (a p t : List ℕ) (v : Option Node) : Type 0 where
  pub sender : IsGoodText a
  pub package_name : IsName p
  pub title : IsGoodText t
  pub node : IfGiven IsNode v

-- the marks of a report are a set of nodes
one-node : (v : Option Node) → IfGiven IsNode v → IsNodeSet (found_first v)
unfolding IsStrictlySortedBy
one-node None h = record { ascending = tt; valid = tt }
one-node (Some n) h = record { ascending = (tt, tt); valid = (h, tt) }

-- the new bug is a good one, whichever number it has
good-new : (d : Desk) (a p : List ℕ) (s : Severity) (t : List ℕ) (v : Option Node) → IsReport a p t v
    → AreGoodNew d (λ n. new_bug n a p s t v)
good-new d a p s t v good = record {
  alone = λ n. refl;
  texts = λ n. record {
    title = good.title;
    submitter = good.sender;
    shared = record {
      package_name = good.package_name;
      forwarded = tt;
      owner = tt;
      tags = tt;
      affects = names-none;
      found = one-node v good.node;
      fixed = set-none;
    };
  };
  blockers = λ n h. record { ascending = tt; there = λ k w. absurd (false≢true w); outside = λ k w. absurd (false≢true w) };
}

pub sound-reported : (d : Desk) (a p : List ℕ) (s : Severity) (t : List ℕ) (v : Option Node) → IsSound d → d.next < 1000000000
    → IsReport a p t v → IsSound (reported d a p s t v)
sound-reported d a p s t v sound left good =
    sound-added d (λ n. new_bug n a p s t v) 1 sound (good-new d a p s t v good) (omega (arith, left))

-- what the change of a report puts on the desk
pub put-report : (d : Desk) (a p : List ℕ) (s : Severity) (t : List ℕ) (v : Option Node) (next : ℕ) → d.next ≡ next
    → put d (record { images = image_of_report a p s t v next ∷ []; next = next + 1 }) ≡ reported d a p s t v
put-report d a p s t v next same =
    subst (λ (k : ℕ). put d (record { images = image_of_report a p s t v k ∷ []; next = k + 1 }) ≡ reported d a p s t v) same
    (λ j. record { bug = λ m. at m j; tree = d.tree; next = d.next + 1 })
  where
    new : ℕ → Bug
    new n = new_bug n a p s t v

    x : Member
    x = record { number = d.next; title = t; submitter = a }

    no_other : (m : ℕ) → (d.next ≡ m → ⊥) → is_new d.next 1 m ≡ false
    no_other m h = false_from_ne_true (is_new d.next 1 m) (λ e.
        let p = new-parts d.next 1 m e in
        h (omega (arith, p.0, p.1)))

    -- a number is that of the new bug, or is no new one
    at : (m : ℕ) → option_or
        (option_or (option_map (bug_of (image_of_report a p s t v d.next)) (cond (eqb d.next m) (Some x) None)) None) (d.bug m)
        ≡ cond (is_new d.next 1 m) (Some (new m)) (d.bug m)
    at m = elim (eqb d.next m) as (λ z. eqb d.next m ≡ z
        → option_or (option_or (option_map (bug_of (image_of_report a p s t v d.next)) (cond z (Some x) None)) None) (d.bug m)
        ≡ cond (is_new d.next 1 m) (Some (new m)) (d.bug m)) [
          | true ↦ λ e.
              let same : d.next ≡ m = eqb-true d.next m e in
              ap (λ k. Some (new k)) same
              ∙ sym (ap (λ z. cond z (Some (new m)) (d.bug m)) (new-from d.next 1 m (omega (arith, same)) (omega (arith, same))))
          | false ↦ λ e. sym (ap (λ z. cond z (Some (new m)) (d.bug m)) (no_other m (eqb-false d.next m e)))
        ] refl

-- It covers whole sets, as the new number is no bug's.
whole-report : (d : Desk) (a p : List ℕ) (s : Severity) (t : List ℕ) (v : Option Node) → IsSound d
    → CoverSets d (image_of_report a p s t v d.next ∷ [])
whole-report d a p s t v sound n m b h k q =
    let below : n < d.next = (sound.in_range n b h).1 in
    absurd (k (ap (λ z. option_or (option_map (bug_of (image_of_report a p s t v d.next)) (cond z (Some x) None)) None)
    (ne_eqb d.next n (λ e. absurd (omega (arith, e, below))))))
  where
    x : Member
    x = record { number = d.next; title = t; submitter = a }

pub fits-report : (d : Desk) (a p : List ℕ) (s : Severity) (t : List ℕ) (v : Option Node) (next : ℕ) → IsSound d → d.next ≡ next
    → next < 1000000000 → IsReport a p t v → FitsDesk d (record { images = image_of_report a p s t v next ∷ []; next = next + 1 })
fits-report d a p s t v next sound same left good = record {
  whole = subst (λ (k : ℕ). CoverSets d (image_of_report a p s t v k ∷ [])) same (whole-report d a p s t v sound);
  sound = subst IsSound (sym (put-report d a p s t v next same))
      (sound-reported d a p s t v sound (subst (λ k. k < 1000000000) (sym same) left) good);
}
