-- The tests of equality tell equal records from others.
use Rattle.std.proofs.Common.{◌≡◌, ◌<◌, ◌≤◌, ℕ, zero, suc, Bool, true, false, cond, not, ◌&&◌, eqb, List, Option, Some, None}
use Rattle.std.proofs.Common.{sym, refl, ap, ◌∙◌, subst, arith}
use Rattle.std.specs.Prelude.{nat_lt}
use Rattle.std.specs.Str.{bytes_eq}
use Rattle.std.proofs.lemmas.Bool.{false≢true, eqb-true, eq-eqb, lt-ltb, and_parts, and_from}
use Rattle.std.proofs.lemmas.Slice.Eq.{bytes_eq-Decides, slice_eq-Decides}
use Rattle.std.specs.Bool.{Decides}
use Rattle.version_nodes.specs.Nodes.{Node, same_node}
use Rattle.version_nodes.proofs.NodeLemmas.{same_true, same_itself}
use Rattle.bug_record.specs.Severities.{rank}
use Rattle.bug_record.specs.Desk.{Desk, IsSound}
use Rattle.bug_record.specs.Tags.{same_tag}
use Rattle.bug_record.specs.Differences.{same_flag, same_text, same_state}
use Rattle.bug_record.specs.Changed.{same_nodes, same_names, same_tags, same_shared, same_bugs, same_at}
use Rattle.bug_record.specs.declared.bug.Bug.{Bug}
use Rattle.bug_record.specs.declared.bug.Shared.{Shared}
use Rattle.bug_record.specs.declared.tag.Tag.{Tag}
use Rattle.bug_record.specs.declared.severity.Severity.{Severity}
use Rattle.bug_record.specs.declared.severity.Severity.TheVariants.{Critical, Grave, Serious, Important, Normal, Minor, Wishlist}
use Rattle.bug_record.proofs.TagLemmas.{same_tag-true, same_tag-itself}

-- severities of one rank are one
abbrev of_rank : ℕ → Severity
of_rank zero = Critical
of_rank (suc zero) = Grave
of_rank (suc (suc zero)) = Serious
of_rank (suc (suc (suc zero))) = Important
of_rank (suc (suc (suc (suc zero)))) = Normal
of_rank (suc (suc (suc (suc (suc zero))))) = Minor
of_rank (suc (suc (suc (suc (suc (suc n)))))) = Wishlist

of_rank-rank : (s : Severity) → of_rank (rank s) ≡ s
of_rank-rank Critical = refl
of_rank-rank _ = refl

same_severity : (s t : Severity) → rank s ≡ rank t → s ≡ t
same_severity s t e = sym (of_rank-rank s) ∙ ap of_rank e ∙ of_rank-rank t

same_closed : (a b : Bool) → cond a b (not b) ≡ true → a ≡ b
same_closed true b e = sym e
same_closed false true e = absurd (false≢true e)
same_closed false false e = refl

closed_same : (a : Bool) → cond a a (not a) ≡ true
closed_same true = refl
closed_same false = refl

bytes : (a b : List ℕ) → bytes_eq a b ≡ true → a ≡ b
bytes a b = (bytes_eq-Decides a b).0

bytes_refl : (a : List ℕ) → bytes_eq a a ≡ true
bytes_refl a = (bytes_eq-Decides a a).1 refl

nodes_decide : (ns ms : List Node) → Decides (same_nodes ns ms) (ns ≡ ms)
nodes_decide ns ms =
    slice_eq-Decides (λ a b. (same_true a b, λ e. subst (λ (z : Node). same_node a z ≡ true) e (same_itself a))) ns ms
    (same_nodes ns ms) refl

names_decide : (ns ms : List (List ℕ)) → Decides (same_names ns ms) (ns ≡ ms)
names_decide ns ms = slice_eq-Decides bytes_eq-Decides ns ms (same_names ns ms) refl

tags_decide : (ts us : List Tag) → Decides (same_tags ts us) (ts ≡ us)
tags_decide ts us = slice_eq-Decides
    (λ a b. (same_tag-true a b, λ e. subst (λ (z : Tag). same_tag a z ≡ true) e (same_tag-itself a))) ts us (same_tags ts us) refl

same_text-true : (s t : Option (List ℕ)) → same_text s t ≡ true → s ≡ t
same_text-true None None e = refl
same_text-true None (Some t) e = absurd (false≢true e)
same_text-true (Some s) None e = absurd (false≢true e)
same_text-true (Some s) (Some t) e = ap Some (bytes s t e)

same_text-refl : (s : Option (List ℕ)) → same_text s s ≡ true
same_text-refl None = refl
same_text-refl (Some s) = bytes_refl s

-- the tests of a group of fields
abbrev one_package : Shared → Shared → Bool
one_package s t = bytes_eq s.«package» t.«package» && eqb (rank s.severity) (rank t.severity)

abbrev one_person : Shared → Shared → Bool
one_person s t = same_text s.forwarded t.forwarded && same_text s.owner t.owner

abbrev one_history : Shared → Shared → Bool
one_history s t = same_names s.affects t.affects && (same_nodes s.found t.found && same_nodes s.fixed t.fixed)

abbrev one_place : Shared → Shared → Bool
one_place s t = bytes_eq s.blockers t.blockers && same_flag s.archived t.archived

-- the tests tell equal records
pub same_shared-true : (s t : Shared) → same_shared s t ≡ true → s ≡ t
same_shared-true s t e =
    let l = and_parts (one_package s t && same_state s t && (one_person s t && same_tags s.tags t.tags) && one_history s t)
    (one_place s t) e in
    let p = and_parts (one_package s t && same_state s t && (one_person s t && same_tags s.tags t.tags)) (one_history s t) l.0 in
    let q = and_parts (one_package s t && same_state s t) (one_person s t && same_tags s.tags t.tags) p.0 in
    let r = and_parts (one_package s t) (same_state s t) q.0 in
    let a = and_parts (bytes_eq s.«package» t.«package») (eqb (rank s.severity) (rank t.severity)) r.0 in
    let b = and_parts (one_person s t) (same_tags s.tags t.tags) q.1 in
    let c = and_parts (same_text s.forwarded t.forwarded) (same_text s.owner t.owner) b.0 in
    let v = and_parts (same_names s.affects t.affects) (same_nodes s.found t.found && same_nodes s.fixed t.fixed) p.1 in
    let w = and_parts (same_nodes s.found t.found) (same_nodes s.fixed t.fixed) v.1 in
    let u = and_parts (bytes_eq s.blockers t.blockers) (same_flag s.archived t.archived) l.1 in
    λ j. record {
      «package» = bytes s.«package» t.«package» a.0 j;
      severity = same_severity s.severity t.severity (eqb-true (rank s.severity) (rank t.severity) a.1) j;
      closed = same_closed s.closed t.closed r.1 j;
      forwarded = same_text-true s.forwarded t.forwarded c.0 j;
      owner = same_text-true s.owner t.owner c.1 j;
      tags = (tags_decide s.tags t.tags).0 b.1 j;
      affects = (names_decide s.affects t.affects).0 v.0 j;
      found = (nodes_decide s.found t.found).0 w.0 j;
      fixed = (nodes_decide s.fixed t.fixed).0 w.1 j;
      blockers = bytes s.blockers t.blockers u.0 j;
      archived = same_closed s.archived t.archived u.1 j;
    }

-- others are told apart
pub others-differ : (s t : Shared) → (s ≡ t → ⊥) → false ≡ same_shared s t
others-differ s t h =
    elim (same_shared s t) as (λ b. same_shared s t ≡ b → false ≡ b)
    [ true ↦ λ e. absurd (h (same_shared-true s t e)) | false ↦ λ e. refl ] refl

same_shared-refl : (s : Shared) → same_shared s s ≡ true
same_shared-refl s =
    and_from (one_package s s && same_state s s && (one_person s s && same_tags s.tags s.tags) && one_history s s)
    (one_place s s)
    (and_from (one_package s s && same_state s s && (one_person s s && same_tags s.tags s.tags)) (one_history s s)
    (and_from (one_package s s && same_state s s) (one_person s s && same_tags s.tags s.tags)
    (and_from (one_package s s) (same_state s s)
    (and_from (bytes_eq s.«package» s.«package») (eqb (rank s.severity) (rank s.severity)) (bytes_refl s.«package»)
    (eq-eqb (rank s.severity) (rank s.severity) refl))
    (closed_same s.closed))
    (and_from (one_person s s) (same_tags s.tags s.tags)
    (and_from (same_text s.forwarded s.forwarded) (same_text s.owner s.owner) (same_text-refl s.forwarded)
    (same_text-refl s.owner))
    ((tags_decide s.tags s.tags).1 refl)))
    (and_from (same_names s.affects s.affects) (same_nodes s.found s.found && same_nodes s.fixed s.fixed)
    ((names_decide s.affects s.affects).1 refl)
    (and_from (same_nodes s.found s.found) (same_nodes s.fixed s.fixed) ((nodes_decide s.found s.found).1 refl)
    ((nodes_decide s.fixed s.fixed).1 refl))))
    (and_from (bytes_eq s.blockers s.blockers) (same_flag s.archived s.archived) (bytes_refl s.blockers)
    (closed_same s.archived))

same_bugs-true : (a b : Bug) → same_bugs a b ≡ true → a ≡ b
same_bugs-true a b e =
    let p = and_parts (bytes_eq a.title b.title && bytes_eq a.submitter b.submitter)
    (same_shared a.shared b.shared && bytes_eq a.merged b.merged) e in
    let q = and_parts (bytes_eq a.title b.title) (bytes_eq a.submitter b.submitter) p.0 in
    let r = and_parts (same_shared a.shared b.shared) (bytes_eq a.merged b.merged) p.1 in
    λ j. record {
      title = bytes a.title b.title q.0 j;
      submitter = bytes a.submitter b.submitter q.1 j;
      shared = same_shared-true a.shared b.shared r.0 j;
      merged = bytes a.merged b.merged r.1 j;
    }

same_bugs-refl : (a : Bug) → same_bugs a a ≡ true
same_bugs-refl a = and_from (bytes_eq a.title a.title && bytes_eq a.submitter a.submitter)
    (same_shared a.shared a.shared && bytes_eq a.merged a.merged)
    (and_from (bytes_eq a.title a.title) (bytes_eq a.submitter a.submitter) (bytes_refl a.title) (bytes_refl a.submitter))
    (and_from (same_shared a.shared a.shared) (bytes_eq a.merged a.merged) (same_shared-refl a.shared) (bytes_refl a.merged))

pub same_at-true : (o p : Option Bug) → same_at o p ≡ true → o ≡ p
same_at-true None None e = refl
same_at-true None (Some b) e = absurd (false≢true e)
same_at-true (Some a) None e = absurd (false≢true e)
same_at-true (Some a) (Some b) e = ap Some (same_bugs-true a b e)

pub same_at-refl : (o : Option Bug) → same_at o o ≡ true
same_at-refl None = refl
same_at-refl (Some a) = same_bugs-refl a

-- a sound desk has no bug from the next number on
pub none-from_next : (d : Desk) → IsSound d → (n k : ℕ) → d.next ≤ k → nat_lt n k ≡ false → d.bug n ≡ None
none-from_next d sound n k l h = cases (d.bug n) refl
  where
    cases : (o : Option Bug) → d.bug n ≡ o → d.bug n ≡ None
    cases None e = e
    cases (Some b) e = let below : n < d.next = (sound.in_range n b e).1 in let there : n < k = omega (arith, below, l) in
        absurd (false≢true (sym h ∙ lt-ltb n k there))
