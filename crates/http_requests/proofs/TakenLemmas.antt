-- What serving one connection takes from its reader.
use Rattle.std.proofs.Common.{◌≡◌, ℕ, ◌+◌, ◌≤◌, List, [], ◌++◌, length, take, drop, Option, Some, None, Result, Ok, Err, Bool, true, false, refl, sym, ap, ◌∙◌, subst, inl, inr, arith, length-append}
use Rattle.std.specs.Prelude.{◌⊎◌, nat_le}
use Rattle.std.proofs.lemmas.List.{nil_from_length}
use Rattle.std.proofs.lemmas.Bool.Decides.{nat_tests}
use Rattle.std.proofs.KnownBytes.{Consumes-kept, Keeps-refl}
use Rattle.std.specs.Io.KnownBytes.{Consumes, Keeps}
use Rattle.httparse.specs.Grammar.{RequestHead}
use Rattle.httparse.specs.Spans.{IsRequestAt}
use Rattle.httparse.specs.declared.spans.HeaderSpan.{HeaderSpan}
use Rattle.httparse.specs.declared.spans.RequestSpans.{RequestSpans}
use Rattle.http_bytes.specs.Head.{BeginsWithHead, HasNoHead}
use Rattle.http_bytes.specs.Body.{TakesBody}
use Rattle.http_bytes.specs.Found.{GaveHead, TakesHead, IsComplete}
use Rattle.http_bytes.specs.declared.head.Head.{Head}
use Rattle.http_bytes.specs.declared.head.Head.TheVariants.{Nothing, Wrong, Complete}
use Rattle.http_bytes.proofs.HeadLemmas.{one_head, begins-more}
use Rattle.http_requests.specs.Taken.{size_of, TakesBehind, TakesRequest, TakesHeadAlone}

-- nothing was taken after the bytes for a head
pub takes_alone : (old new : Option (List ℕ)) (gave : TakesHeadAlone old new) → TakesRequest old new
takes_alone old new gave = record { taken = gave.0; mid = new; gave = gave.1; behind = inl (Keeps-refl new) }

-- what was taken for a head, whatever was found
pub takes_head : {E : Type 0} (r : Result Head E) (old new : Option (List ℕ)) (buf : List ℕ) → TakesHead old new buf r
    → TakesRequest old new
takes_head (Ok Nothing) old new buf gave = takes_alone old new gave
takes_head (Ok Wrong) old new buf gave = takes_alone old new gave
takes_head (Ok (Complete spans filled)) old new buf gave = takes_alone old new (take filled buf, gave)
takes_head (Err error) old new buf gave = takes_alone old new gave

-- what was taken for a head, and then for its body
pub takes_behind : {E : Type 0} (r : Result Head E) (h : Head) (old mid new : Option (List ℕ)) (buf : List ℕ) (headers : List HeaderSpan)
    (spans : RequestSpans) (filled : ℕ) → TakesHead old mid buf r → r ≡ Ok h → h ≡ Complete spans filled
    → IsComplete old mid buf headers spans filled
    → ((head : RequestHead) → IsRequestAt (take filled buf) headers spans head
    → TakesBody (size_of head) (drop spans.len (take filled buf)) mid new)
    → TakesRequest old new
takes_behind {E} r h old mid new buf headers spans filled gave is shape c body = record {
  taken = take filled buf;
  mid = mid;
  gave = subst (λ (q : Result Head E). TakesHead old mid buf q) (is ∙ ap Ok shape) gave;
  behind = inr (record {
    head = c.head;
    behind = drop spans.len (take filled buf);
    begins = c.begins;
    body = body c.head c.covers;
  });
}

-- ---- where the bytes are known

gave_kept : (old mid new : Option (List ℕ)) (taken : List ℕ) → GaveHead old mid taken → Keeps mid new → TakesHeadAlone old new
gave_kept old mid new taken gave kept = (
  taken,
  record {
    took = Consumes-kept old mid new taken gave.took kept;
    before = gave.before;
    piece = gave.piece;
    are = gave.are;
    room = gave.room;
    unfinished = gave.unfinished;
  },
)

-- the input begins with the head that was found
found_head : (input taken : List ℕ) (mid new : Option (List ℕ)) → Consumes (Some input) mid taken → (b : TakesBehind taken mid new)
    → (y : List ℕ) × (mid ≡ Some y) × BeginsWithHead input b.head (b.behind ++ y)
found_head input taken None new took b = absurd took
found_head input taken (Some y) new took b = (
  y,
  refl,
  subst (λ l. BeginsWithHead l b.head (b.behind ++ y)) (sym took) (begins-more taken y b.head b.behind b.begins),
)

kept_by : (size : Option ℕ) (here : List ℕ) (mid new : Option (List ℕ)) → size ≡ None → TakesBody size here mid new → Keeps mid new
kept_by size here mid new none takes = subst (λ (s : Option ℕ). TakesBody s here mid new) none takes

head_then : (input taken : List ℕ) (mid new : Option (List ℕ)) (head : RequestHead) (rest : List ℕ) → GaveHead (Some input) mid taken
    → BeginsWithHead input head rest → size_of head ≡ None → (b : TakesBehind taken mid new) → TakesHeadAlone (Some input) new
head_then input taken mid new head rest gave begins none b =
    let f = found_head input taken mid new gave.took b in
    let one = one_head input head b.head rest (b.behind ++ f.0) begins f.2 in
    gave_kept (Some input) mid new taken gave
    (kept_by (size_of b.head) b.behind mid new (sym (ap size_of one.0) ∙ none) b.body)

pub head_alone : (input left : List ℕ) (head : RequestHead) (rest : List ℕ) → TakesRequest (Some input) (Some left)
    → BeginsWithHead input head rest → size_of head ≡ None → TakesHeadAlone (Some input) (Some left)
head_alone input left head rest t begins none = elim t.behind [
  | inl kept ↦ gave_kept (Some input) t.mid (Some left) t.taken t.gave kept
  | inr b ↦ head_then input t.taken t.mid (Some left) head rest t.gave begins none b
]

pub wrong_alone : (input left : List ℕ) → TakesRequest (Some input) (Some left) → HasNoHead input
    → TakesHeadAlone (Some input) (Some left)
wrong_alone input left t none = elim t.behind [
  | inl kept ↦ gave_kept (Some input) t.mid (Some left) t.taken t.gave kept
  | inr b ↦ (let f = found_head input t.taken t.mid (Some left) t.gave.took b in absurd (none b.head (b.behind ++ f.0) f.2))
]

some_is_none : (y : List ℕ) → None ≡ Some y → ⊥
some_is_none y e = cc

-- the bytes for a body, and what is left
by_size : (input taken left z : List ℕ) (size : ℕ) (behind y : List ℕ) → Some z ≡ Some y
    → GaveHead (Some input) (Some z) taken → TakesBody (Some size) behind (Some z) (Some left)
    → (b : Bool) → nat_le (length behind) size ≡ b
    → (length (behind ++ y) ≤ length left + size) ⊎ TakesHeadAlone (Some input) (Some left)
by_size input taken left z size behind y is gave takes true t =
    let same : z ≡ y = cc in
    let within : length behind ≤ size = grind (arith, nat_tests, t) in
    let count = ap length takes.1 ∙ length-append takes.0 left in
    inl (omega (arith, length-append behind y, ap length same, count, within, takes.2))
by_size input taken left z size behind y is gave takes false t =
    let beyond : size ≤ length behind = grind (arith, nat_tests, t) in
    let nil : takes.0 ≡ [] = nil_from_length takes.0 (omega (arith, beyond, takes.2)) in
    inr (gave_kept (Some input) (Some z) (Some left) taken gave
    (sym (takes.1 ∙ ap (λ (l : List ℕ). l ++ left) nil)))

few_left : (input taken left : List ℕ) (mid : Option (List ℕ)) (size : ℕ) (behind y : List ℕ) → mid ≡ Some y
    → GaveHead (Some input) mid taken → TakesBody (Some size) behind mid (Some left)
    → (length (behind ++ y) ≤ length left + size) ⊎ TakesHeadAlone (Some input) (Some left)
few_left input taken left None size behind y is gave takes = absurd (some_is_none y is)
few_left input taken left (Some z) size behind y is gave takes =
    by_size input taken left z size behind y is gave takes (nat_le (length behind) size) refl

pub body_then : (input left : List ℕ) (head : RequestHead) (rest : List ℕ) (size : ℕ) → TakesRequest (Some input) (Some left)
    → BeginsWithHead input head rest → size_of head ≡ Some size
    → (length rest ≤ length left + size) ⊎ TakesHeadAlone (Some input) (Some left)
body_then input left head rest size t begins some = elim t.behind [
  | inl kept ↦ inr (gave_kept (Some input) t.mid (Some left) t.taken t.gave kept)
  | inr b ↦ (
      let f = found_head input t.taken t.mid (Some left) t.gave.took b in
      let one = one_head input head b.head rest (b.behind ++ f.0) begins f.2 in
      let takes = subst (λ (s : Option ℕ). TakesBody s b.behind t.mid (Some left)) (sym (ap size_of one.0) ∙ some) b.body in
      subst (λ (r : List ℕ). (length r ≤ length left + size) ⊎ TakesHeadAlone (Some input) (Some left)) (sym one.1)
      (few_left input t.taken left t.mid size b.behind f.0 f.1 t.gave takes))
]
