-- Which inputs begin with no head, and that none begins with two.
use Rattle.std.proofs.Common.{◌≡◌, ◌≢◌, ℕ, ◌<◌, ◌≤◌, List, [], ◌++◌, length, take, drop, refl, sym, ap, ◌∙◌, arith, append-nil, subst, Option, Result, Ok, Err, OnErr, take-append-drop, length-append, length-take-le}
use Rattle.std.proofs.KnownBytes.{Consumes-kept, Consumes-trans}
use Rattle.std.proofs.lemmas.List.{take-append-le, take_at, length-map, nil_from_length}
use Rattle.std.specs.Io.KnownBytes.{Consumes, IsAtEnd, Keeps}
use Rattle.httparse.proofs.GrammarLemmas.{ReadsRequest-append, request_unique}
use Rattle.httparse.specs.Grammar.{RequestHead, HasNoRequest, print_request}
use Rattle.httparse.specs.Spans.{RequestOverflows, IsRequestWithin, IsRequestOf, header_bytes, name_and_value}
use Rattle.http_bytes.specs.Head.{BeginsWithHead, HasNoHead, max_head, max_headers}
use Rattle.httparse.specs.declared.spans.HeaderSpan.{HeaderSpan}
use Rattle.httparse.specs.declared.spans.RequestSpans.{RequestSpans}
use Rattle.http_bytes.specs.Found.{HadBytes, IsWrong, IsComplete, LosesNoHead}
use Rattle.http_bytes.specs.Pieces.{Came}
use Rattle.http_bytes.proofs.HadLemmas.{left, left-end, had_given}

-- one head
pub one_head : (input : List ℕ) (head other : RequestHead) (rest left : List ℕ) → BeginsWithHead input head rest
    → BeginsWithHead input other left → (head ≡ other) × (rest ≡ left)
one_head input head other rest left a b = request_unique input head other rest left a.reads b.reads

-- an input that goes on begins with the same head
pub begins-more : (input more : List ℕ) (head : RequestHead) (rest : List ℕ) → BeginsWithHead input head rest
    → BeginsWithHead (input ++ more) head (rest ++ more)
begins-more input more head rest b = record {
  reads = ReadsRequest-append input head rest more b.reads;
  few = b.few;
  short = b.short;
}

-- no head is empty
pub none-empty : HasNoRequest []
unfolding print_request
none-empty h r b =
    let e = simp length-append at (ap length b.1) in
    omega arith

-- a front that is as long as a prefix begins with it
front_begins : (front rest p r : List ℕ) → front ++ rest ≡ p ++ r → length p ≤ length front
    → front ≡ p ++ drop (length p) front
front_begins front rest p r e h =
    let a : take (length p) (front ++ rest) ≡ take (length p) (p ++ r) = ap (take (length p)) e in
    let b : take (length p) front ≡ p = sym (take-append-le (length p) front rest h) ∙ a ∙ take_at p r (length p) refl in
    sym (take-append-drop (length p) front) ∙ ap (λ l. l ++ drop (length p) front) b

-- a full buffer with no head
no_head-full : (front : List ℕ) → max_head ≤ length front → HasNoRequest front → (rest : List ℕ) → HasNoHead (front ++ rest)
no_head-full front long none rest h r b =
    none h (drop (length (print_request h)) front)
    (b.reads.0, front_begins front rest (print_request h) r b.reads.1 (omega (arith, b.short)))

-- more headers than there are slots, whatever follows
no_head-refused : (front : List ℕ) → RequestOverflows max_headers front → (rest : List ℕ) → HasNoHead (front ++ rest)
no_head-refused front over rest h r b = let more = over rest h r b.reads in omega (arith, b.few)

-- what begins with a byte is not empty
not_empty : (front rest : List ℕ) → 0 < length front → front ++ rest ≢ []
not_empty front rest h n = absurd (omega (arith, h, ap length n, length-append front rest))

-- the reader gave bytes, and with what it has left there is no head
wrong : (old new : Option (List ℕ)) (front : List ℕ) → Consumes old new front → 0 < length front
    → HasNoHead (front ++ left new) → HadBytes old IsWrong
wrong old new front took h none = had_given old new front IsWrong took (not_empty front (left new) h, none)

pub wrong-full : (old new : Option (List ℕ)) (front : List ℕ) → Consumes old new front
    → max_head ≤ length front → HasNoRequest front → HadBytes old IsWrong
wrong-full old new front took long none = wrong old new front took (omega arith) (no_head-full front long none (left new))

pub wrong-refused : (old new : Option (List ℕ)) (front : List ℕ) → Consumes old new front
    → 0 < length front → RequestOverflows max_headers front → HadBytes old IsWrong
wrong-refused old new front took h over = wrong old new front took h (no_head-refused front over (left new))

-- the input has ended
ended : (front : List ℕ) (new : Option (List ℕ)) → IsAtEnd new → HasNoRequest front → HasNoHead (front ++ left new)
ended front new ends none =
    subst HasNoHead (sym (append-nil front) ∙ ap (λ l. front ++ l) (sym (left-end new ends))) (λ h r b. none h r b.reads)

pub wrong-ended : (old new : Option (List ℕ)) (front : List ℕ) → Consumes old new front
    → 0 < length front → IsAtEnd new → HasNoRequest front → HadBytes old IsWrong
wrong-ended old new front took h ends none = wrong old new front took h (ended front new ends none)

-- a read that gave no byte behind those that had come
pub wrong-stopped : (old mid new : Option (List ℕ)) (before after : List ℕ) (filled total : ℕ) → Consumes old mid (take filled before)
    → Came mid new before after filled total → total ≡ filled → 0 < length (take filled before) → IsAtEnd new
    → HasNoRequest (take filled before) → HadBytes old IsWrong
wrong-stopped old mid new before after filled total took c t h ends none =
    let front = take filled before in
    let nil : c.bytes ≡ [] = nil_from_length c.bytes (omega (arith, c.count, t)) in
    let all = subst (λ l. Consumes old new (front ++ l)) nil (Consumes-trans old mid new front c.bytes took c.took) in
    wrong-ended old new front (subst (Consumes old new) (append-nil front) all) h ends none

-- ---- what reading finds

-- a buffer that begins with a head, whose parts the spans cover
pub found-complete : (old new : Option (List ℕ)) (buf : List ℕ) (headers : List HeaderSpan) (spans : RequestSpans) (filled : ℕ)
    → Consumes old new (take filled buf) → filled ≤ length buf → length buf ≤ max_head → length headers ≤ max_headers
    → IsRequestWithin (take filled buf) headers spans → IsRequestOf (take filled buf) headers spans
    → IsComplete old new buf headers spans filled
found-complete old new buf headers spans filled took fits room slots within (head, covers) =
    let count : length (take spans.headers headers) ≡ length head.fields =
    sym (length-map (take spans.headers headers) (header_bytes (take filled buf)))
    ∙ ap length covers.fields ∙ length-map head.fields name_and_value in
    record {
      took = took;
      fits = fits;
      head = head;
      begins = record {
        reads = covers.reads;
        few = omega (arith, count, length-take-le spans.headers headers within.section.count_fits, within.section.count_fits);
        short = omega (arith, covers.len, within.section.len_fits, length-take-le filled buf fits);
      };
      within = within;
      covers = covers;
    }

-- a failed read takes nothing, and what came before it is no head
pub loses-none : {T E : Type 0} (r : Result T E) (old mid new : Option (List ℕ)) (bytes : List ℕ) → Consumes old mid bytes
    → Keeps mid new → HasNoRequest bytes → OnErr r (LosesNoHead old new)
loses-none (Ok x) old mid new bytes took kept none = tt
loses-none (Err e) old mid new bytes took kept none =
    record { bytes = bytes; took = Consumes-kept old mid new bytes took kept; none = none }
