-- Bytes written one after another.
use Rattle.std.proofs.Common.{◌≡◌, List, [], ℕ, ◌+◌, ◌<◌, ◌++◌, length, take, drop, Option, Some, Result, Ok, Err, OnOk, OnErr, arith, sym, ap, ◌∙◌, subst, append_assoc, take-append-drop}
use Rattle.std.proofs.Math.Seq.{take-append-add}
use Rattle.std.proofs.lemmas.List.{take-append-le}
use Rattle.std.specs.Io.KnownBytes.{Appends}
use Rattle.std.proofs.KnownBytes.{Appends-nil, Appends-trans}
use Rattle.http_requests.specs.Answer.{Answer, head_bytes, answer_bytes}

-- more bytes after those that were written
pub written_then : {T E : Type 0} (r : Result T E) (a b c : Option (List ℕ)) (xs ys : List ℕ) → Appends a b xs
    → OnOk r (Appends b c ys) → OnOk r (Appends a c (xs ++ ys))
written_then (Ok done) a b c xs ys p q = Appends-trans a b c xs ys p q
written_then (Err fault) a b c xs ys p q = tt

-- a front is written out, and then the rest
pub both_written : {T E : Type 0} (r : Result T E) (a b c : Option (List ℕ)) (front rest whole : List ℕ) → whole ≡ front ++ rest
    → Appends a b front → OnOk r (Appends b c rest) → OnOk r (Appends a c whole)
both_written r a b c front rest whole is p q =
    subst (λ (text : List ℕ). OnOk r (Appends a c text)) (sym is) (written_then r a b c front rest p q)

-- of a text a beginning is written
abbrev pub Begun : Option (List ℕ) → Option (List ℕ) → List ℕ → Type 0
Begun a c whole = (n : ℕ) × Appends a c (take n whole)

-- what holds in any case
pub on_error : {T E : Type 0} (r : Result T E) (P : Type 0) → P → OnErr r P
on_error (Ok done) P h = tt
on_error (Err fault) P h = h

-- the same where something follows from what holds
pub on_error_then : {T E : Type 0} (r : Result T E) (P Q : Type 0) → (P → Q) → OnErr r P → OnErr r Q
on_error_then (Ok done) P Q f h = tt
on_error_then (Err fault) P Q f h = f h

-- nothing is written yet
pub none_begun : (a : Option (List ℕ)) (whole : List ℕ) → Begun a a whole
none_begun a whole = (0, Appends-nil a)

-- a part of the front
pub front_begun : (a b : Option (List ℕ)) (front rest whole : List ℕ) → whole ≡ front ++ rest
    → ((n : ℕ) × (n < length front) × Appends a b (take n front)) → Begun a b whole
front_begun a b front rest whole is h =
    let same : take h.0 whole ≡ take h.0 front = ap (take h.0) is ∙ take-append-le h.0 front rest (omega (arith, h.1)) in
    (h.0, subst (λ (text : List ℕ). Appends a b text) (sym same) h.2)

-- the front, and a part of the rest
pub rest_begun : (a b c : Option (List ℕ)) (front rest whole : List ℕ) → whole ≡ front ++ rest → Appends a b front
    → ((n : ℕ) × (n < length rest) × Appends b c (take n rest)) → Begun a c whole
rest_begun a b c front rest whole is p h =
    let n = length front + h.0 in
    let same : take n whole ≡ front ++ take h.0 rest = ap (take n) is ∙ take-append-add front rest h.0 in
    (n, subst (λ (text : List ℕ). Appends a c text) (sym same) (Appends-trans a b c front (take h.0 rest) p h.2))

-- the front of an answer, its head and so many bytes of its body, and the rest
pub answer_front : (a : Answer) (bytes : List ℕ) (count : ℕ) (none head front first rest slice : List ℕ) → bytes ≡ a.body
    → first ≡ take count bytes → rest ≡ drop count bytes → none ≡ []
    → Appends (Some none) (Some head) (head_bytes a (length bytes)) → Appends (Some head) (Some front) first → slice ≡ front
    → answer_bytes a ≡ slice ++ rest
answer_front a bytes count none head front first rest slice body is_first is_rest empty p q is_slice =
    let sized : head_bytes a (length bytes) ≡ head_bytes a (length a.body) = ap (λ (text : List ℕ). head_bytes a (length text)) body in
    let is_head : head ≡ head_bytes a (length a.body) = p ∙ ap (λ (text : List ℕ). text ++ head_bytes a (length bytes)) empty ∙ sized in
    let is_front : slice ≡ head_bytes a (length a.body) ++ take count bytes =
    is_slice ∙ q ∙ ap (λ (text : List ℕ). text ++ first) is_head ∙ ap (λ (text : List ℕ). head_bytes a (length a.body) ++ text) is_first in
    let whole : slice ++ rest ≡ head_bytes a (length a.body) ++ a.body =
    ap (λ (text : List ℕ). text ++ rest) is_front ∙ ap (λ (text : List ℕ). (head_bytes a (length a.body) ++ take count bytes) ++ text) is_rest
    ∙ append_assoc (head_bytes a (length a.body)) (take count bytes) (drop count bytes)
    ∙ ap (λ (text : List ℕ). head_bytes a (length a.body) ++ text) (take-append-drop count bytes ∙ body) in
    sym whole
