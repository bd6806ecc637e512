-- A body that comes in pieces, of which the first bytes are here.
use Rattle.std.proofs.Common.{◌≡◌, ℕ, ◌+◌, ◌<◌, ◌≤◌, List, [], ◌++◌, length, take, drop, min, Bool, true, false, nat_lt, Option, Result, Ok, Err, IsErrAnd, refl, sym, ap, ◌∙◌, subst, arith, append-nil, append_assoc, length-append, take-append-drop}
use Rattle.std.proofs.lemmas.List.{take_all, take_at, nil_from_length}
use Rattle.std.proofs.lemmas.Bool.Decides.{nat_tests}
use Rattle.std.specs.Io.KnownBytes.{IsAtEnd}
use Rattle.http_bytes.specs.Found.{HadBytes}
use Rattle.http_bytes.specs.Pieces.{Came}
use Rattle.http_bytes.proofs.HadLemmas.{left, left-end, had_given, had_then}
use Rattle.std.specs.Prelude.{Vec}
use Rattle.std.specs.declared.alloc.Global.{Global}
use Rattle.http_bytes.specs.Body.{whole, body_of_length, IfRead}
use Rattle.http_bytes.specs.declared.refusal.BodyRefusal.{BodyRefusal}
use Rattle.http_bytes.specs.declared.refusal.BodyRefusal.TheVariants.{BadRequest}
use Rattle.http_bytes.specs.declared.refusal.BodyFault.{BodyFault}
use Rattle.http_bytes.specs.declared.refusal.BodyFault.TheVariants.{Refused, Memory, Read}

whole-all : (n : ℕ) (rest : List ℕ) → n ≤ length rest → whole n rest ≡ Ok (take n rest)
unfolding whole
whole-all n rest h = grind (arith, nat_tests)

whole-cut : (n : ℕ) (rest : List ℕ) → length rest < n → whole n rest ≡ Err BadRequest
unfolding whole
whole-cut n rest h = grind (arith, nat_tests)

-- all that there was is less than the body
short : (here bytes rest : List ℕ) (n start total : ℕ) → rest ≡ [] → start ≡ min (length here) n
    → start + length bytes ≡ total → total < n → length (here ++ (bytes ++ rest)) < n
short here bytes rest n start total z s m t =
    let b : length rest ≡ 0 = ap length z in
    omega (arith, b, length-append bytes rest, length-append here (bytes ++ rest), s, m, t)

-- the input ended before the body was whole
pub body-cut : (old new : Option (List ℕ)) (before after here : List ℕ) (n start total : ℕ) → Came old new before after start total
    → start ≡ min (length here) n → total < n → IsAtEnd new → HadBytes old (λ more. Err BadRequest ≡ whole n (here ++ more))
body-cut old new before after here n start total c s t ends =
    had_given old new c.bytes (λ more. Err BadRequest ≡ whole n (here ++ more)) c.took
    (sym (whole-cut n (here ++ (c.bytes ++ left new)) (short here c.bytes (left new) n start total (left-end new ends) s c.count t)))

-- the body is the bytes that are here and those that came
joined : (old new : Option (List ℕ)) (before after here : List ℕ) (n start total : ℕ) → (c : Came old new before after start total)
    → length after ≡ n → take start before ≡ take start here → n ≤ total → after ≡ take start here ++ c.bytes
joined old new before after here n start total c l k t =
    sym (take_all total after (omega (arith, l, t))) ∙ c.behind ∙ ap (λ q. q ++ c.bytes) k

-- the first n bytes are those here and those that came, and what follows them is the rest
split : (here bytes rest : List ℕ) (n start : ℕ) → start ≡ min (length here) n → start + length bytes ≡ n
    → (b : Bool) → nat_lt n (length here) ≡ b
    → (back : List ℕ) × (here ++ (bytes ++ rest) ≡ (take start here ++ bytes) ++ back)
split here bytes rest n start s m true t =
    let below : n < length here = grind (arith, nat_tests, t) in
    let at : start ≡ n = omega (arith, s) in
    let none : bytes ≡ [] = nil_from_length bytes (omega (arith, m, at)) in
    let x = bytes ++ rest in (
      drop n here ++ x,
      sym (
          ap (λ q. (take start here ++ q) ++ (drop n here ++ x)) none
          ∙ ap (λ q. q ++ (drop n here ++ x)) (append-nil (take start here))
          ∙ sym (append_assoc (take start here) (drop n here) x)
          ∙ ap (λ k. (take k here ++ drop n here) ++ x) at
          ∙ ap (λ q. q ++ x) (take-append-drop n here)
          ),
    )
split here bytes rest n start s m false t =
    let above : length here ≤ n = grind (arith, nat_tests, t) in
    let at : length here ≤ start = omega (arith, s) in
    (rest, sym (append_assoc here bytes rest) ∙ ap (λ q. (q ++ bytes) ++ rest) (sym (take_all start here at)))

-- a front of n bytes is the first n
front : (n : ℕ) (all first back : List ℕ) → all ≡ first ++ back → length first ≡ n → (n ≤ length all) × (take n all ≡ first)
front n all first back e h = (omega (arith, ap length e ∙ length-append first back), ap (take n) e ∙ take_at first back n h)

-- the body is whole
pub body-whole : (old new : Option (List ℕ)) (before after here : List ℕ) (n start total : ℕ) → Came old new before after start total
    → length after ≡ n → start ≡ min (length here) n → take start before ≡ take start here → n ≤ total
    → HadBytes old (λ more. Ok after ≡ whole n (here ++ more))
body-whole old new before after here n start total c l s k t =
    let w = joined old new before after here n start total c l k t in
    let b = split here c.bytes (left new) n start s (omega (arith, c.count, c.within, l, t)) (nat_lt n (length here)) refl in
    let all = here ++ (c.bytes ++ left new) in
    let p = front n all (take start here ++ c.bytes) b.0 b.1 (sym (ap length w) ∙ l) in
    had_given old new c.bytes (λ more. Ok after ≡ whole n (here ++ more)) c.took (ap Ok (w ∙ sym p.1) ∙ sym (whole-all n all p.0))

asked-by : (body : Result (List ℕ) BodyRefusal) (known : Option (List ℕ)) (told : Result ℕ BodyRefusal)
    (n : ℕ) (here rest : List ℕ) → Ok n ≡ told → here ≡ rest
    → HadBytes known (λ more. body ≡ whole n (here ++ more))
    → HadBytes known (λ more. body ≡ body_of_length told (rest ++ more))
asked-by body known told n here rest is same had = had_then known (λ more. body ≡ whole n (here ++ more)) _
    (λ more e. e ∙ ap (λ l. whole n (l ++ more)) same ∙ ap (λ t. body_of_length t (rest ++ more)) is) had

-- the body of the length that the headers say, out of what is here and what comes
pub body-asked : (read : Result (Vec ℕ Global) BodyFault) (known : Option (List ℕ)) (told : Result ℕ BodyRefusal)
    (n : ℕ) (here rest : List ℕ) → Ok n ≡ told → here ≡ rest
    → IfRead read (λ body. HadBytes known (λ more. body ≡ whole n (here ++ more)))
    → IfRead read (λ body. HadBytes known (λ more. body ≡ body_of_length told (rest ++ more)))
body-asked (Ok body) known told n here rest is same had = asked-by (Ok body.items) known told n here rest is same had
body-asked (Err (Refused refusal)) known told n here rest is same had = asked-by (Err refusal) known told n here rest is same had
body-asked (Err Memory) known told n here rest is same had = tt
body-asked (Err Read) known told n here rest is same had = tt

-- what the headers refuse, as the code reports it
pub refused-read : (read : Result (Vec ℕ Global) BodyFault) (refusal : BodyRefusal) (Is : Result (List ℕ) BodyRefusal → Type 0)
    → IsErrAnd read (λ fault. fault ≡ Refused refusal) → Is (Err refusal) → IfRead read Is
refused-read (Ok body) refusal Is told is = absurd told
refused-read (Err fault) refusal Is told is = subst (λ (f : BodyFault). IfRead (Err f) Is) (sym told) is
