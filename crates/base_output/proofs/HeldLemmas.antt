-- What is held of the bytes that were given, as some are handed on.
use Rattle.std.proofs.Common.{◌≡◌, ℕ, ◌+◌, ◌-◌, ◌++◌, List, length, take, drop, Option, Some, None, arith, ap, ◌∙◌, subst, append_assoc, take-append-drop, length-drop}
use Rattle.std.proofs.lemmas.List.{take_all, drop-drop}
use Rattle.std.specs.Io.KnownBytes.{Keeps, Appends, append_known}

-- a front of what is held goes to the other writer
handed_on : (given before after : Option (List ℕ)) (held : List ℕ) (n : ℕ) → Keeps given (append_known before held)
    → Appends before after (take n held) → Keeps given (append_known after (drop n held))
handed_on None before after held n k h = tt
handed_on (Some g) None after held n k h = absurd k
handed_on (Some g) (Some b) None held n k h = absurd h
handed_on (Some g) (Some b) (Some a) held n k h =
    ap (λ (x : List ℕ). x ++ drop n held) h ∙ append_assoc b (take n held) (drop n held)
    ∙ ap (λ (x : List ℕ). b ++ x) (take-append-drop n held) ∙ k

-- the same, where a front was handed on before
pub more_handed_on : (given before after : Option (List ℕ)) (bytes seen : List ℕ) (start n : ℕ) → seen ≡ bytes
    → Keeps given (append_known before (drop start bytes))
    → Appends before after (take n (take (length seen - start) (drop start seen)))
    → Keeps given (append_known after (drop (start + n) bytes))
more_handed_on given before after bytes seen start n same k h =
    let whole : take (length bytes - start) (drop start bytes) ≡ drop start bytes =
    take_all (length bytes - start) (drop start bytes) (omega (arith, length-drop start bytes)) in
    let offered : Appends before after (take n (drop start bytes)) =
    subst (λ (x : List ℕ). Appends before after (take n x)) whole
    (subst (λ (x : List ℕ). Appends before after (take n (take (length x - start) (drop start x)))) same h) in
    subst (λ (x : List ℕ). Keeps given (append_known after x)) (drop-drop n start bytes)
    (handed_on given before after (drop start bytes) n k offered)
