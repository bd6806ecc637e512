-- Lines that are appended one after another.
use Rattle.std.proofs.Common.{◌≡◌, ℕ, true, false, List, [], ◌∷◌, ◌++◌, length, flat_map, Result, codes, ap, ◌∙◌}
use Rattle.std.proofs.lemmas.Bool.{false≢true}
use Rattle.std.proofs.lemmas.List.{append_assoc}
use Rattle.std.specs.Bool.{◌==◌}
use Rattle.std.specs.Prelude.{OnOk}
use Rattle.desk_text.specs.Pages.{page_line, names_or_dash}
use Rattle.desk_text.proofs.Appends.{and_then, last_ok, not_empty}

pub three : (a x y z : List ℕ) {b c d : List ℕ} → b ≡ a ++ x → c ≡ b ++ y → d ≡ c ++ z → d ≡ a ++ (x ++ y ++ z)
three a x y z e f g =
    g ∙ ap (λ w. w ++ z) (f ∙ ap (λ w. w ++ y) e ∙ append_assoc a x y) ∙ append_assoc a (x ++ y) z

-- the line of no name
pub dash_line : {T E X : Type 0} (r : Result T E) (name : X → List ℕ) (xs : List X) (label a b : List ℕ) → true ≡ (length xs == 0) → OnOk r (b ≡ a ++ page_line label (codes " -")) → OnOk r (b ≡ a ++ page_line label (names_or_dash name xs))
dash_line r name [] label a b none h = h
dash_line r name (x ∷ xs) label a b none h = absurd (not_empty (length xs) none)

-- the line of names, appended in three
pub names_line : {T E X : Type 0} (r : Result T E) (name : X → List ℕ) (xs : List X) (label a b c d : List ℕ) → false ≡ (length xs == 0) → b ≡ a ++ label → c ≡ b ++ flat_map (λ x. 32 ∷ name x) xs → OnOk r (d ≡ c ++ codes "\n") → OnOk r (d ≡ a ++ page_line label (names_or_dash name xs))
unfolding page_line
names_line r name [] label a b c d some e f g = absurd (false≢true some)
names_line r name (x ∷ xs) label a b c d some e f g =
    let names = flat_map (λ x. 32 ∷ name x) (x ∷ xs) in
    last_ok r a (label ++ names) (codes "\n") c d (and_then a label names e f) g

-- four texts, one after another
pub four : {T E : Type 0} (r : Result T E) (a x y z w b c d e : List ℕ) → b ≡ a ++ x → c ≡ b ++ y → d ≡ c ++ z → OnOk r (e ≡ d ++ w) → OnOk r (e ≡ a ++ (x ++ y ++ z ++ w))
four r a x y z w b c d e p q s t = last_ok r a (x ++ y ++ z) w d e (three a x y z p q s) t
