-- Where the options end.
use Rattle.std.proofs.Common.{◌≡◌, ℕ, Bool, List, [], ◌∷◌, map, take, drop, refl, sym, ap, ◌∙◌}
use Rattle.std.specs.Prelude.{◌+◌, ◌||◌, if◌then◌else◌}
use Rattle.std.specs.List.{prefix_len, list_any}
use denote.Ref.{Bor}
use Rattle.std.proofs.lemmas.List.{take-map, drop-map}
use Rattle.program_options.specs.Cut.{Text, is_lone_dash, has_lone_dash}

-- as many elements pass at the front as among their images
pub prefix_len-map : {X Y : Type 0} (p : Y → Bool) (f : X → Y) (xs : List X) → prefix_len (λ x. p (f x)) xs ≡ prefix_len p (map f xs)
prefix_len-map p f [] = refl
prefix_len-map p f (x ∷ xs) = ap (λ n. if p (f x) then 1 + n else 0) (prefix_len-map p f xs)

pub front-map : {X Y : Type 0} (p : Y → Bool) (f : X → Y) (n : ℕ) (front xs : List X) → n ≡ prefix_len (λ x. p (f x)) xs → front ≡ take n xs
    → map f front ≡ take (prefix_len p (map f xs)) (map f xs)
front-map p f n front xs count e =
    ap (map f) e ∙ sym (take-map f n xs) ∙ ap (λ k. take k (map f xs)) (count ∙ prefix_len-map p f xs)

pub back-map : {X Y : Type 0} (p : Y → Bool) (f : X → Y) (n : ℕ) (back xs : List X) → n ≡ prefix_len (λ x. p (f x)) xs → back ≡ drop n xs
    → map f back ≡ drop (prefix_len p (map f xs)) (map f xs)
back-map p f n back xs count e =
    ap (map f) e ∙ sym (drop-map f n xs) ∙ ap (λ k. drop k (map f xs)) (count ∙ prefix_len-map p f xs)

-- an element passes where its image does
list_any-map : {X Y : Type 0} (p : Y → Bool) (f : X → Y) (xs : List X) → list_any (λ x. p (f x)) xs ≡ list_any p (map f xs)
list_any-map p f [] = refl
list_any-map p f (x ∷ xs) = ap (λ b. p (f x) || b) (list_any-map p f xs)

pub lone_dash-map : (found : Bool) (xs : List (Bor Text)) (words : List Text) → found ≡ list_any (λ x. is_lone_dash x.now) xs
    → map (λ x. x.now) xs ≡ words → has_lone_dash words ≡ found
lone_dash-map found xs words h e = sym (h ∙ list_any-map is_lone_dash (λ x. x.now) xs ∙ ap has_lone_dash e)
