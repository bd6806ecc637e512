-- A text split into its lines.
use Rattle.std.proofs.Common.{◌≡◌, ◌≢◌, ℕ, ◌<◌, ◌≤◌, List, [], ◌∷◌, ◌++◌, length, get_or, map, ◌∙◌, ap, refl, arith, eqb, Bool}
use Rattle.std.proofs.Common.{true, false, All}
use Rattle.std.specs.Prelude.{if◌then◌else◌}
use Rattle.std.specs.List.{list_any, onto_first, slice_split}
use Rattle.std.proofs.lemmas.List.{get_or_default}
use Rattle.std.proofs.lemmas.List.Elements.{All-cons}
use Rattle.std.proofs.lemmas.List.Folds.{list_any_none}
use Rattle.std.proofs.lemmas.Bool.{ne_eqb, eqb-true, or_parts}
use Rattle.std.proofs.lemmas.List.Splits.{length-slice_split, slice_split_at, slice_split_none, slice_split-cons_yes}
use Rattle.std.proofs.lemmas.List.Splits.{slice_split-cons_no}
use Rattle.control_lines.specs.Lines.{without_return, is_feed, without_empty_last, raw_lines, lines_of}

-- a text in which no byte is a line feed
pub no_feed : (s : List ℕ) → ((i : ℕ) → i < length s → get_or s i 0 ≢ 10) → list_any is_feed s ≡ false
no_feed s h = list_any_none is_feed s (λ k d l. ap is_feed (get_or_default s k d 0 l) ∙ ne_eqb (get_or s k 0) 10 (h k l))

all_others : (s : List ℕ) → list_any is_feed s ≡ false → All (λ c. is_feed c ≡ false) s
all_others [] h = λ k d l. absurd (omega arith)
all_others (c ∷ s) h = let p = or_parts (is_feed c) (list_any is_feed s) h in
    All-cons (λ x. is_feed x ≡ false) c s p.0 (all_others s p.1)

-- a piece that isn't the last one is a line
not_last : (piece : List ℕ) (pieces : List (List ℕ)) → 1 ≤ length pieces
    → without_empty_last (piece ∷ pieces) ≡ piece ∷ without_empty_last pieces
not_last piece [] h = absurd (omega arith)
not_last piece (next ∷ more) h = refl

some_piece : (s : List ℕ) → 1 ≤ length (slice_split is_feed s)
some_piece s = omega (arith, length-slice_split is_feed s)

-- the first line
pub raw_lines-first : (line rest : List ℕ) → list_any is_feed line ≡ false → raw_lines (line ++ 10 ∷ rest) ≡ line ∷ raw_lines rest
raw_lines-first line rest h =
    ap without_empty_last (slice_split_at is_feed line 10 rest (all_others line h) refl)
    ∙ not_last line (slice_split is_feed rest) (some_piece rest)

-- the last line
pub raw_lines-last : (line : List ℕ) → 0 < length line → list_any is_feed line ≡ false → raw_lines line ≡ line ∷ []
raw_lines-last [] lt h = absurd (omega arith)
raw_lines-last (c ∷ line) lt h = ap without_empty_last (slice_split_none is_feed (c ∷ line) (all_others (c ∷ line) h))

-- a carriage return at the end
pub without_return-ended : (front : List ℕ) → without_return (front ++ 13 ∷ []) ≡ front
without_return-ended [] = refl
without_return-ended (c ∷ []) = refl
without_return-ended (c ∷ d ∷ s) = ap (λ (w : List ℕ). c ∷ w) (without_return-ended (d ∷ s))

-- no carriage return at the end
pub without_return-none : (line : List ℕ) → ((front : List ℕ) → line ≢ front ++ (13 ∷ [])) → without_return line ≡ line
without_return-none [] h = refl
without_return-none (c ∷ []) h =
    ap (λ (t : Bool). if t then [] else c ∷ []) (ne_eqb c 13 (λ e. h [] (ap (λ (x : ℕ). x ∷ []) e)))
without_return-none (c ∷ d ∷ s) h =
    ap (λ (w : List ℕ). c ∷ w) (without_return-none (d ∷ s) (λ front e. h (c ∷ front) (ap (λ (w : List ℕ). c ∷ w) e)))

-- pieces that aren't an empty one alone have a line
some_kept : (pieces : List (List ℕ)) → 2 ≤ length pieces → 1 ≤ length (without_empty_last pieces)
some_kept [] h = absurd (omega arith)
some_kept (piece ∷ []) h = absurd (omega arith)
some_kept (piece ∷ next ∷ more) h = omega arith

onto_kept : (c : ℕ) (pieces : List (List ℕ)) → 1 ≤ length pieces → 1 ≤ length (without_empty_last (onto_first c pieces))
onto_kept c [] h = absurd (omega arith)
onto_kept c (piece ∷ []) h = omega arith
onto_kept c (piece ∷ next ∷ more) h = omega arith

-- a message that isn't empty has a line
some_at : (c : ℕ) (s : List ℕ) (t : Bool) → is_feed c ≡ t → 1 ≤ length (raw_lines (c ∷ s))
some_at c s true e =
    rw (slice_split-cons_yes is_feed c s e) (some_kept ([] ∷ slice_split is_feed s) (omega (arith, some_piece s)))
some_at c s false e = rw (slice_split-cons_no is_feed c s e) (onto_kept c (slice_split is_feed s) (some_piece s))

length-map : {A B : Type 0} (f : A → B) (xs : List A) → length (map f xs) ≡ length xs
length-map f [] = refl
length-map f (x ∷ xs) = omega (arith, length-map f xs)

pub some_line : (message : List ℕ) → eqb (length message) 0 ≡ false → 1 ≤ length (lines_of message)
unfolding lines_of
some_line [] z = absurd (cc)
some_line (c ∷ s) z = omega (arith, length-map without_return (raw_lines (c ∷ s)), some_at c s (is_feed c) refl)

pub no_lines : (message : List ℕ) → eqb (length message) 0 ≡ true → lines_of message ≡ []
unfolding lines_of
no_lines [] z = refl
no_lines (c ∷ s) z = absurd (omega (arith, eqb-true (length (c ∷ s)) 0 z))
