-- What a column makes of the cells that a desk writes, and when cells of texts are equal.
use Rattle.table_schema.proofs.Imports.{Bor, Option, Some, None, option_copied, ◌≡◌, ℕ, ℤ, pos, List, Bool, true, false, eqb, cond, refl, sym, ap, ◌∙◌, texts_ties, is_eq, bytes_eq, unary, binary, value_cmp, or_null, bound_value, Null, Int, Text, equal, plain, first_key, value_cmp-Text, same_number, truth_is}
use Rattle.sqlite.specs.Cast.{cast}
use Rattle.sqlite.specs.Kind.TheVariants.{Integer}
use Rattle.sqlite.specs.declared.types.Value.{Value}

either : (b : Bool) (x : Value) → cond b x x ≡ x
either true x = refl
either false x = refl

pub cast_int : (n : ℤ) → cast Integer (Int n) ≡ Int n
unfolding unary
cast_int n = either _ (Int n)

pub cast_null : cast Integer Null ≡ Null
unfolding unary
cast_null = either _ Null

-- texts are told apart by their bytes
pub same_text : (s t : List ℕ) → is_eq (value_cmp (Text s) (Text t)) ≡ bytes_eq s t
same_text s t = ap is_eq (value_cmp-Text s t) ∙ sym (texts_ties s t)

-- ---- cells of keys

pub number_key : (m n : ℕ) → equal (first_key plain).collation (Int (pos m)) (Int (pos n)) ≡ eqb m n
unfolding binary first_key
number_key m n = truth_is _ ∙ same_number m n

pub text_key : (s t : List ℕ) → equal (first_key plain).collation (Text s) (Text t) ≡ bytes_eq s t
unfolding binary first_key
text_key s t = truth_is _ ∙ same_text s t

-- ---- parameters that may be missing

pub maybe_bound : (o : Option (Bor (List ℕ))) (t : Option (List ℕ)) → option_copied o ≡ t → bound_value (or_null (λ s. Text s.now) o) ≡ or_null Text t
maybe_bound None t is = ap (or_null Text) is
maybe_bound (Some s) t is = ap (or_null Text) is
