-- What is told of what `clap` makes of the options.
use Rattle.std.proofs.Common.{◌≡◌, List, [], ◌∷◌, Bool, true, false, not, refl, ap, sym, ◌∙◌, inl, inr}
use Rattle.std.specs.Prelude.{codes, ◌||◌}
use Rattle.std.specs.List.{list_any}
use Rattle.std.specs.Option.{option_copied}
use Rattle.std.proofs.lemmas.Bool.{false≢true, or_left}
use Rattle.std.proofs.Math.Bool.{or-true}
use Rattle.clap.specs.Words.{is_simple, is_simple_and_free, Kinds, IsAmong, HasKind, kind_of}
use Rattle.clap.specs.declared.error.Error.{Error}
use Rattle.clap.specs.declared.error.kind.ErrorKind.{ErrorKind}
use Rattle.clap.proofs.OnLiterals.{clap_on_literals}
use Rattle.program_options.specs.Cut.{Text, option_words, has_lone_dash}
use Rattle.program_options.specs.Options.{options, is_help, refusals, value_in, given_in}
use Rattle.program_options.specs.Told.{given_of, is_out_of_memory, IsToldOf, IsToldOfKind}
use Rattle.program_options.specs.Jobs.{IsErrorOf}
use Rattle.program_options.specs.declared.options.Values.{Values}
use Rattle.program_options.specs.declared.job.WordsError.{WordsError}
use Rattle.program_options.specs.declared.job.WordsError.TheVariants.{Help, Bad, Memory}

pub are_simple : is_simple options ≡ true
unfolding clap_on_literals options
are_simple = refl

pub are_simple_and_free : is_simple_and_free options ≡ true
unfolding clap_on_literals options
are_simple_and_free = refl

-- a test that one of the kinds passes
passes : (p : ErrorKind → Bool) (k : ErrorKind) (kinds : Kinds) → p k ≡ true → IsAmong k kinds → list_any p kinds ≡ true
passes p k [] h among = absurd (among)
passes p k (x ∷ xs) h (inl e) = or_left (p x) (list_any p xs) (ap p (sym e) ∙ h)
passes p k (x ∷ xs) h (inr among) = ap (λ b. p x || b) (passes p k xs h among) ∙ or-true (p x)

-- what is told of an error is told of the kinds that it may have
pub told-of_kinds : (e : Error) (kinds : Kinds) (told : WordsError) → IsToldOfKind (kind_of e) told → HasKind kinds e → IsToldOf kinds told
told-of_kinds e kinds Memory h has = tt
told-of_kinds e kinds (Help text) h (inl none) = absurd (false≢true (sym (ap is_help none) ∙ h))
told-of_kinds e kinds (Help text) h (inr among) = passes is_help (kind_of e) kinds h among
told-of_kinds e kinds Bad h (inl none) = absurd (false≢true (sym h.1 ∙ ap is_out_of_memory none))
told-of_kinds e kinds Bad h (inr among) = passes (λ k. not (is_help k)) (kind_of e) kinds (ap not h.0) among

pub same_given : (v : Values) (words : List Text) → option_copied v.store ≡ value_in words (codes "store")
    → option_copied v.from ≡ value_in words (codes "from") → option_copied v.id ≡ value_in words (codes "id") → option_copied v.port ≡ value_in words (codes "port")
    → option_copied v.count ≡ value_in words (codes "count") → option_copied v.first ≡ value_in words (codes "first")
    → given_of v ≡ given_in words
same_given v words store from id port count first = rw (store, from, id, port, count, first) refl

-- what is told of options is why words with these options are no job
pub told-of_words : (words : List Text) (told : WordsError) → has_lone_dash (option_words words) ≡ false
    → IsToldOf (refusals (option_words words)) told → IsErrorOf words told
told-of_words words (Help text) no_dash h = (no_dash, h)
told-of_words words Bad no_dash h = inr (inl h)
told-of_words words Memory no_dash h = tt
