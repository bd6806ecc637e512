use Rattle.std.proofs.Common.{List, ℕ, sym, subst}
use Rattle.base_words.specs.Words.{IsCutInto}
use Rattle.base_words.proofs.LawLemmas.{words-cut_into, cut_into-words}
use Rattle.base_words.proofs.laws.one_list_of_words.Goals as goal

pub returns : goal.returns
returns c = λ p text ws. (
  words-cut_into p text ws,
  λ is. let P : List (List ℕ) → Type 0 = IsCutInto p text in subst P (sym is) (cut_into-words p text),
)
