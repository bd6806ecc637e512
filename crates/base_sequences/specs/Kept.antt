-- The elements that a list keeps.
use Rattle.std.specs.Prelude.{List}
use Rattle.base_sequences.specs.declared.sequence.Kept.{Kept}
use Rattle.base_sequences.specs.declared.sequence.Kept.TheVariants.{One, Many}

abbrev pub kept_items : {T : Type 0} → Kept T → List T
kept_items (One one _) = one
kept_items (Many items) = items.items
