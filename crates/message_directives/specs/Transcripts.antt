-- The transcript of a message.
-- This project's own rule.
use Rattle.std.specs.Prelude.{ℕ, ◌-◌, List, [], ◌∷◌, ◌++◌, length, slice_index_or}
use Rattle.base_faults.specs.declared.store_fault.End.{End}
use Rattle.base_faults.specs.declared.store_fault.End.TheVariants.{All, Stopped, TooManyUnreadable, Store}
use Rattle.desk_text.specs.Texts.{outcome_text, end_text}
use Rattle.store_contract.specs.Message.{Entry}

-- the two lines of each outcome
abbrev pub transcript : List Entry → List ℕ
transcript [] = []
transcript (entry ∷ entries) = outcome_text entry.0 entry.1 ++ transcript entries

-- the line at which the store failed, counted from 1 (0 is taken for 1); empty where there is no
-- such line
abbrev pub line_of_end : End → List (List ℕ) → List ℕ
line_of_end All lines = []
line_of_end Stopped lines = []
line_of_end TooManyUnreadable lines = []
line_of_end (Store fault k) lines = slice_index_or lines (k - 1) []

-- what is written for a message that was received
unfoldable pub received_text : List Entry → End → List (List ℕ) → List ℕ
received_text outcomes end lines = transcript outcomes ++ end_text end (line_of_end end lines)
