-- The outcome of a message whose only line stops it, where nothing is kept of its id.
use Rattle.std.proofs.Common.{◌≡◌, length, Option, None, refl, sym, ap, subst, ◌∙◌, codes}
use Rattle.std.specs.Prelude.{slice_get}
use Rattle.bug_record.specs.Desk.{Desk}
use Rattle.control_grammar.specs.Lines.{reading}
use Rattle.control_lines.specs.Lines.{lines_of}
use Rattle.store_contract.specs.Store.{MayBeKept}
use Rattle.bug_record.specs.declared.outcome.Outcome.TheVariants.{Stopped}
use Rattle.base_words.specs.Ids.{is_id}
use Rattle.base_words.specs.Words.{words_between}
use Rattle.store_contract.specs.Kept.{Keeping, IsOfMessage, lines_told, outcomes_kept, told}
use Rattle.store_contract.specs.Message.{end_of}
use Rattle.store_contract.specs.declared.kept.Kept.{Kept}

stop_may_be_first : (kept : Keeping) (d : Desk) → kept (codes "m1") ≡ None
    → MayBeKept (codes "m1") (codes "ann") (codes "stop") kept d Stopped None
unfolding reading end_of lines_of words_between is_id
stop_may_be_first kept d none = record {
  good = tt;
  next = record {
    is_id = refl;
    same = subst (IsOfMessage (codes "ann") (codes "stop")) (sym none) tt;
    goes_on = ap (λ (k : Option Kept). end_of (told (lines_of (codes "stop")) (outcomes_kept k))) none;
    line = codes "stop";
    is_next = ap (λ (k : Option Kept). slice_get (lines_told (lines_of (codes "stop"))) (length (outcomes_kept k))) none;
    takes = refl;
  };
}

-- so it is after a question, which leaves what is kept
pub stop_may_be_kept : (kept old : Keeping) (d : Desk) → kept ≡ old → None ≡ old (codes "m1")
    → MayBeKept (codes "m1") (codes "ann") (codes "stop") kept d Stopped None
stop_may_be_kept kept old d stays none = stop_may_be_first kept d (ap (λ (k : Keeping). k (codes "m1")) stays ∙ sym none)
