use Rattle.table_schema.proofs.Exports.{◌≡◌, true, length, rules, all_stay, IsKeptContent}
use Rattle.desk_tables.proofs.KeptLemmas.{none_change}
use Rattle.desk_tables.proofs.TransactionLemmas.{asks_known, asks_read}
use Rattle.desk_tables.proofs.questions.MarksStayQuestion.ask.Goals as goal

pub returns-then-is_empty-clause-asks : goal.returns-then-is_empty-clause-asks
returns-then-is_empty-clause-asks g c =
    let images = c.args.self.now.change.now.images in
    let none : length images ≡ 0 = search rules in
    asks_known _ true IsKeptContent (λ k stay. stay ≡ all_stay k images) (λ k kept. none_change images k none)

pub returns-clause-asks : goal.returns-clause-asks
returns-clause-asks g c =
    asks_read c.read_marks_stay.result _ _ _ _ _ _ (λ k fits. tt) (λ k stay p fits. rw c.as_slice-images.ensures at p) c.read_marks_stay.ensures.reads c.read_marks_stay.ensures.serves
