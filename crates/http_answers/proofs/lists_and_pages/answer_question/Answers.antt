use Rattle.std.proofs.Common.{rules}
use Rattle.http_answers.proofs.lists_and_pages.answer_question.Goals as goal

pub returns-then-told-clause-is : goal.returns-then-told-clause-is
returns-then-told-clause-is c = search rules
