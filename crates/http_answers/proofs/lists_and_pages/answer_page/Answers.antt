use Rattle.http_answers.proofs.CrashLemmas.{question_left}
use Rattle.http_answers.proofs.lists_and_pages.answer_page.Goals as goal

pub returns-clause-crash : goal.returns-clause-crash
returns-clause-crash g c =
    question_left g.S.Records.leaves _ _ _ _ _ _ _ _ c.page_of.ensures.crash c.page_of.ensures.stays
