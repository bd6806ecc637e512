use Rattle.std.proofs.Common.{rules}
use Rattle.desk_text.proofs.pages.page_of.Goals as goal

pub returns : goal.returns
returns c = search rules
