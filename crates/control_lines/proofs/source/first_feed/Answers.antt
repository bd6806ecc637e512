use Rattle.control_lines.proofs.ReadingLemmas.{feed_found}
use Rattle.control_lines.proofs.source.first_feed.Goals as goal

pub returns : goal.returns
returns c = feed_found c.args.bytes.now c.memchr.result c.memchr.ensures
