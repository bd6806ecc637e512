use Rattle.std.proofs.Common.{rules}
use Rattle.http_requests.proofs.reply.Body.media.Goals as goal

pub returns-in-Page : goal.returns-in-Page
returns-in-Page c = search rules
