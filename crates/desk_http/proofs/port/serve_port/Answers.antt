use Rattle.std.proofs.Common.{rules}
use Rattle.desk_http.proofs.port.serve_port.Goals as goal

pub returns-clause-bind : goal.returns-clause-bind
returns-clause-bind g c = search rules
