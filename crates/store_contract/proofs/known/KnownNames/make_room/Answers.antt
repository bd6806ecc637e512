use Rattle.std.proofs.Common.{rules}
use Rattle.store_contract.proofs.known.KnownNames.make_room.Goals as goal

pub returns-clause-room : goal.returns-clause-room
returns-clause-room c = search rules
