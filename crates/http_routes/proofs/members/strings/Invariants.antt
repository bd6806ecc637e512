use Rattle.std.proofs.Common.{◌≡◌}
use Rattle.serde_json.specs.View.{items_view}
use Rattle.http_routes.specs.Members.{strings_of}
use Rattle.http_routes.specs.Shown.{texts_shown}
use Rattle.http_routes.proofs.StringsLemmas.{texts_from}
use Rattle.http_routes.proofs.members.strings.Given as goal

abbrev pub invariant-loop-item : goal.invariant-loop-item
invariant-loop-item l = strings_of (items_view l.items) ≡ texts_from (texts_shown l.texts) l.items l.item-index
