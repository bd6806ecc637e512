use Rattle.std.proofs.Common.{map, take}
use Rattle.httparse.specs.Spans.{header_bytes}
use Rattle.http_bytes.specs.Headers.{values_of}
use Rattle.http_bytes.specs.Shown.{AreShown}
use Rattle.http_bytes.proofs.body_size.values_of.Given as goal

abbrev pub invariant-loop-header : goal.invariant-loop-header
invariant-loop-header l = AreShown l.values (values_of l.name (map (header_bytes l.buf) (take l.header-index l.headers)))
