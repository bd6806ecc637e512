use Rattle.std.proofs.Common.{ap}
use Rattle.program_jobs.proofs.server.serve_over.Goals as goal

pub returns : goal.returns
returns g c = record {
  result = c.serve_port.result;
  end_is = c.end_of.ensures;
  served = c.serve_port.ensures.serves;
  told = c.serve_port.ensures.told;
  bind = λ e. ((c.serve_port.ensures.bind e).0, ap g.W.Write.contents (c.serve_port.ensures.bind e).1);
  write = c.serve_port.ensures.write;
}
