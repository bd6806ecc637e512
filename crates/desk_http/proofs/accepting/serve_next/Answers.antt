use Rattle.std.proofs.Common.{List, ℕ, Option, Some, subst, ap}
use Rattle.desk_http.specs.Serving.{HasEnded, client_of}
use Rattle.desk_http.proofs.accepting.serve_next.Goals as goal

pub returns : goal.returns
returns g c =
    let remaining = g.R.Read.remaining in
    let contents = g.W.Write.contents in
    let written = contents c.serve_within-served.result.1.writer in
    record {
      turn = Some (record {
        client = client_of remaining contents c.in-Some.connection;
        written = written;
        result = c.serve_within-served.result.0;
      });
      counts = (c.serve_within-served.ensures.count, c.serve_within-served.ensures.told);
      leaves = c.serve_within-served.ensures.answer;
      hears = (
        g.L.Listens.clients c.next_connection.new.self,
        c.in-Some.ensures,
        subst (λ (text : Option (List ℕ)). HasEnded text (g.L.Listens.clients c.next_connection.new.self)
            (g.L.Listens.clients c.end_connection.new.self)) (ap contents c.drain_connection-connection.ensures) c.end_connection.ensures,
      );
      crashes = c.serve_within-served.ensures.crash;
    }
