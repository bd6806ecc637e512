use Rattle.std.proofs.Common.{List, ℕ, ◌≡◌, ◌++◌, ◌∙◌, subst, codes, decimal, OnOk}
use Rattle.std.specs.Io.KnownBytes.{Appends}
use Rattle.http_requests.proofs.writing.write_length.Goals as goal

pub returns : goal.returns
returns g c = record {
  all =
      let number : c.as_bytes.result.now ≡ decimal c.args.length =
      c.as_bytes.ensures.value ∙ c.format-number.ensures.text in
      subst (λ (n : List ℕ). OnOk c.write_three.result (Appends (g.W.Write.contents c.args.writer.now)
      (g.W.Write.contents c.write_three.new.writer) (codes "Connection: close\r\nContent-Length: " ++ (n ++ codes "\r\n"))))
      number c.write_three.ensures.all;
}
