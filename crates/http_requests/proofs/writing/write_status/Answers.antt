use Rattle.std.proofs.Common.{List, ℕ, ◌≡◌, ◌++◌, ◌∙◌, ap, subst, codes, decimal}
use Rattle.std.specs.Prelude.{unwrap_or}
use Rattle.std.specs.Io.KnownBytes.{Appends}
use Rattle.http.specs.StatusCode.{reason_phrase, status_text}
use Rattle.http_requests.proofs.WrittenLemmas.{written_then}
use Rattle.http_requests.proofs.writing.write_status.Goals as goal

pub returns : goal.returns
returns g c = record {
  all =
      let before = g.W.Write.contents c.args.writer.now in
      let first = g.W.Write.contents c.write_whole.new.writer in
      let second = g.W.Write.contents c.write_three.new.writer in
      let after = g.W.Write.contents c.write_whole-2.new.writer in
      let number : c.as_bytes.result.now ≡ decimal c.args.status =
      c.as_bytes.ensures.value ∙ c.format-number.ensures.text ∙ ap decimal c.as_u16.ensures.value in
      let phrase : c.as_bytes-2.result.now ≡ unwrap_or (reason_phrase c.args.status) (codes "<unknown status code>") =
      c.as_bytes-2.ensures.value ∙ c.phrase.ensures in
      written_then c.write_whole-2.result before first after (codes "HTTP/1.1 ") (status_text c.args.status ++ codes "\r\n")
      c.in_ok-write_whole.ensures.all
      (written_then c.write_whole-2.result first second after (status_text c.args.status) (codes "\r\n")
      (subst (λ (n : List ℕ). Appends first second (n ++ codes " " ++ unwrap_or (reason_phrase c.args.status) (codes "<unknown status code>")))
      number
      (subst (λ (p : List ℕ). Appends first second (c.as_bytes.result.now ++ codes " " ++ p)) phrase c.in_ok-write_three.ensures.all))
      c.write_whole-2.ensures.all);
}
