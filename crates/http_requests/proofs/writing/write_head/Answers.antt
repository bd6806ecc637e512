use Rattle.std.proofs.Common.{List, ℕ, ◌≡◌, ◌++◌, ◌∙◌, subst, codes, option_map, OnOk}
use Rattle.std.specs.Io.KnownBytes.{Appends}
use Rattle.std.proofs.KnownBytes.{Appends-trans}
use Rattle.http_requests.specs.Answer.{status_line, allow_line, length_lines, media_line}
use Rattle.http_requests.specs.Shown.{media_of}
use Rattle.http_requests.proofs.WrittenLemmas.{written_then}
use Rattle.http_requests.proofs.writing.write_head.Goals as goal

pub returns : goal.returns
returns g c = record {
  all =
      let reply = c.args.reply.now in
      let a = g.W.Write.contents c.args.writer.now in
      let b = g.W.Write.contents c.write_status.new.writer in
      let d = g.W.Write.contents c.write_allow.new.writer in
      let e = g.W.Write.contents c.write_length.new.writer in
      let f = g.W.Write.contents c.write_three.new.writer in
      let h = g.W.Write.contents c.write_whole.new.writer in
      let status = status_line reply.status in
      let allow = allow_line (option_map (λ s. s.now) reply.allow) in
      let size = length_lines c.args.length in
      let media : c.as_bytes.result.now ≡ media_of reply.body = c.as_bytes.ensures.value ∙ c.media.ensures in
      let two = Appends-trans a b d status allow c.in_ok-write_status.ensures.all c.in_ok-write_allow.ensures.all in
      let three = Appends-trans a d e (status ++ allow) size two c.in_ok-write_length.ensures.all in
      let four = Appends-trans a e f (status ++ allow ++ size) (media_line (media_of reply.body)) three
      (subst (λ (m : List ℕ). Appends e f (media_line m)) media c.in_ok-write_three.ensures.all) in
      written_then c.write_whole.result a f h (status ++ allow ++ size ++ media_line (media_of reply.body)) (codes "\r\n") four
      c.write_whole.ensures.all;
}
