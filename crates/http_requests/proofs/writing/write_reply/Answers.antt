use Rattle.std.proofs.Common.{◌≡◌, ◌++◌}
use Rattle.http_requests.specs.Answer.{answer_bytes}
use Rattle.http_requests.specs.Shown.{shown}
use Rattle.http_requests.proofs.WrittenLemmas.{answer_front, both_written, none_begun, front_begun, rest_begun, on_error, on_error_then}
use Rattle.http_requests.proofs.writing.write_reply.Goals as goal

pub returns-in_err-write_whole-clause-unfinished : goal.returns-in_err-write_whole-clause-unfinished
returns-in_err-write_whole-clause-unfinished g c =
    on_error c.from_residual-in_err-write_whole.result _ (none_begun (g.W.Write.contents c.args.writer.now) (answer_bytes (shown c.args.reply.now)))

pub returns-in_err-write_whole-2-clause-unfinished : goal.returns-in_err-write_whole-2-clause-unfinished
returns-in_err-write_whole-2-clause-unfinished g c =
    let whole = answer_front (shown c.args.reply.now) c.bytes-body.result.now c.min.result c.new-front.result.items
    c.write_head.new.writer.items c.write_whole.new.writer.items c.split_at.result.0.now c.split_at.result.1.now c.as_slice.result.now
    c.bytes-body.ensures c.split_at.ensures.front c.split_at.ensures.back c.new-front.ensures
    c.in_ok-write_head.ensures.all c.in_ok-write_whole.ensures.all c.as_slice.ensures.value in
    on_error c.from_residual-in_err-write_whole-2.result _ (front_begun (g.W.Write.contents c.args.writer.now)
    (g.W.Write.contents c.write_whole-2.new.writer) c.as_slice.result.now c.split_at.result.1.now (answer_bytes (shown c.args.reply.now)) whole
    c.in_err-write_whole-2.ensures.unfinished)

pub returns-clause-all : goal.returns-clause-all
returns-clause-all g c =
    let whole = answer_front (shown c.args.reply.now) c.bytes-body.result.now c.min.result c.new-front.result.items
    c.write_head.new.writer.items c.write_whole.new.writer.items c.split_at.result.0.now c.split_at.result.1.now c.as_slice.result.now
    c.bytes-body.ensures c.split_at.ensures.front c.split_at.ensures.back c.new-front.ensures
    c.in_ok-write_head.ensures.all c.in_ok-write_whole.ensures.all c.as_slice.ensures.value in
    both_written c.write_whole-3.result (g.W.Write.contents c.args.writer.now) (g.W.Write.contents c.write_whole-2.new.writer)
    (g.W.Write.contents c.write_whole-3.new.writer) c.as_slice.result.now c.split_at.result.1.now (answer_bytes (shown c.args.reply.now))
    whole c.in_ok-write_whole-2.ensures.all c.write_whole-3.ensures.all

pub returns-clause-unfinished : goal.returns-clause-unfinished
returns-clause-unfinished g c =
    let whole = answer_front (shown c.args.reply.now) c.bytes-body.result.now c.min.result c.new-front.result.items
    c.write_head.new.writer.items c.write_whole.new.writer.items c.split_at.result.0.now c.split_at.result.1.now c.as_slice.result.now
    c.bytes-body.ensures c.split_at.ensures.front c.split_at.ensures.back c.new-front.ensures
    c.in_ok-write_head.ensures.all c.in_ok-write_whole.ensures.all c.as_slice.ensures.value in
    on_error_then c.write_whole-3.result _ _ (rest_begun (g.W.Write.contents c.args.writer.now) (g.W.Write.contents c.write_whole-2.new.writer)
    (g.W.Write.contents c.write_whole-3.new.writer) c.as_slice.result.now c.split_at.result.1.now (answer_bytes (shown c.args.reply.now))
    whole c.in_ok-write_whole-2.ensures.all) c.write_whole-3.ensures.unfinished
