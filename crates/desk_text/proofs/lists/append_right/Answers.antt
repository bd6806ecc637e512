use Rattle.std.proofs.Common.{◌-◌, length}
use Rattle.std.specs.Prelude.{replicate}
use Rattle.desk_text.specs.Lists.{right_aligned}
use Rattle.desk_text.proofs.Appends.{last_ok, last_err, stopped_within}
use Rattle.desk_text.proofs.lists.append_right.Goals as goal

pub returns-in_err-append_spaces : goal.returns-in_err-append_spaces
returns-in_err-append_spaces c =
    stopped_within c.from_residual.result c.args.out.now.items (right_aligned 9 c.args.text.now)
    c.append_spaces.new.out.items c.from_residual.ensures.0 c.in_err-append_spaces.ensures.err

pub returns : goal.returns
returns c =
    let a = c.args.out.now.items in
    let t = c.args.text.now in
    let spaces = replicate (9 - length t) 32 in
    record {
      ok =
          last_ok c.append_text.result a spaces t c.append_spaces.new.out.items c.append_text.new.out.items
          c.in_ok-append_spaces.ensures.ok c.append_text.ensures.ok;
      err =
          last_err c.append_text.result a spaces c.append_spaces.new.out.items c.append_text.new.out.items
          c.in_ok-append_spaces.ensures.ok c.append_text.ensures.err;
    }
