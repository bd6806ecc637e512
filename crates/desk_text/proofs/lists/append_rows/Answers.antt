use Rattle.std.proofs.Common.{refl, sym, flat_map}
use Rattle.std.proofs.Transfers.{starts_with_trans}
use Rattle.desk_text.specs.Lists.{row_text}
use Rattle.desk_text.proofs.Appends.{all_done, front_more, next, same_front, stopped_within}
use Rattle.desk_text.proofs.lists.append_rows.Goals as goal

pub loop-row-preserved : goal.loop-row-preserved
loop-row-preserved c =
    let l = c.loop-row in
    let row = c.row-item.result in
    record {
      text =
          next row_text c.args.rows.now l.row-index row row l.out.items _ _ c.loop-row-test.true (sym c.row-item.is)
          l.invariant.text c.in_ok-append_row.ensures.ok;
      front = front_more c.args.out.now.items l.out.items _ (row_text row) l.invariant.front c.in_ok-append_row.ensures.ok;
    }

pub loop-row-init : goal.loop-row-init
loop-row-init c = record { text = refl; front = same_front c.args.out.now.items c.args.out.now.items refl }

pub returns-in_err-append_row : goal.returns-in_err-append_row
returns-in_err-append_row c =
    let a = c.args.out.now.items in
    stopped_within c.from_residual.result a (flat_map row_text c.args.rows.now) c.append_row.new.out.items
    c.from_residual.ensures.0
    (starts_with_trans c.append_row.new.out.items c.loop-row.out.items a c.in_err-append_row.ensures.err
    c.loop-row.invariant.front)

pub returns : goal.returns
returns c =
    let l = c.loop-row in
    record {
      ok = all_done row_text c.args.rows.now l.row-index _ l.out.items c.loop-row-test.false l.invariant.text;
      err = tt;
    }
