use Rattle.std.proofs.Common.{◌∷◌, ◌++◌, codes, refl, sym, ap, ◌∙◌}
use Rattle.desk_text.proofs.Appends.{all_done, and_then, next}
use Rattle.desk_text.proofs.pages.append_each_name.Goals as goal

pub loop-name-init : goal.loop-name-init
loop-name-init c = refl

pub loop-name-preserved : goal.loop-name-preserved
loop-name-preserved c =
    let l = c.loop-name in
    let name = c.name-item.result in
    next (λ name. 32 ∷ name) c.args.names.now l.name-index name name l.out.items _ _ c.loop-name-test.true
    (sym c.name-item.is) l.invariant
    (and_then l.out.items (codes " ") name c.in_ok-append_text.ensures.ok
    (c.in_ok-append_text-2.ensures.ok ∙ ap (λ w. c.append_text.new.out.items ++ w) c.as_str.ensures))

pub returns : goal.returns
returns c =
    let l = c.loop-name in
    all_done (λ name. 32 ∷ name) c.args.names.now l.name-index _ l.out.items c.loop-name-test.false
    l.invariant
