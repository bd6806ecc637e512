use Rattle.std.proofs.Common.{◌≡◌, ◌∙◌, sym, ap, subst, OnOk}
use Rattle.http_routes.specs.Rows.{Routes, with_route, routes}
use Rattle.http_routes.specs.Free.{IsFree}
use Rattle.http_routes.specs.declared.router.Route.TheVariants.{Bugs, Control, Branches, Bug, List as ListRoute}
use Rattle.http_routes.proofs.FreeLemmas.{bugs_free, control_free, branches_free, bug_free, list_free}
use Rattle.http_routes.proofs.router.add_routes.Goals as goal

pub add-requires : goal.add-requires
add-requires c = subst (IsFree Branches) (sym c.requires) branches_free

pub add-requires-2 : goal.add-requires-2
add-requires-2 c =
    let e = c.in_ok-add.ensures ∙ ap (with_route Branches) c.requires in
    subst (IsFree Control) (sym e) control_free

pub add-requires-3 : goal.add-requires-3
add-requires-3 c =
    let e = c.in_ok-add.ensures ∙ ap (with_route Branches) c.requires in
    let f = c.in_ok-add-2.ensures ∙ ap (with_route Control) e in
    subst (IsFree Bug) (sym f) bug_free

pub add-requires-4 : goal.add-requires-4
add-requires-4 c =
    let e = c.in_ok-add.ensures ∙ ap (with_route Branches) c.requires in
    let f = c.in_ok-add-2.ensures ∙ ap (with_route Control) e in
    let g = c.in_ok-add-3.ensures ∙ ap (with_route Bug) f in
    subst (IsFree ListRoute) (sym g) list_free

pub add-requires-5 : goal.add-requires-5
add-requires-5 c =
    let e = c.in_ok-add.ensures ∙ ap (with_route Branches) c.requires in
    let f = c.in_ok-add-2.ensures ∙ ap (with_route Control) e in
    let g = c.in_ok-add-3.ensures ∙ ap (with_route Bug) f in
    let h = c.in_ok-add-4.ensures ∙ ap (with_route ListRoute) g in
    subst (IsFree Bugs) (sym h) bugs_free

pub returns : goal.returns
unfolding routes
returns c =
    let e = c.in_ok-add.ensures ∙ ap (with_route Branches) c.requires in
    let f = c.in_ok-add-2.ensures ∙ ap (with_route Control) e in
    let g = c.in_ok-add-3.ensures ∙ ap (with_route Bug) f in
    let h = c.in_ok-add-4.ensures ∙ ap (with_route ListRoute) g in
    subst (λ (rows : Routes). OnOk c.add-5.result (c.add-5.new.router ≡ rows)) (ap (with_route Bugs) h) c.add-5.ensures
