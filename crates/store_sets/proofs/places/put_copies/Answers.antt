use Rattle.std.proofs.Common.{rules, ◌≡◌, ◌++◌, [], ◌∷◌}
use Rattle.std.proofs.lemmas.Bool.{false≢true}
use Rattle.store_sets.proofs.PlaceLemmas.{putting_more, last-there}
use Rattle.store_sets.proofs.places.put_copies.Goals as goal

pub loop-image-preserved : goal.loop-image-preserved
loop-image-preserved c =
    let all = c.loop-image.images.items in
    let rest = c.pop.new.self.items in
    let e : all ≡ rest ++ c.in-Some.image ∷ [] = search rules in
    putting_more c.args.bugs.now c.args.images.items c.loop-image.bugs c.put_image.new.bugs all rest c.in-Some.image e
    c.loop-image.invariant c.in_ok-put_image.ensures.ok

pub returns-in_err-put_image-clause-known : goal.returns-in_err-put_image-clause-known
returns-in_err-put_image-clause-known c = λ w.
    let all = c.loop-image.images.items in
    let rest = c.pop.new.self.items in
    let e : all ≡ rest ++ c.in-Some.image ∷ [] = search rules in
    let there = last-there c.loop-image.bugs all rest c.in-Some.image e (c.loop-image.invariant.there w) in
    absurd (false≢true (c.in_err-put_image.ensures.known there))
