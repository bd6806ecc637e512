use Rattle.std.proofs.Common.{rules, ◌≡◌, ◌≤◌, true, false, length, sym, ap, ◌∙◌, subst}
use Rattle.std.specs.Prelude.{slice_get, insert}
use Rattle.base_sequences.specs.Places.{is_at, place_for}
use Rattle.base_sequences.proofs.PlaceLemmas.{place_for-le, with_item-same, with_item-new}
use Rattle.base_sequences.proofs.sequence.Sequence.add.Goals as goal

pub returns-then-is_at-clause-ok : goal.returns-then-is_at-clause-ok
returns-then-is_at-clause-ok g c =
    let key = g.T.Numbered.number in
    let s = c.args.self.now in
    let number : c.number-number.result ≡ key c.args.item = c.number-number.ensures in
    let now : c.as_slice.result.now ≡ s = c.as_slice.ensures in
    let now-2 : c.as_slice-2.result.now ≡ s = c.as_slice-2.ensures in
    let place : c.place_for-place.result ≡ place_for key s (key c.args.item) =
    c.place_for-place.ensures ∙ (λ j. place_for key (now j) (number j)) in
    let h : is_at key (slice_get s (place_for key s (key c.args.item))) (key c.args.item) ≡ true =
    (λ j. is_at key (slice_get (sym now-2 j) (sym place j)) (sym number j)) ∙ sym c.is_at.ensures
    ∙ c.if-is_at.true in
    sym (with_item-same key s c.args.item h)

pub put-requires : goal.put-requires
put-requires g c = (
  search rules,
  subst (λ m. c.place_for-place.result ≤ m) (ap length (c.as_slice.ensures ∙ sym c.self.view_is))
      (subst (λ p. p ≤ length c.as_slice.result.now) (sym c.place_for-place.ensures)
      (place_for-le g.T.Numbered.number c.as_slice.result.now c.number-number.result)),
)

pub returns-clause-ok : goal.returns-clause-ok
returns-clause-ok g c =
    let key = g.T.Numbered.number in
    let s = c.args.self.now in
    let number : c.number-number.result ≡ key c.args.item = c.number-number.ensures in
    let now : c.as_slice.result.now ≡ s = c.as_slice.ensures in
    let now-2 : c.as_slice-2.result.now ≡ s = c.as_slice-2.ensures in
    let place : c.place_for-place.result ≡ place_for key s (key c.args.item) =
    c.place_for-place.ensures ∙ (λ j. place_for key (now j) (number j)) in
    let h : is_at key (slice_get s (place_for key s (key c.args.item))) (key c.args.item) ≡ false =
    (λ j. is_at key (slice_get (sym now-2 j) (sym place j)) (sym number j)) ∙ sym c.is_at.ensures
    ∙ c.if-is_at.false in
    c.in_ok-put.ensures.ok ∙ (λ j. insert (c.self.view_is j) (place j) c.args.item) ∙ with_item-new key s c.args.item h
