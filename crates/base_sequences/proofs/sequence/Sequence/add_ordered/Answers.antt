use Rattle.std.proofs.Common.{rules, ◌≡◌, ◌≤◌, true, false, length, sym, ap, ◌∙◌, subst}
use Rattle.std.specs.Prelude.{slice_get, insert}
use Rattle.base_sequences.specs.Places.{is_this, place_in}
use Rattle.base_sequences.proofs.PlaceLemmas.{place_in-le, insert_key-same, insert_key-new}
use Rattle.base_sequences.proofs.sequence.Sequence.add_ordered.Goals as goal

pub returns-then-is_this-clause-ok : goal.returns-then-is_this-clause-ok
returns-then-is_this-clause-ok g c =
    let cmp = g.T.Ord.cmp in
    let s = c.args.self.now in
    let now : c.as_slice.result.now ≡ s = c.as_slice.ensures in
    let now-2 : c.as_slice-2.result.now ≡ s = c.as_slice-2.ensures in
    let place : c.place_in-place.result ≡ place_in cmp s c.args.item =
    c.place_in-place.ensures ∙ (λ j. place_in cmp (now j) c.args.item) in
    let h : is_this cmp (slice_get s (place_in cmp s c.args.item)) c.args.item ≡ true =
    (λ j. is_this cmp (slice_get (sym now-2 j) (sym place j)) c.args.item) ∙ sym c.is_this.ensures
    ∙ c.if-is_this.true in
    sym (insert_key-same cmp s c.args.item h)

pub put-requires : goal.put-requires
put-requires g c = (
  search rules,
  subst (λ m. c.place_in-place.result ≤ m) (ap length (c.as_slice.ensures ∙ sym c.self.view_is))
      (subst (λ p. p ≤ length c.as_slice.result.now) (sym c.place_in-place.ensures)
      (place_in-le g.T.Ord.cmp c.as_slice.result.now c.args.item)),
)

pub returns-clause-ok : goal.returns-clause-ok
returns-clause-ok g c =
    let cmp = g.T.Ord.cmp in
    let s = c.args.self.now in
    let place : c.place_in-place.result ≡ place_in cmp s c.args.item =
    c.place_in-place.ensures ∙ (λ j. place_in cmp (c.as_slice.ensures j) c.args.item) in
    let h : is_this cmp (slice_get s (place_in cmp s c.args.item)) c.args.item ≡ false =
    (λ j. is_this cmp (slice_get (sym c.as_slice-2.ensures j) (sym place j)) c.args.item)
    ∙ sym c.is_this.ensures ∙ c.if-is_this.false in
    c.in_ok-put.ensures.ok ∙ (λ j. insert (c.self.view_is j) (place j) c.args.item) ∙ insert_key-new cmp s c.args.item h
