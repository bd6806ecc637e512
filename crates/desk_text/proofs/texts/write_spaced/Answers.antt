use Rattle.std.proofs.Common.{◌≡◌, ℕ, List, ◌∷◌, ◌+◌, ◌-◌, drop, ap, ◌∙◌, arith}
use Rattle.std.proofs.lemmas.Fmt.{length-decimal-le}
use Rattle.std.proofs.lemmas.List.{drop-set}
use Rattle.desk_text.proofs.texts.write_spaced.Goals as goal

pub write_digits-start-requires : goal.write_digits-start-requires
write_digits-start-requires c = (
  omega (arith, length-decimal-le 20 c.args.number (omega arith) (omega arith) c.ranges.number.fits, c.requires.room),
  c.requires.within,
)

pub overflow_sub-start : goal.overflow_sub-start
overflow_sub-start c =
    omega (
      arith,
      length-decimal-le 20 c.args.number (omega arith) (omega arith) c.ranges.number.fits,
      c.requires.room,
      c.write_digits-start.ensures.start,
    )

pub returns-clause-room : goal.returns-clause-room
returns-clause-room c =
    omega (
      arith,
      length-decimal-le 20 c.args.number (omega arith) (omega arith) c.ranges.number.fits,
      c.write_digits-start.ensures.start,
    )

pub returns-clause-written : goal.returns-clause-written
returns-clause-written c =
    let buffer = c.write_digits-start.new.buf in
    let at = c.write_digits-start.result in
    let one : (at - 1) + 1 ≡ at =
    omega (
      arith,
      length-decimal-le 20 c.args.number (omega arith) (omega arith) c.ranges.number.fits,
      c.requires.room,
      c.write_digits-start.ensures.start,
    ) in
    drop-set buffer (at - 1) 32
    (omega (arith, c.requires.within, c.write_digits-start.auto.buf, c.write_digits-start.ensures.start, one))
    ∙ ap (λ (w : List ℕ). 32 ∷ w) (ap (λ (k : ℕ). drop k buffer) one ∙ c.write_digits-start.ensures.written)
