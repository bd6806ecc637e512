use Rattle.std.proofs.Common.{rules, arith, inr, length-take, length-take-le, lit<}
use Rattle.std.proofs.KnownBytes.{Consumes-nil, Keeps-refl}
use Rattle.http_bytes.proofs.TakenLemmas.{unfinished-empty, gave-kept, gave-more, takes-error}
use Rattle.http_bytes.proofs.HeadLemmas.{wrong-full, wrong-refused, wrong-stopped, none-empty, found-complete, loses-none}
use Rattle.http_bytes.proofs.PieceLemmas.{came-behind}
use Rattle.http_bytes.proofs.head.read_head.Goals as goal

pub pieces-init : goal.pieces-init
pieces-init g c = record {
  took = Consumes-nil _;
  fits = omega arith;
  room = c.requires.room;
  slots = c.requires.slots;
  none_yet = none-empty;
  unfinished = unfinished-empty;
  gave = gave-kept _ _ _ _ (Consumes-nil _) unfinished-empty (lit< tt) (Keeps-refl _);
}

pub returns-in_err-n-clause-cut : goal.returns-in_err-n-clause-cut
returns-in_err-n-clause-cut g c =
    let i = c.pieces.invariant in
    loses-none c.from_residual.result _ _ _ _ i.took c.in_err-n.ensures.none_lost i.none_yet

pub returns-else-filled-eq0-clause-found : goal.returns-else-filled-eq0-clause-found
returns-else-filled-eq0-clause-found g c =
    let i = c.pieces.invariant in
    wrong-stopped _ _ _ _ _ _ _ i.took c.in_ok-n.ensures.came (omega (arith, c.if-n-eq0.true))
    (simp length-take (omega (arith, i.fits, c.if-filled-eq0.false))) (c.in_ok-n.ensures.ended c.if-n-eq0.true) i.none_yet

pub returns-in-Err-clause-found : goal.returns-in-Err-clause-found
returns-in-Err-clause-found g c =
    let i = c.pieces.invariant in
    let came = c.in_ok-n.ensures.came in
    wrong-refused _ _ _ (came-behind _ _ _ _ _ _ _ i.took came)
    (simp length-take (omega (arith, came.within, c.if-n-eq0.false)))
    (λ more head rest reads. omega (arith, c.in-Err.ensures.no_room more head rest reads, i.slots))

pub returns-in-Ok-Complete-clause-found : goal.returns-in-Ok-Complete-clause-found
returns-in-Ok-Complete-clause-found g c =
    let i = c.pieces.invariant in
    let came = c.in_ok-n.ensures.came in
    let told = rw c.in-Ok-Complete.field-0-is at c.in-Ok-Complete.ensures in
    found-complete _ _ _ _ _ _ (came-behind _ _ _ _ _ _ _ i.took came) came.within (omega arith) (omega arith)
    told.within told.complete

pub returns-clause-found : goal.returns-clause-found
returns-clause-found g c =
    let i = c.pieces.invariant in
    wrong-full _ _ _ i.took (simp length-take (omega arith)) i.none_yet

pub returns-then-filled-eq0-clause-found : goal.returns-then-filled-eq0-clause-found
returns-then-filled-eq0-clause-found g c = search rules

pub pieces-preserved : goal.pieces-preserved
pieces-preserved g c =
    let i = c.pieces.invariant in
    let came = c.in_ok-n.ensures.came in
    let told = rw c.in-Ok-Partial.field-0-is at c.in-Ok-Partial.ensures in
    record {
      took = came-behind _ _ _ _ _ _ _ i.took came;
      fits = came.within;
      room = omega (arith, c.read_piece.auto.buf, i.room);
      slots = omega (arith, c.parse_request.auto.headers, i.slots);
      none_yet = told.partial;
      unfinished = record { none = told.partial; may = inr told.unfinished };
      gave = gave-more _ _ _ _ _ _ _ i.took i.unfinished (omega (arith, length-take-le c.pieces.filled c.pieces.buf i.fits, i.room, c.pieces-test.true)) came;
    }

pub returns-in_err-n-clause-taken : goal.returns-in_err-n-clause-taken
returns-in_err-n-clause-taken g c =
    let i = c.pieces.invariant in
    takes-error c.from_residual.result _ _ _ _ c.from_residual.ensures.0
    (gave-kept _ _ _ _ i.took i.unfinished (omega (arith, length-take-le c.pieces.filled c.pieces.buf i.fits, i.room, c.pieces-test.true)) c.in_err-n.ensures.none_lost)

pub returns-clause-taken : goal.returns-clause-taken
returns-clause-taken g c = (_, c.pieces.invariant.gave)

pub returns-in-Err-clause-taken : goal.returns-in-Err-clause-taken
returns-in-Err-clause-taken g c =
    let i = c.pieces.invariant in
    (_, gave-more _ _ _ _ _ _ _ i.took i.unfinished (omega (arith, length-take-le c.pieces.filled c.pieces.buf i.fits, i.room, c.pieces-test.true)) c.in_ok-n.ensures.came)

pub returns-in-Ok-Complete-clause-taken : goal.returns-in-Ok-Complete-clause-taken
returns-in-Ok-Complete-clause-taken g c =
    let i = c.pieces.invariant in
    gave-more _ _ _ _ _ _ _ i.took i.unfinished (omega (arith, length-take-le c.pieces.filled c.pieces.buf i.fits, i.room, c.pieces-test.true)) c.in_ok-n.ensures.came

pub returns-then-filled-eq0-clause-taken : goal.returns-then-filled-eq0-clause-taken
returns-then-filled-eq0-clause-taken g c =
    let i = c.pieces.invariant in
    (_, gave-more _ _ _ _ _ _ _ i.took i.unfinished (omega (arith, length-take-le c.pieces.filled c.pieces.buf i.fits, i.room, c.pieces-test.true)) c.in_ok-n.ensures.came)

pub returns-else-filled-eq0-clause-taken : goal.returns-else-filled-eq0-clause-taken
returns-else-filled-eq0-clause-taken g c =
    let i = c.pieces.invariant in
    (_, gave-more _ _ _ _ _ _ _ i.took i.unfinished (omega (arith, length-take-le c.pieces.filled c.pieces.buf i.fits, i.room, c.pieces-test.true)) c.in_ok-n.ensures.came)
