use Rattle.store_failing.proofs.fail_at.FailAtRecords.TheImpl.Goals as goal

-- an earlier moment of this store is one of the other store
pub keep-tells : goal.keep-tells
keep-tells g c = record {
  answer = λ earlier since.
      let done = c.ensures.answer earlier.inner (record { honest = since.honest; kept = since.kept; fact = since.fact }) in
      record { honest = done.honest; kept = done.kept; fact = done.fact };
  crash = λ earlier since.
      let done = c.ensures.crash earlier.inner (record { honest = since.honest; kept = since.kept; fact = since.fact }) in
      record { honest = done.honest; kept = done.kept; fact = done.fact };
  honest = c.ensures.honest;
  count = c.ensures.count;
}
