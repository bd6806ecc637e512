use Rattle.std.proofs.Common.{inl, ◌≡◌, ℕ, ◌+◌, ◌≤◌, lit≤, arith, Err, List, [], ◌∷◌, ◌++◌, sym, ◌∙◌, ap, subst, refl, false}
use Rattle.std.proofs.lemmas.Result.{err_from_is_err_and}
use Rattle.base_words.specs.Texts.{is_text, IsText}
use Rattle.store_contract.proofs.HoldsLemmas.{holds_weaker, holds_none, holds_then, holds_both}
use Rattle.desk_run.specs.Script.{standing, begin}
use Rattle.desk_run.specs.Gathering.{parts_from}
use Rattle.control_lines.specs.Buffered.{Buffered, bytes_left}
use Rattle.control_lines.specs.declared.fault.ScriptFault.{ScriptFault}
use Rattle.control_lines.specs.declared.fault.ScriptFault.TheVariants.{Read}
use Rattle.desk_run.specs.declared.script.ScriptEnd.{ScriptEnd}
use Rattle.desk_run.proofs.RunLemmas.{runs_then, runs_none}
use Rattle.desk_run.proofs.ScriptLemmas.{ReadTo, nothing_read, read_more, cut_more, stops_reading, stops_at_once}
use Rattle.desk_run.proofs.ScriptLemmas.{left_more, left_same, reading_counted, read_in_part, known_before, none_right, on_ok}
use Rattle.desk_run.proofs.ScriptLemmas.{stops_in_line, last_line, ends_at_last, ends_at_end, one_line_more}
use Rattle.store_contract.proofs.TriedLemmas.{tried_then, holds_three, holds_both_here}
use Rattle.control_lines.specs.Lines.{raw_lines}
use Rattle.desk_run.proofs.ScriptLemmas.{no_lines_left}
use Rattle.desk_run.proofs.TriedLemmas.{tried_in_line, tried_at_end, holds_all}
use Rattle.desk_run.proofs.script.run_script.Goals as goal

pub returns-in_default-clause-answer : goal.returns-in_default-clause-answer
returns-in_default-clause-answer g c =
    holds_none _ _ _ (record {
      known = λ xs e. stops_at_once xs (g.R.Read.remaining c.args.reader.now) (begin (g.S.Records.desk c.args.store.now)) (g.S.Records.faults c.args.store.now)
          (g.W.Write.contents c.args.writer.now);
    })

pub invariant_of-run : goal.invariant_of-run
unfolding is_text
invariant_of-run g c = record { good_sender = subst IsText (sym c.in-Ok.ensures) refl }

pub loop-number-init : goal.loop-number-init
loop-number-init g c = record {
  before = [];
  texts = [];
  counted = refl;
  within = subst (λ (s : Buffered). 1 + bytes_left s ≤ 137438953473) (sym c.new-source.ensures) (lit≤ tt);
  cut = λ lines. ap (λ (h : List (List ℕ)). parts_from h lines) (sym c.new.ensures.items);
  faults = refl;
  read = left_same _ (λ xs. subst (λ (s : Buffered). ReadTo [] xs (s.unread ++ xs)) (sym c.new-source.ensures) (nothing_read xs));
  ran = holds_none _ _ _
      (let r = runs_none (begin (g.S.Records.desk c.args.store.now)) (g.W.Write.contents c.args.writer.now) in
      (ap (λ (x : List ℕ). standing (g.S.Records.desk c.args.store.now) x false) c.in-Ok.ensures ∙ r.0, r.1));
  stays = holds_none _ _ _ refl;
  left = holds_none _ _ _ (λ alone. alone);
}

pub returns-in_err-line-clause-answer : goal.returns-in_err-line-clause-answer
returns-in_err-line-clause-answer g c =
    let i = c.loop-number.invariant in
    let p = err_from_is_err_and c.from_residual.result c.from_residual.ensures.1 in
    rw (p.1, p.2) (holds_weaker i.ran
    (λ ran. known_before i.read c.in_err-line.ensures.fault
    (λ xs ys r f. stops_reading i.texts i.before c.loop-number.run.gathered.items xs (c.loop-number.source.unread ++ ys) _
    c.loop-number.number _ _ _ _ _ _ _ c.in_err-line.field-0.0 r i.cut ran refl i.faults i.counted f)))

pub returns-in_err-line-clause-begun : goal.returns-in_err-line-clause-begun
returns-in_err-line-clause-begun g c e =
    let i = c.loop-number.invariant in
    let p = err_from_is_err_and c.from_residual.result c.from_residual.ensures.1 in
    let read : c.in_err-line.field-0.0 ≡ Read = cc (e, p.1, p.2) in
    let none = c.in_err-line.ensures.emptied (ap (λ (z : ScriptFault). Err z) read) in
    read_in_part i.texts c.loop-number.source.unread c.next_line.new.source.unread none i.read
    (c.in_err-line.ensures.begun (ap (λ (z : ScriptFault). Err z) read))

pub returns-in_err-line-clause-count : goal.returns-in_err-line-clause-count
returns-in_err-line-clause-count g c =
    let p = err_from_is_err_and c.from_residual.result c.from_residual.ensures.1 in
    rw (p.1, p.2) (reading_counted ScriptEnd c.loop-number.number c.in_err-line.field-0.0 _ _ c.in_err-line.ensures.outside
    c.loop-number.invariant.faults)

pub returns-in_err-take_line-in-Line-clause-answer : goal.returns-in_err-take_line-in-Line-clause-answer
returns-in_err-take_line-in-Line-clause-answer g c =
    let i = c.loop-number.invariant in
    let piece = rw c.in-Line.is at c.in_ok-line.ensures.piece in
    let p = err_from_is_err_and c.from_residual-in_err-take_line-in-Line.result c.from_residual-in_err-take_line-in-Line.ensures.1 in
    rw (p.1, p.2) (holds_then i.ran c.in_err-take_line-in-Line.ensures.err
    (λ ran stop. stops_in_line i.texts i.before c.loop-number.run.gathered.items c.loop-number.source.unread
    c.next_line.new.source.unread c.in-Line.line _ _ _ _ _ _ _ _ _ c.in_err-take_line-in-Line.field-0.0 i.faults i.read piece i.cut ran
    stop))

pub returns-in_err-take_line-in-Last-clause-answer : goal.returns-in_err-take_line-in-Last-clause-answer
returns-in_err-take_line-in-Last-clause-answer g c =
    let i = c.loop-number.invariant in
    let piece = last_line c.loop-number.source.unread c.next_line.new.source.unread c.in-Last.line
    (rw c.in-Last.is at c.in_ok-line.ensures.piece) in
    let p = err_from_is_err_and c.from_residual-in_err-take_line-in-Last.result c.from_residual-in_err-take_line-in-Last.ensures.1 in
    rw (p.1, p.2) (holds_then i.ran c.in_err-take_line-in-Last.ensures.err
    (λ ran stop. stops_in_line i.texts i.before c.loop-number.run.gathered.items c.loop-number.source.unread
    c.next_line.new.source.unread c.in-Last.line _ _ _ _ _ _ _ _ _ c.in_err-take_line-in-Last.field-0.0 i.faults i.read piece i.cut
    ran stop))

pub returns-in-Last-clause-answer : goal.returns-in-Last-clause-answer
returns-in-Last-clause-answer g c =
    let i = c.loop-number.invariant in
    let more = c.in_ok-take_line-in-Last.ensures.ok in
    let piece = rw c.in-Last.is at c.in_ok-line.ensures.piece in
    holds_then (holds_both i.ran more.2) c.finish_script.ensures.answer
    (λ p ends. ends_at_last i.texts i.before more.0 c.loop-number.run.gathered.items c.take_line-in-Last.new.run.gathered.items
    c.loop-number.source.unread c.next_line.new.source.unread c.in-Last.line _ _ _ _ _ _ _ _ _ c.finish_script.result
    i.read piece i.cut more.1 (runs_then i.before more.0 _ _ _ _ _ _ p.0 p.1)
    (c.in_ok-take_line-in-Last.ensures.count ∙ i.faults) c.finish_script.ensures.count ends)

pub returns-in-Last-clause-read : goal.returns-in-Last-clause-read
returns-in-Last-clause-read g c =
    let i = c.loop-number.invariant in
    let piece = rw c.in-Last.is at c.in_ok-line.ensures.piece in
    on_ok c.finish_script.result (left_more i.read piece (λ xs ys zs r p. none_right c.next_line.new.source.unread zs p.4))

pub returns-in-End-clause-answer : goal.returns-in-End-clause-answer
returns-in-End-clause-answer g c =
    let i = c.loop-number.invariant in
    let piece = rw c.in-End.is at c.in_ok-line.ensures.piece in
    holds_then i.ran c.finish_script-in-End.ensures.answer
    (λ ran ends. ends_at_end i.texts i.before c.loop-number.run.gathered.items c.loop-number.source.unread
    c.next_line.new.source.unread _ _ _ _ _ _ _ _ _ c.finish_script-in-End.result i.read piece i.cut ran
    i.faults c.finish_script-in-End.ensures.count ends)

pub returns-in-End-clause-read : goal.returns-in-End-clause-read
returns-in-End-clause-read g c =
    let i = c.loop-number.invariant in
    let piece = rw c.in-End.is at c.in_ok-line.ensures.piece in
    on_ok c.finish_script-in-End.result
    (left_more i.read piece (λ xs ys zs r p. none_right c.next_line.new.source.unread zs p.1))

pub loop-number-preserved : goal.loop-number-preserved
loop-number-preserved g c =
    let i = c.loop-number.invariant in
    let more = c.in_ok-take_line-in-Line.ensures.ok in
    let piece = rw c.in-Line.is at c.in_ok-line.ensures.piece in
    record {
      before = i.before ++ more.0;
      texts = i.texts ++ c.in-Line.line ∷ [];
      counted = one_line_more i.texts c.in-Line.line c.loop-number.number i.counted;
      within = omega (arith, i.within, c.in_ok-line.ensures.fewer);
      cut = cut_more i.texts i.before more.0 c.loop-number.run.gathered.items c.take_line.new.run.gathered.items c.in-Line.line
          i.cut more.1;
      faults = c.in_ok-take_line-in-Line.ensures.count ∙ i.faults;
      read = left_more i.read piece
          (λ xs ys zs r p. read_more i.texts xs (c.loop-number.source.unread ++ ys) (c.next_line.new.source.unread ++ zs)
          c.in-Line.line r p);
      ran = holds_then i.ran more.2 (λ p q. runs_then i.before more.0 _ _ _ _ _ _ p q);
      stays = holds_then i.stays c.in_ok-take_line-in-Line.ensures.stays (λ p q. q ∙ p);
      left = holds_then (holds_both_here i.stays i.left) (c.in_ok-take_line-in-Line.ensures.crash [])
          (λ p x. tried_then g.S.Records.leaves _ _ _ _ _ _ _ _ _ p.0 p.1 x);
    }

pub returns-clause-answer : goal.returns-clause-answer
returns-clause-answer g c =
    let i = c.loop-number.invariant in
    holds_weaker i.ran
    (λ ran. known_before i.read (record { known = λ ys e. tt })
    (λ xs ys r (t : Unit {0}). stops_reading i.texts i.before c.loop-number.run.gathered.items xs
    (c.loop-number.source.unread ++ ys) _ c.loop-number.number _ _ _ _ _ _ _ Read r i.cut ran refl i.faults i.counted tt))

pub returns-in_default-clause-crash : goal.returns-in_default-clause-crash
returns-in_default-clause-crash g c =
    holds_none _ _ _ (record { known = λ xs e. (g.S.Records.desk c.args.store.now, inl refl, λ alone. alone) })

pub returns-in_err-line-clause-crash : goal.returns-in_err-line-clause-crash
returns-in_err-line-clause-crash g c =
    let p = err_from_is_err_and c.from_residual.result c.from_residual.ensures.1 in
    rw p.1 (holds_weaker c.loop-number.invariant.left
    (λ x. record { known = λ xs e. (g.S.Records.desk c.loop-number.store, inl refl, x) }))

pub returns-in_err-take_line-in-Line-clause-crash : goal.returns-in_err-take_line-in-Line-clause-crash
returns-in_err-take_line-in-Line-clause-crash g c =
    let i = c.loop-number.invariant in
    let piece = rw c.in-Line.is at c.in_ok-line.ensures.piece in
    let p = err_from_is_err_and c.from_residual-in_err-take_line-in-Line.result c.from_residual-in_err-take_line-in-Line.ensures.1 in
    rw p.1 (holds_then (holds_three i.stays i.left i.ran) (holds_all [] c.in_err-take_line-in-Line.ensures.crash)
    (λ q x. tried_in_line g.S.Records.leaves {T = ScriptEnd} _ _ _ _ _ i.texts i.before c.loop-number.run.gathered.items
    c.loop-number.source.unread c.next_line.new.source.unread c.in-Line.line _ _ _ (Err p.0) q.0 q.1.1.0 q.1.0 i.read piece i.cut x))

pub returns-in_err-take_line-in-Last-clause-crash : goal.returns-in_err-take_line-in-Last-clause-crash
returns-in_err-take_line-in-Last-clause-crash g c =
    let i = c.loop-number.invariant in
    let piece = last_line c.loop-number.source.unread c.next_line.new.source.unread c.in-Last.line
    (rw c.in-Last.is at c.in_ok-line.ensures.piece) in
    let p = err_from_is_err_and c.from_residual-in_err-take_line-in-Last.result c.from_residual-in_err-take_line-in-Last.ensures.1 in
    rw p.1 (holds_then (holds_three i.stays i.left i.ran) (holds_all [] c.in_err-take_line-in-Last.ensures.crash)
    (λ q x. tried_in_line g.S.Records.leaves {T = ScriptEnd} _ _ _ _ _ i.texts i.before c.loop-number.run.gathered.items
    c.loop-number.source.unread c.next_line.new.source.unread c.in-Last.line _ _ _ (Err p.0) q.0 q.1.1.0 q.1.0 i.read piece i.cut x))

pub returns-in-Last-clause-crash : goal.returns-in-Last-clause-crash
returns-in-Last-clause-crash g c =
    let i = c.loop-number.invariant in
    let more = c.in_ok-take_line-in-Last.ensures.ok in
    let piece = rw c.in-Last.is at c.in_ok-line.ensures.piece in
    let stays = holds_then i.stays c.in_ok-take_line-in-Last.ensures.stays (λ p q. q ∙ p) in
    let left = holds_then (holds_both_here i.stays i.left) (c.in_ok-take_line-in-Last.ensures.crash [])
    (λ p x. tried_then g.S.Records.leaves _ _ _ _ _ _ _ _ _ p.0 p.1 x) in
    let ran = holds_then i.ran more.2 (λ p q. runs_then i.before more.0 _ _ _ _ _ _ p q) in
    holds_then (holds_three stays left ran) c.finish_script.ensures.crash
    (λ q x. tried_at_end g.S.Records.leaves _ _ _ _ _ (i.texts ++ c.in-Last.line ∷ []) (i.before ++ more.0)
    c.take_line-in-Last.new.run.gathered.items _ _ _ c.finish_script.result q.0 q.1.1.0 q.1.0
    (left_more i.read piece
    (λ xs ys zs r p. (
      c.next_line.new.source.unread ++ zs,
      read_more i.texts xs (c.loop-number.source.unread ++ ys) (c.next_line.new.source.unread ++ zs) c.in-Last.line r
          (no_lines_left c.in-Last.line (c.loop-number.source.unread ++ ys) (c.next_line.new.source.unread ++ zs) p),
      ap raw_lines p.4,
    )))
    (cut_more i.texts i.before more.0 c.loop-number.run.gathered.items c.take_line-in-Last.new.run.gathered.items c.in-Last.line
    i.cut more.1) x)

pub returns-in-End-clause-crash : goal.returns-in-End-clause-crash
returns-in-End-clause-crash g c =
    let i = c.loop-number.invariant in
    let piece = rw c.in-End.is at c.in_ok-line.ensures.piece in
    holds_then (holds_three i.stays i.left i.ran) c.finish_script-in-End.ensures.crash
    (λ q x. tried_at_end g.S.Records.leaves _ _ _ _ _ i.texts i.before c.loop-number.run.gathered.items _ _ _
    c.finish_script-in-End.result q.0 q.1.1.0 q.1.0
    (left_more i.read piece (λ xs ys zs r p. (c.loop-number.source.unread ++ ys, r, p.0))) i.cut x)
