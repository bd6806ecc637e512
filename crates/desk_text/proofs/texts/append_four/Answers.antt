use Rattle.std.proofs.Common.{◌≡◌, ℕ, List, [], ◌∷◌, ◌++◌, ◌-◌, drop, sym, ap, subst, ◌∙◌, arith, length-drop}
use Rattle.std.specs.Prelude.{IsUtf8, decimal}
use Rattle.std.proofs.lemmas.List.{take_all}
use Rattle.std.proofs.lemmas.Str.{IsUtf8-append, IsUtf8-nil}
use Rattle.desk_text.specs.Texts.{numbers_text}
use Rattle.desk_text.proofs.Appends.{spaced_utf8, utf8_more}
use Rattle.desk_text.proofs.texts.append_four.Goals as goal

pub returns-clause-utf8 : goal.returns-clause-utf8
returns-clause-utf8 c =
    let text = c.write_spaced-first.new.text in
    let at = c.write_spaced-first.result in
    let whole : drop at text ≡ numbers_text (c.args.a ∷ c.args.b ∷ c.args.c ∷ c.args.d ∷ []) =
    c.write_spaced-first.ensures.written
    ∙ ap (λ (w : List ℕ). 32 ∷ (decimal c.args.a ++ w)) (c.write_spaced-second.ensures.written
    ∙ ap (λ (w : List ℕ). 32 ∷ (decimal c.args.b ++ w)) (c.write_spaced-third.ensures.written
    ∙ ap (λ (w : List ℕ). 32 ∷ (decimal c.args.c ++ w)) c.write_spaced-fourth.ensures.written)) in
    utf8_more c.extend_from_slice.result c.args.out.now.items _ _ c.extend_from_slice.ensures.items
    (subst IsUtf8 (sym (take_all (84 - at) (drop at text)
    (omega (
      arith,
      length-drop at text,
      c.write_spaced-first.ensures.length,
      c.write_spaced-second.ensures.length,
      c.write_spaced-third.ensures.length,
      c.write_spaced-fourth.ensures.length,
    )) ∙ whole))
    (IsUtf8-append _ _ (spaced_utf8 c.args.a c.ranges.a.fits)
    (IsUtf8-append _ _ (spaced_utf8 c.args.b c.ranges.b.fits)
    (IsUtf8-append _ _ (spaced_utf8 c.args.c c.ranges.c.fits)
    (IsUtf8-append _ [] (spaced_utf8 c.args.d c.ranges.d.fits) IsUtf8-nil)))))
