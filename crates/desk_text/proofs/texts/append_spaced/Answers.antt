use Rattle.std.proofs.Common.{◌≡◌, [], ◌∷◌, ◌-◌, drop, sym, subst, ◌∙◌, arith, length-drop}
use Rattle.std.specs.Prelude.{IsUtf8}
use Rattle.std.proofs.lemmas.List.{take_all}
use Rattle.std.proofs.lemmas.Str.{IsUtf8-append, IsUtf8-nil}
use Rattle.desk_text.specs.Texts.{numbers_text}
use Rattle.desk_text.proofs.Appends.{spaced_utf8, utf8_more}
use Rattle.desk_text.proofs.texts.append_spaced.Goals as goal

pub returns-clause-utf8 : goal.returns-clause-utf8
returns-clause-utf8 c =
    let n = c.args.number in
    let text = c.write_spaced-start.new.text in
    let at = c.write_spaced-start.result in
    let whole : drop at text ≡ numbers_text (n ∷ []) = c.write_spaced-start.ensures.written in
    utf8_more c.extend_from_slice.result c.args.out.now.items _ _ c.extend_from_slice.ensures.items
    (subst IsUtf8 (sym (take_all (21 - at) (drop at text)
    (omega (arith, length-drop at text, c.write_spaced-start.ensures.length)) ∙ whole))
    (IsUtf8-append _ [] (spaced_utf8 n c.ranges.number.fits) IsUtf8-nil))
