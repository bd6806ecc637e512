use Rattle.std.proofs.Common.{◌∙◌, sym, refl}
use Rattle.http_bytes.proofs.HeaderLemmas.{length-encoded, length-plain, length-several}
use Rattle.http_bytes.proofs.body_size.body_length.Goals as goal

pub returns-then-has_header : goal.returns-then-has_header
returns-then-has_header c =
    length-encoded c.args.buf.now c.args.headers.now _ c.has_header.ensures c.if-has_header.true

pub returns-in-None : goal.returns-in-None
returns-in-None c =
    length-plain c.args.buf.now c.args.headers.now _ _ c.has_header.ensures c.if-has_header.false c.in-None.ensures

pub returns-in-One : goal.returns-in-One
returns-in-One c =
    c.length_of_value.ensures
    ∙ length-plain c.args.buf.now c.args.headers.now _ _ c.has_header.ensures c.if-has_header.false c.in-One.ensures

pub returns-in-Several : goal.returns-in-Several
returns-in-Several c =
    sym (length-several _ c.in-Several.ensures)
    ∙ length-plain c.args.buf.now c.args.headers.now _ _ c.has_header.ensures c.if-has_header.false refl
