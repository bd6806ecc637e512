use Rattle.std.proofs.Common.{◌∙◌, ap, Some}
use Rattle.http_routes.proofs.DecodingLemmas.{decoded_text-utf8, decoded_text-bytes}
use Rattle.http_routes.proofs.decoding.decoded_text.Goals as goal

pub returns-in_ok-into_owned-in-Ok : goal.returns-in_ok-into_owned-in-Ok
returns-in_ok-into_owned-in-Ok c =
    ap Some c.in_ok-into_owned-in-Ok.ensures.ok
    ∙ ap Some c.in-Ok.ensures.value
    ∙ decoded_text-utf8 _ _ c.percent_decode.ensures.bytes c.in-Ok.ensures.ok_only_if_utf8

pub returns-in-Err-Utf8 : goal.returns-in-Err-Utf8
returns-in-Err-Utf8 c =
    decoded_text-bytes _ _ c.percent_decode.ensures.bytes
    (λ h. let only = c.in-Err-Utf8.ensures.utf8 h in cc)
