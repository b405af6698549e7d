use Rattle.std.proofs.Common.{◌≡◌, string_bytes, sym, ap, subst, ◌∙◌}
use Rattle.std.specs.Str.{IsUtf8}
use Rattle.percent_encoding.specs.Percent.{percent_decode}
use Rattle.percent_encoding.specs.Iter.{decoded_bytes}
use Rattle.delta_actions.proofs.Lines.{key_decoded, key_undecoded}
use Rattle.delta_actions.proofs.file_path.FilePath.key.Goals as goal

pub returns-in-Ok : goal.returns-in-Ok
returns-in-Ok c =
    let text = string_bytes c.args.self.now.text in
    let decoded : decoded_bytes c.percent_decode.result ≡ percent_decode text = c.percent_decode.ensures.bytes ∙ ap percent_decode c.as_bytes.ensures.value in
    c.in-Ok.ensures.value ∙ (decoded ∙ sym (key_decoded text (subst IsUtf8 decoded c.in-Ok.ensures.ok_only_if_utf8)))

pub returns-in-Err-Utf8 : goal.returns-in-Err-Utf8
returns-in-Err-Utf8 c =
    let text = string_bytes c.args.self.now.text in
    let decoded : decoded_bytes c.percent_decode.result ≡ percent_decode text = c.percent_decode.ensures.bytes ∙ ap percent_decode c.as_bytes.ensures.value in
    c.as_str.ensures.value ∙ sym (key_undecoded text (λ utf8. let e = c.in-Err-Utf8.ensures.utf8 (subst IsUtf8 (sym decoded) utf8) in cc))
