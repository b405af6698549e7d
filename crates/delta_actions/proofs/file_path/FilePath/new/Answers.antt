use Rattle.std.proofs.Common.{◌≡◌, sym, ap, subst, ◌∙◌}
use Rattle.std.specs.Str.{IsUtf8}
use Rattle.percent_encoding.specs.Percent.{percent_decode}
use Rattle.percent_encoding.specs.Iter.{decoded_bytes}
use Rattle.std.proofs.lemmas.Str.{is_utf8-from_IsUtf8}
use Rattle.delta_actions.proofs.Lines.{no_path, path_is}
use Rattle.delta_actions.proofs.file_path.FilePath.new.Goals as goal

pub returns-in-Err-Utf8 : goal.returns-in-Err-Utf8
returns-in-Err-Utf8 c =
    let decoded : decoded_bytes c.percent_decode.result ≡ percent_decode c.args.text.now = c.percent_decode.ensures.bytes ∙ ap percent_decode c.as_bytes.ensures.value in
    sym (no_path c.args.text.now (λ utf8. let e = c.in-Err-Utf8.ensures.utf8 (subst IsUtf8 (sym decoded) utf8) in cc))

pub returns : goal.returns
returns c =
    let decoded : decoded_bytes c.percent_decode.result ≡ percent_decode c.args.text.now = c.percent_decode.ensures.bytes ∙ ap percent_decode c.as_bytes.ensures.value in
    rw c.in_ok-text.ensures.ok (sym (path_is c.args.text.now (subst IsUtf8 decoded c.in-Ok.ensures.ok_only_if_utf8)))

pub invariant_of-result : goal.invariant_of-result
invariant_of-result c =
    let decoded : decoded_bytes c.percent_decode.result ≡ percent_decode c.args.text.now = c.percent_decode.ensures.bytes ∙ ap percent_decode c.as_bytes.ensures.value in
    record { decodes = rw c.in_ok-text.ensures.ok (is_utf8-from_IsUtf8 (percent_decode c.args.text.now) (subst IsUtf8 decoded c.in-Ok.ensures.ok_only_if_utf8)) }
