use Rattle.std.proofs.Common.{[], ◌∷◌, string_bytes, sym, ap, ◌∙◌, append-nil}
use Rattle.std.proofs.lemmas.{Result.{IfOk-weaker}, Str.{IsUtf8-string_bytes, chars_past_char, chars-nil}}
use Rattle.html_flow_convert.proofs.pieces.one_char.Goals as goal
use lib.Utf8.{encode}

pub returns : goal.returns
returns c =
    let char = c.args.c in
    IfOk-weaker c.from_str.result _ _
    (λ text bytes. chars_past_char (string_bytes text) [] char (IsUtf8-string_bytes text)
    (bytes ∙ (c.encode_utf8.ensures.value ∙ sym (append-nil (encode char))))
    ∙ ap (λ cs. char ∷ cs) chars-nil)
    c.from_str.ensures.ok
