use Rattle.std.proofs.{Common.{ap, sym, ◌∙◌, bytes_eq, codes, string_bytes, refl}, lemmas.Str.{IsUtf8-string_bytes}}
use Rattle.html_flow_convert.proofs.LoneNodes.{bytes_eq-word, block_text}
use Rattle.html_flow_convert.proofs.lone.is_block.Goals as goal

pub returns : goal.returns
returns c =
    c.eq.ensures
    ∙ (ap (λ t. bytes_eq t (codes "block")) c.as_str.ensures.value
    ∙ sym (bytes_eq-word (string_bytes c.args.text.now) (codes "block") refl
    (IsUtf8-string_bytes c.args.text.now) block_text))
