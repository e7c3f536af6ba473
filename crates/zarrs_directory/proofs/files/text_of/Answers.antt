use Rattle.std.proofs.Common.{[], ◌∷◌, string_bytes, sym, ◌∙◌, append_assoc}
use Rattle.zarrs_directory.proofs.files.text_of.Goals as goal

pub returns : goal.returns
returns c =
    let said = string_bytes c.in_ok-said.said in
    (said, c.in_ok-text.ensures.ok ∙ sym (append_assoc c.args.key.now (58 ∷ 32 ∷ []) said))
