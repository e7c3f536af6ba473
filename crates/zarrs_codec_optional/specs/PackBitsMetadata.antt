-- The configuration that says the codec `packbits`.
use Rattle.std.specs.Prelude.{[], ◌∷◌, Bool, ◌&&◌, codes}
use Rattle.serde_json.specs.Data.{Members}
use Rattle.serde_json.specs.Find.{get_member}
use Rattle.zarrs_metadata_parts.specs.Members.{has_only}
use Rattle.zarrs_codec_optional.specs.Texts.{is_text_or_absent}

-- the member `padding_encoding` is `none` or absent
abbrev pub packbits_said : Members → Bool
packbits_said ms = has_only (codes "padding_encoding" ∷ []) ms && is_text_or_absent (codes "none") (get_member (codes "padding_encoding") ms)
