use Rattle.std.proofs.Common.{◌≡◌, take, map}
use Rattle.zarrs_metadata_parts.specs.Extension.{extension_view}
use Rattle.zarrs_creation.specs.Shown.{renamed, main_codec_name}
use Rattle.zarrs_creation.proofs.shown.renamed_codecs.Given as goal

-- the codecs so far
abbrev pub invariant-loop-codec : goal.invariant-loop-codec
invariant-loop-codec l = map extension_view l.made.items ≡ map (λ codec. renamed main_codec_name (extension_view codec)) (take l.codec-index l.codec-items)
