use Rattle.zarrs_codec_array.specs.Metadata.{extent_data}
use Rattle.zarrs_codec_array.specs.Extents.{extents_view}
use Rattle.zarrs_metadata_parts.proofs.ListLemmas.{list_written}
use Rattle.zarrs_codec_array.proofs.metadata.extents_value.Goals as goal

pub returns : goal.returns
returns c = list_written extent_data extents_view c.args.entries.now c.loop-entry.entry-index c.loop-entry.values c.loop-entry-test.false c.loop-entry.invariant
