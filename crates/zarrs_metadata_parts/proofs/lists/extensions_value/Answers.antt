use Rattle.std.proofs.Common.{map}
use Rattle.zarrs_metadata_parts.specs.Extension.{extension_data, extension_view}
use Rattle.zarrs_metadata_parts.proofs.ListLemmas.{list_written}
use Rattle.zarrs_metadata_parts.proofs.lists.extensions_value.Goals as goal

pub returns : goal.returns
returns c = list_written extension_data (map extension_view) c.args.extensions.now c.loop-extension.extension-index c.loop-extension.values c.loop-extension-test.false c.loop-extension.invariant
