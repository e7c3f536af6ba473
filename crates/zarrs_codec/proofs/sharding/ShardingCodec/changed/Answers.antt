use Rattle.zarrs_data_type.specs.CellTypes.{filling, kind_of}
use Rattle.std.proofs.Common.{◌≡◌, ◌∙◌, Some, ap, sym, subst}
use Rattle.std.specs.Prelude.{option_map}
use Rattle.std.proofs.lemmas.Result.{IfErr-weaker, IfOk-weaker}
use Rattle.zarrs_data_type.specs.ArrayData.{data_of}
use Rattle.zarrs_data_type.specs.Cells.{HasCells}
use Rattle.zarrs_subset.specs.Boxes.{position_count}
use Rattle.zarrs_subset.specs.Regions.{box_of}
use Rattle.zarrs_codec_shard.specs.ShardIndex.{range_part}
use Rattle.zarrs_codec_shard.specs.SubchunkData.{chunk_shape, subchunk_shape}
use Rattle.zarrs_codec_chain.specs.Chain.{ChainMeaning}
use Rattle.zarrs_codec_chain.specs.Options.{stores_empty_chunks}
use Rattle.zarrs_codec.specs.Chains.{chain_meaning, inner_chain_of}
use Rattle.zarrs_codec.specs.ChainLaws.{chain-lawful}
use Rattle.zarrs_codec.specs.ShardUpdates.{bytes_in}
use Rattle.zarrs_codec.specs.Shardings.{RefusesPart, cells_of, subchunk_meaning}
use Rattle.zarrs_codec_shard.specs.Sharded.{part_of}
use Rattle.zarrs_codec.proofs.Patches.{changed_is, encode_refused, held_data, updated_data}
use Rattle.zarrs_codec.proofs.sharding.ShardingCodec.changed.Goals as goal

pub update-requires-clause-held : goal.update-requires-clause-held
update-requires-clause-held c =
    let u = c.args.update.now in
    let k = kind_of u.cell_type.now in
    let f = filling u.cell_type.now in
    let m : ChainMeaning = chain_meaning (inner_chain_of c.args.self.now) in
    let sub = subchunk_shape u.subchunks in
    held_data m (chain-lawful (inner_chain_of c.args.self.now)) k f sub (range_part (bytes_in u) c.args.range) (data_of c.in_ok-held.held) c.in_ok-held.ensures.cells c.in_ok-held.ensures.some

pub encode_part-requires : goal.encode_part-requires
encode_part-requires c =
    let u = c.args.update.now in
    let k = kind_of u.cell_type.now in
    let f = filling u.cell_type.now in
    let m : ChainMeaning = chain_meaning (inner_chain_of c.args.self.now) in
    let s = chunk_shape u.subchunks in
    let sub = subchunk_shape u.subchunks in
    let made = data_of c.in_ok-updated.updated in
    record {
      cells = subst (λ x. HasCells k made (position_count x)) (sym c.shape.ensures)
          (updated_data m (stores_empty_chunks u.options.now) k f s sub (box_of u.part.now) (data_of u.bytes.now) c.args.number (data_of c.in_ok-held.held) made c.in_ok-updated.ensures);
    }

pub returns-clause-change : goal.returns-clause-change
returns-clause-change c =
    let u = c.args.update.now in
    let m : ChainMeaning = chain_meaning (inner_chain_of c.args.self.now) in
    let k = kind_of u.cell_type.now in
    let f = filling u.cell_type.now in
    let empty = stores_empty_chunks u.options.now in
    let made = data_of c.in_ok-updated.updated in
    IfOk-weaker c.encode_part.result _ _
    (λ part is.
    changed_is m empty k f (chunk_shape u.subchunks) (subchunk_shape u.subchunks) (box_of u.part.now) (data_of u.bytes.now) c.args.number (range_part (bytes_in u) c.args.range) (data_of c.in_ok-held.held) made c.requires.met
    c.in_ok-held.ensures.cells c.in_ok-updated.ensures
    ∙ ap (option_map Some) (subst (λ x. part_of (subchunk_meaning m empty k f x) empty f (cells_of k made) ≡ Some (option_map (λ bytes. bytes.items) part)) c.shape.ensures is))
    c.encode_part.ensures.part

pub returns-clause-refused : goal.returns-clause-refused
returns-clause-refused c =
    let u = c.args.update.now in
    let m : ChainMeaning = chain_meaning (inner_chain_of c.args.self.now) in
    let k = kind_of u.cell_type.now in
    let f = filling u.cell_type.now in
    let empty = stores_empty_chunks u.options.now in
    let made = data_of c.in_ok-updated.updated in
    IfErr-weaker c.encode_part.result _ _
    (λ e why.
    encode_refused m empty k f (chunk_shape u.subchunks) (subchunk_shape u.subchunks) (box_of u.part.now) (data_of u.bytes.now) c.args.number (range_part (bytes_in u) c.args.range) (data_of c.in_ok-held.held) made e c.requires.fits
    c.requires.met c.in_ok-held.ensures.cells c.in_ok-updated.ensures
    (subst (λ x. RefusesPart (subchunk_meaning m empty k f x) empty f (cells_of k made) e) c.shape.ensures why))
    c.encode_part.ensures.refused
