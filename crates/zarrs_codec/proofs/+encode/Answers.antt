use Rattle.zarrs_metadata_parts.specs.Lists.{sizes_of}
use Rattle.zarrs_codec.specs.Chains.{subchunk_sizes_of}
use Rattle.zarrs_codec_chain.specs.Chunks.{RefusesToEncode}
use Rattle.zarrs_codec.proofs.Cuts.{cut_encoding}
use Rattle.zarrs_data_type.specs.CellTypes.{chunk_fill, chunk_kind, filling, kind_of}
use Rattle.std.proofs.Common.{rules, arith, ◌≡◌, ℕ, ◌<◌, ◌^◌, Bool, true, List, length, Option, Some, IfOk, option_map, sym, ap, subst, ◌∙◌}
use Rattle.std.specs.Prelude.{IfSome}
use Rattle.std.proofs.lemmas.Bool.{and_from}
use Rattle.std.proofs.lemmas.Result.{IfErr-weaker}
use Rattle.zarrs_subset.specs.Boxes.{position_count}
use Rattle.zarrs_data_type.specs.ArrayData.{ArrayData, data_of, fixed}
use Rattle.zarrs_data_type.specs.Cells.{cells, HasCells}
use Rattle.zarrs_data_type.specs.Kind.{kind}
use Rattle.zarrs_codec_array.specs.ArrayCodecs.{arrays_meaning, arrays-lawful}
use Rattle.zarrs_codec_array.specs.Gathered.{encoded_shape, IsEncodedArray}
use Rattle.zarrs_codec_shard.specs.CellParts.{PushesSubchunk}
use Rattle.zarrs_codec_shard.specs.SubchunkData.{chunk_shape, subchunk_shape}
use Rattle.zarrs_codec_shard.specs.Subchunks.{subchunk_at, subchunk_count}
use Rattle.zarrs_codec_shard.specs.Sharded.{first_parts, part_of, sharded_fits}
use Rattle.zarrs_codec_shard.specs.ShardIndex.{IsWriting}
use Rattle.zarrs_codec_shard.proofs.Encoding.{too_many}
use Rattle.zarrs_codec_chain.specs.Chain.{ChainMeaning, chunk_encoding}
use Rattle.zarrs_codec.specs.Chains.{behind, chain_meaning, inner_chain_of, is_at_start, keeps_cells, location_of, sharding_meaning}
use Rattle.zarrs_codec_chain.specs.Options.{stores_empty_chunks}
use Rattle.zarrs_codec_chain.specs.Refusals.{RefusesChunkEncoding}
use Rattle.zarrs_codec.specs.Shardings.{cells_of, subchunk_meaning, HasFirstParts, PushesCells, RefusesPart, RefusesParts}
use Rattle.zarrs_codec.proofs.Behind.{is_behind}
use Rattle.zarrs_codec_optional.proofs.Kept.{err_kept}
use Rattle.zarrs_codec.proofs.KeptCells.{pushes_kept}
use Rattle.zarrs_codec.proofs.Parts.{all_written, extracted, first_count, next_written, part_refused}
use Rattle.zarrs_codec.proofs.+encode.Goals as goal

-- ---- subchunk by subchunk

pub sharding::ShardingCodec::encode_parts-returns-in_default-clause-refused :
    goal.sharding::ShardingCodec::encode_parts-returns-in_default-clause-refused
sharding::ShardingCodec::encode_parts-returns-in_default-clause-refused t c =
    let k = kind_of c.args.cell_type.now in
    let f = filling c.args.cell_type.now in
    let empty = stores_empty_chunks c.args.options.now in
    let s = chunk_shape c.args.subchunks.now in
    let sub = subchunk_shape c.args.subchunks.now in
    too_many (subchunk_meaning (chain_meaning (inner_chain_of c.args.self.now)) empty k f sub) empty f s sub (cells_of k (data_of c.args.bytes.now)) (is_at_start (location_of c.args.self.now)) c.in_default.ensures.none

pub sharding::ShardingCodec::encode_parts-push_subchunk-requires :
    goal.sharding::ShardingCodec::encode_parts-push_subchunk-requires
sharding::ShardingCodec::encode_parts-push_subchunk-requires t c =
    (first_of (omega (arith, c.decreases), search rules), (c.requires.cells, (c.requires.fits, omega (arith, c.loop-number-test.true, c.in-Some.ensures.none))))

pub sharding::ShardingCodec::encode_parts-returns-in_err-room-clause-refused :
    goal.sharding::ShardingCodec::encode_parts-returns-in_err-room-clause-refused
sharding::ShardingCodec::encode_parts-returns-in_err-room-clause-refused t c =
    let k = kind_of c.args.cell_type.now in
    let f = filling c.args.cell_type.now in
    let empty = stores_empty_chunks c.args.options.now in
    let s = chunk_shape c.args.subchunks.now in
    let sub = subchunk_shape c.args.subchunks.now in
    let m : ChainMeaning = chain_meaning (inner_chain_of c.args.self.now) in
    let at = is_at_start (location_of c.args.self.now) in
    let cs = cells_of k (data_of c.args.bytes.now) in
    let number = c.loop-number.number in
    let fit : sharded_fits (subchunk_meaning m empty k f sub) s sub ≡ true = and_from _ _ c.args.subchunks.now.cut c.requires.fits in
    let below : number < subchunk_count s sub = omega (arith, c.loop-number-test.true, c.in-Some.ensures.none) in
    let e = c.in_err-room.field-0.0 in
    err_kept c.from_residual-in_err-room.result e (RefusesParts (subchunk_meaning m empty k f sub) at empty f s sub cs) c.from_residual-in_err-room.ensures.1
    (part_refused (subchunk_meaning m empty k f sub) at empty f s sub cs number e fit below c.in_err-room.ensures.refused)

pub sharding::ShardingCodec::encode_parts-loop-number-preserved :
    goal.sharding::ShardingCodec::encode_parts-loop-number-preserved
sharding::ShardingCodec::encode_parts-loop-number-preserved t c =
    let k = kind_of c.args.cell_type.now in
    let f = filling c.args.cell_type.now in
    let empty = stores_empty_chunks c.args.options.now in
    let s = chunk_shape c.args.subchunks.now in
    let sub = subchunk_shape c.args.subchunks.now in
    let m : ChainMeaning = chain_meaning (inner_chain_of c.args.self.now) in
    let at = is_at_start (location_of c.args.self.now) in
    let cs = cells_of k (data_of c.args.bytes.now) in
    let number = c.loop-number.number in
    let x = c.in_ok-room.ensures.pushed in
    next_written (subchunk_meaning m empty k f sub) at empty f s sub cs c.in-Some.count number c.loop-number.writer _ x.part c.loop-number.invariant x.part_is x.pushes

pub sharding::ShardingCodec::encode_parts-finish-requires :
    goal.sharding::ShardingCodec::encode_parts-finish-requires
sharding::ShardingCodec::encode_parts-finish-requires t c =
    let k = kind_of c.args.cell_type.now in
    let f = filling c.args.cell_type.now in
    let empty = stores_empty_chunks c.args.options.now in
    let s = chunk_shape c.args.subchunks.now in
    let sub = subchunk_shape c.args.subchunks.now in
    let m : ChainMeaning = chain_meaning (inner_chain_of c.args.self.now) in
    let at = is_at_start (location_of c.args.self.now) in
    let inv = c.loop-number.invariant in
    let done : c.loop-number.number ≡ c.in-Some.count = omega (arith, c.loop-number-test.false) in
    let long = first_count (subchunk_meaning m empty k f sub) at empty f s sub (cells_of k (data_of c.args.bytes.now)) c.in-Some.count c.loop-number.number c.loop-number.writer inv in
    (at, inv.parts, subst (λ n. IsWriting at n c.loop-number.writer inv.parts) (sym (long ∙ done)) inv.writing)

pub sharding::ShardingCodec::encode_parts-returns-clause-encoded :
    goal.sharding::ShardingCodec::encode_parts-returns-clause-encoded
sharding::ShardingCodec::encode_parts-returns-clause-encoded t c =
    let k = kind_of c.args.cell_type.now in
    let f = filling c.args.cell_type.now in
    let empty = stores_empty_chunks c.args.options.now in
    let s = chunk_shape c.args.subchunks.now in
    let sub = subchunk_shape c.args.subchunks.now in
    let m : ChainMeaning = chain_meaning (inner_chain_of c.args.self.now) in
    let at = is_at_start (location_of c.args.self.now) in
    let cs = cells_of k (data_of c.args.bytes.now) in
    let inv = c.loop-number.invariant in
    let w = c.loop-number.writer in
    let done : c.loop-number.number ≡ c.in-Some.count = omega (arith, c.loop-number-test.false) in
    let long = first_count (subchunk_meaning m empty k f sub) at empty f s sub cs c.in-Some.count c.loop-number.number w inv in
    let writing = subst (λ n. IsWriting at n w inv.parts) (sym (long ∙ done)) inv.writing in
    let fit : sharded_fits (subchunk_meaning m empty k f sub) s sub ≡ true = and_from _ _ c.args.subchunks.now.cut c.requires.fits in
    let whole : HasFirstParts (subchunk_meaning m empty k f sub) at empty f s sub cs (subchunk_count s sub) (subchunk_count s sub) w = record {
      parts = inv.parts;
      parts_are = ap (first_parts (subchunk_meaning m empty k f sub) empty f s sub cs) (sym (done ∙ c.in-Some.ensures.none)) ∙ inv.parts_are;
      writing = subst (λ n. IsWriting at n w inv.parts) c.in-Some.ensures.none inv.writing;
    } in
    let encoded = c.in_ok-finish.field-0.items in
    let small : length encoded < 2 ^ 64 = search rules in
    all_written (subchunk_meaning m empty k f sub) at empty f s sub cs w encoded fit whole (c.in_ok-finish.ensures at inv.parts writing) small

-- ---- one subchunk

pub sharding::ShardingCodec::push_subchunk-push_cells-requires-clause-held :
    goal.sharding::ShardingCodec::push_subchunk-push_cells-requires-clause-held
sharding::ShardingCodec::push_subchunk-push_cells-requires-clause-held t c =
    let k = kind_of c.args.cell_type.now in
    let s = chunk_shape c.args.subchunks.now in
    let same : data_of c.args.bytes.now ≡ fixed c.as_slice-cells.result.now = ap data_of c.in-Fixed-true.is-0 ∙ ap fixed (sym c.as_slice-cells.ensures.value) in
    subst (λ (d : ArrayData). HasCells k d (position_count s)) same c.requires.cells

pub sharding::ShardingCodec::push_subchunk-returns-in_ok-push_cells-in-Fixed-true-clause-pushed :
    goal.sharding::ShardingCodec::push_subchunk-returns-in_ok-push_cells-in-Fixed-true-clause-pushed
sharding::ShardingCodec::push_subchunk-returns-in_ok-push_cells-in-Fixed-true-clause-pushed t c =
    let t = c.args.cell_type.now.data_type in
    let k = kind t in
    let f = filling c.args.cell_type.now in
    let empty = stores_empty_chunks c.args.options.now in
    let s = chunk_shape c.args.subchunks.now in
    let sub = subchunk_shape c.args.subchunks.now in
    let chain = inner_chain_of c.args.self.now in
    let m : ChainMeaning = chain_meaning chain in
    let n = c.args.number in
    let b = c.as_slice-cells.result.now in
    let old = c.args.writer.now in
    let new = c.push_cells.new.writer in
    let same : data_of c.args.bytes.now ≡ fixed b = ap data_of c.in-Fixed-true.is-0 ∙ ap fixed (sym c.as_slice-cells.ensures.value) in
    let kept : c.keeps_cells.result ≡ true = search rules in
    let keeps : keeps_cells chain ≡ true = sym c.keeps_cells.ensures ∙ kept in
    let x : PushesSubchunk k empty f s sub n b old new = subst (λ (y : Bool). PushesSubchunk k y f s sub n b old new) c.store_empty_chunks-empty.ensures c.in_ok-push_cells-in-Fixed-true.ensures.pushed in
    subst (λ (d : ArrayData). PushesCells (subchunk_meaning m empty k f sub) empty f (subchunk_at s sub (cells_of k d) n) old new) (sym same)
    (pushes_kept chain t empty f s sub n b old new keeps c.requires.fits x)

pub sharding::ShardingCodec::push_subchunk-encode_part-requires :
    goal.sharding::ShardingCodec::push_subchunk-encode_part-requires
sharding::ShardingCodec::push_subchunk-encode_part-requires t c =
    let k = kind_of c.args.cell_type.now in
    let s = chunk_shape c.args.subchunks.now in
    let sub = subchunk_shape c.args.subchunks.now in
    let part = data_of c.in_ok-part-in_default.part in
    let x = extracted k s sub c.args.number (data_of c.args.bytes.now) part c.in_ok-part-in_default.ensures in
    (first_of (omega (arith, c.decreases), search rules), (subst (λ y. HasCells k part (position_count y)) (sym c.shape.ensures) x.1))

pub sharding::ShardingCodec::push_subchunk-returns-in_err-encoded-in_default-clause-refused :
    goal.sharding::ShardingCodec::push_subchunk-returns-in_err-encoded-in_default-clause-refused
sharding::ShardingCodec::push_subchunk-returns-in_err-encoded-in_default-clause-refused t c =
    let k = kind_of c.args.cell_type.now in
    let f = filling c.args.cell_type.now in
    let empty = stores_empty_chunks c.args.options.now in
    let s = chunk_shape c.args.subchunks.now in
    let sub = subchunk_shape c.args.subchunks.now in
    let m : ChainMeaning = chain_meaning (inner_chain_of c.args.self.now) in
    let part = data_of c.in_ok-part-in_default.part in
    let x = extracted k s sub c.args.number (data_of c.args.bytes.now) part c.in_ok-part-in_default.ensures in
    let e = c.in_err-encoded-in_default.field-0.0 in
    let here : RefusesPart (subchunk_meaning m empty k f sub) empty f (cells_of k part) e =
    subst (λ y. RefusesPart (subchunk_meaning m empty k f y) empty f (cells_of k part) e) c.shape.ensures c.in_err-encoded-in_default.ensures.refused in
    err_kept c.from_residual-in_err-encoded-in_default.result e (RefusesPart (subchunk_meaning m empty k f sub) empty f (subchunk_at s sub (cells_of k (data_of c.args.bytes.now)) c.args.number)) c.from_residual-in_err-encoded-in_default.ensures.1
    (subst (λ y. RefusesPart (subchunk_meaning m empty k f sub) empty f y e) x.0 here)

pub sharding::ShardingCodec::push_subchunk-returns-in_ok-push_part-in_default-clause-pushed :
    goal.sharding::ShardingCodec::push_subchunk-returns-in_ok-push_part-in_default-clause-pushed
sharding::ShardingCodec::push_subchunk-returns-in_ok-push_part-in_default-clause-pushed t c =
    let k = kind_of c.args.cell_type.now in
    let f = filling c.args.cell_type.now in
    let empty = stores_empty_chunks c.args.options.now in
    let s = chunk_shape c.args.subchunks.now in
    let sub = subchunk_shape c.args.subchunks.now in
    let m : ChainMeaning = chain_meaning (inner_chain_of c.args.self.now) in
    let part = data_of c.in_ok-part-in_default.part in
    let x = extracted k s sub c.args.number (data_of c.args.bytes.now) part c.in_ok-part-in_default.ensures in
    let made = option_map (λ encoded. encoded.items) c.in_ok-encoded-in_default.encoded in
    record {
      part = made;
      part_is =
          ap (part_of (subchunk_meaning m empty k f sub) empty f) (sym x.0)
          ∙ ap (λ y. part_of (subchunk_meaning m empty k f y) empty f (cells_of k part)) (sym c.shape.ensures) ∙ c.in_ok-encoded-in_default.ensures.part;
      pushes = c.in_ok-push_part-in_default.ensures.pushed;
    }

-- ---- behind codecs that make an array of an array

pub sharding::ShardingCodec::encode_behind-encode_shard-requires :
    goal.sharding::ShardingCodec::encode_behind-encode_shard-requires
sharding::ShardingCodec::encode_behind-encode_shard-requires t c =
    let k = chunk_kind c.args.chunk.now in
    let f = chunk_fill c.args.chunk.now in
    let empty = stores_empty_chunks c.args.options.now in
    let s = c.args.chunk.now.shape.now in
    let d = data_of c.args.bytes.now in
    let codecs = c.args.codecs.now in
    let a = arrays_meaning codecs in
    let inner = c.in-Some.inner.items in
    let shape : encoded_shape a s ≡ Some inner = sym c.in_ok-inner.ensures ∙ ap (option_map (λ v. v.items)) c.in-Some.is in
    let e = data_of c.in-Some-2.made in
    let is : IfSome (cells k d) (λ cs. cells k e ≡ Some (a.forward s cs)) = subst (λ o. IsEncodedArray a k s d o) c.in-Some-2.is c.in_ok-made.ensures in
    let b = is_behind a (sharding_meaning c.args.self.now) (arrays-lawful codecs) empty k f s inner d e shape c.requires.cells is in
    (first_of (omega (arith, c.decreases), search rules), (subst (λ x. HasCells k e (position_count x)) (sym c.deref.ensures.value) b.has))

pub sharding::ShardingCodec::encode_behind-encode_shard-requires-in-None :
    goal.sharding::ShardingCodec::encode_behind-encode_shard-requires-in-None
sharding::ShardingCodec::encode_behind-encode_shard-requires-in-None t c =
    let k = chunk_kind c.args.chunk.now in
    let f = chunk_fill c.args.chunk.now in
    let empty = stores_empty_chunks c.args.options.now in
    let s = c.args.chunk.now.shape.now in
    let d = data_of c.args.bytes.now in
    let codecs = c.args.codecs.now in
    let a = arrays_meaning codecs in
    let inner = c.in-Some.inner.items in
    let shape : encoded_shape a s ≡ Some inner = sym c.in_ok-inner.ensures ∙ ap (option_map (λ v. v.items)) c.in-Some.is in
    let e = d in
    let is : IfSome (cells k d) (λ cs. cells k e ≡ Some (a.forward s cs)) = subst (λ o. IsEncodedArray a k s d o) c.in-None.is c.in_ok-made.ensures in
    let b = is_behind a (sharding_meaning c.args.self.now) (arrays-lawful codecs) empty k f s inner d e shape c.requires.cells is in
    (first_of (omega (arith, c.decreases), search rules), (subst (λ x. HasCells k e (position_count x)) (sym c.deref.ensures.value) b.has))

pub sharding::ShardingCodec::encode_behind-returns-in-Some-2-clause-encoded :
    goal.sharding::ShardingCodec::encode_behind-returns-in-Some-2-clause-encoded
sharding::ShardingCodec::encode_behind-returns-in-Some-2-clause-encoded t c =
    let k = chunk_kind c.args.chunk.now in
    let f = chunk_fill c.args.chunk.now in
    let empty = stores_empty_chunks c.args.options.now in
    let s = c.args.chunk.now.shape.now in
    let d = data_of c.args.bytes.now in
    let codecs = c.args.codecs.now in
    let a = arrays_meaning codecs in
    let m : ChainMeaning = sharding_meaning c.args.self.now in
    let inner = c.in-Some.inner.items in
    let shape : encoded_shape a s ≡ Some inner = sym c.in_ok-inner.ensures ∙ ap (option_map (λ v. v.items)) c.in-Some.is in
    let e = data_of c.in-Some-2.made in
    let is : IfSome (cells k d) (λ cs. cells k e ≡ Some (a.forward s cs)) = subst (λ o. IsEncodedArray a k s d o) c.in-Some-2.is c.in_ok-made.ensures in
    let b = is_behind a m (arrays-lawful codecs) empty k f s inner d e shape c.requires.cells is in
    let whole : chunk_encoding (behind codecs m) empty k f s d ≡ chunk_encoding m empty k f c.deref.result.now e =
    b.encoding ∙ ap (λ x. chunk_encoding m empty k f x e) (sym c.deref.ensures.value) in
    subst (λ (x : Option (List ℕ)). IfOk c.encode_shard.result (λ encoded. x ≡ Some encoded.items)) (sym whole) c.encode_shard.ensures.encoded

pub sharding::ShardingCodec::encode_behind-returns-in-Some-2-clause-refused :
    goal.sharding::ShardingCodec::encode_behind-returns-in-Some-2-clause-refused
sharding::ShardingCodec::encode_behind-returns-in-Some-2-clause-refused t c =
    let k = chunk_kind c.args.chunk.now in
    let f = chunk_fill c.args.chunk.now in
    let empty = stores_empty_chunks c.args.options.now in
    let s = c.args.chunk.now.shape.now in
    let d = data_of c.args.bytes.now in
    let codecs = c.args.codecs.now in
    let a = arrays_meaning codecs in
    let m : ChainMeaning = sharding_meaning c.args.self.now in
    let inner = c.in-Some.inner.items in
    let shape : encoded_shape a s ≡ Some inner = sym c.in_ok-inner.ensures ∙ ap (option_map (λ v. v.items)) c.in-Some.is in
    let e = data_of c.in-Some-2.made in
    let is : IfSome (cells k d) (λ cs. cells k e ≡ Some (a.forward s cs)) = subst (λ o. IsEncodedArray a k s d o) c.in-Some-2.is c.in_ok-made.ensures in
    let b = is_behind a m (arrays-lawful codecs) empty k f s inner d e shape c.requires.cells is in
    IfErr-weaker c.encode_shard.result _ _
    (λ err why. b.refusal err (subst (λ x. RefusesChunkEncoding m empty k f x e err) c.deref.ensures.value why))
    c.encode_shard.ensures.refused

pub sharding::ShardingCodec::encode_behind-returns-clause-encoded :
    goal.sharding::ShardingCodec::encode_behind-returns-clause-encoded
sharding::ShardingCodec::encode_behind-returns-clause-encoded t c =
    let k = chunk_kind c.args.chunk.now in
    let f = chunk_fill c.args.chunk.now in
    let empty = stores_empty_chunks c.args.options.now in
    let s = c.args.chunk.now.shape.now in
    let d = data_of c.args.bytes.now in
    let codecs = c.args.codecs.now in
    let a = arrays_meaning codecs in
    let m : ChainMeaning = sharding_meaning c.args.self.now in
    let inner = c.in-Some.inner.items in
    let shape : encoded_shape a s ≡ Some inner = sym c.in_ok-inner.ensures ∙ ap (option_map (λ v. v.items)) c.in-Some.is in
    let is : IfSome (cells k d) (λ cs. cells k d ≡ Some (a.forward s cs)) = subst (λ o. IsEncodedArray a k s d o) c.in-None.is c.in_ok-made.ensures in
    let b = is_behind a m (arrays-lawful codecs) empty k f s inner d d shape c.requires.cells is in
    let whole : chunk_encoding (behind codecs m) empty k f s d ≡ chunk_encoding m empty k f c.deref.result.now d =
    b.encoding ∙ ap (λ x. chunk_encoding m empty k f x d) (sym c.deref.ensures.value) in
    subst (λ (x : Option (List ℕ)). IfOk c.encode_shard-in-None.result (λ encoded. x ≡ Some encoded.items)) (sym whole) c.encode_shard-in-None.ensures.encoded

pub sharding::ShardingCodec::encode_behind-returns-clause-refused :
    goal.sharding::ShardingCodec::encode_behind-returns-clause-refused
sharding::ShardingCodec::encode_behind-returns-clause-refused t c =
    let k = chunk_kind c.args.chunk.now in
    let f = chunk_fill c.args.chunk.now in
    let empty = stores_empty_chunks c.args.options.now in
    let s = c.args.chunk.now.shape.now in
    let d = data_of c.args.bytes.now in
    let codecs = c.args.codecs.now in
    let a = arrays_meaning codecs in
    let m : ChainMeaning = sharding_meaning c.args.self.now in
    let inner = c.in-Some.inner.items in
    let shape : encoded_shape a s ≡ Some inner = sym c.in_ok-inner.ensures ∙ ap (option_map (λ v. v.items)) c.in-Some.is in
    let e = d in
    let is : IfSome (cells k d) (λ cs. cells k e ≡ Some (a.forward s cs)) = subst (λ o. IsEncodedArray a k s d o) c.in-None.is c.in_ok-made.ensures in
    let b = is_behind a m (arrays-lawful codecs) empty k f s inner d e shape c.requires.cells is in
    IfErr-weaker c.encode_shard-in-None.result _ _
    (λ err why. b.refusal err (subst (λ x. RefusesChunkEncoding m empty k f x e err) c.deref.ensures.value why))
    c.encode_shard-in-None.ensures.refused

pub sharding::ShardingCodec::encode_shard-returns-in_err-subchunks-clause-refused : goal.sharding::ShardingCodec::encode_shard-returns-in_err-subchunks-clause-refused
sharding::ShardingCodec::encode_shard-returns-in_err-subchunks-clause-refused t c =
    let x = c.args.self.now in
    let e = c.in_err-subchunks.field-0.0 in
    err_kept c.from_residual.result e (RefusesToEncode (sharding_meaning x) (stores_empty_chunks c.args.options.now) c.args.chunk.now (data_of c.args.bytes.now)) c.from_residual.ensures.1
    (cut_encoding (chain_meaning (inner_chain_of x)) (is_at_start (location_of x)) (chunk_kind c.args.chunk.now) (chunk_fill c.args.chunk.now) c.args.chunk.now.shape.now (sizes_of (subchunk_sizes_of x)) (stores_empty_chunks c.args.options.now) (data_of c.args.bytes.now) e c.in_err-subchunks.ensures.refused)
