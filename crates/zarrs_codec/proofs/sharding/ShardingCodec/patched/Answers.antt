use Rattle.zarrs_data_type.specs.CellTypes.{filling, kind_of}
use Rattle.std.proofs.Common.{rules, arith, ◌≡◌, ◌+◌, ◌-◌, ◌<◌, ◌≤◌, [], ℕ, None, not, is_some, get_or, length, take, drop, option_map, sym, ap, subst, ◌∙◌}
use Rattle.std.specs.List.{list_any}
use Rattle.std.specs.Prelude.{slice_range}
use Rattle.std.proofs.lemmas.List.{drop-map, get_or_default, length-map, take-map}
use Rattle.zarrs_data_type.specs.ArrayData.{data_of}
use Rattle.zarrs_subset.specs.Regions.{box_of}
use Rattle.zarrs_codec_shard.specs.PartialShards.{all_absent}
use Rattle.zarrs_codec_shard.specs.ShardIndex.{range_part}
use Rattle.zarrs_codec_shard.specs.ShardPatches.{IsPatching, change_of}
use Rattle.zarrs_codec_shard.specs.SubchunkData.{chunk_shape, subchunk_shape}
use Rattle.zarrs_codec_chain.specs.Options.{stores_empty_chunks}
use Rattle.zarrs_codec.specs.Chains.{chain_meaning, inner_chain_of}
use Rattle.zarrs_codec.specs.PartialShardings.{HasFirstChanges}
use Rattle.zarrs_codec.specs.ShardUpdates.{RefusesChangeOf, RefusesChangesOf, bytes_in, change_in, parts_in, stored_in}
use Rattle.zarrs_codec_optional.proofs.Kept.{err_kept}
use Rattle.zarrs_codec.proofs.PartCells.{part_at}
use Rattle.zarrs_codec.proofs.Patches.{any_present, change_refused, changes_kept, changes_more, changes_started, has_room, write_is}
use Rattle.zarrs_codec.proofs.sharding.ShardingCodec.patched.Goals as goal

pub loop-number-init : goal.loop-number-init
loop-number-init c =
    let u = c.args.update.now in
    let count_is : c.len-count.result ≡ length u.ranges.items = first_of (search rules, omega (arith, c.len-count.ensures, u.ranges.ok.0)) in
    record {
      within = omega arith;
      changes = changes_started _ _ _ _ _ _ _ _ _ _ _ c.in_ok-patch.patch (subst (λ (n : ℕ). IsPatching n (stored_in u) (parts_in u) c.in_ok-patch.patch []) count_is (c.in_ok-patch.ensures (parts_in u)));
    }

pub keep-requires : goal.keep-requires
keep-requires c =
    let ranges = c.requires.update.ranges in
    has_room _ _ _ _ _ _ _ _ _ _ (length c.args.update.now.ranges.items) c.loop-number.number c.unmet-run.result c.loop-number.patch ranges.parts (omega (arith, c.unmet-run.ensures.within, ranges.count)) c.loop-number.invariant.changes

pub loop-number-preserved-then-run-gt0 : goal.loop-number-preserved-then-run-gt0
loop-number-preserved-then-run-gt0 c =
    let u = c.args.update.now in
    let b = bytes_in u in
    let n = c.loop-number.number in
    let run = c.unmet-run.result in
    let ranges = u.ranges.items in
    let stored = c.requires.update.ranges in
    let le : n + run ≤ length ranges = omega (arith, c.unmet-run.ensures.within, stored.count) in
    let kept = take run (drop n ranges) in
    let slice : slice_range ranges n (n + run) ≡ kept = ap (λ i. take i (drop n ranges)) (let width : n + run - n ≡ run = omega arith in width) in
    let any_is : c.has_present-any.result ≡ not (all_absent (take run (drop n (parts_in u)))) =
    c.has_present-any.ensures ∙ ap (λ l. list_any is_some (slice_range l n (n + run))) c.deref.ensures.value ∙ ap (list_any is_some) slice ∙ any_present b kept
    ∙ ap (λ l. not (all_absent l)) (sym (ap (take run) (drop-map (range_part b) n ranges) ∙ take-map (range_part b) run (drop n ranges))) in
    record {
      within = le;
      changes = changes_kept _ _ _ _ _ _ _ _ _ _ (length ranges) n run c.loop-number.patch c.keep.new.self c.has_present-any.result stored.parts le c.unmet-run.ensures.unmet any_is c.loop-number.invariant.changes c.in_ok-keep.ensures.kept;
    }

pub changed-requires-clause-met : goal.changed-requires-clause-met
changed-requires-clause-met c = c.unmet-run.ensures.met (omega (arith, c.if-run-gt0.false))

pub loop-number-preserved : goal.loop-number-preserved
loop-number-preserved c =
    let u = c.args.update.now in
    let ranges = u.ranges.items in
    let n = c.loop-number.number in
    let range = c.index-range.result.now in
    let below : n < length ranges = omega (arith, c.loop-number-test.true, c.len-count.ensures) in
    let at : get_or ranges n None ≡ range = sym (c.index-range.ensures ∙ get_or_default ranges n range None below) in
    let here = ap (change_in (chain_meaning (inner_chain_of c.args.self.now)) u n) (part_at (bytes_in u) ranges n range below at) ∙ c.in_ok-part.ensures.change in
    record {
      within = omega arith;
      changes = changes_more _ _ _ _ _ _ _ _ _ _ (length ranges) n c.loop-number.patch c.push.new.self (option_map (λ bytes. bytes.items) c.in_ok-part.part) c.requires.update.ranges.parts below here c.loop-number.invariant.changes c.in_ok-push.ensures.pushed;
    }

pub loop-number-preserved-in_ok-push : goal.loop-number-preserved-in_ok-push
loop-number-preserved-in_ok-push c =
    let u = c.args.update.now in
    let ranges = u.ranges.items in
    let n = c.loop-number.number in
    let range = c.index-range.result.now in
    let below : n < length ranges = omega (arith, c.loop-number-test.true, c.len-count.ensures) in
    let at : get_or ranges n None ≡ range = sym (c.index-range.ensures ∙ get_or_default ranges n range None below) in
    let here = ap (change_in (chain_meaning (inner_chain_of c.args.self.now)) u n) (part_at (bytes_in u) ranges n range below at) ∙ c.in_ok-part.ensures.change in
    record {
      within = omega arith;
      changes = changes_more _ _ _ _ _ _ _ _ _ _ (length ranges) n c.loop-number.patch c.push.new.self (option_map (λ bytes. bytes.items) c.in_ok-part.part) c.requires.update.ranges.parts below here c.loop-number.invariant.changes c.in_ok-push.ensures.pushed;
    }

pub returns-in_err-part-clause-refused : goal.returns-in_err-part-clause-refused
returns-in_err-part-clause-refused c =
    let u = c.args.update.now in
    let m = chain_meaning (inner_chain_of c.args.self.now) in
    let ranges = u.ranges.items in
    let n = c.loop-number.number in
    let range = c.index-range.result.now in
    let below : n < length ranges = omega (arith, c.loop-number-test.true, c.len-count.ensures) in
    let at : get_or ranges n None ≡ range = sym (c.index-range.ensures ∙ get_or_default ranges n range None below) in
    let e = c.in_err-part.field-0.0 in
    err_kept c.from_residual-in_err-part.result e (RefusesChangesOf m u) c.from_residual-in_err-part.ensures.1
    (change_refused m (stores_empty_chunks u.options.now) (kind_of u.cell_type.now) (filling u.cell_type.now) (chunk_shape u.subchunks) (subchunk_shape u.subchunks) (box_of u.part.now) (data_of u.bytes.now) (stored_in u) (parts_in u) n e
    (omega (arith, length-map ranges (range_part (bytes_in u))))
    (subst (λ o. RefusesChangeOf m u n o e) (sym (part_at (bytes_in u) ranges n range below at)) c.in_err-part.ensures.refused))

pub returns-clause-written : goal.returns-clause-written
returns-clause-written c =
    let u = c.args.update.now in
    let patch = c.loop-number.patch in
    let done : c.loop-number.number ≡ length u.ranges.items = omega (arith, c.loop-number.invariant.within, c.loop-number-test.false, c.len-count.ensures) in
    write_is _ _ _ _ _ _ _ _ _ _ (length u.ranges.items) patch (change_of c.in_ok-finish.field-0) c.requires.update.ranges.count c.requires.update.ranges.parts
    (subst (λ n. HasFirstChanges (chain_meaning (inner_chain_of c.args.self.now)) (stores_empty_chunks u.options.now) (kind_of u.cell_type.now) (filling u.cell_type.now) (chunk_shape u.subchunks) (subchunk_shape u.subchunks)
    (stored_in u) (box_of u.part.now) (data_of u.bytes.now) (parts_in u) (length u.ranges.items) n patch) done c.loop-number.invariant.changes) c.in_ok-finish.ensures
