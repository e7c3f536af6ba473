use Rattle.std.proofs.Common.{◌≡◌, map, ap, rules}
use Rattle.std.proofs.lemmas.Result.{err_from_is_err_and}
use Rattle.zarrs_metadata_v3.specs.View.{document_view}
use Rattle.zarrs_metadata_v2.specs.View.{document_v2_view}
use Rattle.zarrs_metadata.specs.Versions.{metadata_view, v2}
use Rattle.zarrs_engine_calls.specs.Refusals.{refusal_of_storage}
use Rattle.zarrs_engine_layout.specs.Layouts.{layout_meaning}
use Rattle.zarrs_creation.specs.Writing.{put_view}
use Rattle.zarrs.specs.Arrays.{metadata_of_array, metadata_options_of_array, path_of_array, store_of_array}
use Rattle.zarrs.proofs.Upgraded.{upgrade_done, upgrade_short, upgrade_refused, upgrade_converts}
use Rattle.zarrs.proofs.array.Array.upgrade.Goals as goal

pub returns-in_err-puts : goal.returns-in_err-puts
returns-in_err-puts g c =
    let old = c.args.self.now in
    let why = upgrade_short (metadata_options_of_array old) (path_of_array old) (metadata_of_array old) (document_v2_view c.in-V2.document) (ap metadata_view c.in-V2.is) (store_of_array g.TStorage.ReadableStorageTraits.state old) in
    search (rules, why)

pub returns-in_err-put_all : goal.returns-in_err-put_all
returns-in_err-put_all g c =
    let state = g.TStorage.ReadableStorageTraits.state in
    let old = c.args.self.now in
    let o = metadata_options_of_array old in
    let path = path_of_array old in
    let m = metadata_of_array old in
    let d = document_v2_view c.in-V2.document in
    let is : m ≡ v2 d = ap metadata_view c.in-V2.is in
    let e = c.in_err-put_all.field-0.0 in
    let new = store_of_array state c.put_all.new.self in
    let puts = map put_view c.in_ok-puts.puts.items in
    let why = upgrade_refused o path m d is puts (refusal_of_storage e) (store_of_array state old) new (c.in_ok-puts.ensures.upgrade d is) c.in_err-put_all.ensures.refused in
    let left = c.in_err-put_all.ensures in
    let p = err_from_is_err_and c.from_residual-in_err-put_all.result c.from_residual-in_err-put_all.ensures.1 in
    rw (p.1, p.2) (record {
      done = tt;
      metadata = tt;
      refused = why;
      named = left.named;
      untouched = left.kept;
      kept = record {
        layout_kept = left.kept.layout_kept;
        layout = ap layout_meaning left.kept.layout_kept;
        codec_options = left.kept.codec_options;
        codec_specific_options = left.kept.codec_specific_options;
        metadata_options = left.kept.metadata_options;
      };
    })

pub returns : goal.returns
returns g c =
    let state = g.TStorage.ReadableStorageTraits.state in
    let old = c.args.self.now in
    let d = document_v2_view c.in-V2.document in
    let is : metadata_of_array old ≡ v2 d = ap metadata_view c.in-V2.is in
    let done = upgrade_done (metadata_options_of_array old) (path_of_array old) (metadata_of_array old) d is (map put_view c.in_ok-puts.puts.items) (store_of_array state old) (store_of_array state c.put_all.new.self) (c.in_ok-puts.ensures.upgrade d is) c.in_ok-put_all.ensures.done in
    let converts = upgrade_converts (metadata_of_array old) d (document_view c.in-Ok.upgraded) is c.in-Ok.ensures.converted in
    search (rules, done, converts)
