use Rattle.std.proofs.Common.{inr, map}
use Rattle.std.proofs.lemmas.Result.{IfErr-weaker, on_ok_weaker}
use Rattle.zarrs_options.specs.Options.{options_view}
use Rattle.zarrs_creation.specs.Writing.{put_view}
use Rattle.zarrs.specs.Arrays.{path_of_array, metadata_of_array, store_of_array}
use Rattle.zarrs.proofs.Counts.{stored_count}
use Rattle.zarrs.proofs.array.Array.store_metadata_opt.Goals as goal

pub returns-clause-stores : goal.returns-clause-stores
returns-clause-stores g c =
    let puts = map put_view c.in_ok-puts.puts.items in
    let a = c.in_ok-puts.ensures.shown in
    let made = c.put_all.ensures in
    record {
      done = on_ok_weaker c.put_all.result (λ put. record { shows = a.shows; is_shown = a.is_shown; puts = puts; written = a.written; put = put }) made.done;
      refused = IfErr-weaker c.put_all.result _ _ (λ e front. inr (record { shows = a.shows; is_shown = a.is_shown; puts = puts; written = a.written; refused = front })) made.refused;
      named = made.named;
      kept = made.kept;
    }

pub returns-clause-count : goal.returns-clause-count
returns-clause-count g c = λ m shows.
    let state = g.TStorage.ReadableStorageTraits.state in
    let array = c.args.self.now in
    on_ok_weaker c.put_all.result
    (stored_count (options_view c.args.options.now) (path_of_array array) (metadata_of_array array) m (store_of_array state array) (store_of_array state c.put_all.new.self) shows)
    (returns-clause-stores g c).done
