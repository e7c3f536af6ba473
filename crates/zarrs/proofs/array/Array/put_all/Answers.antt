use Rattle.std.proofs.Common.{◌∷◌, map, rules}
use Rattle.std.specs.Vec.Iter.{into_iter_items}
use Rattle.zarrs_engine_calls.specs.Refusals.{refusal_of_storage}
use Rattle.zarrs_creation.specs.Writing.{put_view}
use Rattle.zarrs.specs.Arrays.{store_of_array}
use Rattle.zarrs.specs.Puts.{PutsFront}
use Rattle.zarrs.proofs.Puts.{Putting, put_next, put_refused}
use Rattle.zarrs.proofs.array.Array.put_all.Goals as goal

pub returns-in_err-put : goal.returns-in_err-put
returns-in_err-put g c =
    let state = g.TStorage.ReadableStorageTraits.state in
    let puts = map put_view c.args.puts.items in
    let left = map put_view (into_iter_items c.next.new.self) in
    let old = store_of_array state c.args.self.now in
    let middle = store_of_array state c.loop-put.self in
    let new = store_of_array state c.put.new.self in
    let refusal = refusal_of_storage c.in_err-put.field-0.0 in
    let why : Putting puts (put_view c.in-Some.put ∷ left) old middle → PutsFront puts refusal old new = λ so. put_refused puts left (put_view c.in-Some.put) refusal old middle new so c.in_err-put.ensures.refused in
    search (rules, why)

pub loop-put-preserved : goal.loop-put-preserved
loop-put-preserved g c =
    let state = g.TStorage.ReadableStorageTraits.state in
    let puts = map put_view c.args.puts.items in
    let left = map put_view (into_iter_items c.next.new.self) in
    let old = store_of_array state c.args.self.now in
    let middle = store_of_array state c.loop-put.self in
    let new = store_of_array state c.put.new.self in
    let next : Putting puts (put_view c.in-Some.put ∷ left) old middle → Putting puts left old new = λ so. put_next puts left (put_view c.in-Some.put) old middle new so c.in_ok-put.ensures.done in
    search (rules, next)
