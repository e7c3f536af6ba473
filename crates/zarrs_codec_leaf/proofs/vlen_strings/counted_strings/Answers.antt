use Rattle.std.proofs.Common.{◌<◌, ◌≤◌, ◌^◌, Ok, true, length, ap, sym, ◌∙◌, arith}
use Rattle.std.specs.Int.{w32, to_le_bytes}
use Rattle.zarrs_codec_leaf.proofs.StringData.{counted_more, short_more, counted_all, counted_long}
use Rattle.zarrs_codec_leaf.proofs.vlen_strings.counted_strings.Goals as goal

pub loop-index-preserved : goal.loop-index-preserved
loop-index-preserved c =
    let strings = c.args.strings.now in
    let i = c.loop-index.index in
    let lt : i < length strings = omega (arith, c.loop-index-test.true, c.len-count.ensures) in
    record {
      items = counted_more strings i (to_le_bytes w32 (length strings)) c.loop-index.encoded.items c.push_string.new.encoded.items c.get.result.now lt c.loop-index.invariant.items c.get.ensures
          (c.in_ok-pushed.ensures.pushed (ap Ok c.if-not-pushed.false));
      short = short_more strings i c.get.result.now lt c.loop-index.invariant.short c.get.ensures (sym c.in_ok-pushed.ensures.fits ∙ c.if-not-pushed.false);
    }

pub returns-then-not-pushed : goal.returns-then-not-pushed
returns-then-not-pushed c =
    let strings = c.args.strings.now in
    let i = c.loop-index.index in
    let lt : i < length strings = omega (arith, c.loop-index-test.true, c.len-count.ensures) in
    counted_long strings i c.get.result.now lt c.get.ensures (sym c.in_ok-pushed.ensures.fits ∙ c.if-not-pushed.true)

pub returns : goal.returns
returns c =
    let strings = c.args.strings.now in
    let end : length strings ≤ c.loop-index.index = omega (arith, c.loop-index-test.false, c.len-count.ensures) in
    let few : length strings < 2 ^ 32 = omega (arith, c.if-count.false, c.len-count.ensures) in
    counted_all strings c.loop-index.index c.loop-index.encoded.items end few c.loop-index.invariant.short c.loop-index.invariant.items
