-- Targets that are written one piece after another.
use Rattle.std.proofs.Common.{◌≡◌, List, ℕ, ap, false, refl, true, subst, sym}
use Rattle.zarrs_data_type.specs.CellTypes.{filling, kind_of}
use Rattle.zarrs_data_type.specs.Kind.{Kind}
use Rattle.zarrs_data_type.specs.States.{KeepsBut, KeepsTarget, data_of_target, parent_box, target_box}
use Rattle.zarrs_data_type.specs.Targets.{takes_type}
use Rattle.zarrs_data_type_kinds.specs.declared.cell_type.CellType.{CellType}
use Rattle.zarrs_data_type_region.specs.declared.target.ArrayBytesDecodeIntoTarget.{ArrayBytesDecodeIntoTarget}
use Rattle.zarrs_data_type_region.proofs.Kept.{same_twice}
use Rattle.zarrs_subset.specs.Regions.{Box, box_at_origin, box_of, in_box}
use Rattle.zarrs_codec_chain.specs.ShardReads.{ShardRead, parts_of}
use Rattle.zarrs_codec_chain.proofs.IntoSteps.{same_keeps}
use Rattle.zarrs_codec_chain.proofs.Stays.{keeps_more}
use Rattle.zarrs_codec.specs.ShardChunks.{ReadsOneAt, inner_decoded}
use Rattle.zarrs_codec.specs.ShardPartsInto.{ReadsSubchunkAt}
use Rattle.zarrs_codec.specs.declared.sharding.ShardingCodec.{ShardingCodec}

-- a box that lies in the target's was written in a target that was kept
pub but_kept : (t l new : ArrayBytesDecodeIntoTarget) (own : Box) → KeepsTarget t l → KeepsBut own l new
    → ((position : List ℕ) → in_box (target_box t) position ≡ false → in_box own position ≡ false) → KeepsTarget t new
but_kept t l new own kept but outside = record {
  same = same_twice t l new kept.same but.same;
  outside =
      keeps_more t.cell_size (parent_box t) (target_box t) own (data_of_target t) (data_of_target l) (data_of_target new) outside kept.outside
      (same_keeps t.cell_size l.cell_size t.parent_shape.now l.parent_shape.now own own (data_of_target l) (data_of_target new) kept.same.cell_size kept.same.parent_shape refl but.outside);
}

pub kept_twice : (t l new : ArrayBytesDecodeIntoTarget) → KeepsTarget t l → KeepsTarget l new → KeepsTarget t new
kept_twice t l new kept again =
    but_kept t l new (target_box l) kept again
    (λ position out. subst (λ (b : Box). in_box b position ≡ false) (sym (ap box_of kept.same.region)) out)

-- it takes the same types
pub still_takes : (t l : ArrayBytesDecodeIntoTarget) (k : Kind) → KeepsTarget t l → takes_type t.cell_size t.depth k ≡ true → takes_type l.cell_size l.depth k ≡ true
still_takes t l k kept takes =
    subst (λ n. takes_type n l.depth k ≡ true) (sym kept.same.cell_size) (subst (λ n. takes_type t.cell_size n k ≡ true) (sym kept.same.depth) takes)

-- one more subchunk in a target that was kept
pub one_read : (codec : ShardingCodec) (ct : CellType) (r : ShardRead) (index : List ℕ) (t l new : ArrayBytesDecodeIntoTarget) → KeepsTarget t l → ReadsOneAt codec ct r index l new
    → ReadsSubchunkAt (kind_of ct) (inner_decoded codec ct r) (filling ct) r.shape r.sub r.part (parts_of r) index (parent_box t) (target_box t) (data_of_target l) (data_of_target new)
one_read codec ct r index t l new kept read =
    subst (λ (b : Box). ReadsSubchunkAt (kind_of ct) (inner_decoded codec ct r) (filling ct) r.shape r.sub r.part (parts_of r) index (parent_box t) b (data_of_target l) (data_of_target new)) (ap box_of kept.same.region)
    (subst (λ (x : List ℕ). ReadsSubchunkAt (kind_of ct) (inner_decoded codec ct r) (filling ct) r.shape r.sub r.part (parts_of r) index (box_at_origin x) (target_box l) (data_of_target l) (data_of_target new)) kept.same.parent_shape read)
