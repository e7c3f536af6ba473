use Rattle.std.proofs.Common.{ℕ, List, ◌-◌, map, ap, ◌∙◌}
use Rattle.std.proofs.lemmas.Result.{IfOk-weaker}
use Rattle.zarrs_subset.specs.Regions.{box_of}
use Rattle.zarrs_engine_layout.proofs.ChunkRanges.{last_before}
use Rattle.zarrs_engine_layout.proofs.chunk_parts.last_index.Goals as goal

pub returns : goal.returns
returns c =
    let range = box_of c.args.chunks.now in
    IfOk-weaker c.one_less.result _ _
    (λ made is. is ∙ ap (λ (ends : List ℕ). map (λ end. end - 1) ends) (c.deref.ensures.value ∙ c.in_ok-ends.ensures) ∙ last_before range.start range.shape)
    c.one_less.ensures
