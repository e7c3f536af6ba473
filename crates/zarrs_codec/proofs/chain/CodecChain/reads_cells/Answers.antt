use Rattle.std.proofs.Common.{◌≡◌, true, sym, ◌∙◌}
use Rattle.std.proofs.lemmas.Bool.{OnTrue_from}
use Rattle.zarrs_codec.specs.Chains.{keeps_cells}
use Rattle.zarrs_codec.proofs.KeptCells.{reads_kept, writes_kept}
use Rattle.zarrs_codec.proofs.chain.CodecChain.reads_cells.Goals as goal

pub returns-then-keeps_cells-clause-reads : goal.returns-then-keeps_cells-clause-reads
returns-then-keeps_cells-clause-reads c =
    let chain = c.args.self.now in
    let keeps : keeps_cells chain ≡ true = sym c.keeps_cells.ensures ∙ c.if-keeps_cells.true in
    OnTrue_from c.takes.result _ (λ taken. λ f sub. reads_kept chain c.args.data_type.now f sub keeps (sym c.takes.ensures ∙ taken))

pub returns-then-keeps_cells-clause-writes : goal.returns-then-keeps_cells-clause-writes
returns-then-keeps_cells-clause-writes c =
    let chain = c.args.self.now in
    let keeps : keeps_cells chain ≡ true = sym c.keeps_cells.ensures ∙ c.if-keeps_cells.true in
    OnTrue_from c.takes.result _ (λ taken. writes_kept chain c.args.data_type.now keeps (sym c.takes.ensures ∙ taken))
