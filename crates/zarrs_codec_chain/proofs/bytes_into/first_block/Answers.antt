use Rattle.std.proofs.Common.{arith}
use Rattle.zarrs_subset.proofs.Kernel.{FirstFits-at, block_is, rows_within}
use Rattle.zarrs_codec_chain.proofs.bytes_into.first_block.Goals as goal

pub bounds-corner-0 : goal.bounds-corner-0
bounds-corner-0 c = (FirstFits-at _ _ _ c.requires.some c.requires.fits).shape_some

pub nonzero_div-block : goal.nonzero_div-block
nonzero_div-block c = omega (arith, (FirstFits-at _ _ _ c.requires.some c.requires.fits).first)

pub returns-clause-room : goal.returns-clause-room
returns-clause-room c = rows_within _ _ _ _ (FirstFits-at _ _ _ c.requires.some c.requires.fits).first

pub returns-clause-block : goal.returns-clause-block
returns-clause-block c = λ size h.
    block_is _ size _ (omega (arith, (FirstFits-at _ _ _ c.requires.some c.requires.fits).first)) h
