use Rattle.std.proofs.Common.{◌≡◌, Some, map, sym, subst}
use Rattle.std.specs.Result.{IfOk, IfErr}
use Rattle.zarrs_metadata_parts.specs.Extension.{extension_view}
use Rattle.zarrs_metadata_parts.specs.Refusals.{RefusesMeaning}
use Rattle.zarrs_codec.specs.Metadata.{chain_said}
use Rattle.zarrs_codec.specs.Chains.{chain_data}
use Rattle.zarrs_codec.proofs.ChainMetadata.{no_chain, read_parts, refuses_none}
use Rattle.zarrs_codec.proofs.chain.CodecChain.from_metadata.Goals as goal

pub returns-in_default-clause-refused : goal.returns-in_default-clause-refused
returns-in_default-clause-refused c =
    let ms = c.args.metadatas.now in
    refuses_none (chain_said (map extension_view ms)) c.other.result (no_chain ms c.in_default.ensures.cases)

pub returns-clause-read : goal.returns-clause-read
returns-clause-read c =
    subst (λ said. IfOk c.chain_from.result (λ chain. said ≡ Some (chain_data chain)))
    (sym (read_parts c.args.metadatas.now c.in-Some.front.now c.in-Some.last.now c.in-Some.ensures.cases.0)) c.chain_from.ensures.read

pub returns-clause-refused : goal.returns-clause-refused
returns-clause-refused c =
    subst (λ said. IfErr c.chain_from.result (RefusesMeaning said))
    (sym (read_parts c.args.metadatas.now c.in-Some.front.now c.in-Some.last.now c.in-Some.ensures.cases.0)) c.chain_from.ensures.refused
