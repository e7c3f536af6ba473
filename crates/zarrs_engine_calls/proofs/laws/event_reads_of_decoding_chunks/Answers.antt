use Rattle.zarrs_engine_calls.proofs.Regions.{event_reads_of_decoding}
use Rattle.zarrs_engine_calls.proofs.laws.event_reads_of_decoding_chunks.Goals as goal

pub returns : goal.returns
returns c = event_reads_of_decoding
