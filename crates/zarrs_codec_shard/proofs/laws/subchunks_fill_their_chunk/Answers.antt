use Rattle.zarrs_codec_shard.proofs.Filling.{chunk_started, chunk_put, chunk_left, chunk_whole}
use Rattle.zarrs_codec_shard.proofs.laws.subchunks_fill_their_chunk.Goals as goal

pub returns-clause-started : goal.returns-clause-started
returns-clause-started c = λ k fill shape sub. chunk_started k fill shape sub

pub returns-clause-put : goal.returns-clause-put
returns-clause-put c = λ k fill shape sub. chunk_put k fill shape sub

pub returns-clause-left_out : goal.returns-clause-left_out
returns-clause-left_out c = λ k fill shape sub. chunk_left k fill shape sub

pub returns-clause-whole : goal.returns-clause-whole
returns-clause-whole c = λ k fill shape sub. chunk_whole k fill shape sub
