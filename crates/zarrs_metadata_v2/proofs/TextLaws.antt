-- What the bytes of a document read as.
use Rattle.std.proofs.Common.{◌≡◌, ◌≤◌, ℕ, List, Some, refl}
use Rattle.std.specs.Str.{IsUtf8}
use Rattle.json.specs.Lex.{tokens}
use Rattle.json.specs.Layout.{pretty}
use Rattle.serde_json.specs.Data.{object, Members, depth}
use Rattle.serde_json.specs.Read.{read, max_depth}
use Rattle.serde_json.specs.Written.{IsInOrder}
use Rattle.zarrs_metadata_v3.proofs.TextLaws.{said_value}
use Rattle.zarrs_metadata_v2.specs.Document.{DocumentV2Data, document_v2_of, data_of_v2, IsDocumentV2Text, IsAttributesText}

pub written_text : (m : DocumentV2Data) (bytes : List ℕ) → bytes ≡ pretty (tokens bytes) → IsUtf8 bytes → IsInOrder bytes (data_of_v2 m) → document_v2_of (data_of_v2 m) ≡ Some m → (depth (data_of_v2 m) ≤ max_depth → read bytes ≡ Some (data_of_v2 m)) → IsDocumentV2Text m bytes
written_text m bytes layout utf8 order back reads = record {
  layout = layout;
  utf8 = utf8;
  order = order;
  reads_tree = reads;
  reads_back = λ shallow plain. rw (said_value bytes (data_of_v2 m) utf8 (reads shallow), plain) back;
}

pub written_attributes : (ms : Members) (bytes : List ℕ) → bytes ≡ pretty (tokens bytes) → IsUtf8 bytes → IsInOrder bytes (object ms) → (depth (object ms) ≤ max_depth → read bytes ≡ Some (object ms)) → IsAttributesText ms bytes
written_attributes ms bytes layout utf8 order reads = record {
  layout = layout;
  utf8 = utf8;
  order = order;
  reads_tree = reads;
  reads_back = λ shallow plain. rw (said_value bytes (object ms) utf8 (reads shallow), plain) refl;
}
