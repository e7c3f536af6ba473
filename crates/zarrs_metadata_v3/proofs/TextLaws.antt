-- What the bytes of a document say.
use Rattle.std.proofs.Common.{◌≡◌, ℕ, ◌≤◌, List, Bool, true, false, Some, None, option_and_then, refl, ap, ◌∙◌}
use Rattle.std.specs.Str.{IsUtf8, is_utf8}
use Rattle.std.proofs.lemmas.Str.{is_utf8-from_IsUtf8, IsUtf8-from_is_utf8}
use Rattle.json.specs.Lex.{tokens}
use Rattle.json.specs.Layout.{pretty}
use Rattle.serde_json.specs.Data.{Data, depth}
use Rattle.serde_json.specs.Read.{read, max_depth}
use Rattle.serde_json.specs.Written.{IsInOrder}
use Rattle.zarrs_metadata_v3.specs.Members.{value_said}
use Rattle.zarrs_metadata_v3.specs.Document.{DocumentData, plain_document_of, document_said, data_of_document, IsDocumentText}
use Rattle.zarrs_metadata_v3.proofs.DocumentLaws.{document_round_trip}

pub said_value : (bytes : List ℕ) (d : Data) → IsUtf8 bytes → read bytes ≡ Some d → value_said bytes ≡ Some d
unfolding value_said
said_value bytes d utf8 is = rw (is_utf8-from_IsUtf8 bytes utf8) is

pub nothing_said : (bytes : List ℕ) → (IsUtf8 bytes → read bytes ≡ None) → value_said bytes ≡ None
unfolding value_said
nothing_said bytes none = at (is_utf8 bytes) refl
  where
    at : (b : Bool) → is_utf8 bytes ≡ b → value_said bytes ≡ None
    at true is = rw is (none (IsUtf8-from_is_utf8 bytes is))
    at false is = rw is refl

said_text : (text : List ℕ) (d : Data) → IsUtf8 text → read text ≡ Some d → document_said text ≡ plain_document_of d
unfolding document_said
said_text text d utf8 is = ap (option_and_then plain_document_of) (said_value text d utf8 is)

pub written_text : (m : DocumentData) (text : List ℕ) → text ≡ pretty (tokens text) → IsUtf8 text → IsInOrder text (data_of_document m) → (depth (data_of_document m) ≤ max_depth → read text ≡ Some (data_of_document m)) → IsDocumentText m text
written_text m text layout utf8 order reads = record {
  layout = layout;
  utf8 = utf8;
  order = order;
  reads_tree = reads;
  reads_back = λ shallow plain. said_text text (data_of_document m) utf8 (reads shallow) ∙ rw plain (document_round_trip m);
}
