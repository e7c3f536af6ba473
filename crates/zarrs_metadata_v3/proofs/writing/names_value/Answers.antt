use Rattle.std.proofs.Common.{map, ap, ◌∙◌, arith}
use Rattle.std.proofs.lemmas.List.{take_all}
use Rattle.serde_json.specs.Data.{array}
use Rattle.serde_json.specs.View.{items_of}
use Rattle.serde_json.proofs.Views.{view-Array}
use Rattle.zarrs_metadata_v3.specs.Document.{dimension_name_data}
use Rattle.zarrs_metadata_v3.specs.View.{name_view}
use Rattle.zarrs_metadata_v3.proofs.ListLemmas.{map_both}
use Rattle.zarrs_metadata_v3.proofs.writing.names_value.Goals as goal

pub returns : goal.returns
returns c =
    let seen = c.deref-name-items.result.now in
    let taken = take_all c.loop-name.name-index seen (omega arith) ∙ c.deref-name-items.ensures.value in
    let all = c.loop-name.invariant ∙ ap (map (λ x. dimension_name_data (name_view x))) taken in
    view-Array c.loop-name.values ∙ ap (λ ds. array (items_of ds)) (all ∙ map_both dimension_name_data name_view c.args.names.now.items)
