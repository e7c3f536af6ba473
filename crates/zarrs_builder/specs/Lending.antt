-- Builders whose attributes are lent.
use Rattle.std.specs.Borrow.{Lends, MutBor, Fml}
use Rattle.serde_json.specs.Rows.{map_row}
use Rattle.zarrs_builder.specs.declared.builder.ArrayBuilder.{ArrayBuilder}
use Rattle.zarrs_builder.specs.contracts.builder.ArrayBuilder.{the_row}

-- the builder with these attributes
abbrev pub builder_with_attributes : ArrayBuilder → map_row.Denot → ArrayBuilder
builder_with_attributes b attributes = record b { attributes = attributes }

-- once the borrow ends, the builder has the attributes last left behind it, and else what it had
abbrev pub LendsBuilderAttributes : MutBor ArrayBuilder → MutBor map_row.Denot → Fml
LendsBuilderAttributes builder attributes = Lends the_row map_row builder attributes (builder_with_attributes builder.now)
