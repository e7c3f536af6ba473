use Rattle.zarrs.proofs.Layouts.{layout_is, parts_are}
use Rattle.zarrs.proofs.laws.an_array_is_its_metadata.Goals as goal

pub returns-clause-parts : goal.returns-clause-parts
returns-clause-parts g c = parts_are c.args._array.now

pub returns-clause-layout : goal.returns-clause-layout
returns-clause-layout g c = layout_is c.args._array.now
