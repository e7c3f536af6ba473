use Rattle.std.proofs.lemmas.Result.{on_ok_weaker}
use Rattle.zarrs_script.specs.Sessions.{opened}
use Rattle.zarrs_script.proofs.Contents.{content_listed}
use Rattle.zarrs_script.proofs.Printing.{puts_as}
use Rattle.zarrs_script.proofs.run.put_content.Goals as goal

pub returns : goal.returns
returns g c =
    let array = c.args.array.now in
    on_ok_weaker c.put_keys.result
    (puts_as (g.W.Write.contents c.args.writer.now) _ c.args.out.now.items _
    (content_listed (opened array) c.an_array_is_its_metadata.ensures.lawful array.canonical array.alone))
    (rw c.storage.ensures at c.put_keys.ensures)
