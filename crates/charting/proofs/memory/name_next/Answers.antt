use Rattle.charting.proofs.Indexing.{inserts_so}
use Rattle.charting.proofs.memory.name_next.Goals as goal

pub returns-clause-inserts : goal.returns-clause-inserts
returns-clause-inserts g c =
    inserts_so g.C.Class c.args.places.now c.args.slots.now c.insert.new.slots c.args.found _ c.unwrap_or.result c.insert.result c.unwrap_or.ensures
    c.requires.few c.requires.room c.requires.slotted c.requires.indexed c.insert.ensures.placed
