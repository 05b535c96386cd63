use Rattle.tables.proofs.Clearing.{indexed_vacant}
use Rattle.tables.proofs.Renaming.{indexed_elsewhere, indexed_moved}
use Rattle.tables.proofs.Swapping.{indexed_swapped}
use Rattle.tables.proofs.Covering.{covers_inserts, covers_swapped, absent_covered}
use Rattle.tables.proofs.Crowding.{vacant_from_few}
use Rattle.tables.proofs.index.index_lasts.Goals as goal

pub returns : goal.returns
returns g c =
    let K = g.K.Keys.kind in
    record {
      vacant = indexed_vacant K;
      elsewhere = indexed_elsewhere K;
      moved = indexed_moved K;
      swapped = indexed_swapped K;
      room = vacant_from_few K;
      covers_next = covers_inserts;
      covers_swapped = covers_swapped;
      covers_absent = absent_covered;
    }
