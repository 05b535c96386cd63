use Rattle.charting.proofs.Renames.{still_taken}
use Rattle.charting.proofs.memory.Search.exchange.Goals as goal

pub rename-requires-2-clause-taken : goal.rename-requires-2-clause-taken
rename-requires-2-clause-taken g c =
    still_taken c.args.self.now.slots.now _ c.args.slot c.slot_of-other_slot.result c.args.place c.args.other c.rename.ensures c.requires.names c.slot_of-other_slot.ensures
