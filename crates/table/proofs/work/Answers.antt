-- The fold keeps the columns long enough for the full row to be read.
use Rattle.table.proofs.Calls.{mended-room, folded_by}
use Rattle.table.proofs.work.Goals as goal

pub plan-requires : goal.plan-requires
plan-requires c =
    let room = mended-room _ _ _ _ _ c.requires.room c.mend.ensures in
    record { few = c.requires.few; columns_long = (room.sizes, room.costs) }

pub returns : goal.returns
returns c = folded_by _ _ _ c.mend.ensures _ (c.plan.ensures _)
