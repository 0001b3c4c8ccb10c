use Rattle.room_store.proofs.FromRoot.{rooms_from_root}
use Rattle.room_store.proofs.laws.rooms_store_full_lists.Goals as goal

pub returns : goal.returns
returns c =
    rooms_from_root c.sound_is_no_fault.ensures c.sound_is_content.ensures c.stored_is_full.ensures
    c.rooted_is_no_loop.ensures
